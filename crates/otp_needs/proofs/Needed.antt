-- Where the open work goes on to a start, after each kind of change of the rows.
use Rattle.std.specs.Prelude.{◌≡◌, ℕ, ◌+◌, ◌-◌, ◌<◌, ◌≤◌, Bool, true, false, ◌==◌, ◌&&◌, ◌||◌, not, List, [], ◌∷◌, ◌++◌, Option, None, Some, refl, if◌then◌else◌, count_by, drop, filter, length, map, nat_le, position, remove, reverse, slice_get, slice_range, slice_set, take, is_some}
use Rattle.std.specs.List.{list_any}
use Rattle.std.proofs.Common.{◌∙◌, ap, sym, arith, cond, suc, add-one, drop-cons, length-set, length-take, length-drop}
use Rattle.std.proofs.lemmas.List.{append_assoc, drop-set, drop-set-add, drop-set-lt, take-append-drop, take-set}
use Rattle.std.proofs.Math.Seq.{take-append-add}
use Rattle.std.proofs.lemmas.List.Elements.{filter_map-append}
use Rattle.std.proofs.lemmas.List.Folds.{drop_split, list_any-append}
use Rattle.std.proofs.lemmas.Option.{slice_get_within, get_or_from_slice_get}
use Rattle.otp_table.specs.declared.row.Row.{Row}
use Rattle.otp_table.specs.declared.row.RowState.{RowState}
use Rattle.otp_table.specs.declared.row.RowState.TheVariants.{Undefined, Starting, Up, Asked, Killed, Restarting}
use Rattle.otp_table.specs.Rows.{calm_rows, calmed, has_process, is_awaited, is_undefined, row_has, up_number, with_state, free_slot}
use Rattle.otp_rules.specs.declared.ending.Ending.{Ending}
use Rattle.otp_rules.specs.declared.event.Waiting.{Waiting}
use Rattle.otp_rules.specs.declared.work.Due.{Due}
use Rattle.otp_rules.specs.declared.work.Sequel.{Sequel}
use Rattle.otp_rules.specs.declared.work.Sequel.TheVariants as sequel
use Rattle.otp_rules.specs.declared.ending.Ending.TheVariants as ending
use Rattle.otp_rules.specs.Deaths.{after_end}
use Rattle.otp_reason.specs.declared.name.Name.{Name}
use Rattle.otp_reason.specs.declared.reason.Reason.{Reason}
use Rattle.otp_spec.specs.declared.child.ChildSpec.{ChildSpec}
use Rattle.otp_table.specs.Rows.{has_id, has_number}
use Rattle.otp_rules.specs.declared.call.Call.{Call}
use Rattle.otp_rules.specs.declared.call.Call.TheVariants as call
use Rattle.otp_rules.specs.declared.call.CallFault.{CallFault}
use Rattle.otp_rules.specs.declared.call.CallFault.TheVariants as fault
use Rattle.otp_rules.specs.declared.call.Reply.{Reply}
use Rattle.otp_rules.specs.declared.call.Reply.TheVariants as reply
use Rattle.otp_rules.specs.declared.event.Item.TheVariants as item
use Rattle.otp_rules.specs.declared.event.Waiting.TheVariants as waiting
use Rattle.otp_rules.specs.Calls.{add_child, call_at, call_child, carry_out, fault_at, get_childspec, get_shared, is_named, new_row, refuse, start_child, start_dynamic, stop_child, stop_process, take_call, terminate_process, unless_refused}
use Rattle.otp_rules.specs.Counts.{counts_of, which_of}
use Rattle.otp_rules.specs.Starts.{failed_after, up_after}
use Rattle.otp_rules.specs.Step.{ask, due_of, killed, late_by, late_number, open_rows, open_with, opening_specs, rows_from, tick}
use Rattle.std.proofs.lemmas.List.Sums.{sum_by-append, sum_by-cons}
use Rattle.otp_rules.specs.Needs.{ends_wait, has_due, work_starts}
use Rattle.otp_rules.specs.Places.{at_found, at_number, at_place, at_row, end_process, end_row, is_removed, is_temporary, set_row}
use Rattle.otp_rules.specs.Restarts.{dues, ends_by_significance, restart_list, running}
use Rattle.otp_spec.specs.Flags.{is_simple}
use Rattle.otp_rules.specs.State.{Outcome, answer, is_busy, is_over, put_last, with_rows, with_work}
use Rattle.otp_rules.specs.Stops.{calm_all, is_exit, stop_each, tell, tell_row, terminate, terminate_ordered, terminate_together, use_exit}
use Rattle.otp_needs.specs.Restarted.{goes_on_beside, has_spec, outlives_failure, outlives_up, restart_goes_on}
use Rattle.otp_needs.proofs.Going.{all_same, ends_reversed}
use Rattle.otp_needs.proofs.Walk.{walk_counted}

and_true : (b : Bool) → (b && true) ≡ b
and_true true = refl
and_true false = refl

or_false : (b : Bool) → (b || false) ≡ b
or_false true = refl
or_false false = refl

abbrev awaits : List Row → Bool
awaits rows = list_any (row_has is_awaited) rows

-- a row that is not awaited counts no more than none
awaits_set : (rows : List Row) (place : ℕ) (row : Row) → place < length rows → is_awaited row.state ≡ false → awaits (slice_set rows place row) ≡ awaits (remove rows place)
awaits_set rows place row within calm =
    let all : List Row = slice_set rows place row in
    ap (λ xs. awaits xs) (sym (take-append-drop place all))
    ∙ list_any-append (row_has is_awaited) (take place all) (drop place all)
    ∙ ap (λ xs. awaits xs || awaits (drop place all)) (take-set rows place row)
    ∙ ap (λ xs. awaits (take place rows) || awaits xs) (drop-set rows place row within)
    ∙ ap (λ b. awaits (take place rows) || (b || awaits (drop (place + 1) rows))) calm
    ∙ ap (λ i. awaits (take place rows) || awaits (drop i rows)) (add-one place)
    ∙ sym (list_any-append (row_has is_awaited) (take place rows) (drop (suc place) rows))

-- the open work without the child at the place
abbrev beside : ℕ → Outcome → Bool
beside place o = goes_on_beside place o

work_with_rows : (rows : List Row) (place : ℕ) (o : Outcome) → awaits rows ≡ awaits (remove o.state.rows place) → work_starts (with_rows rows o) ≡ beside place o
unfolding work_starts
work_with_rows rows place o h = ap (λ b. is_busy o && (not b && (ends_wait o.state.to_stop o.state.waiting && has_due o.state.to_start))) h

pub beside_up : (n place : ℕ) (row : Row) (o : Outcome) → place < length o.state.rows → beside place o ≡ work_starts (set_row place row (Up n) o)
beside_up n place row o within =
    sym (work_with_rows (slice_set o.state.rows place (with_state (Up n) row)) place o (awaits_set o.state.rows place (with_state (Up n) row) within refl))

pub beside_ended : (place : ℕ) (row : Row) (o : Outcome) → place < length o.state.rows → beside place o ≡ work_starts (end_row place row o)
unfolding end_row
beside_ended place row o within =
    elim (is_removed row) as (λ b. beside place o ≡ work_starts (if b then with_rows (remove o.state.rows place) o else set_row place row Undefined o)) [
      | true ↦ sym (work_with_rows (remove o.state.rows place) place o refl)
      | false ↦ sym (work_with_rows (slice_set o.state.rows place (with_state Undefined row)) place o (awaits_set o.state.rows place (with_state Undefined row) within refl))
    ]

-- where a change at a row leaves what is to start
at_row-dues : (dues : List Due) (test : Row → Bool) (missing : Outcome) (f : ℕ → Row → Outcome → Outcome) (o : Outcome) → missing.state.to_start ≡ dues → o.state.to_start ≡ dues
    → ((place : ℕ) (row : Row) → (f place row o).state.to_start ≡ dues) → (at_row test missing f o).state.to_start ≡ dues
unfolding at_row at_found at_place
at_row-dues dues test missing f o m h each =
    elim (position test o.state.rows) as (λ place. (at_found missing f place o).state.to_start ≡ dues) [
      | None ↦ m
      | Some place ↦ elim (slice_get o.state.rows place) as (λ row. (at_place f place row o).state.to_start ≡ dues) [ None ↦ h | Some row ↦ each place row ]
    ]

end_row-dues : (dues : List Due) (place : ℕ) (row : Row) (o : Outcome) → o.state.to_start ≡ dues → (end_row place row o).state.to_start ≡ dues
unfolding end_row
end_row-dues dues place row o h =
    elim (is_removed row) as (λ b. (if b then with_rows (remove o.state.rows place) o else set_row place row Undefined o).state.to_start ≡ dues) [ true ↦ h | false ↦ h ]

use_exit-dues : (dues : List Due) (p : ℕ) (place : Option ℕ) (o : Outcome) → o.state.to_start ≡ dues → (use_exit p place o).state.to_start ≡ dues
unfolding use_exit end_process at_number
use_exit-dues dues p place o h = at_row-dues dues (row_has (has_process p)) _ end_row _ h h (λ at row. end_row-dues dues at row _ h)

tell-dues : (dues : List Due) (p : ℕ) (o : Outcome) → o.state.to_start ≡ dues → (tell p o).state.to_start ≡ dues
unfolding tell at_number tell_row
tell-dues dues p o h = at_row-dues dues (row_has (has_process p)) o (tell_row p) o h h (λ at row. h)

stop_each-dues : (dues : List Due) (ps : List ℕ) (o : Outcome) → o.state.to_start ≡ dues → (stop_each ps o).state.to_start ≡ dues
unfolding stop_each
stop_each-dues dues [] o h = h
stop_each-dues dues (p ∷ ps) o h =
    let place : Option ℕ = position (is_exit p) o.state.waiting in
    elim (is_some place) as (λ b. (if b then stop_each ps (use_exit p place o) else stop_each ps (tell p o)).state.to_start ≡ dues) [
      | true ↦ stop_each-dues dues ps (use_exit p place o) (use_exit-dues dues p place o h)
      | false ↦ stop_each-dues dues ps (tell p o) (tell-dues dues p o h)
    ]

and_false : (a : Bool) → (a && false) ≡ false
and_false true = refl
and_false false = refl

no_due : (o : Outcome) → o.state.to_start ≡ [] → work_starts o ≡ false
unfolding work_starts
no_due o h =
    ap (λ dues. is_busy o && (not (awaits o.state.rows) && (ends_wait o.state.to_stop o.state.waiting && has_due dues))) h
    ∙ ap (λ b. is_busy o && (not (awaits o.state.rows) && b)) (and_false (ends_wait o.state.to_stop o.state.waiting))
    ∙ ap (λ b. is_busy o && b) (and_false (not (awaits o.state.rows)))
    ∙ and_false (is_busy o)

-- a supervisor that is to end starts no child
pub terminate_starts_none : (e : Ending) (o : Outcome) → work_starts (terminate e o) ≡ false
unfolding terminate terminate_together terminate_ordered
terminate_starts_none e o =
    elim (is_simple o.state.flags.strategy) as (λ b. work_starts (if b then terminate_together e o else terminate_ordered e o) ≡ false) [
      | true ↦ no_due (terminate_together e o) (stop_each-dues [] (running o.state.rows) (calm_all (with_work [] [] (Some (sequel.End e)) o)) refl)
      | false ↦ no_due (terminate_ordered e o) refl
    ]

calmed_state : (state : RowState) → is_awaited (calmed state) ≡ is_awaited state
calmed_state Undefined = refl
calmed_state (Starting _ _) = refl
calmed_state (Up _) = refl
calmed_state (Asked _ _) = refl
calmed_state (Killed _) = refl
calmed_state (Restarting _) = refl

awaits_calm : (rows : List Row) → awaits (calm_rows rows) ≡ awaits rows
awaits_calm [] = refl
awaits_calm (row ∷ rows) = ap (λ b. b || awaits (calm_rows rows)) (calmed_state row.state) ∙ ap (λ b. is_awaited row.state || b) (awaits_calm rows)

-- giving up retries from one place to another changes nothing of it
awaits_part : (rows : List Row) (from to : ℕ) → from ≤ to → awaits (take from rows ++ calm_rows (slice_range rows from to) ++ drop to rows) ≡ awaits rows
awaits_part rows from to le =
    ap (λ xs. awaits xs) (append_assoc (take from rows) (calm_rows (slice_range rows from to)) (drop to rows))
    ∙ list_any-append (row_has is_awaited) (take from rows) (calm_rows (slice_range rows from to) ++ drop to rows)
    ∙ ap (λ b. awaits (take from rows) || b)
    (list_any-append (row_has is_awaited) (calm_rows (slice_range rows from to)) (drop to rows)
    ∙ ap (λ b. b || awaits (drop to rows)) (awaits_calm (slice_range rows from to))
    ∙ sym (list_any-append (row_has is_awaited) (slice_range rows from to) (drop to rows))
    ∙ ap (λ xs. awaits xs) (sym (drop_split rows from to le)))
    ∙ sym (list_any-append (row_has is_awaited) (take from rows) (drop from rows))
    ∙ ap (λ xs. awaits xs) (take-append-drop from rows)

-- what stands before, at and after the place
slice_before : (rows : List Row) (from place : ℕ) (row : Row) → from ≤ place → slice_range (slice_set rows place row) from place ≡ slice_range rows from place
slice_before rows from place row le =
    let there : from + (place - from) ≡ place = omega arith in
    ap (λ i. take (place - from) (drop from (slice_set rows i row))) (sym there)
    ∙ ap (λ xs. take (place - from) xs) (drop-set-add from rows (place - from) row)
    ∙ take-set (drop from rows) (place - from) row

slice_after : (rows : List Row) (place to : ℕ) (row : Row) → slice_range (slice_set rows place row) (place + 1) to ≡ slice_range rows (place + 1) to
slice_after rows place to row = ap (λ xs. take (to - (place + 1)) xs) (drop-set-lt (place + 1) rows place row (omega arith))

drop_at : (rows : List Row) (place : ℕ) (row : Row) → slice_get rows place ≡ Some row → drop place rows ≡ row ∷ drop (place + 1) rows
drop_at rows place row at =
    drop-cons rows place row (slice_get_within rows place row at)
    ∙ ap (λ x. x ∷ drop (suc place) rows) (get_or_from_slice_get rows place row row at)
    ∙ ap (λ i. row ∷ drop i rows) (sym (add-one place))

-- a part of a list whose rest from the place on begins with the row
slice_parts : (rows : List Row) (from place to : ℕ) (row : Row) → from ≤ place → place < to → place < length rows → drop place rows ≡ row ∷ drop (place + 1) rows
    → slice_range rows from to ≡ slice_range rows from place ++ row ∷ slice_range rows (place + 1) to
slice_parts rows from place to row le lt within at =
    let front : List Row = slice_range rows from place in
    let size : length front ≡ place - from = omega (arith, length-take (place - from) (drop from rows), length-drop from rows) in
    let count : to - from ≡ length front + suc (to - (place + 1)) = omega (arith, size) in
    ap (λ n. take n (drop from rows)) count
    ∙ ap (λ xs. take (length front + suc (to - (place + 1))) xs) (drop_split rows from place le ∙ ap (λ xs. front ++ xs) at)
    ∙ take-append-add front (row ∷ drop (place + 1) rows) (suc (to - (place + 1)))

slice_one : (rows : List Row) (place : ℕ) (row : Row) → drop place rows ≡ row ∷ drop (place + 1) rows → slice_range rows place (place + 1) ≡ row ∷ []
slice_one rows place row at =
    let one : (place + 1) - place ≡ 1 = omega arith in
    ap (λ n. take n (drop place rows)) one ∙ ap (λ xs. take 1 xs) at

-- a child that is started again
abbrev lasts : Row → Bool
lasts row = not (is_temporary row.spec.restart)

has_due-append : (xs ys : List Due) → has_due (xs ++ ys) ≡ (has_due xs || has_due ys)
has_due-append [] ys = refl
has_due-append (x ∷ xs) ys = refl

has_due-dues : (kept : Option ℕ) (rows : List Row) → has_due (dues kept rows) ≡ list_any lasts rows
has_due-dues kept [] = refl
has_due-dues kept (row ∷ rows) =
    elim (is_temporary row.spec.restart) as (λ b. has_due (map (λ row. record { id = row.id; kept = kept }) (cond (not b) (row ∷ filter lasts rows) (filter lasts rows))) ≡ (not b || list_any lasts rows)) [
      | true ↦ has_due-dues kept rows
      | false ↦ refl
    ]

-- the restart's own children
restart_due : (rows : List Row) (from place to kept : ℕ) (row : Row) → from ≤ place → place < to → slice_get rows place ≡ Some row
    → has_due (restart_list from to place kept (slice_set rows place (with_state Undefined row))) ≡ list_any lasts (slice_range rows from to)
restart_due rows from place to kept row le lt at =
    let within : place < length rows = slice_get_within rows place row at in
    let gone : Row = with_state Undefined row in
    let set : List Row = slice_set rows place gone in
    let front : List Row = slice_range rows from place in
    let back : List Row = slice_range rows (place + 1) to in
    let here : slice_range set place (place + 1) ≡ gone ∷ [] = slice_one set place gone (drop-set rows place gone within ∙ ap (λ xs. gone ∷ xs) (sym (drop-set-lt (place + 1) rows place gone (omega arith)))) in
    let one : has_due (dues (Some kept) (gone ∷ []) ++ dues None back) ≡ list_any lasts (row ∷ back) =
    has_due-append (dues (Some kept) (gone ∷ [])) (dues None back)
    ∙ ap (λ b. b || has_due (dues None back)) (has_due-dues (Some kept) (gone ∷ []))
    ∙ ap (λ b. (lasts row || false) || b) (has_due-dues None back)
    ∙ ap (λ b. b || list_any lasts back) (or_false (lasts row)) in
    ap (λ xs. has_due (dues None xs ++ dues (Some kept) (slice_range set place (place + 1)) ++ dues None (slice_range set (place + 1) to))) (slice_before rows from place gone le)
    ∙ ap (λ xs. has_due (dues None front ++ dues (Some kept) xs ++ dues None (slice_range set (place + 1) to))) here
    ∙ ap (λ xs. has_due (dues None front ++ dues (Some kept) (gone ∷ []) ++ dues None xs)) (slice_after rows place to gone)
    ∙ ap (λ xs. has_due xs) (append_assoc (dues None front) (dues (Some kept) (gone ∷ [])) (dues None back))
    ∙ has_due-append (dues None front) (dues (Some kept) (gone ∷ []) ++ dues None back)
    ∙ ap (λ b. b || has_due (dues (Some kept) (gone ∷ []) ++ dues None back)) (has_due-dues None front)
    ∙ ap (λ b. list_any lasts front || b) one
    ∙ sym (list_any-append lasts front (row ∷ back))
    ∙ ap (λ xs. list_any lasts xs) (sym (slice_parts rows from place to row le lt within (drop_at rows place row at)))

-- the others of its part run on
restart_running : (rows : List Row) (from place to : ℕ) (row : Row) → from ≤ place → place < to → place < length rows
    → running (slice_range (slice_set rows place (with_state Undefined row)) from to) ≡ running (slice_range rows from place) ++ running (slice_range rows (place + 1) to)
restart_running rows from place to row le lt within =
    let gone : Row = with_state Undefined row in
    let set : List Row = slice_set rows place gone in
    let long : place < length set = omega (arith, within, length-set rows place gone) in
    ap (λ xs. running xs) (slice_parts set from place to gone le lt long (drop-set rows place gone within ∙ ap (λ xs. gone ∷ xs) (sym (drop-set-lt (place + 1) rows place gone (omega arith)))))
    ∙ ap (λ xs. running (xs ++ gone ∷ slice_range set (place + 1) to)) (slice_before rows from place gone le)
    ∙ ap (λ xs. running (slice_range rows from place ++ gone ∷ xs)) (slice_after rows place to gone)
    ∙ filter_map-append (λ row. up_number row.state) (slice_range rows from place) (gone ∷ slice_range rows (place + 1) to)

-- the work that a restart opens, asked of the rows before it
pub restart_seen : (rows : List Row) (from place to kept : ℕ) (row : Row) (items : List Waiting) → from ≤ place → place < to → slice_get rows place ≡ Some row
    → (not (awaits (remove rows place)) && (ends_wait (running (slice_range rows from place) ++ running (slice_range rows (place + 1) to)) items && list_any lasts (slice_range rows from to)))
    ≡ restart_goes_on from to place kept (slice_set rows place (with_state Undefined row)) items
restart_seen rows from place to kept row items le lt at =
    let within : place < length rows = slice_get_within rows place row at in
    let gone : Row = with_state Undefined row in
    let set : List Row = slice_set rows place gone in
    let numbers : List ℕ = running (slice_range rows from place) ++ running (slice_range rows (place + 1) to) in
    let awaited : awaits (take from set ++ calm_rows (slice_range set from to) ++ drop to set) ≡ awaits (remove rows place) = awaits_part set from to (omega arith) ∙ awaits_set rows place gone within refl in
    let ended : ends_wait (reverse (running (slice_range set from to))) items ≡ ends_wait numbers items =
    ends_reversed (running (slice_range set from to)) items ∙ sym (walk_counted (running (slice_range set from to)) items)
    ∙ ap (λ ps. ends_wait ps items) (restart_running rows from place to row le lt within) in
    ap (λ b. not b && (ends_wait numbers items && list_any lasts (slice_range rows from to))) (sym awaited)
    ∙ ap (λ b. not (awaits (take from set ++ calm_rows (slice_range set from to) ++ drop to set)) && (b && list_any lasts (slice_range rows from to))) (sym ended)
    ∙ ap (λ b. not (awaits (take from set ++ calm_rows (slice_range set from to) ++ drop to set)) && (ends_wait (reverse (running (slice_range set from to))) items && b)) (sym (restart_due rows from place to kept row le lt at))

end_of_starts_none : (place : ℕ) (row : Row) (o : Outcome) → o.state.follows ≡ None → (end_row place row o).state.follows ≡ None
unfolding end_row
end_of_starts_none place row o h =
    elim (is_removed row) as (λ b. (if b then with_rows (remove o.state.rows place) o else set_row place row Undefined o).state.follows ≡ None) [ true ↦ h | false ↦ h ]

-- where no work is open, none goes on
pub idle_starts_none : (o : Outcome) → o.state.follows ≡ None → work_starts o ≡ false
unfolding work_starts
idle_starts_none o h = ap (λ (f : Option Sequel). is_some f && (not (awaits o.state.rows) && (ends_wait o.state.to_stop o.state.waiting && has_due o.state.to_start))) h

-- a child that ended for good starts none
pub ended_starts_none : (p place : ℕ) (row : Row) (o : Outcome) → o.state.follows ≡ None → work_starts (after_end p row (end_row place row o)) ≡ false
unfolding after_end
ended_starts_none p place row o h =
    let ended : Outcome = end_row place row o in
    elim (ends_by_significance ended.state.flags.auto_shutdown row ended.state.rows) as (λ b. work_starts (if b then terminate (ending.Significant p) ended else ended) ≡ false) [
      | true ↦ terminate_starts_none (ending.Significant p) ended
      | false ↦ idle_starts_none ended (end_of_starts_none place row o h)
    ]

-- a child that runs: the call that started it is answered, or the work goes on
pub up_after_starts : (p : ℕ) (f : Option Sequel) (o : Outcome) → work_starts (up_after p f o) ≡ (outlives_up f && work_starts o)
unfolding up_after answer work_starts
up_after_starts p None o = refl
up_after_starts p (Some sequel.Ready) o = refl
up_after_starts p (Some sequel.Nothing) o = refl
up_after_starts p (Some (sequel.Added c)) o = refl
up_after_starts p (Some (sequel.Restarted c)) o = refl
up_after_starts p (Some (sequel.Stopped c)) o = refl
up_after_starts p (Some (sequel.End e)) o = refl

-- a child that did not start
pub failed_after_starts : (r : Reason) (k place : ℕ) (row : Row) (f : Option Sequel) (o : Outcome) → work_starts (failed_after r k place row f o) ≡ (outlives_failure f && work_starts o)
unfolding failed_after answer work_starts
failed_after_starts r k place row None o = refl
failed_after_starts r k place row (Some sequel.Ready) o = terminate_starts_none (ending.InitFailed row.spec.id) (set_row place row Undefined o)
failed_after_starts r k place row (Some sequel.Nothing) o = refl
failed_after_starts r k place row (Some (sequel.Added c)) o = refl
failed_after_starts r k place row (Some (sequel.Restarted c)) o = refl
failed_after_starts r k place row (Some (sequel.Stopped c)) o = refl
failed_after_starts r k place row (Some (sequel.End e)) o = refl

answer_starts : (c : ℕ) (r : Reply) (o : Outcome) → work_starts (answer c r o) ≡ work_starts o
unfolding answer work_starts
answer_starts c r o = refl

-- a call that is answered starts no child
pub answered_starts_none : (c : ℕ) (r : Reply) (o : Outcome) → o.state.follows ≡ None → work_starts (answer c r o) ≡ false
answered_starts_none c r o h = answer_starts c r o ∙ idle_starts_none o h

-- the work that an added child opens
abbrev added : ℕ → Option Name → ChildSpec → Outcome → Outcome
added c id spec o = with_work [] (record { id = id; kept = None } ∷ []) (Some (sequel.Added c)) (with_rows (o.state.rows ++ new_row (free_slot o.state.rows) id spec ∷ []) o)

added_starts : (c : ℕ) (id : Option Name) (spec : ChildSpec) (o : Outcome) → work_starts (added c id spec o) ≡ not (awaits o.state.rows)
unfolding work_starts
added_starts c id spec o =
    and_true (not (awaits (o.state.rows ++ new_row (free_slot o.state.rows) id spec ∷ [])))
    ∙ ap not (list_any-append (row_has is_awaited) o.state.rows (new_row (free_slot o.state.rows) id spec ∷ []) ∙ or_false (awaits o.state.rows))

-- a child that is added is started at once, where nothing is awaited
pub add_child_starts : (c : ℕ) (id : Option Name) (spec : ChildSpec) (o : Outcome) → o.state.follows ≡ None → work_starts (add_child c id spec o) ≡ (not (nat_le 256 (length o.state.rows)) && not (awaits o.state.rows))
unfolding add_child
add_child_starts c id spec o h =
    elim (nat_le 256 (length o.state.rows)) as (λ b. work_starts (if b then refuse c fault.TooManyChildren o else added c id spec o) ≡ (not b && not (awaits o.state.rows))) [
      | true ↦ answered_starts_none c (reply.Refused fault.TooManyChildren) o h
      | false ↦ added_starts c id spec o
    ]

-- a call that is refused starts no child
unless_refused_none : (c : ℕ) (why : Option CallFault) (done o : Outcome) → o.state.follows ≡ None → (why ≡ None → work_starts done ≡ false) → work_starts (unless_refused c why done o) ≡ false
unless_refused_none c None done o h k = k refl
unless_refused_none c (Some why) done o h k = answered_starts_none c (reply.Refused why) o h

-- a child that is there is started at once, where nothing is awaited
again_in : (c : ℕ) (id : Name) (place : ℕ) (row : Row) (state : RowState) (o : Outcome) → o.state.follows ≡ None
    → work_starts (unless_refused c (fault_at (call.RestartChild id) state) (carry_out c (call.RestartChild id) place row o) o) ≡ (is_undefined state && not (awaits o.state.rows))
unfolding work_starts
again_in c id place row Undefined o h = and_true (not (awaits o.state.rows))
again_in c id place row (Starting _ _) o h = answered_starts_none c (reply.Refused fault.Running) o h
again_in c id place row (Up _) o h = answered_starts_none c (reply.Refused fault.Running) o h
again_in c id place row (Asked _ _) o h = answered_starts_none c (reply.Refused fault.Running) o h
again_in c id place row (Killed _) o h = answered_starts_none c (reply.Refused fault.Running) o h
again_in c id place row (Restarting _) o h = answered_starts_none c (reply.Refused fault.Restarting) o h

pub again_starts : (c : ℕ) (id : Name) (place : ℕ) (row : Row) (o : Outcome) → o.state.follows ≡ None → work_starts (call_at c (call.RestartChild id) place row o) ≡ (is_undefined row.state && not (awaits o.state.rows))
unfolding call_at
again_starts c id place row o h = again_in c id place row row.state o h

-- a child that is there already is not added
pub present_starts_none : (c : ℕ) (spec : ChildSpec) (place : ℕ) (row : Row) (o : Outcome) → o.state.follows ≡ None → work_starts (call_at c (call.StartChild spec) place row o) ≡ false
unfolding call_at
present_starts_none c spec place row o h = unless_refused_none c (fault_at (call.StartChild spec) row.state) o o h (λ k. idle_starts_none o h)

at_row-none : (test : Row → Bool) (missing : Outcome) (f : ℕ → Row → Outcome → Outcome) (o : Outcome) → work_starts missing ≡ false → work_starts o ≡ false
    → ((place : ℕ) (row : Row) → work_starts (f place row o) ≡ false) → work_starts (at_row test missing f o) ≡ false
unfolding at_row at_found at_place
at_row-none test missing f o m h each =
    elim (position test o.state.rows) as (λ place. work_starts (at_found missing f place o) ≡ false) [
      | None ↦ m
      | Some place ↦ elim (slice_get o.state.rows place) as (λ row. work_starts (at_place f place row o) ≡ false) [ None ↦ h | Some row ↦ each place row ]
    ]

stop_process_none : (c p : ℕ) (o : Outcome) → work_starts (stop_process c p o) ≡ false
unfolding stop_process
stop_process_none c p o = no_due (with_work (p ∷ []) [] (Some (sequel.Stopped c)) o) refl

stop_child_none : (c : ℕ) (state : RowState) (gone o : Outcome) → gone.state.follows ≡ None → work_starts (stop_child c state gone o) ≡ false
stop_child_none c Undefined gone o h = answered_starts_none c reply.Ok gone h
stop_child_none c (Starting p _) gone o h = stop_process_none c p o
stop_child_none c (Up p) gone o h = stop_process_none c p o
stop_child_none c (Asked p _) gone o h = stop_process_none c p o
stop_child_none c (Killed p) gone o h = stop_process_none c p o
stop_child_none c (Restarting _) gone o h = answered_starts_none c reply.Ok gone h

get_shared_none : (c : ℕ) (id : Name) (spec : Option ChildSpec) (o : Outcome) → o.state.follows ≡ None → work_starts (get_shared c id spec o) ≡ false
unfolding get_shared
get_shared_none c id None o h = answered_starts_none c (reply.Refused fault.NotFound) o h
get_shared_none c id (Some spec) o h =
    elim (is_named id spec) as (λ b. work_starts (if b then answer c (reply.Spec spec) o else refuse c fault.NotFound o) ≡ false) [
      | true ↦ answered_starts_none c (reply.Spec spec) o h
      | false ↦ answered_starts_none c (reply.Refused fault.NotFound) o h
    ]

call_child_none : (c : ℕ) (id : Name) (x : Call) (o : Outcome) → o.state.follows ≡ None → ((place : ℕ) (row : Row) → work_starts (carry_out c x place row o) ≡ false) → work_starts (call_child c id x o) ≡ false
unfolding call_child call_at
call_child_none c id x o h each =
    elim (is_simple o.state.flags.strategy) as (λ b. work_starts (if b then refuse c fault.SimpleOneForOne o else at_row (has_id id) (refuse c fault.NotFound o) (call_at c x) o) ≡ false) [
      | true ↦ answered_starts_none c (reply.Refused fault.SimpleOneForOne) o h
      | false ↦ at_row-none (has_id id) (refuse c fault.NotFound o) (call_at c x) o (answered_starts_none c (reply.Refused fault.NotFound) o h) (idle_starts_none o h)
          (λ place row. unless_refused_none c (fault_at x row.state) (carry_out c x place row o) o h (λ k. each place row))
    ]

pub delete_starts_none : (c : ℕ) (id : Name) (o : Outcome) → o.state.follows ≡ None → work_starts (take_call c (call.DeleteChild id) o) ≡ false
unfolding take_call
delete_starts_none c id o h = call_child_none c id (call.DeleteChild id) o h (λ place row. answered_starts_none c reply.Ok (with_rows (remove o.state.rows place) o) h)

pub terminate_child_starts_none : (c : ℕ) (id : Name) (o : Outcome) → o.state.follows ≡ None → work_starts (take_call c (call.TerminateChild id) o) ≡ false
unfolding take_call
terminate_child_starts_none c id o h = call_child_none c id (call.TerminateChild id) o h (λ place row. stop_child_none c row.state (set_row place row Undefined o) o h)

pub terminate_process_starts_none : (c p : ℕ) (o : Outcome) → o.state.follows ≡ None → work_starts (take_call c (call.TerminateProcess p) o) ≡ false
unfolding take_call terminate_process call_at
terminate_process_starts_none c p o h =
    elim (is_simple o.state.flags.strategy) as (λ b. work_starts (if b then at_row (row_has (has_number p)) (refuse c fault.NotFound o) (call_at c (call.TerminateProcess p)) o else refuse c fault.NotFound o) ≡ false) [
      | true ↦ at_row-none (row_has (has_number p)) (refuse c fault.NotFound o) (call_at c (call.TerminateProcess p)) o (answered_starts_none c (reply.Refused fault.NotFound) o h) (idle_starts_none o h)
          (λ place row. unless_refused_none c (fault_at (call.TerminateProcess p) row.state) _ o h (λ k. stop_child_none c row.state (with_rows (remove o.state.rows place) o) o h))
      | false ↦ answered_starts_none c (reply.Refused fault.NotFound) o h
    ]

pub which_starts_none : (c : ℕ) (o : Outcome) → o.state.follows ≡ None → work_starts (take_call c call.WhichChildren o) ≡ false
unfolding take_call
which_starts_none c o h = answered_starts_none c (reply.Which (which_of o.state.rows)) o h

pub count_starts_none : (c : ℕ) (o : Outcome) → o.state.follows ≡ None → work_starts (take_call c call.CountChildren o) ≡ false
unfolding take_call
count_starts_none c o h = answered_starts_none c (reply.Count (counts_of o.state)) o h

pub get_childspec_starts_none : (c : ℕ) (id : Name) (o : Outcome) → o.state.follows ≡ None → work_starts (take_call c (call.GetChildspec id) o) ≡ false
unfolding take_call get_childspec call_at
get_childspec_starts_none c id o h =
    elim (is_simple o.state.flags.strategy) as (λ b. work_starts (if b then get_shared c id (slice_get o.state.specs 0) o else at_row (has_id id) (refuse c fault.NotFound o) (call_at c (call.GetChildspec id)) o) ≡ false) [
      | true ↦ get_shared_none c id (slice_get o.state.specs 0) o h
      | false ↦ at_row-none (has_id id) (refuse c fault.NotFound o) (call_at c (call.GetChildspec id)) o (answered_starts_none c (reply.Refused fault.NotFound) o h) (idle_starts_none o h) (λ place row. answered_starts_none c (reply.Spec row.spec) o h)
    ]

-- a call that waits changes no end
exits_call : (c : ℕ) (x : Call) (items : List Waiting) (p : ℕ) → count_by (is_exit p) (items ++ waiting.Item (item.Call c x) ∷ []) ≡ count_by (is_exit p) items
exits_call c x items p =
    let last : Waiting = waiting.Item (item.Call c x) in
    let one : count_by (is_exit p) (last ∷ []) ≡ 0 + count_by (is_exit p) [] = sum_by-cons (λ y. cond (is_exit p y) 1 0) last [] in
    let none : count_by (is_exit p) [] ≡ 0 = refl in
    let both : count_by (is_exit p) (items ++ last ∷ []) ≡ count_by (is_exit p) items + count_by (is_exit p) (last ∷ []) = sum_by-append (λ y. cond (is_exit p y) 1 0) items (last ∷ []) in
    omega (arith, one, none, both)

call_waits : (c : ℕ) (x : Call) (o : Outcome) → work_starts (put_last (waiting.Item (item.Call c x)) o) ≡ work_starts o
unfolding work_starts
call_waits c x o =
    ap (λ b. is_busy o && (not (awaits o.state.rows) && (b && has_due o.state.to_start)))
    (walk_counted o.state.to_stop (o.state.waiting ++ waiting.Item (item.Call c x) ∷ [])
    ∙ all_same _ _ o.state.to_stop (λ p. ap (λ k. nat_le (count_by (λ q. q == p) o.state.to_stop) k) (exits_call c x o.state.waiting p))
    ∙ sym (walk_counted o.state.to_stop o.state.waiting))

pub ask_over : (c : ℕ) (x : Call) (o : Outcome) → is_over o.state.phase ≡ true → work_starts (ask c x o) ≡ work_starts o
unfolding ask
ask_over c x o h = ap (λ b. work_starts (if b then answer c reply.NoProc o else (if is_busy o then put_last (waiting.Item (item.Call c x)) o else take_call c x o))) h ∙ answer_starts c reply.NoProc o

pub ask_busy : (c : ℕ) (x : Call) (o : Outcome) → is_over o.state.phase ≡ false → is_busy o ≡ true → work_starts (ask c x o) ≡ work_starts o
unfolding ask
ask_busy c x o h k =
    ap (λ b. work_starts (if b then answer c reply.NoProc o else (if is_busy o then put_last (waiting.Item (item.Call c x)) o else take_call c x o))) h
    ∙ ap (λ b. work_starts (if b then put_last (waiting.Item (item.Call c x)) o else take_call c x o)) k
    ∙ call_waits c x o

pub ask_idle : (c : ℕ) (x : Call) (o : Outcome) → is_over o.state.phase ≡ false → is_busy o ≡ false → work_starts (ask c x o) ≡ work_starts (take_call c x o)
unfolding ask
ask_idle c x o h k =
    ap (λ b. work_starts (if b then answer c reply.NoProc o else (if is_busy o then put_last (waiting.Item (item.Call c x)) o else take_call c x o))) h
    ∙ ap (λ b. work_starts (if b then put_last (waiting.Item (item.Call c x)) o else take_call c x o)) k

late_awaited : (now : ℕ) (row : Row) (state : RowState) → row.state ≡ state → is_awaited (killed row (late_number now state)).state ≡ is_awaited state
late_awaited now row Undefined e = ap (λ s. is_awaited s) e
late_awaited now row (Starting _ _) e = ap (λ s. is_awaited s) e
late_awaited now row (Up _) e = ap (λ s. is_awaited s) e
late_awaited now row (Asked p d) e = elim (late_by now p d) as (λ late. is_awaited (killed row late).state ≡ true) [ None ↦ ap (λ s. is_awaited s) e | Some q ↦ refl ]
late_awaited now row (Killed _) e = ap (λ s. is_awaited s) e
late_awaited now row (Restarting _) e = ap (λ s. is_awaited s) e

awaits_killed : (now : ℕ) (rows : List Row) → awaits (map (λ row. killed row (late_number now row.state)) rows) ≡ awaits rows
awaits_killed now [] = refl
awaits_killed now (row ∷ rows) =
    ap (λ b. b || awaits (map (λ row. killed row (late_number now row.state)) rows)) (late_awaited now row row.state refl)
    ∙ ap (λ b. is_awaited row.state || b) (awaits_killed now rows)

-- a child that is killed is awaited as before
pub tick_starts : (o : Outcome) → work_starts (tick o) ≡ work_starts o
unfolding tick work_starts
tick_starts o = ap (λ b. is_busy o && (not b && (ends_wait o.state.to_stop o.state.waiting && has_due o.state.to_start))) (awaits_killed o.state.last o.state.rows)

opened_rows : (slot : ℕ) (specs : List ChildSpec) → awaits (rows_from slot specs) ≡ false
opened_rows slot [] = refl
opened_rows slot (spec ∷ specs) = opened_rows (slot + 1) specs

opened_dues : (specs : List ChildSpec) → has_due (map due_of specs) ≡ has_spec specs
opened_dues [] = refl
opened_dues (spec ∷ specs) = refl

-- a supervisor that opens starts its first child
pub opening_starts : (own : ℕ) (o : Outcome) → work_starts (open_rows own o) ≡ has_spec (opening_specs (is_simple o.state.flags.strategy) o.state.specs)
unfolding open_rows open_with work_starts
opening_starts own o =
    let specs : List ChildSpec = opening_specs (is_simple o.state.flags.strategy) o.state.specs in
    ap (λ b. not b && has_due (map due_of specs)) (opened_rows 0 specs) ∙ opened_dues specs

pub start_child_is : (c : ℕ) (spec : ChildSpec) (o : Outcome) → take_call c (call.StartChild spec) o ≡ start_child c spec o
unfolding take_call
start_child_is c spec o = refl

pub start_dynamic_is : (c : ℕ) (o : Outcome) → take_call c call.StartDynamic o ≡ start_dynamic c o
unfolding take_call
start_dynamic_is c o = refl

pub restart_child_is : (c : ℕ) (id : Name) (o : Outcome) → take_call c (call.RestartChild id) o ≡ call_child c id (call.RestartChild id) o
unfolding take_call
restart_child_is c id o = refl
