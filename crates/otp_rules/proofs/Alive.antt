-- A process that lives after an event lived before it, or is started by it.
use Rattle.std.specs.Prelude.{◌≡◌, ◌⊎◌, ℕ, ◌==◌, ◌+◌, ◌≤◌, ◌<◌, ◌++◌, ◌&&◌, ◌||◌, Bool, true, false, List, [], ◌∷◌, Option, None, Some, Contains, refl, if◌then◌else◌, position, is_some, slice_set, length, remove, count_by, unwrap_or}
use Rattle.std.specs.List.{list_any}
use Rattle.std.proofs.Common.{◌∙◌, ap, sym, subst, inl, inr, arith, ⊎_elim, cond, rules}
use Rattle.std.proofs.lemmas.Bool.{false≢true, cases_Bool, eqb-true, eq-eqb, and_from, and_parts}
use Rattle.std.proofs.lemmas.List.Sums.{sum_by-append, sum_by-cons}
use Rattle.std.proofs.Common.{get_or}
use Rattle.std.proofs.lemmas.List.Folds.{list_any-append}
use Rattle.std.proofs.lemmas.List.Quantifiers.{position-Some}
use Rattle.std.proofs.lemmas.List.Sums.{sum_by-remove}
use Rattle.otp_reason.specs.declared.note.Note.{Note}
use Rattle.otp_reason.specs.declared.note.Note.TheVariants as note
use Rattle.otp_table.specs.declared.row.Row.{Row}
use Rattle.otp_table.specs.declared.row.RowState.{RowState}
use Rattle.otp_table.specs.declared.row.RowState.TheVariants.{Undefined, Starting, Up, Asked, Killed, Restarting}
use Rattle.otp_table.specs.Rows.{has_process, has_slot, is_awaited, row_has, with_state, free_slot}
use Rattle.otp_rules.specs.declared.ending.Ending.{Ending}
use Rattle.otp_rules.specs.declared.ending.Ending.TheVariants as ending
use Rattle.otp_rules.specs.declared.event.Event.{Event}
use Rattle.otp_rules.specs.declared.event.Item.{Item}
use Rattle.otp_rules.specs.declared.event.Item.TheVariants as item
use Rattle.otp_rules.specs.declared.event.Kind.{Kind}
use Rattle.otp_rules.specs.declared.event.Kind.TheVariants as kind
use Rattle.otp_rules.specs.declared.event.Waiting.{Waiting}
use Rattle.otp_rules.specs.declared.event.Waiting.TheVariants as waiting
use Rattle.otp_rules.specs.declared.call.Reply.{Reply}
use Rattle.otp_rules.specs.declared.work.Sequel.{Sequel}
use Rattle.otp_rules.specs.declared.work.Sequel.TheVariants as sequel
use Rattle.otp_rules.specs.declared.work.Due.{Due}
use Rattle.otp_spec.specs.Flags.{is_simple}
use Rattle.otp_rules.specs.State.{Outcome, State, answer, is_busy, with_rows, with_waiting, with_work}
use Rattle.otp_rules.specs.Places.{end_row, end_process, is_removed, set_row}
use Rattle.otp_rules.specs.Restarts.{running}
use Rattle.otp_rules.specs.Stops.{calm_all, is_exit, without, told, tell_row, tell, use_exit, stop_each, terminate}
use Rattle.otp_rules.specs.Starts.{is_due, start_row, start}
use Rattle.otp_rules.specs.Ends.{end_all, refuse_all}
use Rattle.otp_rules.specs.Deaths.{restart_rows, restart}
use Rattle.otp_rules.specs.Calls.{new_row}
use Rattle.otp_rules.specs.Step.{open_rows, tick, decide, stamped, step, step_on, killed, late_number}
use Rattle.otp_rules.specs.Run.{empty_state, state_after}
use Rattle.otp_reason.specs.declared.reason.Reason.{Reason}
use Rattle.otp_spec.specs.declared.child.ChildSpec.{ChildSpec}
use Rattle.otp_rules.specs.State.{closed, is_over, put_last}
use Rattle.otp_rules.specs.Places.{at_number, at_row}
use Rattle.otp_rules.specs.declared.event.Effect.TheVariants as effect
use Rattle.otp_rules.specs.Deaths.{after_end, death, exit_in, take_exit}
use Rattle.otp_rules.specs.Restarts.{ends_by_significance, is_restarted}
use Rattle.otp_rules.specs.Starts.{at_starting, failed_after, if_starting, take_failed, take_ignored}
use Rattle.otp_rules.specs.Step.{open_with, opening_specs, resume, rows_from, take_item, take_note, take_waiting}
use Rattle.otp_rules.specs.Needs.{is_start, needs_number, numbers_of}
use Rattle.otp_rules.specs.Homes.{Brings, end_number}
use Rattle.otp_rules.specs.Fit.{next_number, rows_in, is_starting, IsLimited, IsSound}
use Rattle.otp_rules.specs.Progress.{is_end}
use Rattle.otp_rules.specs.InOrder.{is_stop, Finishes, IsBare, IsCalm, IsInOrder}
use Rattle.otp_rules.specs.Alive.{EndsChild, LivesIn, ProcessesLived, ProcessesLivedFrom, is_told_by}
use Rattle.otp_rules.proofs.GoesOn.{GoesOn, advance-on}
use Rattle.otp_rules.proofs.Walks.{stop_each-by, terminate-by, with_stops, counted_restart}
use Rattle.otp_rules.proofs.Decisions.{SurvivesEvent, StandsAt, at_row-survives, at_number-survives, by_test, decide-survives_event}
use Rattle.otp_rules.proofs.Counting.{at_row-found, end_row-quiet, put_count, remove_count, rows_in-at, rows_in-cons, rows_in-end, rows_in-set, set_count, tick_count, use_exit-quiet, rows_in-apart}
use Rattle.otp_rules.proofs.Finishing.{AreOne, not_starting, zero_or_more}
use Rattle.otp_rules.proofs.Homes.{has_starting, same_process}
use Rattle.otp_rules.proofs.Lasting.{calm-lives, contains_counts, counts_contain, is_live, lives, map-lives, empty_in_order, lawful_at_0, stays_in_order, tick_one, restarted-lives}
use Rattle.otp_rules.proofs.Numbers.{NoMore, calm_process, end-no_more, holders, no_more-survives, remove-no_more, restart_rows-no_more, set-no_more, tell-no_more, terminate-no_more, told_process, use_exit-no_more, restart-within}

-- how many Exits of the process wait
abbrev exits : ℕ → Outcome → ℕ
exits p o = count_by (is_exit p) o.state.waiting

-- one row at most has the process; where one has it, an Exit of it waits, or D holds
abbrev Ends : Type 0 → ℕ → Outcome → Type 0
Ends D p o = (holders p o ≤ 1) × (0 < holders p o → (0 < exits p o) ⊎ D)

-- besides, so many rows have it in this slot
abbrev Stays : Type 0 → ℕ → ℕ → ℕ → Outcome → Type 0
Stays D slot p m o = Ends D p o × (lives slot p o.state.rows ≤ m)

-- what takes neither more rows nor fewer exits
ends-less : (D : Type 0) (p : ℕ) (o new : Outcome) → holders p new ≤ holders p o → exits p o ≤ exits p new → Ends D p o → Ends D p new
ends-less D p o new less more h = (omega (arith, less, h.0), λ some. ⊎_elim (λ (w : 0 < exits p o). inl (omega (arith, w, more))) (λ d. inr d) (h.1 (omega (arith, some, less))))

stays-less : (D : Type 0) (slot p m : ℕ) (o new : Outcome) → holders p new ≤ holders p o → exits p o ≤ exits p new → lives slot p new.state.rows ≤ lives slot p o.state.rows → Stays D slot p m o → Stays D slot p m new
stays-less D slot p m o new less more fewer h = (ends-less D p o new less more h.0, omega (arith, fewer, h.1))

-- no row has the process any more
none-ends : (D : Type 0) (p : ℕ) (o : Outcome) → holders p o ≡ 0 → Ends D p o
none-ends D p o none = (omega (arith, none), λ some. absurd (omega (arith, none, some)))

-- how many rows have it in a slot, after a change

set-fewer : (slot p place : ℕ) (row : Row) (state : RowState) (o : Outcome) → StandsAt place row o → (has_process p state ≡ true → has_process p row.state ≡ true) → lives slot p (slice_set o.state.rows place (with_state state row)) ≤ lives slot p o.state.rows
set-fewer slot p place row state o at keeps =
    let e : lives slot p (slice_set o.state.rows place (with_state state row)) + cond (is_live slot p row) 1 0 ≡ lives slot p o.state.rows + cond (is_live slot p (with_state state row)) 1 0 = set_count (is_live slot p) o.state.rows place row (with_state state row) at in
    omega (arith, e, less (has_slot slot row) (has_process p state) (has_process p row.state) keeps)
  where
    less : (a b c : Bool) → (b ≡ true → c ≡ true) → cond (a && b) 1 0 ≤ cond (a && c) 1 0
    less true true c h = let one : ◌≡◌ {A = ℕ} (cond c 1 0) 1 = ap (λ (x : Bool). cond x 1 0) (h refl) in omega (arith, one)
    less true false c h = omega arith
    less false b c h = omega arith

remove-fewer : (slot p place : ℕ) (row : Row) (o : Outcome) → StandsAt place row o → lives slot p (remove o.state.rows place) ≤ lives slot p o.state.rows
remove-fewer slot p place row o at = let e : lives slot p (remove o.state.rows place) + cond (is_live slot p row) 1 0 ≡ lives slot p o.state.rows = remove_count (is_live slot p) o.state.rows place row at in omega (arith, e)

-- no more rows have it in this slot
abbrev Fewer : ℕ → ℕ → Outcome → Outcome → Type 0
Fewer slot p o new = lives slot p new.state.rows ≤ lives slot p o.state.rows

down-fewer : (slot p place : ℕ) (row : Row) (o : Outcome) → StandsAt place row o → Fewer slot p o (set_row place row Undefined o)
down-fewer slot p place row o at = set-fewer slot p place row Undefined o at (λ h. absurd (false≢true h))

end-fewer : (slot p place : ℕ) (row : Row) (o : Outcome) → StandsAt place row o → Fewer slot p o (end_row place row o)
unfolding end_row
end-fewer slot p place row o at =
    by_test (Fewer slot p o) (is_removed row) (with_rows (remove o.state.rows place) o) (set_row place row Undefined o) (λ _. remove-fewer slot p place row o at) (λ _. down-fewer slot p place row o at)

tell-fewer : (slot p q : ℕ) (o : Outcome) → Fewer slot p o (tell q o)
unfolding tell tell_row
tell-fewer slot p q o =
    at_number-survives (Fewer slot p o) q (tell_row q) o (omega arith)
    (λ i row at has. set-fewer slot p i row (told o.state.last q row.spec.shutdown) o at
    (λ mine. same_process q p row.state has (sym (told_process o.state.last q p row.spec.shutdown) ∙ mine)))

use_exit-fewer : (slot p q : ℕ) (place : Option ℕ) (o : Outcome) → Fewer slot p o (use_exit q place o)
unfolding use_exit end_process
use_exit-fewer slot p q place o =
    let left : Outcome = with_waiting (without o.state.waiting place) o in
    at_number-survives (Fewer slot p o) q end_row left (omega arith) (λ i row at has. end-fewer slot p i row left at)

-- what becomes of the Exits that wait

tell-waiting : (q : ℕ) (o : Outcome) → (tell q o).state.waiting ≡ o.state.waiting
unfolding tell tell_row
tell-waiting q o = at_number-survives (λ (x : Outcome). x.state.waiting ≡ o.state.waiting) q (tell_row q) o refl (λ i row at has. refl)

exits-same : (p : ℕ) (o new : Outcome) → new.state.waiting ≡ o.state.waiting → exits p o ≤ exits p new
exits-same p o new same = let e : exits p new ≡ exits p o = ap (λ (ws : List Waiting). count_by (is_exit p) ws) same in omega (arith, e)

-- an Exit is of one process
one_exit : (p q : ℕ) (w : Waiting) → is_exit q w ≡ true → is_exit p w ≡ true → (q == p) ≡ true
one_exit p q (waiting.Item (item.Note (note.Exit x r))) h k = eq-eqb q p (sym (eqb-true x q h) ∙ eqb-true x p k)
one_exit p q (waiting.Item (item.Note (note.Up x))) h k = absurd (false≢true h)
one_exit p q (waiting.Item (item.Note (note.Ignored x))) h k = absurd (false≢true h)
one_exit p q (waiting.Item (item.Note (note.Failed x r))) h k = absurd (false≢true h)
one_exit p q (waiting.Item (item.Call c x)) h k = absurd (false≢true h)
one_exit p q (waiting.Retry x) h k = absurd (false≢true h)

-- those of another process stay
other_exits : (p q : ℕ) (ws : List Waiting) → (q == p) ≡ false → count_by (is_exit p) ws ≤ count_by (is_exit p) (without ws (position (is_exit q) ws))
other_exits p q ws other =
    (elim (position (is_exit q) ws) as (λ (x : Option ℕ). position (is_exit q) ws ≡ x → count_by (is_exit p) ws ≤ count_by (is_exit p) (without ws x)) [
      | None ↦ λ e. omega arith
      | Some i ↦ λ e.
          let d : Waiting = waiting.Retry 0 in
          let at : (i < length ws) × (is_exit q (get_or ws i d) ≡ true) × ((j : ℕ) → j < i → is_exit q (get_or ws j d) ≡ false) = position-Some (is_exit q) ws i d e in
          let less : count_by (is_exit p) (remove ws i) + cond (is_exit p (get_or ws i d)) 1 0 ≡ count_by (is_exit p) ws = sum_by-remove (λ x. cond (is_exit p x) 1 0) ws i d at.0 in
          let none : ◌≡◌ {A = ℕ} (cond (is_exit p (get_or ws i d)) 1 0) 0 =
          ⊎_elim (λ is. absurd (false≢true (sym other ∙ one_exit p q (get_or ws i d) at.1 is))) (λ isnt. ap (λ (b : Bool). cond b 1 0) isnt) (cases_Bool (is_exit p (get_or ws i d))) in
          omega (arith, less, none)
    ]) refl

-- what is done at the row of the process, where one row at most has it: the property is wanted of what is done alone
at_process : (P : Outcome → Type 0) (p : ℕ) (f : ℕ → Row → Outcome → Outcome) (o : Outcome) → (holders p o ≡ 0 → P o) → ((place : ℕ) (row : Row) → StandsAt place row o → has_process p row.state ≡ true → P (f place row o)) → P (at_number p f o)
unfolding at_number
at_process P p f o none each =
    ⊎_elim
    (λ (zero : holders p o ≡ 0). at_row-survives P (row_has (has_process p)) o f o (none zero) (none zero) each)
    (λ (some : 0 < holders p o). at_row-found P (row_has (has_process p)) o f o some each)
    (zero_or_more (holders p o))

-- the row ends: none has the process
end-none : (p place : ℕ) (row : Row) (o : Outcome) → holders p o ≤ 1 → StandsAt place row o → has_process p row.state ≡ true → holders p (end_row place row o) ≡ 0
end-none p place row o one at has =
    let e : holders p (end_row place row o) + cond (has_process p row.state) 1 0 ≡ holders p o = rows_in-end (has_process p) refl place row o at in
    let c : ◌≡◌ {A = ℕ} (cond (has_process p row.state) 1 0) 1 = ap (λ (b : Bool). cond b 1 0) has in
    omega (arith, e, c, one)

set-none : (p place : ℕ) (row : Row) (state : RowState) (o : Outcome) → holders p o ≤ 1 → StandsAt place row o → has_process p row.state ≡ true → has_process p state ≡ false → rows_in (has_process p) (slice_set o.state.rows place (with_state state row)) ≡ 0
set-none p place row state o one at has none =
    let e : rows_in (has_process p) (slice_set o.state.rows place (with_state state row)) + cond (has_process p row.state) 1 0 ≡ holders p o + cond (has_process p state) 1 0 = rows_in-set (has_process p) place row state o.state.rows at in
    let c : ◌≡◌ {A = ℕ} (cond (has_process p row.state) 1 0) 1 = ap (λ (b : Bool). cond b 1 0) has in
    let z : ◌≡◌ {A = ℕ} (cond (has_process p state) 1 0) 0 = ap (λ (b : Bool). cond b 1 0) none in
    omega (arith, e, c, z, one)

use_exit-none : (p : ℕ) (place : Option ℕ) (o : Outcome) → holders p o ≤ 1 → holders p (use_exit p place o) ≡ 0
unfolding use_exit end_process
use_exit-none p place o one =
    let left : Outcome = with_waiting (without o.state.waiting place) o in
    at_process (λ (x : Outcome). holders p x ≡ 0) p end_row left (λ none. none) (λ i row at has. end-none p i row left one at has)

same_less : (o : Outcome) → NoMore o o
same_less o q = omega arith

use_exit-stays : (D : Type 0) (slot p m q : ℕ) (o : Outcome) → Stays D slot p m o → Stays D slot p m (use_exit q (position (is_exit q) o.state.waiting) o)
use_exit-stays D slot p m q o h =
    let place : Option ℕ = position (is_exit q) o.state.waiting in
    let fewer : Fewer slot p o (use_exit q place o) = use_exit-fewer slot p q place o in
    let less : NoMore o (use_exit q place o) = use_exit-no_more q place o o (same_less o) in
    let waits : exits p (use_exit q place o) ≡ count_by (is_exit p) (without o.state.waiting place) = ap (λ (ws : List Waiting). count_by (is_exit p) ws) (use_exit-quiet q place o).0 in
    ⊎_elim
    (λ (mine : (q == p) ≡ true).
    let none : holders q (use_exit q place o) ≡ 0 = use_exit-none q place o (subst (λ (n : ℕ). holders n o ≤ 1) (sym (eqb-true q p mine)) h.0.0) in
    (none-ends D p (use_exit q place o) (subst (λ (n : ℕ). holders n (use_exit q place o) ≡ 0) (eqb-true q p mine) none), omega (arith, fewer, h.1)))
    (λ (other : (q == p) ≡ false). stays-less D slot p m o (use_exit q place o) (less p) (omega (arith, waits, other_exits p q o.state.waiting other)) fewer h)
    (cases_Bool (q == p))

tell-stays : (D : Type 0) (slot p m q : ℕ) (o : Outcome) → Stays D slot p m o → Stays D slot p m (tell q o)
tell-stays D slot p m q o h = let less : NoMore o (tell q o) = tell-no_more q o o (same_less o) in stays-less D slot p m o (tell q o) (less p) (exits-same p o (tell q o) (tell-waiting q o)) (tell-fewer slot p q o) h

stop_each-stays : (D : Type 0) (slot p m : ℕ) (qs : List ℕ) (o : Outcome) → Stays D slot p m o → Stays D slot p m (stop_each qs o)
stop_each-stays D slot p m = stop_each-by (Stays D slot p m) (λ q o _ h. use_exit-stays D slot p m q o h) (λ q o _ h. tell-stays D slot p m q o h)

terminate-stays : (D : Type 0) (slot p m : ℕ) (e : Ending) (o : Outcome) → Stays D slot p m o → Stays D slot p m (terminate e o)
terminate-stays D slot p m e o h =
    let calm : Stays D slot p m (calm_all o) = stays-less D slot p m o (calm_all o) (omega (arith, calm_process p o.state.rows)) (omega arith) (omega (arith, calm-lives slot p o.state.rows)) h in
    terminate-by (Stays D slot p m) e o
    (λ _. stop_each-stays D slot p m (running o.state.rows) (calm_all (with_work [] [] (Some (sequel.End e)) o)) calm)
    (λ _. calm)

-- the restart of a child whose row is down already
restart-stays : (D : Type 0) (slot p m k place : ℕ) (row : Row) (o : Outcome) → StandsAt place row o → Stays D slot p m (set_row place row Undefined o) → Stays D slot p m (restart k place row o)
unfolding restart_rows
restart-stays D slot p m k place row o at h =
    let counted : Outcome = counted_restart place row o in
    restart-within (Stays D slot p m) k place row o at (terminate-stays D slot p m ending.Intensity counted h) (λ from to le.
    let less : NoMore counted (restart_rows from to place k counted) = restart_rows-no_more from to place k counted counted le (same_less counted) in
    stays-less D slot p m counted (restart_rows from to place k counted) (less p) (omega arith) (omega (arith, restarted-lives slot p from to counted.state.rows le)) h)

answer-stays : (D : Type 0) (slot p m c : ℕ) (r : Reply) (o : Outcome) → Stays D slot p m o → Stays D slot p m (answer c r o)
unfolding answer
answer-stays D slot p m c r o h = h

end-stays : (D : Type 0) (slot p m place : ℕ) (row : Row) (o : Outcome) → StandsAt place row o → Stays D slot p m o → Stays D slot p m (end_row place row o)
end-stays D slot p m place row o at h =
    let less : NoMore o (end_row place row o) = end-no_more place row o o at (same_less o) in
    stays-less D slot p m o (end_row place row o) (less p) (exits-same p o (end_row place row o) (end_row-quiet place row o).0) (end-fewer slot p place row o at) h

set-stays : (D : Type 0) (slot p m place : ℕ) (row : Row) (state : RowState) (o : Outcome) → StandsAt place row o → ((x : ℕ) → has_process x state ≡ true → has_process x row.state ≡ true) → Stays D slot p m o → Stays D slot p m (set_row place row state o)
set-stays D slot p m place row state o at keeps h =
    let less : NoMore o (set_row place row state o) = set-no_more place row state o o at (λ x. as_often (has_process x state) (has_process x row.state) (keeps x)) (same_less o) in
    stays-less D slot p m o (set_row place row state o) (less p) (omega arith) (set-fewer slot p place row state o at (keeps p)) h
  where
    as_often : (b c : Bool) → (b ≡ true → c ≡ true) → cond b 1 0 ≤ cond c 1 0
    as_often true c h = let one : ◌≡◌ {A = ℕ} (cond c 1 0) 1 = ap (λ (x : Bool). cond x 1 0) (h refl) in omega (arith, one)
    as_often false c h = omega arith

tick-stays : (D : Type 0) (slot p m : ℕ) (o : Outcome) → holders p (tick o) ≡ holders p o → Stays D slot p m o → Stays D slot p m (tick o)
unfolding tick
tick-stays D slot p m o same h =
    stays-less D slot p m o (tick o) (omega (arith, same)) (omega arith)
    (omega (arith, map-lives slot p (λ (row : Row). killed row (late_number o.state.last row.state)) (λ row. tick_one slot p o.state.last row row.state refl) o.state.rows)) h

new-lives : (slot p from : ℕ) (specs : List ChildSpec) → lives slot p (rows_from from specs) ≡ 0
new-lives slot p from [] = refl
new-lives slot p from (spec ∷ specs) =
    let no : ◌≡◌ {A = ℕ} (cond (is_live slot p (new_row from (Some spec.id) spec)) 1 0) 0 = ap (λ (b : Bool). cond b 1 0) (none (has_slot slot (new_row from (Some spec.id) spec))) in
    omega (arith, no, sum_by-cons (λ (r : Row). cond (is_live slot p r) 1 0) (new_row from (Some spec.id) spec) (rows_from (from + 1) specs), new-lives slot p (from + 1) specs)
  where
    none : (b : Bool) → (b && false) ≡ false
    none true = refl
    none false = refl

new-holders : (p from : ℕ) (specs : List ChildSpec) → rows_in (has_process p) (rows_from from specs) ≡ 0
new-holders p from [] = refl
new-holders p from (spec ∷ specs) = omega (arith, rows_in-cons (has_process p) (new_row from (Some spec.id) spec) (rows_from (from + 1) specs), new-holders p (from + 1) specs)

open-stays : (D : Type 0) (slot p m own : ℕ) (o : Outcome) → Stays D slot p m (open_rows own o)
unfolding open_rows open_with
open-stays D slot p m own o =
    let specs : List ChildSpec = opening_specs (is_simple o.state.flags.strategy) o.state.specs in
    let none : rows_in (has_process p) (rows_from 0 specs) ≡ 0 = new-holders p 0 specs in
    ((omega (arith, none), λ some. absurd (omega (arith, none, some))), omega (arith, new-lives slot p 0 specs))

put-stays : (D : Type 0) (slot p m : ℕ) (w : Waiting) (o : Outcome) → Stays D slot p m o → Stays D slot p m (put_last w o)
put-stays D slot p m w o h = stays-less D slot p m o (put_last w o) (omega arith) (omega (arith, put_count p o.state.waiting w)) (omega arith) h

-- the first that waits is an Exit of this process
abbrev is_first_exit : ℕ → List Waiting → Bool
is_first_exit p [] = false
is_first_exit p (w ∷ ws) = is_exit p w

-- the event takes that Exit of what waits
abbrev TakesFirst : Kind → ℕ → Outcome → Type 0
TakesFirst k p old = (k ≡ kind.Resumed) × (is_first_exit p old.state.waiting ≡ true)

stays-survives : (D : Type 0) (k : Kind) (G : Item → Type 0) (old : Outcome) (slot p m : ℕ) → (TakesFirst k p old → D) → SurvivesEvent k G old (Stays D slot p m)
stays-survives D k G old slot p m ends =
    record {
      answered = λ c r o quiet h. answer-stays D slot p m c r o h;
      taken = λ w ws resumed idle runs is h. (
        (
          h.0.0,
          λ some.
              ⊎_elim
              (λ (first : is_exit p w ≡ true). inr (ends (resumed, ap (λ (l : List Waiting). is_first_exit p l) is ∙ first)))
              (λ (other : is_exit p w ≡ false).
              let no : ◌≡◌ {A = ℕ} (cond (is_exit p w) 1 0) 0 = ap (λ (b : Bool). cond b 1 0) other in
              let all : exits p old ≡ count_by (is_exit p) (w ∷ ws) = ap (λ (l : List Waiting). count_by (is_exit p) l) is in
              ⊎_elim (λ (x : 0 < exits p old). inl (omega (arith, x, all, no, sum_by-cons (λ (y : Waiting). cond (is_exit p y) 1 0) w ws))) (λ d. inr d) (h.0.1 some))
              (cases_Bool (is_exit p w)),
        ),
        h.1,
      );
      call_waits = λ c x o u busy g h. put-stays D slot p m (waiting.Item (item.Call c x)) o h;
      exit_waits = λ q r place row o u at has g h. put-stays D slot p m (waiting.Item (item.Note (note.Exit q r))) o h;
      up = λ q place row n kept o u at is same g h. set-stays D slot p m place row (Up q) o at (λ x has. same_process q x row.state (has_starting row n kept q is same) has) h;
      up_closed = λ q place row n kept c o u at is same follows g h. set-stays D slot p m place row (Up q) o at (λ x has. same_process q x row.state (has_starting row n kept q is same) has) h;
      ignored = λ q place row n kept o u at is same g h. end-stays D slot p m place row o at h;
      opening_failed = λ place row q kept o u runs at is follows g h.
          terminate-stays D slot p m (ending.InitFailed row.spec.id) (set_row place row Undefined o) (set-stays D slot p m place row Undefined o at (λ x has. absurd (false≢true has)) h);
      restart_failed = λ place row q kept o u at is follows g h.
          put-stays D slot p m (waiting.Retry kept) (set_row place row (Restarting kept) o) (set-stays D slot p m place row (Restarting kept) o at (λ x has. absurd (false≢true has)) h);
      added_failed = λ place row q kept c o u at is follows g h.
          let less : NoMore o (with_rows (remove o.state.rows place) o) = remove-no_more place row o o at (same_less o) in
          stays-less D slot p m o (with_rows (remove o.state.rows place) o) (less p) (omega arith) (remove-fewer slot p place row o at) h;
      restarted_failed = λ place row q kept c o u at is follows g h. set-stays D slot p m place row Undefined o at (λ x has. absurd (false≢true has)) h;
      stopped = λ q r place row o u at told g h. end-stays D slot p m place row o at h;
      died = λ q place row o u idle runs at is g h. end-stays D slot p m place row o at h;
      restarts = λ q place row o u idle runs at is h. restart-stays D slot p m q place row o at (set-stays D slot p m place row Undefined o at (λ x has. absurd (false≢true has)) h);
      ends = λ e o u other idle runs h. terminate-stays D slot p m e o h;
      ticks = λ is h. tick-stays D slot p m old (tick_count (has_process p) (λ q d. refl) old) h;
      opens = λ own is over h. open-stays D slot p m own old;
      adds = λ c id spec o u idle runs named few got h.
          let row : Row = new_row (free_slot o.state.rows) id spec in
          let less : NoMore o (with_work [] (record { id = id; kept = None } ∷ []) (Some (sequel.Added c)) (with_rows (o.state.rows ++ row ∷ []) o)) = (no_more-survives o k (is_busy old)).adds c id spec o idle runs named (same_less o) in
          let no : ◌≡◌ {A = ℕ} (cond (is_live slot p row) 1 0) 0 = ap (λ (b : Bool). cond b 1 0) (never (has_slot slot row)) in
          stays-less D slot p m o (with_work [] (record { id = id; kept = None } ∷ []) (Some (sequel.Added c)) (with_rows (o.state.rows ++ row ∷ []) o)) (less p) (omega arith)
          (omega (arith, no, sum_by-append (λ (r : Row). cond (is_live slot p r) 1 0) o.state.rows (row ∷ []), sum_by-cons (λ (r : Row). cond (is_live slot p r) 1 0) row [])) h;
      starts_again = λ c id place row o u idle runs at has is noted found h. h;
      removed = λ place row o u idle runs at down h.
          let less : NoMore o (with_rows (remove o.state.rows place) o) = remove-no_more place row o o at (same_less o) in
          stays-less D slot p m o (with_rows (remove o.state.rows place) o) (less p) (omega arith) (remove-fewer slot p place row o at) h;
      given_up = λ place row o u idle runs at down h. set-stays D slot p m place row Undefined o at (λ x has. absurd (false≢true has)) h;
      stops_child = λ c q place row o u idle runs at up has got h. h;
    }
  where
    never : (b : Bool) → (b && false) ≡ false
    never true = refl
    never false = refl

decided-stays : (D : Type 0) (k : Kind) (old : Outcome) (slot p m : ℕ) → (TakesFirst k p old → D) → Stays D slot p m old → Stays D slot p m (decide k old)
decided-stays D k old slot p m ends h =
    let G : Item → Type 0 = Brings k old.state.waiting in
    decide-survives_event k G old (Stays D slot p m) (stays-survives D k G old slot p m ends) (λ i b idle. b) h

-- the note of the end of a process: no row has it any more, or its Exit waits

abbrev Gone : ℕ → Outcome → Type 0
Gone p o = Ends ⊥ p o

after_end-none : (p q : ℕ) (row : Row) (o : Outcome) → holders p o ≡ 0 → holders p (after_end q row o) ≡ 0
unfolding after_end
after_end-none p q row o none =
    let less : NoMore o (terminate (ending.Significant q) o) = terminate-no_more (ending.Significant q) o o (same_less o) in
    by_test (λ (x : Outcome). holders p x ≡ 0) (ends_by_significance o.state.flags.auto_shutdown row o.state.rows) (terminate (ending.Significant q) o) o (λ _. omega (arith, less p, none)) (λ _. none)

restart-none : (p k place : ℕ) (row : Row) (o : Outcome) → StandsAt place row o → holders p (set_row place row Undefined o) ≡ 0 → holders p (restart k place row o) ≡ 0
restart-none p k place row o at none =
    let counted : Outcome = counted_restart place row o in
    restart-within (λ (x : Outcome). holders p x ≡ 0) k place row o at
    (let over : NoMore counted (terminate ending.Intensity counted) = terminate-no_more ending.Intensity counted counted (same_less counted) in omega (arith, over p, none))
    (λ from to le. let again : NoMore counted (restart_rows from to place k counted) = restart_rows-no_more from to place k counted counted le (same_less counted) in omega (arith, again p, none))

death-none : (p : ℕ) (r : Reason) (place : ℕ) (row : Row) (o : Outcome) → holders p o ≤ 1 → StandsAt place row o → has_process p row.state ≡ true → holders p (death p r place row o) ≡ 0
unfolding death
death-none p r place row o one at has =
    by_test (λ (x : Outcome). holders p x ≡ 0) (is_restarted row.spec.restart r) (restart p place row o) (after_end p row (end_row place row o))
    (λ _. restart-none p p place row o at (set-none p place row Undefined o one at has refl))
    (λ _. after_end-none p p row (end_row place row o) (end-none p place row o one at has))

put-gone : (p : ℕ) (r : Reason) (o : Outcome) → holders p o ≤ 1 → Gone p (put_last (waiting.Item (item.Note (note.Exit p r))) o)
put-gone p r o one =
    let w : Waiting = waiting.Item (item.Note (note.Exit p r)) in
    let c : ◌≡◌ {A = ℕ} (cond (is_exit p w) 1 0) 1 = ap (λ (b : Bool). cond b 1 0) (eq-eqb p p refl) in
    (one, λ some. inl (omega (arith, put_count p o.state.waiting w, c)))

exit_in-gone : (p : ℕ) (r : Reason) (place : ℕ) (row : Row) (state : RowState) (o : Outcome) → row.state ≡ state → has_process p state ≡ true → StandsAt place row o → holders p o ≤ 1 → Gone p (exit_in p r place row state o)
unfolding exit_in
exit_in-gone p r place row Undefined o is has at one = absurd (false≢true has)
exit_in-gone p r place row (Starting q k) o is has at one = put-gone p r o one
exit_in-gone p r place row (Up q) o is has at one =
    by_test (Gone p) (is_busy o) (put_last (waiting.Item (item.Note (note.Exit p r))) o) (death p r place row o) (λ _. put-gone p r o one)
    (λ _. none-ends ⊥ p (death p r place row o) (death-none p r place row o one at (ap (λ (t : RowState). has_process p t) is ∙ has)))
exit_in-gone p r place row (Asked q d) o is has at one = none-ends ⊥ p (end_row place row o) (end-none p place row o one at (ap (λ (t : RowState). has_process p t) is ∙ has))
exit_in-gone p r place row (Killed q) o is has at one = none-ends ⊥ p (end_row place row o) (end-none p place row o one at (ap (λ (t : RowState). has_process p t) is ∙ has))
exit_in-gone p r place row (Restarting k) o is has at one = absurd (false≢true has)

take_exit-gone : (p : ℕ) (r : Reason) (o : Outcome) → holders p o ≤ 1 → Gone p (take_exit p r o)
unfolding take_exit
take_exit-gone p r o one =
    at_process (Gone p) p (λ place row. exit_in p r place row row.state) o (λ none. none-ends ⊥ p o none) (λ place row at has. exit_in-gone p r place row row.state o refl has at one)

-- a process that is up, or was told to stop
abbrev is_past_start : ℕ → RowState → Bool
is_past_start p Undefined = false
is_past_start p (Starting _ _) = false
is_past_start p (Up q) = q == p
is_past_start p (Asked q _) = q == p
is_past_start p (Killed q) = q == p
is_past_start p (Restarting _) = false

two_kinds : (p : ℕ) (rows : List Row) → rows_in (is_starting p) rows + rows_in (is_past_start p) rows ≤ rows_in (has_process p) rows
two_kinds p = rows_in-apart (is_starting p) (is_past_start p) (has_process p) one
  where
    one : (state : RowState) → cond (is_starting p state) 1 0 + cond (is_past_start p state) 1 0 ≤ cond (has_process p state) 1 0
    one Undefined = omega arith
    one (Starting _ _) = omega arith
    one (Up _) = omega arith
    one (Asked _ _) = omega arith
    one (Killed _) = omega arith
    one (Restarting _) = omega arith

-- the row that has the process is the one that is starting
starts_there : (p place : ℕ) (row other : Row) (o : Outcome) → holders p o ≤ 1 → Contains o.state.rows other → is_starting p other.state ≡ true → StandsAt place row o → has_process p row.state ≡ true → is_starting p row.state ≡ true
starts_there p place row other o one among starts at has =
    let some : 0 < rows_in (is_starting p) o.state.rows = contains_counts (row_has (is_starting p)) o.state.rows other among starts in
    by row.state has (omega (arith, some, one, two_kinds p o.state.rows, rows_in-at (is_past_start p) place row o.state.rows at))
  where
    no : (b : Bool) → b ≡ true → ◌≡◌ {A = ℕ} (cond b 1 0) 0 → ⊥
    no true h z = omega (arith, z)
    no false h z = false≢true h

    by : (state : RowState) → has_process p state ≡ true → ◌≡◌ {A = ℕ} (cond (is_past_start p state) 1 0) 0 → is_starting p state ≡ true
    by Undefined h z = absurd (false≢true h)
    by (Starting q k) h z = h
    by (Up q) h z = absurd (no (q == p) h z)
    by (Asked q d) h z = absurd (no (q == p) h z)
    by (Killed q) h z = absurd (no (q == p) h z)
    by (Restarting k) h z = absurd (false≢true h)

-- what is done at a row that is starting
if_starting-gone : (p place : ℕ) (row : Row) (state : RowState) (f : ℕ → Outcome → Outcome) (o : Outcome) → row.state ≡ state → is_starting p state ≡ true → ((q k : ℕ) → row.state ≡ Starting q k → Gone p (f k o)) → Gone p (if_starting f state o)
if_starting-gone p place row Undefined f o is starts each = absurd (false≢true starts)
if_starting-gone p place row (Starting q k) f o is starts each = each q k is
if_starting-gone p place row (Up q) f o is starts each = absurd (false≢true starts)
if_starting-gone p place row (Asked q d) f o is starts each = absurd (false≢true starts)
if_starting-gone p place row (Killed q) f o is starts each = absurd (false≢true starts)
if_starting-gone p place row (Restarting k) f o is starts each = absurd (false≢true starts)

take_ignored-gone : (p : ℕ) (other : Row) (o : Outcome) → holders p o ≤ 1 → Contains o.state.rows other → is_starting p other.state ≡ true → Gone p (take_ignored p o)
unfolding take_ignored at_starting
take_ignored-gone p other o one among starts =
    at_process (Gone p) p (λ place row. if_starting (λ k. end_row place row) row.state) o (λ none. none-ends ⊥ p o none)
    (λ place row at has.
    if_starting-gone p place row row.state (λ k. end_row place row) o refl (starts_there p place row other o one among starts at has)
    (λ q k is. none-ends ⊥ p (end_row place row o) (end-none p place row o one at has)))

-- the work that is open is in order: no start is awaited while it stops children for a call or for the end
abbrev IsTidy : State → Type 0
IsTidy s = IsSound s × IsCalm s × Finishes s

remove-none : (p place : ℕ) (row : Row) (o : Outcome) → holders p o ≤ 1 → StandsAt place row o → has_process p row.state ≡ true → rows_in (has_process p) (remove o.state.rows place) ≡ 0
remove-none p place row o one at has =
    let e : rows_in (has_process p) (remove o.state.rows place) + cond (has_process p row.state) 1 0 ≡ holders p o = remove_count (row_has (has_process p)) o.state.rows place row at in
    let c : ◌≡◌ {A = ℕ} (cond (has_process p row.state) 1 0) 1 = ap (λ (b : Bool). cond b 1 0) has in
    omega (arith, e, c, one)

failed_after-gone : (p : ℕ) (r : Reason) (k place : ℕ) (row : Row) (q : ℕ) (f : Option Sequel) (o : Outcome) → o.state.follows ≡ f → IsTidy o.state → row.state ≡ Starting q k → holders p o ≤ 1 → StandsAt place row o → has_process p row.state ≡ true → Gone p (failed_after r k place row f o)
unfolding failed_after answer
failed_after-gone p r k place row q None o is tidy starts one at has =
    let none : rows_in is_awaited o.state.rows ≡ 0 = subst (λ (x : Option Sequel). IsLimited x (rows_in is_awaited o.state.rows)) is tidy.0.0 in
    let c : ◌≡◌ {A = ℕ} (cond (is_awaited row.state) 1 0) 1 = ap (λ (t : RowState). cond (is_awaited t) 1 0) starts in
    absurd (omega (arith, rows_in-at is_awaited place row o.state.rows at, c, none))
failed_after-gone p r k place row q (Some sequel.Ready) o is tidy starts one at has =
    let down : Outcome = set_row place row Undefined o in
    let less : NoMore down (terminate (ending.InitFailed row.spec.id) down) = terminate-no_more (ending.InitFailed row.spec.id) down down (same_less down) in
    none-ends ⊥ p (terminate (ending.InitFailed row.spec.id) down) (omega (arith, less p, set-none p place row Undefined o one at has refl))
failed_after-gone p r k place row q (Some sequel.Nothing) o is tidy starts one at has =
    none-ends ⊥ p (closed (put_last (waiting.Retry k) (set_row place row (Restarting k) o))) (set-none p place row (Restarting k) o one at has refl)
failed_after-gone p r k place row q (Some (sequel.Added c)) o is tidy starts one at has =
    none-ends ⊥ p (closed (with_rows (remove o.state.rows place) o)) (remove-none p place row o one at has)
failed_after-gone p r k place row q (Some (sequel.Restarted c)) o is tidy starts one at has =
    none-ends ⊥ p (closed (set_row place row Undefined o)) (set-none p place row Undefined o one at has refl)
failed_after-gone p r k place row q (Some (sequel.Stopped c)) o is tidy starts one at has = absurd (not_starting place row q k o at starts (tidy.1 (ap is_stop is)).0)
failed_after-gone p r k place row q (Some (sequel.End x)) o is tidy starts one at has = absurd (not_starting place row q k o at starts (tidy.2 (ap is_end is)).1)

take_failed-gone : (p : ℕ) (r : Reason) (other : Row) (o : Outcome) → IsTidy o.state → holders p o ≤ 1 → Contains o.state.rows other → is_starting p other.state ≡ true → Gone p (take_failed p r o)
unfolding take_failed at_starting
take_failed-gone p r other o tidy one among starts =
    at_process (Gone p) p (λ place row. if_starting (λ k x. failed_after r k place row x.state.follows x) row.state) o (λ none. none-ends ⊥ p o none)
    (λ place row at has.
    if_starting-gone p place row row.state (λ k x. failed_after r k place row x.state.follows x) o refl (starts_there p place row other o one among starts at has)
    (λ q k is. failed_after-gone p r k place row q o.state.follows o refl tidy is one at has))

take_note-gone : (p : ℕ) (x : Note) (other : Row) (o : Outcome) → end_number x ≡ Some p → IsTidy o.state → AreOne o → Contains o.state.rows other → is_told_by x other.state ≡ true → Gone p (take_note x o)
unfolding take_note
take_note-gone p (note.Up q) other o ends tidy one among told = absurd (search (rules, ends))
take_note-gone p (note.Ignored q) other o ends tidy one among told =
    subst (λ (n : ℕ). Gone n (take_ignored q o)) (ap (λ (x : Option ℕ). unwrap_or x q) ends) (take_ignored-gone q other o (one q) among told)
take_note-gone p (note.Failed q r) other o ends tidy one among told =
    subst (λ (n : ℕ). Gone n (take_failed q r o)) (ap (λ (x : Option ℕ). unwrap_or x q) ends) (take_failed-gone q r other o tidy (one q) among told)
take_note-gone p (note.Exit q r) other o ends tidy one among told =
    subst (λ (n : ℕ). Gone n (take_exit q r o)) (ap (λ (x : Option ℕ). unwrap_or x q) ends) (take_exit-gone q r o (one q))

no_holders : (p : ℕ) (rows : List Row) → rows ≡ [] → rows_in (has_process p) rows ≡ 0
no_holders p rows none = ap (λ (l : List Row). rows_in (has_process p) l) none

-- the event takes the note
took-gone : (p : ℕ) (x : Note) (other : Row) (o : Outcome) → end_number x ≡ Some p → IsTidy o.state → IsBare o.state → AreOne o → Contains o.state.rows other → is_told_by x other.state ≡ true → Gone p (decide (kind.Took (item.Note x)) o)
unfolding decide take_item
took-gone p x other o ends tidy bare one among told =
    by_test (Gone p) (is_over o.state.phase) o (take_note x o) (λ over. none-ends ⊥ p o (no_holders p o.state.rows (bare over))) (λ _. take_note-gone p x other o ends tidy one among told)

-- the event takes up its Exit, which waited first
resume-gone : (p : ℕ) (ws : List Waiting) (o : Outcome) → AreOne o → is_over o.state.phase ≡ false → is_first_exit p ws ≡ true → Gone p (resume ws o)
unfolding resume take_waiting take_item take_note
resume-gone p [] o one runs first = absurd (false≢true first)
resume-gone p (waiting.Item (item.Note (note.Exit q r)) ∷ ws) o one runs first =
    let left : Outcome = with_waiting ws o in
    by_test (Gone p) (is_over o.state.phase) left (take_exit q r left) (λ over. absurd (false≢true (sym runs ∙ over)))
    (λ _. subst (λ (n : ℕ). Gone n (take_exit q r left)) (eqb-true q p first) (take_exit-gone q r left (one q)))
resume-gone p (waiting.Item (item.Note (note.Up q)) ∷ ws) o one runs first = absurd (false≢true first)
resume-gone p (waiting.Item (item.Note (note.Ignored q)) ∷ ws) o one runs first = absurd (false≢true first)
resume-gone p (waiting.Item (item.Note (note.Failed q r)) ∷ ws) o one runs first = absurd (false≢true first)
resume-gone p (waiting.Item (item.Call c x) ∷ ws) o one runs first = absurd (false≢true first)
resume-gone p (waiting.Retry k ∷ ws) o one runs first = absurd (false≢true first)

resumed-gone : (p : ℕ) (o : Outcome) → AreOne o → 0 < exits p o → is_first_exit p o.state.waiting ≡ true → Gone p (decide kind.Resumed o)
unfolding decide
resumed-gone p o one some first =
    by_test (Gone p) (is_busy o) o (if is_over o.state.phase then o else resume o.state.waiting o) (λ _. (one p, λ _. inl some))
    (λ _. by_test (Gone p) (is_over o.state.phase) o (resume o.state.waiting o) (λ _. (one p, λ _. inl some)) (λ runs. resume-gone p o.state.waiting o one runs first))

-- an Exit of it waits before the event
waited-gone : (p : ℕ) (k : Kind) (o : Outcome) → AreOne o → 0 < exits p o → Gone p (decide k o)
waited-gone p k o one some =
    let h : Stays (TakesFirst k p o) 0 p (lives 0 p o.state.rows) (decide k o) = decided-stays (TakesFirst k p o) k o 0 p (lives 0 p o.state.rows) (λ d. d) ((one p, λ _. inl some), omega arith) in (
      h.0.0,
      λ held. ⊎_elim (λ w. inl w) (λ (d : TakesFirst k p o). (subst (λ (j : Kind). Gone p (decide j o)) (sym d.0) (resumed-gone p o one some d.1)).1 held) (h.0.1 held),
    )

-- the work goes on: it stays so, or the process is the one that is started

abbrev Goes : Type 0 → ℕ → ℕ → ℕ → ℕ → Outcome → Type 0
Goes D slot p m n o = Stays D slot p m o ⊎ ((list_any is_start o.orders ≡ true) × ((n == p) ≡ true))

start-goes : (D : Type 0) (slot p m : ℕ) (due : Due) (n : ℕ) (o : Outcome) → Stays D slot p m o → Goes D slot p m n (start due n o)
unfolding start start_row
start-goes D slot p m due n o h =
    let x : Outcome = at_row (is_due due) o (start_row due n) o in
    ⊎_elim
    (λ (same : (n == p) ≡ true). inr (list_any-append is_start x.orders (effect.Start due.id n ∷ []) ∙ or_true (list_any is_start x.orders), same))
    (λ (other : (n == p) ≡ false).
    inl (at_row-survives (Stays D slot p m) (is_due due) o (start_row due n) o h h
    (λ i row at has.
    let now : RowState = Starting n (unwrap_or due.kept n) in
    let e : rows_in (has_process p) (slice_set o.state.rows i (with_state now row)) + cond (has_process p row.state) 1 0 ≡ holders p o + cond (n == p) 1 0 = rows_in-set (has_process p) i row now o.state.rows at in
    let z : ◌≡◌ {A = ℕ} (cond (n == p) 1 0) 0 = ap (λ (b : Bool). cond b 1 0) other in
    stays-less D slot p m o (set_row i row now o) (omega (arith, e, z)) (omega arith) (set-fewer slot p i row now o at (λ mine. absurd (false≢true (sym other ∙ mine)))) h)))
    (cases_Bool (n == p))
  where
    or_true : (b : Bool) → (b || (true || false)) ≡ true
    or_true true = refl
    or_true false = refl

going : (D : Type 0) (slot p m n : ℕ) → GoesOn n (λ _. Stays D slot p m) (Goes D slot p m n)
unfolding answer end_all refuse_all
going D slot p m n =
    record {
      uses = λ q rest o _ h. use_exit-stays D slot p m q (with_stops rest o) h;
      tells = λ q rest o _ h. inl (tell-stays D slot p m q (with_stops rest o) h);
      starts = λ due dues o _ h. start-goes D slot p m due n (with_work o.state.to_stop dues o.state.follows o) h;
      closes = λ f o _ _ h. inl h;
      answers = λ c r f o _ _ h. inl h;
      ready = λ o _ h. inl h;
      ends = λ e o _ h. inl ((omega arith, λ some. absurd (omega (arith, some))), omega arith);
    }

step-goes_on : (D : Type 0) (slot p m : ℕ) (s : State) (e : Event) → Stays D slot p m (decide e.kind (record { state = stamped e.reading s; orders = [] })) → Goes D slot p m (unwrap_or e.number 0) (step s e)
unfolding step step_on
step-goes_on D slot p m s e h =
    advance-on (unwrap_or e.number 0) (λ _. Stays D slot p m) (Goes D slot p m (unwrap_or e.number 0)) (going D slot p m (unwrap_or e.number 0)) (decide e.kind (record { state = stamped e.reading s; orders = [] })) (λ _. inl h) (λ _ _. h)

-- an event that starts a child has its number
is_own_number : (s : State) (e : Event) (p : ℕ) → is_some e.number ≡ needs_number s e.reading e.kind → list_any is_start (step s e).orders ≡ true → (unwrap_or e.number 0 == p) ≡ true → e.number ≡ Some p
unfolding needs_number
is_own_number s e p needed starts same = by e.number refl
  where
    by : (n : Option ℕ) → e.number ≡ n → e.number ≡ Some p
    by None is =
        let quiet : list_any is_start (step s e).orders ≡ false = ap (λ (x : Option ℕ). list_any is_start (step s (record { reading = e.reading; number = x; kind = e.kind })).orders) is ∙ sym needed ∙ ap (λ (x : Option ℕ). is_some x) is in
        absurd (false≢true (sym quiet ∙ starts))
    by (Some n) is = is ∙ ap (λ (x : ℕ). Some x) (eqb-true n p (ap (λ (x : Option ℕ). unwrap_or x 0 == p) (sym is) ∙ same))

-- from each state that is in order
lived_from : (m : ℕ) (s : State) (e : Event) → IsInOrder m s → is_some e.number ≡ needs_number s e.reading e.kind → (slot p : ℕ) → (e.number ≡ Some p → ⊥)
    → LivesIn (step s e).state slot p → LivesIn s slot p × (EndsChild s e.kind p → ⊥)
lived_from m s e order needed slot p other live =
    let start : Outcome = record { state = stamped e.reading s; orders = [] } in
    let later : Outcome = step s e in
    let row : Row = live.0.0 in
    let one : AreOne start = order.1.0 in
    let held : 0 < holders p later = contains_counts (row_has (has_process p)) later.state.rows row live.0.1 live.0.3 in
    let there : 0 < lives slot p later.state.rows =
    contains_counts (is_live slot p) later.state.rows row live.0.1 (and_from (has_slot slot row) (has_process p row.state) (eq-eqb row.slot slot live.0.2) live.0.3) in
    let k : ℕ = lives slot p s.rows in
    let goes : Goes (Unit {0}) slot p k (unwrap_or e.number 0) later =
    step-goes_on (Unit {0}) slot p k s e (decided-stays (Unit {0}) e.kind start slot p k (λ _. tt) ((one p, λ _. inr tt), omega arith)) in
    let was : 0 < lives slot p s.rows =
    ⊎_elim (λ (h : Stays (Unit {0}) slot p k later). omega (arith, h.1, there)) (λ started. absurd (other (is_own_number s e p needed started.0 started.1))) goes in
    let old : (r : Row) × Contains s.rows r × (is_live slot p r ≡ true) = counts_contain (is_live slot p) s.rows was in
    let parts = and_parts (has_slot slot old.0) (has_process p old.0.state) old.2 in
    let never : Gone p (decide e.kind start) → ⊥ = λ gone.
    let j : ℕ = lives slot p (decide e.kind start).state.rows in
    ⊎_elim
    (λ (h : Stays ⊥ slot p j later). ⊎_elim (λ (w : 0 < exits p later). omega (arith, w, live.1)) (λ d. d) (h.0.1 held))
    (λ started. other (is_own_number s e p needed started.0 started.1))
    (step-goes_on ⊥ slot p j s e (gone, omega arith)) in (
      (
        (old.0, old.1, eqb-true old.0.slot slot parts.0, parts.1),
        ⊎_elim (λ none. none) (λ (some : 0 < exits p start). absurd (never (waited-gone p e.kind start one some))) (zero_or_more (exits p start)),
      ),
      λ ends. never (subst (λ (i : Kind). Gone p (decide i start)) (sym ends.1) (took-gone p ends.0 ends.3.0 start ends.2 (order.0, order.4, order.2) order.3 one ends.3.1 ends.3.2)),
    )

is_it : (number : Option ℕ) (p : ℕ) → (number ≡ Some p) ⊎ (number ≡ Some p → ⊥)
is_it None p = inr (λ h. absurd (search (rules, h)))
is_it (Some n) p =
    ⊎_elim (λ (same : (n == p) ≡ true). inl (ap (λ (x : ℕ). Some x) (eqb-true n p same)))
    (λ (other : (n == p) ≡ false). inr (λ h. false≢true (sym other ∙ eq-eqb n p (ap (λ (x : Option ℕ). unwrap_or x n) h))))
    (cases_Bool (n == p))

pub processes_lived_from_law : ProcessesLivedFrom
processes_lived_from_law m s events e order lawful needed slot p live =
    let now : IsInOrder (next_number m (numbers_of events)) (state_after s events) = stays_in_order m s events order lawful in
    ⊎_elim (λ is. inl is) (λ other. inr (lived_from (next_number m (numbers_of events)) (state_after s events) e now needed slot p other live)) (is_it e.number p)

pub processes_lived_law : ProcessesLived
processes_lived_law flags specs events e lawful needed slot p live =
    let base : State = empty_state flags specs in
    processes_lived_from_law 0 base events e (empty_in_order flags specs) (lawful_at_0 base events lawful) needed slot p live
