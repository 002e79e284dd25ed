-- Work that an event opens is that of the children which what it takes names, and stays in step.
use Rattle.std.specs.Prelude.{◌≡◌, ◌⊎◌, ℕ, not, ◌+◌, ◌≤◌, ◌<◌, ◌++◌, Bool, true, false, List, [], ◌∷◌, Option, None, Some, get_or, refl, max, position, is_some, slice_get, slice_set, slice_range, nat_lt, length, remove, map, take, drop, unwrap_or, ◌&&◌, ◌||◌, count_by}
use Rattle.std.specs.List.{list_any}
use Rattle.std.proofs.Common.{◌∙◌, ap, sym, subst, inl, inr, ⊎_elim, arith, cond}
use Rattle.std.proofs.lemmas.Bool.{and_parts, false≢true, eq-eqb, eqb-true, cond_both}
use Rattle.std.proofs.lemmas.List.{append_assoc, get_or-set_same, length-set, map-append, take-append-drop}
use Rattle.std.proofs.lemmas.List.Folds.{drop_split}
use Rattle.std.proofs.lemmas.List.Sums.{sum_by-cons, sum_by-remove, sum_by-set}
use Rattle.std.proofs.lemmas.List.Quantifiers.{position-Some}
use Rattle.std.proofs.lemmas.Option.{get_or_from_slice_get, slice_get-get_or, slice_get_within}
use Rattle.std.proofs.lemmas.Slice.Eq.{bytes_eq-Decides}
use Rattle.otp_reason.specs.declared.name.Name.{Name}
use Rattle.otp_reason.specs.Names.{name_bytes}
use Rattle.otp_reason.specs.declared.reason.Reason.{Reason}
use Rattle.otp_reason.specs.declared.note.Note.TheVariants as note
use Rattle.otp_reason.specs.Quiet.{is_quiet}
use Rattle.otp_spec.specs.declared.child.ChildSpec.{ChildSpec}
use Rattle.otp_spec.specs.declared.flags.SupFlags.{SupFlags}
use Rattle.otp_spec.specs.declared.flags.AutoShutdown.{AutoShutdown}
use Rattle.otp_spec.specs.declared.flags.AutoShutdown.TheVariants.{Never, AnySignificant, AllSignificant}
use Rattle.otp_spec.specs.declared.child.Restart.{Restart}
use Rattle.otp_spec.specs.declared.child.Restart.TheVariants.{Permanent, Transient, Temporary}
use Rattle.otp_spec.specs.declared.flags.Strategy.{Strategy}
use Rattle.otp_table.specs.declared.row.Row.{Row}
use Rattle.otp_table.specs.declared.row.RowState.{RowState}
use Rattle.otp_table.specs.declared.row.RowState.TheVariants.{Undefined, Starting, Up, Asked, Killed, Restarting}
use Rattle.otp_table.specs.Rows.{awaits_retry, calm_rows, calmed, free_slot, has_id, has_number, has_process, is_awaited, row_has, with_state, is_left, is_undefined}
use Rattle.otp_window.specs.Period.{in_period}
use Rattle.otp_rules.specs.declared.call.Call.{Call}
use Rattle.otp_rules.specs.declared.call.Call.TheVariants as call
use Rattle.otp_rules.specs.declared.ending.Ending.{Ending}
use Rattle.otp_rules.specs.declared.ending.Ending.TheVariants as ending
use Rattle.otp_rules.specs.declared.event.Event.{Event}
use Rattle.otp_rules.specs.declared.event.Item.{Item}
use Rattle.otp_rules.specs.declared.event.Item.TheVariants as item
use Rattle.otp_rules.specs.declared.event.Kind.{Kind}
use Rattle.otp_rules.specs.declared.event.Kind.TheVariants as kind
use Rattle.otp_rules.specs.declared.event.Waiting.{Waiting}
use Rattle.otp_rules.specs.declared.event.Waiting.TheVariants as waiting
use Rattle.otp_rules.specs.declared.work.Sequel.{Sequel}
use Rattle.otp_rules.specs.declared.work.Sequel.TheVariants as sequel
use Rattle.otp_rules.specs.State.{Outcome, State, answer, closed, put_last, with_rows, with_stamps, with_waiting, with_work}
use Rattle.otp_rules.specs.Homes.{Brings}
use Rattle.otp_rules.specs.Places.{end_row, set_row, is_removed}
use Rattle.otp_rules.specs.Restarts.{affected_from, affected_to, ends_by_significance, is_restarted}
use Rattle.otp_rules.specs.Stops.{terminate}
use Rattle.otp_rules.specs.Deaths.{restart, restart_or_end, restart_rows}
use Rattle.otp_rules.specs.Calls.{new_row}
use Rattle.otp_rules.specs.Step.{decide, open_rows, stamped, step, step_on, tick}
use Rattle.otp_rules.specs.Run.{empty_state, state_after}
use Rattle.otp_rules.specs.Progress.{Progress, affected, decided, ended_by, ends_together, id_bytes, is_end, is_opened, opened_now, process_number, seen, taken, went_on, ComesBackAfter, HasDied, HasId, HasProcess, IsAbout, IsCall, IsFirstRow, IsPart, IsRestarted, IsTriedAgain, Terminates, WaitsRetry}
use Rattle.otp_rules.specs.Fit.{rows_in, HasPart, HasStops, HasWaiting, IsLimited, IsListed, IsSound, Keeps}
use Rattle.otp_rules.specs.Taken.{EndIsForTaken, EndIsForTakenFromEmpty, EndsBySignificance, IsEndedBy, WorkIsForTaken, WorkIsForTakenFromEmpty}
use Rattle.otp_rules.proofs.Decisions.{BringsStart, BringsStop, Dies, EndsFor, IsFirstAt, IsUnmoved, OpensNothing, StandsAt, SurvivesEvent, TriesAgain, by_test, decide-survives, decide-survives_event, first_passes}
use Rattle.otp_rules.proofs.Counting.{end_row-alike, rows_in-end, times-append}
use Rattle.otp_rules.proofs.Fitted.{affected_from_le, affected_to_more}
use Rattle.otp_rules.proofs.Sound.{advance-sound, empty-sound, sound-survives}
use Rattle.otp_rules.proofs.WhileOpen.{no_after, terminate-follows}
use Rattle.otp_rules.proofs.Opened.{IsListedAs, IsListedWhole, IsWhole, added-listed, again-listed, down_calm, ended-listed, open_rows-follows, opened-listed, opens_not_again, opens_nothing, restarted-listed, same_id, starting, stopped-listed, tick-follows}
use Rattle.otp_rules.proofs.Stopping.{Carried, carried-survives, waits-all}

-- an event begins, at this stamp
abbrev begins : ℕ → State → Outcome
begins now s = record { state = record s { last = now }; orders = [] }

-- and this waits, when what it took is gone
abbrev began : ℕ → List Waiting → State → Outcome
began now ws s = with_waiting ws (begins now s)

-- work that an event opens is that of the children which what it takes names; if it ends the supervisor, it is for that
abbrev ForTaken : Kind → State → Outcome → Type 0
ForTaken k s o =
    is_opened s.follows o.state.follows ≡ true
    → (ends_together o.state ≡ false → IsListed (opened_now s (taken k s.waiting) o.state)) × ((x : Ending) → o.state.follows ≡ Some (sequel.End x) → IsEndedBy k s x)

-- an event that opens nothing
opens-none : (k : Kind) (s : State) (now : ℕ) (o : Outcome) → OpensNothing (begins now s) o → ForTaken k s o
opens-none k s now o still opened = absurd (false≢true (sym (not_opened s.follows o.state.follows still) ∙ opened))
  where
    not_opened : (f g : Option Sequel) → (is_some g ≡ false) ⊎ (g ≡ f) → is_opened f g ≡ false
    not_opened f g (inl idle) = ap (λ (x : Option Sequel). is_opened f x) (no_after g idle) ∙ opens_nothing f
    not_opened f g (inr same) = ap (λ (x : Option Sequel). is_opened f x) same ∙ opens_not_again f

-- work that doesn't end the supervisor
opens-for : (k : Kind) (s : State) (o : Outcome) → is_end o.state.follows ≡ false → IsListed (opened_now s (taken k s.waiting) o.state) → ForTaken k s o
opens-for k s o other listed _ = (λ _. listed, λ x is. absurd (false≢true (sym other ∙ ap is_end is)))

-- the event takes the item
abbrev Takes : Kind → State → Item → Type 0
Takes k s i = taken k s.waiting ≡ Some (waiting.Item i)

listed_by : (g : Progress) (part : List Row) → IsPart g part → IsListedAs part g.opened → IsListed g
listed_by g part about l = (part, about, l.0, l.1, l.2, l.3, l.4, l.5)

-- the end is of all
end-listed : (s : State) (took : Option Waiting) (t : State) (e : Ending) → t.follows ≡ Some (sequel.End e) → IsListedWhole t → IsListed (opened_now s took t)
end-listed s took t e is l =
    listed_by (opened_now s took t) l.0 (subst (λ (f : Option Sequel). IsAbout took s f t l.0) (sym is) (subst (λ (f : Option Sequel). IsWhole f t.rows l.0) is l.1)) l.2

terminate-for : (k : Kind) (s : State) (e : Ending) (o : Outcome) → rows_in is_awaited o.state.rows ≡ 0 → IsEndedBy k s e → ForTaken k s (terminate e o)
terminate-for k s e o none by _ = (
  λ plain. end-listed s (taken k s.waiting) (terminate e o).state e (terminate-follows e o) (ended-listed e o none plain),
  λ x is.
      let same : ◌≡◌ {A = Option Sequel} (Some (sequel.End e)) (Some (sequel.End x)) = sym (terminate-follows e o) ∙ is in
      let one : e ≡ x = cc in
      subst (λ (y : Ending). IsEndedBy k s y) one by,
)

-- rows

first-row : (Holds : Row → Type 0) (test : Row → Bool) (rows : List Row) (place : ℕ) (row : Row) → ((other : Row) → Holds other → test other ≡ true)
    → position test rows ≡ Some place → slice_get rows place ≡ Some row → Holds row → IsFirstRow Holds rows place row
first-row Holds test rows place row passes found at holds =
    let found_at : (place < length rows) × (test (get_or rows place row) ≡ true) × ((j : ℕ) → j < place → test (get_or rows j row) ≡ false) = position-Some test rows place row found in
    record {
      at = at;
      holds = holds;
      first = λ i other less there has.
          false≢true (sym (found_at.2 i less) ∙ ap (λ (r : Row). test r) (get_or_from_slice_get rows i other row there) ∙ passes other has);
    }

id-passes : (id : Name) (row : Row) → HasId id row → has_id id row ≡ true
id-passes id row h = one row.id h
  where
    one : (other : Option Name) → id_bytes other ≡ Some (name_bytes id) → has_id id (record row { id = other }) ≡ true
    one None h = cc
    one (Some name) h = let same : name_bytes name ≡ name_bytes id = (let e : ◌≡◌ {A = Option (List ℕ)} (Some (name_bytes name)) (Some (name_bytes id)) = h in cc) in (bytes_eq-Decides (name_bytes name) (name_bytes id)).1 same

process-passes : (p : ℕ) (state : RowState) → process_number state ≡ Some p → has_process p state ≡ true
process-passes p Undefined h = cc
process-passes p (Starting q _) h = let same : q ≡ p = cc in eq-eqb q p same
process-passes p (Up q) h = let same : q ≡ p = cc in eq-eqb q p same
process-passes p (Asked q _) h = let same : q ≡ p = cc in eq-eqb q p same
process-passes p (Killed q) h = let same : q ≡ p = cc in eq-eqb q p same
process-passes p (Restarting _) h = cc

number-passes : (p : ℕ) (state : RowState) → process_number state ≡ Some p → has_number p state ≡ true
number-passes p Undefined h = cc
number-passes p (Starting q _) h = let same : q ≡ p = cc in eq-eqb q p same
number-passes p (Up q) h = let same : q ≡ p = cc in eq-eqb q p same
number-passes p (Asked q _) h = let same : q ≡ p = cc in eq-eqb q p same
number-passes p (Killed q) h = let same : q ≡ p = cc in eq-eqb q p same
number-passes p (Restarting _) h = cc

-- the number of a process is the one that the row has
number-same : (p q : ℕ) (state : RowState) → process_number state ≡ Some q → has_number p state ≡ true → q ≡ p
number-same p q Undefined has h = cc
number-same p q (Starting m _) has h = let same : m ≡ q = cc in sym same ∙ eqb-true m p h
number-same p q (Up m) has h = let same : m ≡ q = cc in sym same ∙ eqb-true m p h
number-same p q (Asked m _) has h = let same : m ≡ q = cc in sym same ∙ eqb-true m p h
number-same p q (Killed m) has h = let same : m ≡ q = cc in sym same ∙ eqb-true m p h
number-same p q (Restarting _) has h = cc

retry-passes : (n : ℕ) (state : RowState) → state ≡ Restarting n → awaits_retry n state ≡ true
retry-passes n state is = ap (λ (t : RowState). awaits_retry n t) is ∙ eq-eqb n n refl

-- a restart

-- waiting retries are given up once
calm-twice : (rows : List Row) → calm_rows (calm_rows rows) ≡ calm_rows rows
calm-twice [] = refl
calm-twice (row ∷ rows) = ap (λ (s : RowState). with_state s row ∷ calm_rows (calm_rows rows)) (one row.state) ∙ ap (λ (rs : List Row). with_state (calmed row.state) row ∷ rs) (calm-twice rows)
  where
    one : (state : RowState) → calmed (calmed state) ≡ calmed state
    one Undefined = refl
    one (Starting _ _) = refl
    one (Up _) = refl
    one (Asked _ _) = refl
    one (Killed _) = refl
    one (Restarting _) = refl

-- but for retries the rows of a restart are those of before
mended-same : (from to : ℕ) (rows : List Row) → from ≤ to → calm_rows (take from rows ++ calm_rows (slice_range rows from to) ++ drop to rows) ≡ calm_rows rows
mended-same from to rows le =
    let f : Row → Row = λ row. with_state (calmed row.state) row in
    let xs : List Row = take from rows in
    let ys : List Row = slice_range rows from to in
    let zs : List Row = drop to rows in
    map-append f (xs ++ calm_rows ys) zs
    ∙ ap (λ (rs : List Row). rs ++ map f zs) (map-append f xs (calm_rows ys) ∙ ap (λ (rs : List Row). map f xs ++ rs) (calm-twice ys) ∙ sym (map-append f xs ys))
    ∙ sym (map-append f (xs ++ ys) zs)
    ∙ ap (λ (rs : List Row). map f rs) (append_assoc xs ys zs ∙ ap (λ (rs : List Row). xs ++ rs) (sym (drop_split rows from to le)) ∙ take-append-drop from rows)

mended-rows : (from to place n : ℕ) (o : Outcome) → from ≤ to → calm_rows (restart_rows from to place n o).state.rows ≡ calm_rows o.state.rows
unfolding restart_rows
mended-rows from to place n o le = mended-same from to o.state.rows le

restart_rows-follows : (from to place n : ℕ) (o : Outcome) → (restart_rows from to place n o).state.follows ≡ Some sequel.Nothing
unfolding restart_rows
restart_rows-follows from to place n o = refl

restart_rows-flags : (from to place n : ℕ) (o : Outcome) → (restart_rows from to place n o).state.flags ≡ o.state.flags
unfolding restart_rows
restart_rows-flags from to place n o = refl

restart_rows-listed : (k : Kind) (s : State) (place n : ℕ) (row : Row) (now : ℕ) (ws : List Waiting) (stamps : List ℕ) → HasDied (taken k s.waiting) s.rows place row ⊎ IsTriedAgain (taken k s.waiting) s.rows place row
    → slice_get s.rows place ≡ Some row → rows_in is_awaited s.rows ≡ 0
    → IsListed (opened_now s (taken k s.waiting) (restart_rows (affected_from s.flags.strategy place) (affected_to s.flags.strategy place (length (slice_set s.rows place (with_state Undefined row)))) place n (with_stamps stamps (set_row place row Undefined (began now ws s)))).state)
restart_rows-listed k s place n row now ws stamps why at none =
    let took : Option Waiting = taken k s.waiting in
    let counted : Outcome = with_stamps stamps (set_row place row Undefined (began now ws s)) in
    let rows : List Row = slice_set s.rows place (with_state Undefined row) in
    let strategy : Strategy = s.flags.strategy in
    let from : ℕ = affected_from strategy place in
    let to : ℕ = affected_to strategy place (length rows) in
    let long : length rows ≡ length s.rows = length-set s.rows place (with_state Undefined row) in
    let within : place < length s.rows = slice_get_within s.rows place row at in
    let le : from ≤ place = affected_from_le strategy place in
    let more : place + 1 ≤ to = affected_to_more strategy place (length rows) (omega (arith, within, long)) in
    let calm : rows_in is_awaited rows ≡ 0 = down_calm place row Undefined (began now ws s) at refl (omega (arith, none)) in
    let here : slice_get rows place ≡ Some (with_state Undefined row) =
    slice_get-get_or rows place row (omega (arith, within, long)) ∙ ap (λ (r : Row). Some r) (get_or-set_same s.rows place (with_state Undefined row) row within) in
    let t : State = (restart_rows from to place n counted).state in
    let l : (slice_get t.rows place ≡ Some (with_state Undefined row)) × IsListedAs (affected strategy place t.rows) t = restarted-listed place n row counted here calm in
    let about : IsRestarted took s t (affected strategy place t.rows) = record {
      place = place;
      row = row;
      why = why;
      down = l.0;
      same = mended-rows from to place n counted (omega (arith, le, more));
      is = ap (λ (x : SupFlags). affected x.strategy place t.rows) (sym (restart_rows-flags from to place n counted));
    } in
    listed_by (opened_now s took t) (affected strategy place t.rows) (subst (λ (f : Option Sequel). IsAbout took s f t (affected strategy place t.rows)) (sym (restart_rows-follows from to place n counted)) about) l.1

restart-for : (k : Kind) (s : State) (place n : ℕ) (row : Row) (now : ℕ) (ws : List Waiting) → HasDied (taken k s.waiting) s.rows place row ⊎ IsTriedAgain (taken k s.waiting) s.rows place row → slice_get s.rows place ≡ Some row
    → rows_in is_awaited s.rows ≡ 0 → ForTaken k s (restart n place row (began now ws s))
unfolding restart restart_or_end
restart-for k s place n row now ws why at none =
    let stamps : List ℕ = s.stamps ++ now ∷ [] in
    let counted : Outcome = with_stamps stamps (set_row place row Undefined (began now ws s)) in
    by_test (ForTaken k s) (nat_lt s.flags.intensity (in_period s.flags.period stamps now)) (terminate ending.Intensity counted) _
    (λ _. terminate-for k s ending.Intensity counted (down_calm place row Undefined (began now ws s) at refl (omega (arith, none))) (place, row, why))
    (λ _.
    let from : ℕ = affected_from s.flags.strategy place in
    let to : ℕ = affected_to s.flags.strategy place (length (slice_set s.rows place (with_state Undefined row))) in
    opens-for k s (restart_rows from to place n counted) (ap is_end (restart_rows-follows from to place n counted)) (restart_rows-listed k s place n row now ws stamps why at none))

-- ends

comes-back : (r : Reason) (x : Restart) → is_restarted x r ≡ true → ComesBackAfter r x
comes-back r Permanent h = tt
comes-back r Transient h = quiet (is_quiet r) h
  where
    quiet : (b : Bool) → not b ≡ true → b ≡ false
    quiet true h = absurd (false≢true h)
    quiet false h = refl
comes-back r Temporary h = absurd (false≢true h)

comes-not : (r : Reason) (x : Restart) → is_restarted x r ≡ false → ComesBackAfter r x → ⊥
comes-not r Permanent h back = false≢true (sym h)
comes-not r Transient h back = false≢true (sym h ∙ ap not back)
comes-not r Temporary h back = back

-- which rows count, after the end of one that did
nothing_left : (rows : List Row) → list_any is_left rows ≡ false → count_by is_left rows ≡ 0
nothing_left [] h = refl
nothing_left (row ∷ rows) h =
    let parts : (is_left row ≡ false) × (list_any is_left rows ≡ false) = or_false (is_left row) (list_any is_left rows) h in
    let z : ◌≡◌ {A = ℕ} (cond (is_left row) 1 0) 0 = ap (λ (b : Bool). cond b 1 0) parts.0 in
    omega (arith, sum_by-cons (λ (x : Row). cond (is_left x) 1 0) row rows, z, nothing_left rows parts.1)
  where
    or_false : (a b : Bool) → (a || b) ≡ false → (a ≡ false) × (b ≡ false)
    or_false true b e = absurd (false≢true (sym e))
    or_false false b e = (refl, e)

end_row-left : (place : ℕ) (row : Row) (o : Outcome) → StandsAt place row o → count_by is_left (end_row place row o).state.rows + cond (is_left row) 1 0 ≡ count_by is_left o.state.rows
unfolding end_row
end_row-left place row o at =
    let f : Row → ℕ = λ x. cond (is_left x) 1 0 in
    let within : place < length o.state.rows = slice_get_within o.state.rows place row at in
    let here : f (get_or o.state.rows place row) ≡ f row = ap f (get_or_from_slice_get o.state.rows place row row at) in
    let down : f (with_state Undefined row) ≡ 0 = undefined_left row.spec.significant in
    by_test (λ (x : Outcome). count_by is_left x.state.rows + cond (is_left row) 1 0 ≡ count_by is_left o.state.rows) (is_removed row) (with_rows (remove o.state.rows place) o) (set_row place row Undefined o)
    (λ _. omega (arith, here, sum_by-remove f o.state.rows place row within))
    (λ _. omega (arith, here, down, sum_by-set f o.state.rows place (with_state Undefined row) row within))
  where
    undefined_left : (b : Bool) → cond {A = ℕ} (b && false) 1 0 ≡ 0
    undefined_left true = refl
    undefined_left false = refl

by-significance : (a : AutoShutdown) (p place : ℕ) (row : Row) (o : Outcome) → StandsAt place row o → row.state ≡ Up p → ends_by_significance a row (end_row place row o).state.rows ≡ true → EndsBySignificance a row o.state.rows
by-significance Never p place row o at up h = false≢true h
by-significance AnySignificant p place row o at up h = h
by-significance AllSignificant p place row o at up h =
    let parts : (row.spec.significant ≡ true) × (not (list_any is_left (end_row place row o).state.rows) ≡ true) = and_parts row.spec.significant (not (list_any is_left (end_row place row o).state.rows)) h in
    let left : is_left row ≡ true = ap (λ (b : Bool). b && not (is_undefined row.state)) parts.0 ∙ ap (λ (t : RowState). not (is_undefined t)) up in
    let one : ◌≡◌ {A = ℕ} (cond (is_left row) 1 0) 1 = ap (λ (b : Bool). cond b 1 0) left in
    let none : list_any is_left (end_row place row o).state.rows ≡ false = no (list_any is_left (end_row place row o).state.rows) parts.1 in
    (parts.0, omega (arith, one, nothing_left (end_row place row o).state.rows none, end_row-left place row o at))
  where
    no : (b : Bool) → not b ≡ true → b ≡ false
    no true e = absurd (false≢true e)
    no false e = refl

-- the row of a process that died is the first that has it
died-first : (k : Kind) (s : State) (now : ℕ) (ws : List Waiting) (p place : ℕ) (row : Row) (back : Bool) → slice_get s.rows place ≡ Some row → Dies (Takes k s) p place row (began now ws s) back → IsFirstRow (HasProcess p) s.rows place row
died-first k s now ws p place row back at dies = first-row (HasProcess p) (row_has (has_process p)) s.rows place row (λ other has. process-passes p other.state has) dies.1.2 at (ap process_number dies.0)

restarted-why : (k : Kind) (s : State) (now : ℕ) (ws : List Waiting) (p place : ℕ) (row : Row) → slice_get s.rows place ≡ Some row
    → Dies (Takes k s) p place row (began now ws s) true ⊎ TriesAgain k (begins now s) p place row (began now ws s) → HasDied (taken k s.waiting) s.rows place row ⊎ IsTriedAgain (taken k s.waiting) s.rows place row
restarted-why k s now ws p place row at (inl dies) = inl (p, dies.1.0, dies.1.1, died-first k s now ws p place row true at dies, dies.0, comes-back dies.1.0 row.spec.restart dies.1.3)
restarted-why k s now ws p place row at (inr tries) =
    inr (p, ap (λ (j : Kind). taken j s.waiting) tries.1 ∙ tries.2, first-row (WaitsRetry p) (row_has (awaits_retry p)) s.rows place row (λ other has. retry-passes p other.state has) tries.3 at tries.0)

-- no answer is awaited where no work is open
idle-calm : (s : State) → IsSound s → is_some s.follows ≡ false → rows_in is_awaited s.rows ≡ 0
idle-calm s sound idle = subst (λ (f : Option Sequel). IsLimited f (rows_in is_awaited s.rows)) (no_after s.follows idle) sound.0

-- what holds whatever waits, holds where nothing has moved
unmoved : (now : ℕ) (s : State) (C : Outcome → Type 0) → ((ws : List Waiting) → C (began now ws s)) → (o : Outcome) → IsUnmoved (begins now s) o → C o
unmoved now s C each o u = subst C (sym u) (each o.state.waiting)

ends-for : (k : Kind) (s : State) (now : ℕ) (e : Ending) (o : Outcome) → rows_in is_awaited s.rows ≡ 0 → EndsFor k (Takes k s) (begins now s) e o → ForTaken k s (terminate e o)
ends-for k s now ending.Asked o none h = subst (λ (x : Outcome). ForTaken k s (terminate ending.Asked x)) (sym h.1) (terminate-for k s ending.Asked (begins now s) none h.0)
ends-for k s now (ending.Significant p) o none (place, row, before, u, there, dies, ends, is) =
    subst (λ (x : Outcome). ForTaken k s (terminate (ending.Significant p) x)) (sym is)
    (unmoved now s (λ (y : Outcome). StandsAt place row y → Dies (Takes k s) p place row y false → ends_by_significance s.flags.auto_shutdown row (end_row place row y).state.rows ≡ true → ForTaken k s (terminate (ending.Significant p) (end_row place row y)))
    (λ ws at died significant.
    let o : Outcome = began now ws s in
    let e : rows_in is_awaited (end_row place row o).state.rows + cond (is_awaited row.state) 1 0 ≡ rows_in is_awaited s.rows = rows_in-end is_awaited refl place row o at in
    terminate-for k s (ending.Significant p) (end_row place row o) (omega (arith, e, none)) (
      died.1.0,
      place,
      row,
      died.1.1,
      died-first k s now ws p place row false at died,
      died.0,
      comes-not died.1.0 row.spec.restart died.1.3,
      by-significance s.flags.auto_shutdown p place row o at died.0 significant,
    ))
    before u there dies (ap (λ (x : Outcome). ends_by_significance s.flags.auto_shutdown row x.state.rows) (sym is) ∙ ends))
ends-for k s now ending.Intensity o none h = absurd h
ends-for k s now (ending.InitFailed id) o none h = absurd h

-- a start of the opening fails
failed-for : (k : Kind) (s : State) (now : ℕ) (ws : List Waiting) (place : ℕ) (row : Row) (q kept : ℕ) (r : Reason) → IsSound s → s.follows ≡ Some sequel.Ready → slice_get s.rows place ≡ Some row → row.state ≡ Starting q kept
    → taken k s.waiting ≡ Some (waiting.Item (item.Note (note.Failed q r))) → ForTaken k s (terminate (ending.InitFailed row.spec.id) (set_row place row Undefined (began now ws s)))
failed-for k s now ws place row q kept r sound ready at is takes =
    let few : rows_in is_awaited s.rows ≤ 1 = subst (λ (f : Option Sequel). IsLimited f (rows_in is_awaited s.rows)) ready sound.0 in
    let one : ◌≡◌ {A = ℕ} (cond (is_awaited row.state) 1 0) 1 = ap (λ (b : Bool). cond b 1 0) (starting row q kept is) in
    terminate-for k s (ending.InitFailed row.spec.id) (set_row place row Undefined (began now ws s)) (down_calm place row Undefined (began now ws s) at refl (omega (arith, few, one)))
    (ready, q, r, place, row, kept, takes, at, is, refl)

-- the child with this id
named-by : (id : Name) (s : State) (now : ℕ) (ws : List Waiting) (place : ℕ) (row : Row) → IsFirstAt (has_id id) place (began now ws s) → slice_get s.rows place ≡ Some row → IsFirstRow (HasId id) s.rows place row
named-by id s now ws place row found at = first-row (HasId id) (has_id id) s.rows place row (λ other has. id-passes id other has) found at (sym (same_id id row.id (first_passes (has_id id) place row (began now ws s) found at)))

add-for : (k : Kind) (s : State) (now : ℕ) (ws : List Waiting) (c : ℕ) (id : Option Name) (spec : ChildSpec) → BringsStart (Takes k s) c id spec (began now ws s)
    → ForTaken k s (with_work [] (record { id = id; kept = None } ∷ []) (Some (sequel.Added c)) (with_rows (s.rows ++ new_row (free_slot s.rows) id spec ∷ []) (began now ws s)))
add-for k s now ws c id spec got =
    let o : Outcome = began now ws s in
    let row : Row = new_row (free_slot s.rows) id spec in
    let t : Outcome = with_work [] (record { id = id; kept = None } ∷ []) (Some (sequel.Added c)) (with_rows (s.rows ++ row ∷ []) o) in
    opens-for k s t refl (listed_by (opened_now s (taken k s.waiting) t.state) (row ∷ []) (record { asked = got.0; row = row; takes = got.2; asks = got.3; last = refl; is = refl }) (added-listed c id spec o))

again-for : (k : Kind) (s : State) (now : ℕ) (ws : List Waiting) (c : ℕ) (id : Name) (place : ℕ) (row : Row) → IsCall (taken k s.waiting) c (call.RestartChild id) → IsFirstRow (HasId id) s.rows place row → row.state ≡ Undefined
    → ForTaken k s (with_work [] (record { id = Some id; kept = None } ∷ []) (Some (sequel.Restarted c)) (began now ws s))
again-for k s now ws c id place row takes named down =
    let o : Outcome = began now ws s in
    let t : Outcome = with_work [] (record { id = Some id; kept = None } ∷ []) (Some (sequel.Restarted c)) o in
    opens-for k s t refl (listed_by (opened_now s (taken k s.waiting) t.state) (row ∷ []) (record { id = id; place = place; row = row; takes = takes; named = named; down = down; same = refl; is = refl }) (again-listed c id row o named.holds down))

stop-for : (k : Kind) (s : State) (now : ℕ) (ws : List Waiting) (c p : ℕ) (x : Call) (place : ℕ) (row : Row) → IsCall (taken k s.waiting) c x → Terminates x s.rows row → slice_get s.rows place ≡ Some row → process_number row.state ≡ Some p
    → ForTaken k s (with_work (p ∷ []) [] (Some (sequel.Stopped c)) (began now ws s))
stop-for k s now ws c p x place row takes named at has =
    let o : Outcome = began now ws s in
    let t : Outcome = with_work (p ∷ []) [] (Some (sequel.Stopped c)) o in
    let l : (i : ℕ) × (other : Row) × (slice_get s.rows i ≡ Some other) × (process_number other.state ≡ Some p) × IsListedAs (other ∷ []) t.state = stopped-listed c p place row o at has in
    opens-for k s t refl
    (listed_by (opened_now s (taken k s.waiting) t.state) (l.1 ∷ [])
    (record { asked = x; row = row; takes = takes; named = named; same = refl; place = l.0; other = l.1; at = l.2; one = l.3 ∙ sym has; is = refl }) l.4)

stops-for : (k : Kind) (s : State) (now : ℕ) (ws : List Waiting) (c p place : ℕ) (row : Row) → slice_get s.rows place ≡ Some row → process_number row.state ≡ Some p → BringsStop (Takes k s) c place (began now ws s)
    → ForTaken k s (with_work (p ∷ []) [] (Some (sequel.Stopped c)) (began now ws s))
stops-for k s now ws c p place row at has (inl (id, takes, found)) = stop-for k s now ws c p (call.TerminateChild id) place row takes (place, named-by id s now ws place row found at) at has
stops-for k s now ws c p place row at has (inr (q, takes, found)) =
    let number : has_number q row.state ≡ true = first_passes (row_has (has_number q)) place row (began now ws s) found at in
    stop-for k s now ws c p (call.TerminateProcess q) place row takes
    (place, first-row (HasProcess q) (row_has (has_number q)) s.rows place row (λ other h. number-passes q other.state h) found at (has ∙ ap (λ (n : ℕ). Some n) (number-same q p row.state has number))) at has

open-listed : (s : State) (took : Option Waiting) (own : ℕ) (o : Outcome) → IsListed (opened_now s took (open_rows own o).state)
open-listed s took own o =
    let t : State = (open_rows own o).state in
    let l : IsListedWhole t = opened-listed own o in
    let is : t.follows ≡ Some sequel.Ready = open_rows-follows own o in
    listed_by (opened_now s took t) l.0 (subst (λ (f : Option Sequel). IsAbout took s f t l.0) (sym is) (subst (λ (f : Option Sequel). IsWhole f t.rows l.0) is l.1)) l.2

takes-brought : (k : Kind) (s : State) (ws : List Waiting) (i : Item) → s.waiting ≡ ws → Brings k ws i → Takes k s i
takes-brought (kind.Took j) s ws i is b = ap (λ (x : Item). Some (waiting.Item x)) b
takes-brought kind.Resumed s (w ∷ ws) i is b = ap (λ (l : List Waiting). slice_get l 0) is ∙ ap (λ (x : Waiting). Some x) b
takes-brought kind.Resumed s [] i is b = absurd b
takes-brought (kind.Opened _) s ws i is b = absurd b
takes-brought kind.Ticked s ws i is b = absurd b
takes-brought kind.Stopped s ws i is b = absurd b

for-survives : (k : Kind) (s : State) (now : ℕ) → IsSound s → SurvivesEvent k (Takes k s) (begins now s) (ForTaken k s)
unfolding answer
for-survives k s now sound =
    let old : Outcome = begins now s in
    let none : (o : Outcome) → OpensNothing old o → ForTaken k s o = λ o still. opens-none k s now o still in
    let same : (o : Outcome) → IsUnmoved old o → OpensNothing old o = λ o u. inr (ap (λ (x : Outcome). x.state.follows) u) in
    let ended : (place : ℕ) (row : Row) (o : Outcome) → IsUnmoved old o → ForTaken k s (end_row place row o) =
    λ place row o u. none (end_row place row o) (inr ((end_row-alike place row o).4 ∙ ap (λ (x : Outcome). x.state.follows) u)) in
    record {
      answered = λ c r o still h. none (answer c r o) still;
      taken = λ w ws resumed idle runs is h. none (with_waiting ws old) (inr refl);
      call_waits = λ c x o u busy g h. none (put_last (waiting.Item (item.Call c x)) o) (same o u);
      exit_waits = λ p r place row o u at has g h. none (put_last (waiting.Item (item.Note (note.Exit p r))) o) (same o u);
      up = λ p place row q kept o u at is alike g h. none (set_row place row (Up p) o) (same o u);
      up_closed = λ p place row q kept c o u at is alike follows g h. none (closed (set_row place row (Up p) o)) (inl refl);
      ignored = λ p place row q kept o u at is alike g h. ended place row o u;
      opening_failed = λ place row q kept o u runs at is follows g h.
          unmoved now s (λ (y : Outcome). StandsAt place row y → y.state.follows ≡ Some sequel.Ready → ForTaken k s (terminate (ending.InitFailed row.spec.id) (set_row place row Undefined y)))
          (λ ws there ready. failed-for k s now ws place row q kept g.0 sound ready there is g.1) o u at follows;
      restart_failed = λ place row q kept o u at is follows g h. none (closed (put_last (waiting.Retry kept) (set_row place row (Restarting kept) o))) (inl refl);
      added_failed = λ place row q kept c o u at is follows g h. none (closed (with_rows (remove o.state.rows place) o)) (inl refl);
      restarted_failed = λ place row q kept c o u at is follows g h. none (closed (set_row place row Undefined o)) (inl refl);
      stopped = λ p r place row o u at told g h. ended place row o u;
      died = λ p place row o u idle runs at is g h. ended place row o u;
      restarts = λ p place row o u idle runs at why h.
          unmoved now s (λ (y : Outcome). StandsAt place row y → Dies (Takes k s) p place row y true ⊎ TriesAgain k old p place row y → ForTaken k s (restart p place row y))
          (λ ws there by. restart-for k s place p row now ws (restarted-why k s now ws p place row there by) there (idle-calm s sound idle.0)) o u at why;
      ends = λ e o why other idle runs h. ends-for k s now e o (idle-calm s sound idle.0) why;
      ticks = λ is h. none (tick old) (inr (tick-follows old));
      opens = λ own is over h. opens-for k s (open_rows own old) (ap is_end (open_rows-follows own old)) (open-listed s (taken k s.waiting) own old);
      adds = λ c id spec o u idle runs named few got h.
          unmoved now s
          (λ (y : Outcome). BringsStart (Takes k s) c id spec y → ForTaken k s (with_work [] (record { id = id; kept = None } ∷ []) (Some (sequel.Added c)) (with_rows (y.state.rows ++ new_row (free_slot y.state.rows) id spec ∷ []) y)))
          (λ ws got_then. add-for k s now ws c id spec got_then) o u got;
      starts_again = λ c id place row o u idle runs at has is noted found h.
          unmoved now s
          (λ (y : Outcome). StandsAt place row y → IsFirstAt (has_id id) place y → ForTaken k s (with_work [] (record { id = Some id; kept = None } ∷ []) (Some (sequel.Restarted c)) y))
          (λ ws there first. again-for k s now ws c id place row noted (named-by id s now ws place row first there) is) o u at found;
      removed = λ place row o u idle runs at down h. none (with_rows (remove o.state.rows place) o) (inl idle.1);
      given_up = λ place row o u idle runs at down h. none (set_row place row Undefined o) (inl idle.1);
      stops_child = λ c p place row o u idle runs at up has got h.
          unmoved now s (λ (y : Outcome). StandsAt place row y → BringsStop (Takes k s) c place y → ForTaken k s (with_work (p ∷ []) [] (Some (sequel.Stopped c)) y))
          (λ ws there got_then. stops-for k s now ws c p place row there has got_then) o u at got;
    }

-- what the event decides
decided-for : (s : State) (e : Event) → IsSound s → is_opened s.follows (decided s e).follows ≡ true
    → (ends_together (decided s e) ≡ false → IsListed (opened_now s (taken e.kind s.waiting) (decided s e))) × ((x : Ending) → (decided s e).follows ≡ Some (sequel.End x) → IsEndedBy e.kind s x)
decided-for s e sound =
    let now : ℕ = max e.reading s.last in
    decide-survives_event e.kind (Takes e.kind s) (begins now s) (ForTaken e.kind s) (for-survives e.kind s now sound) (λ i b _. takes-brought e.kind s s.waiting i refl b)
    (opens-none e.kind s now (begins now s) (inr refl))

pub opened_now-keeps : (s : State) (took : Option Waiting) (t : State) → (ends_together t ≡ false → IsListed (opened_now s took t)) → Keeps t (opened_now s took t)
opened_now-keeps s took t listed busy = (
  λ q h. omega (arith, h, waits-all q t.waiting),
  λ apart. (listed apart, [], refl, λ q i. absurd (omega (arith, i))),
)

pub started-carried : (s : State) (e : Event) (g : Progress) → IsSound s → Keeps s g → Carried s.follows (went_on e.kind g) (record { state = stamped e.reading s; orders = [] })
started-carried s e g sound keeps = (
  sound,
  inl refl,
  λ no busy.
      let had : HasWaiting s g × HasStops s g = keeps busy in (
        λ q h. omega (arith, had.0 q h, times-append q g.ended (ended_by e.kind)),
        λ apart.
            let part : HasPart s g = had.1 apart in
            (part.0, part.1, part.2, λ q i. ⊎_elim (λ x. inl (omega (arith, x, times-append q g.ended (ended_by e.kind)))) (λ x. inr x) (part.3 q i)),
      ),
)

-- the event is taken: the work that it opens, or that was open, is in step
pub decided-keeps : (s : State) (e : Event) (g : Progress) → IsSound s → Keeps s g → IsSound (decided s e) × Keeps (decided s e) (seen s e g)
decided-keeps s e g sound keeps =
    let start : Outcome = record { state = stamped e.reading s; orders = [] } in
    let last : Carried s.follows (went_on e.kind g) (decide e.kind start) =
    decide-survives e.kind (Carried s.follows (went_on e.kind g)) start (carried-survives e.kind (is_some s.follows) s.follows g refl) (started-carried s e g sound keeps) in (
      last.0,
      cond_both (is_opened s.follows (decided s e).follows) (opened_now s (taken e.kind s.waiting) (decided s e)) (went_on e.kind g) (λ (x : Progress). Keeps (decided s e) x)
          (λ opened. opened_now-keeps s (taken e.kind s.waiting) (decided s e) ((decided-for s e sound opened).0))
          (λ no. last.2 no),
    )

-- open work stays sound
step-sound : (s : State) (e : Event) → IsSound s → IsSound (step s e).state
unfolding step step_on
step-sound s e sound =
    let start : Outcome = record { state = stamped e.reading s; orders = [] } in
    advance-sound (unwrap_or e.number 0) (decide e.kind start) (decide-survives e.kind (λ (o : Outcome). IsSound o.state) start (sound-survives e.kind (is_some s.follows)) sound)

run-sound : (s : State) (events : List Event) → IsSound s → IsSound (state_after s events)
run-sound s [] sound = sound
run-sound s (e ∷ events) sound = run-sound (step s e).state events (step-sound s e sound)

pub work_is_for_taken_law : WorkIsForTaken
work_is_for_taken_law s events e sound opened plain =
    let old : State = state_after s events in
    let l : IsListed (opened_now old (taken e.kind old.waiting) (decided old e)) = (decided-for old e (run-sound s events sound) opened).0 plain in
    (l.0, l.1, record { stops = l.6; starts = l.7 })

pub work_is_for_taken_from_empty : WorkIsForTakenFromEmpty
work_is_for_taken_from_empty flags specs events e = work_is_for_taken_law (empty_state flags specs) events e (empty-sound flags specs)

pub end_is_for_taken_law : EndIsForTaken
end_is_for_taken_law s events e sound x opened is = (decided-for (state_after s events) e (run-sound s events sound) opened).1 x is

pub end_is_for_taken_from_empty : EndIsForTakenFromEmpty
end_is_for_taken_from_empty flags specs events e = end_is_for_taken_law (empty_state flags specs) events e (empty-sound flags specs)
