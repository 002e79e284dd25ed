-- A child's process stays its child's, in its slot, until the note of its end is taken.
use Rattle.std.specs.Prelude.{◌≡◌, ◌⊎◌, ℕ, ◌==◌, ◌+◌, ◌≤◌, ◌<◌, ◌++◌, ◌&&◌, Bool, true, false, List, [], ◌∷◌, Option, None, Some, Contains, refl, position, is_some, nat_le, slice_set, slice_range, remove, map, take, drop, count_by, unwrap_or}
use Rattle.std.specs.List.{list_any}
use Rattle.std.proofs.Common.{◌∙◌, ap, sym, subst, inl, inr, arith, ⊎_elim, cond}
use Rattle.std.proofs.lemmas.Bool.{false≢true, cond_both, cases_Bool, eqb-true, eq-eqb, and_from, and_parts}
use Rattle.std.proofs.lemmas.List.Sums.{sum_by-append, sum_by-cons, sum_by-take-drop}
use Rattle.std.proofs.lemmas.List.Folds.{drop_split}
use Prim.Native.Nat.{zero, suc}
use Rattle.otp_reason.specs.declared.note.Note.{Note}
use Rattle.otp_reason.specs.declared.note.Note.TheVariants as note
use Rattle.otp_spec.specs.declared.child.ChildSpec.{ChildSpec}
use Rattle.otp_spec.specs.declared.flags.SupFlags.{SupFlags}
use Rattle.otp_table.specs.declared.row.Row.{Row}
use Rattle.otp_table.specs.declared.row.RowState.{RowState}
use Rattle.otp_table.specs.declared.row.RowState.TheVariants.{Undefined, Starting, Up, Asked, Killed, Restarting}
use Rattle.otp_table.specs.Rows.{has_process, has_slot, is_awaited, is_undefined, with_state, calm_rows, calmed, free_slot}
use Rattle.otp_rules.specs.declared.ending.Ending.{Ending}
use Rattle.otp_rules.specs.declared.ending.Ending.TheVariants as ending
use Rattle.otp_rules.specs.declared.event.Event.{Event}
use Rattle.otp_rules.specs.declared.event.Item.{Item}
use Rattle.otp_rules.specs.declared.event.Item.TheVariants as item
use Rattle.otp_rules.specs.declared.event.Kind.{Kind}
use Rattle.otp_rules.specs.declared.event.Kind.TheVariants as kind
use Rattle.otp_rules.specs.declared.event.Waiting.{Waiting}
use Rattle.otp_rules.specs.declared.event.Waiting.TheVariants as waiting
use Rattle.otp_rules.specs.declared.call.Reply.{Reply}
use Rattle.otp_rules.specs.declared.work.Sequel.TheVariants as sequel
use Rattle.otp_rules.specs.State.{Outcome, State, answer, with_rows, with_waiting, with_work}
use Rattle.otp_rules.specs.Places.{end_row, end_process, is_removed, set_row}
use Rattle.otp_rules.specs.Restarts.{running}
use Rattle.otp_rules.specs.Stops.{calm_all, is_exit, without, told, tell_row, tell, use_exit, stop_each, terminate}
use Rattle.otp_rules.specs.Starts.{is_due, start_row, start}
use Rattle.otp_rules.specs.Ends.{end_all, refuse_all}
use Rattle.otp_rules.specs.Work.{advance}
use Rattle.otp_rules.specs.Deaths.{restart_rows, restart}
use Rattle.otp_rules.specs.Calls.{new_row}
use Rattle.otp_rules.specs.Step.{open_rows, tick, decide, stamped, step, step_on, killed, late_number}
use Rattle.otp_rules.specs.Run.{empty_state, state_after}
use Rattle.otp_rules.specs.Needs.{IsLawfulHistory, numbers_of}
use Rattle.otp_rules.specs.Homes.{Brings, end_number, is_ended}
use Rattle.otp_rules.specs.Fit.{next_number, rows_in, runs_as, times, IsDistinct, IsLawfulFrom, IsSound}
use Rattle.otp_rules.specs.Progress.{is_end, no_progress}
use Rattle.otp_rules.specs.InOrder.{Finishes, IsBare, IsInOrder, StaysInOrder}
use Rattle.otp_rules.specs.Lives.{EndComesLast, EndComesLastFrom, HasEnded, IsHeldIn, ProcessesStay, ProcessesStayFrom}
use Rattle.otp_rules.proofs.GoesOn.{GoesOn, advance-on}
use Rattle.otp_rules.proofs.States.{one_process, told_has}
use Rattle.otp_rules.proofs.Walks.{stop_each-by, terminate-by, with_stops, counted_restart}
use Rattle.otp_rules.proofs.Decisions.{Dies, SurvivesEvent, StandsAt, at_row-survives, at_number-survives, by_test, decide-survives_event, is_down}
use Rattle.otp_rules.proofs.Counting.{none_in, remove_count, rows_in-cons, set_count}
use Rattle.otp_rules.proofs.EndedRows.{step-bare}
use Rattle.otp_rules.proofs.Calm.{step-calm}
use Rattle.otp_rules.proofs.Finishing.{AreOne, IsFinishing, Stops, advance-finishes, decided-finishing, used-stops}
use Rattle.otp_rules.proofs.Heard.{Waits, answer-less, end-less, exit_put, open-less, tell-less, tick-less, use_exit-less}
use Rattle.otp_rules.proofs.Homes.{first_ends, has_starting, or_right, quiet_more, same_number, waits_there}
use Rattle.otp_rules.proofs.Numbers.{told_process, restart-within}
use Rattle.otp_rules.proofs.Sound.{empty-sound}
use Rattle.otp_rules.proofs.Lawful.{along}

-- the row has this process, in this slot
abbrev pub is_live : ℕ → ℕ → Row → Bool
is_live slot p row = has_slot slot row && has_process p row.state

abbrev pub lives : ℕ → ℕ → List Row → ℕ
lives slot p rows = count_by (is_live slot p) rows

-- there is one, or D holds
abbrev Has : Type 0 → ℕ → ℕ → List Row → Type 0
Has D slot p rows = (0 < lives slot p rows) ⊎ D

-- besides, where its end waits D holds
abbrev pub Lasts : Type 0 → ℕ → ℕ → Outcome → Type 0
Lasts D slot p o = (Waits p o → D) × Has D slot p o.state.rows

has_more : (D : Type 0) (slot p : ℕ) (xs ys : List Row) → lives slot p xs ≤ lives slot p ys → Has D slot p xs → Has D slot p ys
has_more D slot p xs ys le (inl h) = inl (omega (arith, le, h))
has_more D slot p xs ys le (inr d) = inr d

-- a row's state changes: it keeps its process, or D holds
set-has : (D : Type 0) (slot p place : ℕ) (row : Row) (state : RowState) (o : Outcome) → StandsAt place row o → (has_process p row.state ≡ true → (has_process p state ≡ true) ⊎ D) → Has D slot p o.state.rows → Has D slot p (slice_set o.state.rows place (with_state state row))
set-has D slot p place row state o at keeps (inr d) = inr d
set-has D slot p place row state o at keeps (inl h) =
    let rows : List Row = o.state.rows in
    let new : List Row = slice_set rows place (with_state state row) in
    let e : lives slot p new + cond (is_live slot p row) 1 0 ≡ lives slot p rows + cond (is_live slot p (with_state state row)) 1 0 = set_count (is_live slot p) rows place row (with_state state row) at in
    ⊎_elim
    (λ live.
    let parts = and_parts (has_slot slot row) (has_process p row.state) live in
    ⊎_elim
    (λ has.
    let one : ◌≡◌ {A = ℕ} (cond (is_live slot p row) 1 0) 1 = ap (λ (b : Bool). cond b 1 0) live in
    let too : ◌≡◌ {A = ℕ} (cond (is_live slot p (with_state state row)) 1 0) 1 = ap (λ (b : Bool). cond b 1 0) (and_from (has_slot slot row) (has_process p state) parts.0 has) in
    inl (omega (arith, e, one, too, h)))
    (λ d. inr d)
    (keeps parts.1))
    (λ (other : is_live slot p row ≡ false). let none : ◌≡◌ {A = ℕ} (cond (is_live slot p row) 1 0) 0 = ap (λ (b : Bool). cond b 1 0) other in inl (omega (arith, e, none, h)))
    (cases_Bool (is_live slot p row))

-- a row goes, whose process has ended
remove-has : (D : Type 0) (slot p place : ℕ) (row : Row) (o : Outcome) → StandsAt place row o → (has_process p row.state ≡ true → D) → Has D slot p o.state.rows → Has D slot p (remove o.state.rows place)
remove-has D slot p place row o at ended (inr d) = inr d
remove-has D slot p place row o at ended (inl h) =
    let e : lives slot p (remove o.state.rows place) + cond (is_live slot p row) 1 0 ≡ lives slot p o.state.rows = remove_count (is_live slot p) o.state.rows place row at in
    ⊎_elim
    (λ live. inr (ended (and_parts (has_slot slot row) (has_process p row.state) live).1))
    (λ (other : is_live slot p row ≡ false). let none : ◌≡◌ {A = ℕ} (cond (is_live slot p row) 1 0) 0 = ap (λ (b : Bool). cond b 1 0) other in inl (omega (arith, e, none, h)))
    (cases_Bool (is_live slot p row))

end-has : (D : Type 0) (slot p place : ℕ) (row : Row) (o : Outcome) → StandsAt place row o → (has_process p row.state ≡ true → D) → Has D slot p o.state.rows → Has D slot p (end_row place row o).state.rows
unfolding end_row
end-has D slot p place row o at ended h =
    by_test (λ (x : Outcome). Has D slot p x.state.rows) (is_removed row) (with_rows (remove o.state.rows place) o) (set_row place row Undefined o)
    (λ _. remove-has D slot p place row o at ended h)
    (λ _. set-has D slot p place row Undefined o at (λ has. inr (ended has)) h)

end-lasts : (D : Type 0) (slot p place : ℕ) (row : Row) (o : Outcome) → StandsAt place row o → (has_process p row.state ≡ true → D) → Lasts D slot p o → Lasts D slot p (end_row place row o)
end-lasts D slot p place row o at ended h = (λ w. h.0 (end-less p place row o w), end-has D slot p place row o at ended h.1)

tell-has : (D : Type 0) (slot p q : ℕ) (o : Outcome) → Has D slot p o.state.rows → Has D slot p (tell q o).state.rows
unfolding tell tell_row
tell-has D slot p q o h =
    at_number-survives (λ (x : Outcome). Has D slot p x.state.rows) q (tell_row q) o h
    (λ i row at has.
    set-has D slot p i row (told o.state.last q row.spec.shutdown) o at
    (λ mine. inl (told_process o.state.last q p row.spec.shutdown ∙ eq-eqb q p (one_process p q row.state mine has))) h)

tell-lasts : (D : Type 0) (slot p q : ℕ) (o : Outcome) → Lasts D slot p o → Lasts D slot p (tell q o)
tell-lasts D slot p q o h = (λ w. h.0 (tell-less p q o w), tell-has D slot p q o h.1)

use_exit-has : (D : Type 0) (slot p q : ℕ) (place : Option ℕ) (o : Outcome) → (q ≡ p → D) → Has D slot p o.state.rows → Has D slot p (use_exit q place o).state.rows
unfolding use_exit end_process
use_exit-has D slot p q place o ended h =
    let left : Outcome = with_waiting (without o.state.waiting place) o in
    at_number-survives (λ (x : Outcome). Has D slot p x.state.rows) q end_row left h
    (λ i row at has. end-has D slot p i row left at (λ mine. ended (one_process p q row.state mine has)) h)

use_exit-lasts : (D : Type 0) (slot p q : ℕ) (o left : Outcome) → left.state.rows ≡ o.state.rows → left.state.waiting ≡ o.state.waiting → is_some (position (is_exit q) o.state.waiting) ≡ true → Lasts D slot p o → Lasts D slot p (use_exit q (position (is_exit q) o.state.waiting) left)
use_exit-lasts D slot p q o left rows waits some h =
    let place : Option ℕ = position (is_exit q) o.state.waiting in (
      λ w. h.0 (use_exit-less p q place o left waits w),
      use_exit-has D slot p q place left (λ is. h.0 (subst (λ (n : ℕ). list_any (is_ended n) o.state.waiting ≡ true) is (waits_there q o.state.waiting some))) (subst (λ (l : List Row). Has D slot p l) (sym rows) h.1),
    )

stop_each-lasts : (D : Type 0) (slot p : ℕ) (qs : List ℕ) (o : Outcome) → Lasts D slot p o → Lasts D slot p (stop_each qs o)
stop_each-lasts D slot p = stop_each-by (Lasts D slot p) (λ q o some h. use_exit-lasts D slot p q o o refl refl some h) (λ q o _ h. tell-lasts D slot p q o h)

-- each row keeps its slot and its process
pub map-lives : (slot p : ℕ) (f : Row → Row) → ((row : Row) → is_live slot p (f row) ≡ is_live slot p row) → (rows : List Row) → lives slot p (map f rows) ≡ lives slot p rows
map-lives slot p f same [] = refl
map-lives slot p f same (row ∷ rows) =
    let e : ◌≡◌ {A = ℕ} (cond (is_live slot p (f row)) 1 0) (cond (is_live slot p row) 1 0) = ap (λ (b : Bool). cond b 1 0) (same row) in
    omega (arith, e, sum_by-cons (λ (r : Row). cond (is_live slot p r) 1 0) row rows, sum_by-cons (λ (r : Row). cond (is_live slot p r) 1 0) (f row) (map f rows), map-lives slot p f same rows)

pub calm-lives : (slot p : ℕ) (rows : List Row) → lives slot p (calm_rows rows) ≡ lives slot p rows
calm-lives slot p rows = map-lives slot p (λ (row : Row). with_state (calmed row.state) row) (λ row. ap (λ (b : Bool). has_slot slot row && b) (same row.state)) rows
  where
    same : (state : RowState) → has_process p (calmed state) ≡ has_process p state
    same Undefined = refl
    same (Starting _ _) = refl
    same (Up _) = refl
    same (Asked _ _) = refl
    same (Killed _) = refl
    same (Restarting _) = refl

pub tick_one : (slot p now : ℕ) (row : Row) (state : RowState) → row.state ≡ state → is_live slot p (killed row (late_number now state)) ≡ is_live slot p row
tick_one slot p now row Undefined is = refl
tick_one slot p now row (Starting _ _) is = refl
tick_one slot p now row (Up _) is = refl
tick_one slot p now row (Asked q None) is = refl
tick_one slot p now row (Asked q (Some d)) is =
    cond_both (nat_le d now) (Some q) None (λ (x : Option ℕ). is_live slot p (killed row x) ≡ is_live slot p row)
    (λ _. ap (λ (t : RowState). has_slot slot row && has_process p t) (sym is)) (λ _. refl)
tick_one slot p now row (Killed _) is = refl
tick_one slot p now row (Restarting _) is = refl

tick-has : (D : Type 0) (slot p : ℕ) (o : Outcome) → Has D slot p o.state.rows → Has D slot p (tick o).state.rows
unfolding tick
tick-has D slot p o h =
    has_more D slot p o.state.rows (map (λ (row : Row). killed row (late_number o.state.last row.state)) o.state.rows)
    (omega (arith, map-lives slot p (λ (row : Row). killed row (late_number o.state.last row.state)) (λ row. tick_one slot p o.state.last row row.state refl) o.state.rows)) h

answer-has : (D : Type 0) (slot p c : ℕ) (r : Reply) (o : Outcome) → Has D slot p o.state.rows → Has D slot p (answer c r o).state.rows
unfolding answer
answer-has D slot p c r o h = h

terminate-lasts : (D : Type 0) (slot p : ℕ) (e : Ending) (o : Outcome) → Lasts D slot p o → Lasts D slot p (terminate e o)
terminate-lasts D slot p e o h =
    let calm : Has D slot p (calm_rows o.state.rows) = has_more D slot p o.state.rows (calm_rows o.state.rows) (omega (arith, calm-lives slot p o.state.rows)) h.1 in
    terminate-by (Lasts D slot p) e o
    (λ _. stop_each-lasts D slot p (running o.state.rows) (calm_all (with_work [] [] (Some (sequel.End e)) o)) (h.0, calm))
    (λ _. (h.0, calm))

pub restarted-lives : (slot p from to : ℕ) (rows : List Row) → from ≤ to → lives slot p (take from rows ++ calm_rows (slice_range rows from to) ++ drop to rows) ≡ lives slot p rows
restarted-lives slot p from to rows le =
    let t : Row → ℕ = λ (r : Row). cond (is_live slot p r) 1 0 in
    let part : List Row = slice_range rows from to in
    let split : lives slot p (drop from rows) ≡ lives slot p part + lives slot p (drop to rows) = ap (λ (xs : List Row). lives slot p xs) (drop_split rows from to le) ∙ sum_by-append t part (drop to rows) in
    let all : lives slot p (take from rows) + lives slot p (drop from rows) ≡ lives slot p rows = sum_by-take-drop t rows from in
    omega (arith, sum_by-append t (take from rows ++ calm_rows part) (drop to rows), sum_by-append t (take from rows) (calm_rows part), calm-lives slot p part, split, all)

-- a child whose process has ended is restarted
restart-lasts : (D : Type 0) (slot p k place : ℕ) (row : Row) (o : Outcome) → StandsAt place row o → (has_process p row.state ≡ true → D) → Lasts D slot p o → Lasts D slot p (restart k place row o)
unfolding restart_rows
restart-lasts D slot p k place row o at ended h =
    let counted : Outcome = counted_restart place row o in
    let rows : List Row = counted.state.rows in
    let now : Has D slot p rows = set-has D slot p place row Undefined o at (λ has. inr (ended has)) h.1 in
    restart-within (Lasts D slot p) k place row o at (terminate-lasts D slot p ending.Intensity counted (h.0, now))
    (λ from to le. (h.0, has_more D slot p rows (take from rows ++ calm_rows (slice_range rows from to) ++ drop to rows) (omega (arith, restarted-lives slot p from to rows le)) now))

-- the end waited before, or the event brings a note of it
abbrev pub Ended : (Item → Type 0) → Outcome → ℕ → Type 0
Ended G old p = Waits p old ⊎ ((x : Note) × G (item.Note x) × (end_number x ≡ Some p))

by_note : (G : Item → Type 0) (old : Outcome) (p q : ℕ) (x : Note) (row : Row) → end_number x ≡ Some q → G (item.Note x) → has_process q row.state ≡ true → has_process p row.state ≡ true → Ended G old p
by_note G old p q x row ends got has mine = inr (x, got, ends ∙ ap (λ (n : ℕ). Some n) (one_process p q row.state mine has))

no_process : (p : ℕ) (state : RowState) → is_down state ≡ true → has_process p state ≡ true → ⊥
no_process p Undefined d h = false≢true h
no_process p (Starting _ _) d h = false≢true d
no_process p (Up _) d h = false≢true d
no_process p (Asked _ _) d h = false≢true d
no_process p (Killed _) d h = false≢true d
no_process p (Restarting _) d h = false≢true h

pub up_has : (q : ℕ) (row : Row) → row.state ≡ Up q → has_process q row.state ≡ true
up_has q row is = ap (λ (t : RowState). has_process q t) is ∙ same_number q

open-lasts : (D : Type 0) (slot p own : ℕ) (o : Outcome) → o.state.rows ≡ [] → Lasts D slot p o → Lasts D slot p (open_rows own o)
open-lasts D slot p own o none h = (λ w. h.0 (open-less p own o w), only h.1)
  where
    only : Has D slot p o.state.rows → Has D slot p (open_rows own o).state.rows
    only (inl some) = absurd (let z : lives slot p o.state.rows ≡ 0 = ap (λ (l : List Row). lives slot p l) none in omega (arith, some, z))
    only (inr d) = inr d

lasts-survives : (k : Kind) (G : Item → Type 0) (old : Outcome) (slot p : ℕ) → IsBare old.state → SurvivesEvent k G old (Lasts (Ended G old p) slot p)
lasts-survives k G old slot p bare =
    let D : Type 0 = Ended G old p in
    record {
      answered = λ c r o quiet h. (λ w. h.0 (answer-less p c r o w), answer-has D slot p c r o h.1);
      taken = λ x xs resumed idle runs is h. (λ w. inl (subst (λ (ws : List Waiting). list_any (is_ended p) ws ≡ true) (sym is) (or_right (is_ended p x) (list_any (is_ended p) xs) w)), h.1);
      call_waits = λ c x o u busy g h. (λ w. h.0 (quiet_more o.state.waiting (waiting.Item (item.Call c x)) (λ q. refl) p w), h.1);
      exit_waits = λ q r place row o u at has g h. (λ w. exit_put D p q r o.state.waiting (λ same. inr (note.Exit q r, g, ap (λ (n : ℕ). Some n) same)) h.0 w, h.1);
      up = λ q place row n kept o u at is same g h.
          (h.0, set-has D slot p place row (Up q) o at (λ mine. inl (eq-eqb q p (one_process p q row.state mine (has_starting row n kept q is same)))) h.1);
      up_closed = λ q place row n kept c o u at is same follows g h.
          (h.0, set-has D slot p place row (Up q) o at (λ mine. inl (eq-eqb q p (one_process p q row.state mine (has_starting row n kept q is same)))) h.1);
      ignored = λ q place row n kept o u at is same g h. end-lasts D slot p place row o at (by_note G old p q (note.Ignored q) row refl g (has_starting row n kept q is same)) h;
      opening_failed = λ place row q kept o u runs at is follows g h.
          terminate-lasts D slot p (ending.InitFailed row.spec.id) (set_row place row Undefined o)
          (h.0, set-has D slot p place row Undefined o at (λ mine. inr (by_note G old p q (note.Failed q g.0) row refl g.1 (has_starting row q kept q is (same_number q)) mine)) h.1);
      restart_failed = λ place row q kept o u at is follows g h. (
        λ w. h.0 (quiet_more o.state.waiting (waiting.Retry kept) (λ n. refl) p w),
        set-has D slot p place row (Restarting kept) o at (λ mine. inr (by_note G old p q (note.Failed q g.0) row refl g.1 (has_starting row q kept q is (same_number q)) mine)) h.1,
      );
      added_failed = λ place row q kept c o u at is follows g h.
          (h.0, remove-has D slot p place row o at (by_note G old p q (note.Failed q g.0) row refl g.1 (has_starting row q kept q is (same_number q))) h.1);
      restarted_failed = λ place row q kept c o u at is follows g h.
          (h.0, set-has D slot p place row Undefined o at (λ mine. inr (by_note G old p q (note.Failed q g.0) row refl g.1 (has_starting row q kept q is (same_number q)) mine)) h.1);
      stopped = λ q r place row o u at told g h. end-lasts D slot p place row o at (by_note G old p q (note.Exit q r) row refl g (told_has q row.state told)) h;
      died = λ q place row o u idle runs at is g h. end-lasts D slot p place row o at (by_note G old p q (note.Exit q g.0) row refl g.1 (up_has q row is)) h;
      restarts = λ q place row o u idle runs at is h.
          restart-lasts D slot p q place row o at
          (λ mine. ⊎_elim (λ (up : Dies G q place row o true). by_note G old p q (note.Exit q up.1.0) row refl up.1.1 (up_has q row up.0) mine)
          (λ down. absurd (no_process p row.state (ap (λ (t : RowState). is_down t) down.0) mine)) is) h;
      ends = λ e o u other idle runs h. terminate-lasts D slot p e o h;
      ticks = λ is h. (λ w. h.0 (tick-less p old w), tick-has D slot p old h.1);
      opens = λ own is over h. open-lasts D slot p own old (bare over) h;
      adds = λ c id spec o u idle runs named few got h.
          (h.0, has_more D slot p o.state.rows (o.state.rows ++ new_row (free_slot o.state.rows) id spec ∷ []) (omega (arith, sum_by-append (λ (r : Row). cond (is_live slot p r) 1 0) o.state.rows (new_row (free_slot o.state.rows) id spec ∷ []))) h.1);
      starts_again = λ c id place row o u idle runs at has is noted found h. h;
      removed = λ place row o u idle runs at down h. (h.0, remove-has D slot p place row o at (λ mine. absurd (no_process p row.state down mine)) h.1);
      given_up = λ place row o u idle runs at down h. (h.0, set-has D slot p place row Undefined o at (λ mine. absurd (no_process p row.state down mine)) h.1);
      stops_child = λ c q place row o u idle runs at up has got h. h;
    }

-- a row that has the process runs, or an answer of it is awaited
live_counts : (slot p : ℕ) (rows : List Row) → lives slot p rows ≤ rows_in (runs_as p) rows + rows_in is_awaited rows
live_counts slot p [] = omega arith
live_counts slot p (row ∷ rows) =
    omega (arith, one row.state (has_slot slot row), sum_by-cons (λ (r : Row). cond (is_live slot p r) 1 0) row rows, rows_in-cons (runs_as p) row rows, rows_in-cons is_awaited row rows, live_counts slot p rows)
  where
    at_most : (b : Bool) → cond b 1 0 ≤ 1
    at_most true = omega arith
    at_most false = omega arith

    with_slot : (b c : Bool) → cond (b && c) 1 0 ≤ cond c 1 0
    with_slot true c = omega arith
    with_slot false c = omega arith

    one : (state : RowState) (b : Bool) → cond (b && has_process p state) 1 0 ≤ cond (runs_as p state) 1 0 + cond (is_awaited state) 1 0
    one Undefined b = omega (arith, with_slot b false)
    one (Starting x _) b = omega (arith, at_most (b && (x == p)))
    one (Up x) b = omega (arith, with_slot b (x == p))
    one (Asked x _) b = omega (arith, at_most (b && (x == p)))
    one (Killed x) b = omega (arith, at_most (b && (x == p)))
    one (Restarting _) b = omega (arith, with_slot b false)

undefined_none : (p : ℕ) (state : RowState) → is_undefined state ≡ true → has_process p state ≡ true → ⊥
undefined_none p Undefined u h = false≢true h
undefined_none p (Starting _ _) u h = false≢true u
undefined_none p (Up _) u h = false≢true u
undefined_none p (Asked _ _) u h = false≢true u
undefined_none p (Killed _) u h = false≢true u
undefined_none p (Restarting _) u h = false≢true u

-- nothing is left to stop and nothing is awaited, so no row has a process where the supervisor ends
none_lives : (slot p : ℕ) (o : Outcome) → Stops [] o → is_end o.state.follows ≡ true → lives slot p o.state.rows ≡ 0
none_lives slot p o h e = let z : times p [] ≡ 0 = refl in omega (arith, live_counts slot p o.state.rows, (h.2 e).0 p, h.0.1, z)

going-lasts : (D : Type 0) (slot p n : ℕ) → GoesOn n (λ ps x. Stops ps x × Lasts D slot p x) (Lasts D slot p)
unfolding start start_row answer end_all refuse_all
going-lasts D slot p n =
    record {
      uses = λ q rest o some g. (used-stops q rest o g.0, use_exit-lasts D slot p q o (with_stops rest o) refl refl some g.1);
      tells = λ q rest o _ g. tell-lasts D slot p q (with_stops rest o) g.1;
      starts = λ due dues o _ g.
          let left : Outcome = with_work o.state.to_stop dues o.state.follows o in
          at_row-survives (Lasts D slot p) (is_due due) left (start_row due n) left g.1 g.1
          (λ i row at has. (g.1.0, set-has D slot p i row (Starting n (unwrap_or due.kept n)) left at (λ mine. absurd (undefined_none p row.state (and_parts _ (is_undefined row.state) has).1 mine)) g.1.1));
      closes = λ f o _ _ g. g.1;
      answers = λ c r f o _ _ g. g.1;
      ready = λ o _ g. g.1;
      ends = λ e o is g. (λ w. absurd (false≢true w), ⊎_elim (λ (some : 0 < lives slot p o.state.rows). absurd (omega (arith, some, none_lives slot p o g.0 (ap is_end is.0)))) (λ d. inr d) g.1.1);
    }

advance-lasts : (D : Type 0) (slot p n : ℕ) (o : Outcome) → IsSound o.state → AreOne o → Finishes o.state → Lasts D slot p o → Lasts D slot p (advance n o)
advance-lasts D slot p n o sound one finishes h =
    advance-on n (λ ps x. Stops ps x × Lasts D slot p x) (Lasts D slot p) (going-lasts D slot p n) o (λ _. h) (λ busy none. (((sound, none_in is_awaited o.state.rows none, refl, busy), one, finishes), h))

step-finishes : (m : ℕ) (s : State) (e : Event) → IsInOrder m s → Finishes (step s e).state
unfolding step step_on
step-finishes m s e h =
    let start : Outcome = record { state = stamped e.reading s; orders = [] } in
    let f : IsFinishing start (decide e.kind start) = decided-finishing e.kind start h.0 h.1.0 h.2 in
    advance-finishes (unwrap_or e.number 0) (decide e.kind start) f.0 (λ q. omega (arith, f.1 q, h.1.0 q)) f.2

step-lasts : (m : ℕ) (s : State) (e : Event) (slot p : ℕ) → IsInOrder m s → 0 < lives slot p s.rows → Lasts (Ended (Brings e.kind s.waiting) (record { state = stamped e.reading s; orders = [] }) p) slot p (step s e)
unfolding step step_on
step-lasts m s e slot p h some =
    let start : Outcome = record { state = stamped e.reading s; orders = [] } in
    let G : Item → Type 0 = Brings e.kind s.waiting in
    let f : IsFinishing start (decide e.kind start) = decided-finishing e.kind start h.0 h.1.0 h.2 in
    advance-lasts (Ended G start p) slot p (unwrap_or e.number 0) (decide e.kind start) f.0 (λ q. omega (arith, f.1 q, h.1.0 q)) f.2
    (decide-survives_event e.kind G start (Lasts (Ended G start p) slot p) (lasts-survives e.kind G start slot p h.3) (λ i b idle. b) (λ w. inl w, inl some))

pub contains_counts : (t : Row → Bool) (rows : List Row) (row : Row) → Contains rows row → t row ≡ true → 0 < count_by t rows
contains_counts t [] row c h = absurd (omega (arith, c.1))
contains_counts t (x ∷ xs) row (zero, a, b) h =
    let one : ◌≡◌ {A = ℕ} (cond (t x) 1 0) 1 = ap (λ (r : Bool). cond r 1 0) (subst (λ (r : Row). t r ≡ true) (sym b) h) in
    omega (arith, one, sum_by-cons (λ (r : Row). cond (t r) 1 0) x xs)
contains_counts t (x ∷ xs) row (suc k, a, b) h = omega (arith, contains_counts t xs row (k, omega (arith, a), b) h, sum_by-cons (λ (r : Row). cond (t r) 1 0) x xs)

pub counts_contain : (t : Row → Bool) (rows : List Row) → 0 < count_by t rows → (row : Row) × Contains rows row × (t row ≡ true)
counts_contain t [] h = absurd (let z : count_by t [] ≡ 0 = refl in omega (arith, h, z))
counts_contain t (x ∷ xs) h =
    ⊎_elim
    (λ here. (x, (0, omega arith, refl), here))
    (λ (other : t x ≡ false).
    let none : ◌≡◌ {A = ℕ} (cond (t x) 1 0) 0 = ap (λ (b : Bool). cond b 1 0) other in
    let r : (row : Row) × Contains xs row × (t row ≡ true) = counts_contain t xs (omega (arith, none, h, sum_by-cons (λ (r : Row). cond (t r) 1 0) x xs)) in
    (r.0, (suc r.1.0, omega (arith, r.1.1), r.1.2), r.2))
    (cases_Bool (t x))

ended_then : (s : State) (k : Kind) (p : ℕ) → (x : Note) × Brings k s.waiting (item.Note x) × (end_number x ≡ Some p) → HasEnded s k p
ended_then s (kind.Opened own) p h = absurd h.1
ended_then s (kind.Took j) p h = inr (h.0, ap (λ (i : Item). kind.Took i) h.1, h.2)
ended_then s kind.Resumed p h = inl (first_ends s.waiting h.0 p h.1 h.2)
ended_then s kind.Ticked p h = absurd h.1
ended_then s kind.Stopped p h = absurd h.1

-- from each state that is in order
pub stays_from : (m : ℕ) (s : State) (e : Event) → IsInOrder m s → (row : Row) (p : ℕ) → Contains s.rows row → has_process p row.state ≡ true → HasEnded s e.kind p ⊎ IsHeldIn (step s e).state.rows row.slot p
stays_from m s e h row p among has =
    let some : 0 < lives row.slot p s.rows = contains_counts (is_live row.slot p) s.rows row among (and_from (row.slot == row.slot) (has_process p row.state) (same_number row.slot) has) in
    ⊎_elim
    (λ live.
    let r : (new : Row) × Contains (step s e).state.rows new × (is_live row.slot p new ≡ true) = counts_contain (is_live row.slot p) (step s e).state.rows live in
    let parts = and_parts (has_slot row.slot r.0) (has_process p r.0.state) r.2 in
    inr (r.0, r.1, eqb-true r.0.slot row.slot parts.0, parts.1))
    (λ (d : Ended (Brings e.kind s.waiting) (record { state = stamped e.reading s; orders = [] }) p). inl (⊎_elim (λ w. inl w) (λ x. ended_then s e.kind p x) d))
    (step-lasts m s e row.slot p h some).1

-- each event keeps a state in order, and so does a lawful history

step-in_order : (m k : ℕ) (s : State) (e : Event) → IsInOrder m s → IsDistinct k (step s e).state → IsInOrder k (step s e).state
step-in_order m k s e h distinct =
    let bare = step-bare s e h.0 h.3 in
    (bare.0, distinct, step-finishes m s e h, bare.1, (step-calm s e h.0 h.4).1)

pub stays_in_order : (m : ℕ) (s : State) (events : List Event) → IsInOrder m s → IsLawfulFrom m s events → IsInOrder (next_number m (numbers_of events)) (state_after s events)
stays_in_order m s events h lawful = along (λ n t g. IsInOrder n t) (λ n t g order. order.1) (λ n k t e g order distinct. step-in_order n k t e order distinct) m s (no_progress s) events h lawful

pub empty_in_order : (flags : SupFlags) (specs : List ChildSpec) → IsInOrder 0 (empty_state flags specs)
empty_in_order flags specs =
    (empty-sound flags specs, (λ q. omega arith, λ q h. refl), (λ e. absurd (false≢true e)), (λ over. refl), (λ e. absurd (false≢true e)))

pub stays_in_order_law : StaysInOrder
stays_in_order_law = (empty_in_order, stays_in_order)

-- a lawful history from the empty state is one from a state that is in order, whose numbers begin anywhere
pub lawful_at_0 : (s : State) (events : List Event) → IsLawfulHistory s events → IsLawfulFrom 0 s events
lawful_at_0 s events lawful = (lawful, λ i d within. omega arith)

pub processes_stay_from_law : ProcessesStayFrom
processes_stay_from_law m s events e order lawful row p among has =
    stays_from (next_number m (numbers_of events)) (state_after s events) e (stays_in_order m s events order lawful) row p among has

pub processes_stay_law : ProcessesStay
processes_stay_law flags specs events e lawful row p among has =
    let base : State = empty_state flags specs in
    processes_stay_from_law 0 base events e (empty_in_order flags specs) (lawful_at_0 base events lawful) row p among has

pub end_comes_last_from_law : EndComesLastFrom
end_comes_last_from_law m s events e order lawful over row p among has =
    let now : IsInOrder (next_number m (numbers_of events)) (state_after s events) = stays_in_order m s events order lawful in
    let none : (step (state_after s events) e).state.rows ≡ [] = (step-bare (state_after s events) e now.0 now.3).1 over in
    ⊎_elim (λ ended. ended)
    (λ (held : IsHeldIn (step (state_after s events) e).state.rows row.slot p). absurd (let c : Contains [] held.0 = subst (λ (l : List Row). Contains l held.0) none held.1 in omega (arith, c.1)))
    (processes_stay_from_law m s events e order lawful row p among has)

pub end_comes_last_law : EndComesLast
end_comes_last_law flags specs events e lawful over row p among has =
    let base : State = empty_state flags specs in
    end_comes_last_from_law 0 base events e (empty_in_order flags specs) (lawful_at_0 base events lawful) over row p among has
