-- What the open work awaits, and that what it is to stop is there.
use Rattle.std.specs.Prelude.{◌≡◌, ◌⊎◌, ℕ, ◌==◌, ◌+◌, ◌-◌, ◌≤◌, ◌++◌, ◌&&◌, Bool, true, false, List, [], ◌∷◌, Option, None, Some, refl, position, is_some, slice_set, slice_range, length, remove, unwrap_or, reverse, take, drop}
use Rattle.std.proofs.Common.{◌∙◌, ap, sym, subst, inl, inr, arith, cond}
use Rattle.std.proofs.lemmas.Bool.{cond_both, false≢true, and_parts}
use Rattle.otp_spec.specs.declared.child.ChildSpec.{ChildSpec}
use Rattle.otp_spec.specs.declared.flags.SupFlags.{SupFlags}
use Rattle.otp_table.specs.declared.row.Row.{Row}
use Rattle.otp_table.specs.declared.row.RowState.{RowState}
use Rattle.otp_table.specs.declared.row.RowState.TheVariants.{Undefined, Starting, Up, Asked, Killed, Restarting}
use Rattle.otp_table.specs.Rows.{has_process, is_awaited, row_has, with_state, calm_rows, free_slot}
use Rattle.otp_rules.specs.declared.call.Reply.{Reply}
use Rattle.otp_rules.specs.declared.ending.Ending.{Ending}
use Rattle.otp_rules.specs.declared.event.Kind.{Kind}
use Rattle.otp_rules.specs.declared.work.Due.{Due}
use Rattle.otp_rules.specs.declared.work.Sequel.{Sequel}
use Rattle.otp_spec.specs.Flags.{is_simple}
use Rattle.otp_rules.specs.State.{Outcome, State, answer, closed, is_over, with_rows, with_stamps, with_waiting, with_work}
use Rattle.otp_rules.specs.Places.{end_row, end_process, set_row}
use Rattle.otp_rules.specs.Restarts.{affected_from, affected_to, dues, running}
use Rattle.otp_rules.specs.Stops.{calm_all, is_exit, without, told, tell_row, tell, use_exit, stop_each, terminate}
use Rattle.otp_rules.specs.Starts.{is_due, start_row, start}
use Rattle.otp_rules.specs.Ends.{refuse_all, end_all}
use Rattle.otp_rules.specs.Work.{advance}
use Rattle.otp_rules.specs.Deaths.{restart_rows, restart}
use Rattle.otp_rules.specs.Calls.{new_row}
use Rattle.otp_rules.specs.Step.{rows_from, open_with, open_rows, opening_specs, tick}
use Rattle.otp_rules.specs.Run.{empty_state}
use Rattle.otp_rules.specs.Progress.{is_end}
use Rattle.otp_rules.specs.Fit.{is_told, rows_in, times, runs_as, IsLimited, IsCovered, IsSound}
use Rattle.otp_rules.proofs.GoesOn.{GoesOn, advance-on}
use Rattle.otp_rules.proofs.Walks.{restart-by, terminate-by}
use Rattle.otp_rules.proofs.Decisions.{IsIdle, IsRunning, StandsAt, Survives, at_row-survives, at_number-survives}
use Rattle.otp_rules.proofs.Counting.{times-cons, rows_in-cons, rows_in-append, remove_count, rows_in-set, rows_in-at, rows_in-end, Alike, end_row-alike, stop_each-alike, told-runs, runs_number, times-reverse, running_counted, calm_awaited, tick_count, take_rows, drop_rows, none_in, there}
use Rattle.otp_rules.specs.declared.ending.Ending.TheVariants as ending
use Rattle.otp_rules.specs.declared.work.Sequel.TheVariants as sequel

limited-less : (f : Option Sequel) (m n : ℕ) → m ≤ n → IsLimited f n → IsLimited f m
limited-less None m n h k = omega (arith, h, k)
limited-less (Some sequel.Ready) m n h k = omega (arith, h, k)
limited-less (Some sequel.Nothing) m n h k = omega (arith, h, k)
limited-less (Some (sequel.Added _)) m n h k = omega (arith, h, k)
limited-less (Some (sequel.Restarted _)) m n h k = omega (arith, h, k)
limited-less (Some (sequel.Stopped _)) m n h k = omega (arith, h, k)
limited-less (Some (sequel.End _)) m n h k = tt

pub limited-one : (f : Option Sequel) (n : ℕ) → is_some f ≡ true → n ≤ 1 → IsLimited f n
limited-one None n busy h = absurd (false≢true busy)
limited-one (Some sequel.Ready) n busy h = h
limited-one (Some sequel.Nothing) n busy h = h
limited-one (Some (sequel.Added _)) n busy h = h
limited-one (Some (sequel.Restarted _)) n busy h = h
limited-one (Some (sequel.Stopped _)) n busy h = h
limited-one (Some (sequel.End _)) n busy h = tt

limited-none : (f : Option Sequel) (n : ℕ) → is_some f ≡ false → IsLimited f n → n ≡ 0
limited-none None n idle h = h
limited-none (Some f) n idle h = absurd (false≢true (sym idle))

-- nothing to stop is always covered
pub covered-none : (ps : List ℕ) (rows : List Row) → ps ≡ [] → IsCovered ps rows
covered-none ps rows h q = let e : times q ps ≡ 0 = ap (λ (xs : List ℕ). times q xs) h in omega (arith, e)

-- no work is open, and nothing is awaited
pub closed-sound : (o : Outcome) → rows_in is_awaited o.state.rows ≡ 0 → IsSound (closed o).state
closed-sound o h = (h, covered-none [] o.state.rows refl, λ _. (refl, refl), λ _. refl, λ _. refl, λ _. refl)

-- a row ends while the work stays as it is
ended-sound : (place : ℕ) (row : Row) (o : Outcome) → StandsAt place row o → ((q : ℕ) → runs_as q row.state ≡ false) → IsSound o.state → IsSound (end_row place row o).state
ended-sound place row o at loose g =
    let same : Alike (end_row place row o) o = end_row-alike place row o in
    let fewer : rows_in is_awaited (end_row place row o).state.rows ≤ rows_in is_awaited o.state.rows =
    (let e : rows_in is_awaited (end_row place row o).state.rows + cond (is_awaited row.state) 1 0 ≡ rows_in is_awaited o.state.rows = rows_in-end is_awaited refl place row o at in omega (arith, e)) in (
      subst (λ (f : Option Sequel). IsLimited f (rows_in is_awaited (end_row place row o).state.rows)) (sym same.4)
          (limited-less o.state.follows _ _ fewer g.0),
      λ q.
          let e : rows_in (runs_as q) (end_row place row o).state.rows + cond (runs_as q row.state) 1 0 ≡ rows_in (runs_as q) o.state.rows = rows_in-end (runs_as q) refl place row o at in
          let z : ◌≡◌ {A = ℕ} (cond (runs_as q row.state) 1 0) 0 = ap (λ (b : Bool). cond b 1 0) (loose q) in
          let t : times q (end_row place row o).state.to_stop ≡ times q o.state.to_stop = ap (λ (ps : List ℕ). times q ps) same.2 in
          omega (arith, e, z, t, g.1 q),
      λ idle. let k : (o.state.to_stop ≡ []) × (o.state.to_start ≡ []) = g.2 (sym (ap (λ (f : Option Sequel). is_some f) same.4) ∙ idle) in (same.2 ∙ k.0, same.3 ∙ k.1),
      λ over. ap (λ (f : Option Sequel). is_some f) same.4 ∙ g.3 (sym (ap is_over same.1) ∙ over),
      λ e. same.3 ∙ g.4 (sym (ap is_end same.4) ∙ e),
      λ e. same.2 ∙ g.5 (sym (ap (λ (f : Option Sequel). is_end f && is_simple (end_row place row o).state.flags.strategy) same.4 ∙ ap (λ (x : SupFlags). is_end o.state.follows && is_simple x.strategy) same.0) ∙ e),
    )

-- what the open work may await is there: a change of rows that awaits less and has what is to stop
pub changed-sound : (rows : List Row) (o : Outcome) → rows_in is_awaited rows ≤ rows_in is_awaited o.state.rows → ((q : ℕ) → times q o.state.to_stop ≤ rows_in (runs_as q) rows) → IsSound o.state → IsSound (with_rows rows o).state
changed-sound rows o fewer there g = (limited-less o.state.follows _ _ fewer g.0, there, g.2, g.3, g.4, g.5)

-- with nothing to stop
idle-sound : (b : Bool) (rows : List Row) (o : Outcome) → IsIdle b o → rows_in is_awaited rows ≤ rows_in is_awaited o.state.rows → IsSound o.state → IsSound (with_rows rows o).state
idle-sound b rows o idle fewer g = changed-sound rows o fewer (covered-none o.state.to_stop rows (g.2 idle.1).0) g

pub awaits_nothing : (b : Bool) (o : Outcome) → IsIdle b o → IsSound o.state → rows_in is_awaited o.state.rows ≡ 0
awaits_nothing b o idle g = limited-none o.state.follows _ idle.1 g.0

-- a supervisor that runs ends
terminate-sound : (e : Ending) (o : Outcome) → IsRunning o → IsSound (terminate e o).state
terminate-sound e o runs =
    terminate-by (λ x. IsSound x.state) e o
    (λ _.
    let opened : Outcome = calm_all (with_work [] [] (Some (sequel.End e)) o) in
    let same : Alike (stop_each (running o.state.rows) opened) opened = stop_each-alike (running o.state.rows) opened in (
      subst (λ (f : Option Sequel). IsLimited f (rows_in is_awaited (stop_each (running o.state.rows) opened).state.rows)) (sym same.4) tt,
      covered-none (stop_each (running o.state.rows) opened).state.to_stop (stop_each (running o.state.rows) opened).state.rows same.2,
      λ idle. absurd (false≢true (sym idle ∙ ap (λ (f : Option Sequel). is_some f) same.4)),
      λ over. absurd (false≢true (sym runs ∙ sym (ap is_over same.1) ∙ over)),
      λ _. same.3,
      λ _. same.2,
    ))
    (λ plain. (
      tt,
      λ q. omega (arith, times-reverse q (running o.state.rows), running_counted q o.state.rows),
      λ idle. absurd (false≢true (sym idle)),
      λ over. absurd (false≢true (sym runs ∙ over)),
      λ _. refl,
      λ simple. absurd (false≢true (sym plain ∙ simple)),
    ))

restart_rows-sound : (from to place k : ℕ) (o : Outcome) → IsRunning o → rows_in is_awaited o.state.rows ≡ 0 → IsSound (restart_rows from to place k o).state
unfolding restart_rows
restart_rows-sound from to place k o runs none =
    let rows : List Row = o.state.rows in
    let part : List Row = slice_range o.state.rows from to in
    let split : (t : RowState → Bool) → rows_in t (take from rows ++ calm_rows part ++ drop to rows) ≡ rows_in t (take from rows) + rows_in t (calm_rows part) + rows_in t (drop to rows) =
    λ t. omega (arith, rows_in-append t (take from rows ++ calm_rows part) (drop to rows), rows_in-append t (take from rows) (calm_rows part)) in
    let inside : rows_in is_awaited part ≤ rows_in is_awaited rows = (let a : rows_in is_awaited part ≤ rows_in is_awaited (drop from rows) = take_rows is_awaited (to - from) (drop from rows) in omega (arith, a, drop_rows is_awaited from rows)) in (
      (let calmer : rows_in is_awaited (calm_rows part) ≡ rows_in is_awaited part = calm_awaited part in omega (arith, split is_awaited, take_rows is_awaited from rows, drop_rows is_awaited to rows, inside, calmer, none)),
      (λ q. let e : times q (reverse (running part)) ≡ times q (running part) = times-reverse q (running part) in omega (arith, split (runs_as q), e, running_counted q part)),
      λ idle. absurd (false≢true (sym idle)),
      λ over. absurd (false≢true (sym runs ∙ over)),
      λ e. absurd (false≢true e),
      λ e. absurd (false≢true e),
    )

-- a row whose child runs or waits for a retry has no process from now on
down-awaited : (p place : ℕ) (row : Row) (o : Outcome) → StandsAt place row o → rows_in is_awaited (set_row place row Undefined o).state.rows ≤ rows_in is_awaited o.state.rows
down-awaited p place row o at = let e : rows_in is_awaited (slice_set o.state.rows place (with_state Undefined row)) + cond (is_awaited row.state) 1 0 ≡ rows_in is_awaited o.state.rows + 0 = rows_in-set is_awaited place row Undefined o.state.rows at in omega (arith, e)

restart-sound : (b : Bool) (p place : ℕ) (row : Row) (o : Outcome) → IsIdle b o → IsRunning o → StandsAt place row o → IsSound o.state → IsSound (restart p place row o).state
restart-sound b p place row o idle runs at g =
    let counted : Outcome = with_stamps (o.state.stamps ++ o.state.last ∷ []) (set_row place row Undefined o) in
    restart-by (λ x. IsSound x.state) p place row o
    (λ _. terminate-sound ending.Intensity counted runs)
    (λ _. restart_rows-sound (affected_from o.state.flags.strategy place) (affected_to o.state.flags.strategy place (length counted.state.rows)) place p counted runs
    (omega (arith, awaits_nothing b o idle g, down-awaited p place row o at)))

-- work that doesn't end the supervisor awaits one answer at most
at_most : (f : Sequel) (n : ℕ) → is_end (Some f) ≡ false → IsLimited (Some f) n → n ≤ 1
at_most sequel.Ready n stays h = h
at_most sequel.Nothing n stays h = h
at_most (sequel.Added _) n stays h = h
at_most (sequel.Restarted _) n stays h = h
at_most (sequel.Stopped _) n stays h = h
at_most (sequel.End _) n stays h = absurd (false≢true (sym stays))

-- the open work awaits one row, whose answer comes, and then it closes
answered-closes : (f : Sequel) (place : ℕ) (row : Row) (q kept : ℕ) (rows : List Row) (o : Outcome) → o.state.follows ≡ Some f → is_end (Some f) ≡ false → StandsAt place row o → row.state ≡ Starting q kept → rows_in is_awaited rows + cond (is_awaited row.state) 1 0 ≡ rows_in is_awaited o.state.rows + 0 → IsSound o.state → IsSound (closed (with_rows rows o)).state
answered-closes f place row q kept rows o is stays at starts e g =
    let one : ◌≡◌ {A = ℕ} (cond (is_awaited row.state) 1 0) 1 = ap (λ (s : RowState). cond (is_awaited s) 1 0) starts in
    let limit : rows_in is_awaited o.state.rows ≤ 1 = at_most f (rows_in is_awaited o.state.rows) stays (subst (λ (x : Option Sequel). IsLimited x (rows_in is_awaited o.state.rows)) is g.0) in
    closed-sound (with_rows rows o) (omega (arith, e, one, limit))

up-sound : (p place : ℕ) (row : Row) (q kept : ℕ) (o : Outcome) → StandsAt place row o → row.state ≡ Starting q kept → IsSound o.state → IsSound (set_row place row (Up p) o).state
up-sound p place row q kept o at is g =
    let e : (t : RowState → Bool) → rows_in t (slice_set o.state.rows place (with_state (Up p) row)) + cond (t row.state) 1 0 ≡ rows_in t o.state.rows + cond (t (Up p)) 1 0 = λ t. rows_in-set t place row (Up p) o.state.rows at in
    changed-sound (slice_set o.state.rows place (with_state (Up p) row)) o
    (omega (arith, e is_awaited))
    (λ x.
    let z : ◌≡◌ {A = ℕ} (cond (runs_as x row.state) 1 0) 0 = ap (λ (s : RowState). cond (runs_as x s) 1 0) is in
    omega (arith, e (runs_as x), z, g.1 x))
    g

ticked : (o : Outcome) (rows : List Row) → (tick o).state ≡ (with_rows rows o).state → rows_in is_awaited rows ≡ rows_in is_awaited o.state.rows → ((q : ℕ) → rows_in (runs_as q) rows ≡ rows_in (runs_as q) o.state.rows) → IsSound o.state → IsSound (tick o).state
ticked o rows is e h g =
    subst (λ (s : State). IsSound s) (sym is) (changed-sound rows o (omega (arith, e)) (λ q. omega (arith, h q, g.1 q)) g)

tick_is : (o : Outcome) → (tick o).state ≡ (with_rows (tick o).state.rows o).state
unfolding tick
tick_is o = refl

tick-sound : (o : Outcome) → IsSound o.state → IsSound (tick o).state
tick-sound o g = ticked o (tick o).state.rows (tick_is o) (tick_count is_awaited (λ p d. refl) o) (λ q. tick_count (runs_as q) (λ p d. refl) o) g

-- new rows await nothing
pub new_rows : (slot : ℕ) (specs : List ChildSpec) → rows_in is_awaited (rows_from slot specs) ≡ 0
new_rows slot [] = refl
new_rows slot (spec ∷ specs) = omega (arith, rows_in-cons is_awaited (new_row slot (Some spec.id) spec) (rows_from (slot + 1) specs), new_rows (slot + 1) specs)

open-sound : (own : ℕ) (o : Outcome) → IsSound (open_rows own o).state
unfolding open_rows open_with
open-sound own o =
    let specs : List ChildSpec = opening_specs (is_simple o.state.flags.strategy) o.state.specs in
    (omega (arith, new_rows 0 specs), covered-none [] (rows_from 0 specs) refl, λ idle. absurd (false≢true (sym idle)), λ over. absurd (false≢true over), λ e. absurd (false≢true e), λ e. absurd (false≢true e))

-- work opens for a supervisor that runs and has none
opened-sound : (b : Bool) (ps : List ℕ) (ds : List Due) (f : Sequel) (rows : List Row) (o : Outcome) → IsIdle b o → IsRunning o → is_end (Some f) ≡ false → rows_in is_awaited rows ≤ rows_in is_awaited o.state.rows → IsCovered ps rows → IsSound o.state → IsSound (with_work ps ds (Some f) (with_rows rows o)).state
opened-sound b ps ds f rows o idle runs stays fewer covered g =
    (limited-one (Some f) (rows_in is_awaited rows) refl (omega (arith, fewer, awaits_nothing b o idle g)), covered, λ k. absurd (false≢true (sym k)), λ over. absurd (false≢true (sym runs ∙ over)), λ e. absurd (false≢true (sym stays ∙ e)), λ e. absurd (false≢true (sym stays ∙ (and_parts (is_end (Some f)) (is_simple o.state.flags.strategy) e).0)))

stops_child-sound : (b : Bool) (c p place : ℕ) (row : Row) (o : Outcome) → IsIdle b o → IsRunning o → StandsAt place row o → (is_awaited row.state ≡ true) ⊎ (row.state ≡ Up p) → IsSound o.state → IsSound (with_work (p ∷ []) [] (Some (sequel.Stopped c)) o).state
stops_child-sound b c p place row o idle runs at (inl awaits) g =
    let one : ◌≡◌ {A = ℕ} (cond (is_awaited row.state) 1 0) 1 = ap (λ (x : Bool). cond x 1 0) awaits in
    absurd (omega (arith, rows_in-at is_awaited place row o.state.rows at, one, awaits_nothing b o idle g))
stops_child-sound b c p place row o idle runs at (inr up) g =
    opened-sound b (p ∷ []) [] (sequel.Stopped c) o.state.rows o idle runs refl (omega arith)
    (λ q.
    let e : ◌≡◌ {A = ℕ} (cond (runs_as q row.state) 1 0) (cond (p == q) 1 0) = ap (λ (s : RowState). cond (runs_as q s) 1 0) up in
    omega (arith, times-cons q p [], e, rows_in-at (runs_as q) place row o.state.rows at))
    g

answer-sound : (c : ℕ) (r : Reply) (o : Outcome) → IsSound o.state → IsSound (answer c r o).state
unfolding answer
answer-sound c r o g = g

told-loose : (p q : ℕ) (state : RowState) → is_told p state ≡ true → runs_as q state ≡ false
told-loose p q Undefined h = refl
told-loose p q (Starting _ _) h = refl
told-loose p q (Up _) h = absurd (false≢true h)
told-loose p q (Asked _ _) h = refl
told-loose p q (Killed _) h = refl
told-loose p q (Restarting _) h = absurd (false≢true h)

less_removed : (place : ℕ) (row : Row) (o : Outcome) → StandsAt place row o → rows_in is_awaited (remove o.state.rows place) ≤ rows_in is_awaited o.state.rows
less_removed place row o at = let e : rows_in is_awaited (remove o.state.rows place) + cond (is_awaited row.state) 1 0 ≡ rows_in is_awaited o.state.rows = remove_count (row_has is_awaited) o.state.rows place row at in omega (arith, e)

pub sound-survives : (k : Kind) (b : Bool) → Survives k b (λ o. IsSound o.state)
sound-survives k b =
    record {
      answered = answer-sound;
      taken = λ x xs o idle runs is g. g;
      call_waits = λ c x o g. g;
      exit_waits = λ p r o noted g. g;
      up = λ p place row q kept o at is same noted g. up-sound p place row q kept o at is g;
      up_closed = λ p place row q kept c o at is same f g.
          let e : rows_in is_awaited (slice_set o.state.rows place (with_state (Up p) row)) + cond (is_awaited row.state) 1 0 ≡ rows_in is_awaited o.state.rows + 0 = rows_in-set is_awaited place row (Up p) o.state.rows at in
          elim f as (λ _. IsSound (closed (set_row place row (Up p) o)).state) [
            | inl h ↦ answered-closes (sequel.Added c) place row q kept (slice_set o.state.rows place (with_state (Up p) row)) o h refl at is e g
            | inr h ↦ answered-closes (sequel.Restarted c) place row q kept (slice_set o.state.rows place (with_state (Up p) row)) o h refl at is e g
          ];
      ignored = λ p place row q kept o at is same noted g. ended-sound place row o at (λ x. ap (λ (s : RowState). runs_as x s) is) g;
      opening_failed = λ place row q kept o runs at is f g. terminate-sound (ending.InitFailed row.spec.id) (set_row place row Undefined o) runs;
      restart_failed = λ place row q kept o at is f g.
          answered-closes sequel.Nothing place row q kept (slice_set o.state.rows place (with_state (Restarting kept) row)) o f refl at is (rows_in-set is_awaited place row (Restarting kept) o.state.rows at) g;
      added_failed = λ place row q kept c o at is f g.
          answered-closes (sequel.Added c) place row q kept (remove o.state.rows place) o f refl at is (let e : rows_in is_awaited (remove o.state.rows place) + cond (is_awaited row.state) 1 0 ≡ rows_in is_awaited o.state.rows = remove_count (row_has is_awaited) o.state.rows place row at in omega (arith, e)) g;
      restarted_failed = λ place row q kept c o at is f g.
          answered-closes (sequel.Restarted c) place row q kept (slice_set o.state.rows place (with_state Undefined row)) o f refl at is (rows_in-set is_awaited place row Undefined o.state.rows at) g;
      stopped = λ p r place row o at h noted g. ended-sound place row o at (λ q. told-loose p q row.state h) g;
      died = λ p place row o idle runs at is g.
          let same : Alike (end_row place row o) o = end_row-alike place row o in
          let e : rows_in is_awaited (end_row place row o).state.rows + cond (is_awaited row.state) 1 0 ≡ rows_in is_awaited o.state.rows = rows_in-end is_awaited refl place row o at in
          let none : rows_in is_awaited (end_row place row o).state.rows ≡ 0 = omega (arith, e, awaits_nothing b o idle g) in (
            subst (λ (f : Option Sequel). IsLimited f (rows_in is_awaited (end_row place row o).state.rows)) (sym same.4) (limited-less o.state.follows _ _ (omega (arith, e)) g.0),
            covered-none (end_row place row o).state.to_stop (end_row place row o).state.rows (same.2 ∙ (g.2 idle.1).0),
            λ _. (same.2 ∙ (g.2 idle.1).0, same.3 ∙ (g.2 idle.1).1),
            λ _. ap (λ (f : Option Sequel). is_some f) same.4 ∙ idle.1,
            λ _. same.3 ∙ (g.2 idle.1).1,
            λ _. same.2 ∙ (g.2 idle.1).0,
          );
      restarts = λ p place row o idle runs at h g. restart-sound b p place row o idle runs at g;
      ends = λ e o other idle runs g. terminate-sound e o runs;
      ticks = λ o is g. tick-sound o g;
      opens = λ own o is link over g. open-sound own o;
      adds = λ c id spec o idle runs named g.
          opened-sound b [] (record { id = id; kept = None } ∷ []) (sequel.Added c) (o.state.rows ++ new_row (free_slot o.state.rows) id spec ∷ []) o idle runs refl
          (omega (arith, rows_in-append is_awaited o.state.rows (new_row (free_slot o.state.rows) id spec ∷ []), rows_in-cons is_awaited (new_row (free_slot o.state.rows) id spec) []))
          (λ q. omega arith) g;
      starts_again = λ c id place row o idle runs at h is g. opened-sound b [] (record { id = Some id; kept = None } ∷ []) (sequel.Restarted c) o.state.rows o idle runs refl (omega arith) (λ q. omega arith) g;
      removed = λ place row o idle runs at h g. idle-sound b (remove o.state.rows place) o idle (less_removed place row o at) g;
      given_up = λ place row o idle runs at h g. idle-sound b (slice_set o.state.rows place (with_state Undefined row)) o idle (down-awaited 0 place row o at) g;
      stops_child = λ c p place row o idle runs at h g. stops_child-sound b c p place row o idle runs at h g;
    }

-- the work may go on: no answer is awaited, and these processes are still to be stopped
abbrev pub IsReady : List ℕ → Outcome → Type 0
IsReady ps o = IsSound o.state × (rows_in is_awaited o.state.rows ≡ 0) × (o.state.to_stop ≡ ps) × (is_some o.state.follows ≡ true)

-- one process less is to be stopped
popped-sound : (p : ℕ) (ps : List ℕ) (o : Outcome) → IsReady (p ∷ ps) o → IsSound (with_work ps o.state.to_start o.state.follows o).state
popped-sound p ps o r =
    let g : IsSound o.state = r.0 in (
      g.0,
      (λ q. let e : times q o.state.to_stop ≡ times q (p ∷ ps) = ap (λ (xs : List ℕ). times q xs) r.2 in omega (arith, times-cons q p ps, e, g.1 q)),
      (λ idle. absurd (false≢true (sym idle ∙ r.3))),
      g.3,
      g.4,
      λ e. let k : p ∷ ps ≡ [] = sym r.2 ∙ g.5 e in cc,
    )

-- what is still to be stopped is there when a row of this process changes
popped-covered : (p : ℕ) (ps : List ℕ) (place : ℕ) (row : Row) (o : Outcome) (rows : List Row) → IsReady (p ∷ ps) o → has_process p row.state ≡ true
    → ((q : ℕ) → rows_in (runs_as q) rows + cond (runs_as q row.state) 1 0 ≡ rows_in (runs_as q) o.state.rows) → IsCovered ps rows
popped-covered p ps place row o rows r h e q =
    let t : times q o.state.to_stop ≡ times q (p ∷ ps) = ap (λ (xs : List ℕ). times q xs) r.2 in
    omega (arith, times-cons q p ps, t, r.0.1 q, e q, runs_number p q row.state h)

-- a process whose end waited has ended
pub used-ready : (p : ℕ) (ps : List ℕ) (place : Option ℕ) (o : Outcome) → IsReady (p ∷ ps) o → IsReady ps (use_exit p place (with_work ps o.state.to_start o.state.follows o))
unfolding use_exit end_process
used-ready p ps place o r =
    let left : Outcome = with_waiting (without o.state.waiting place) (with_work ps o.state.to_start o.state.follows o) in
    let start : IsReady ps left = (popped-sound p ps o r, r.1, refl, r.3) in
    at_number-survives (IsReady ps) p end_row left start
    (λ i row at h.
    let same : Alike (end_row i row left) left = end_row-alike i row left in
    let e : (q : ℕ) → rows_in (runs_as q) (end_row i row left).state.rows + cond (runs_as q row.state) 1 0 ≡ rows_in (runs_as q) left.state.rows = λ q. rows_in-end (runs_as q) refl i row left at in
    let a : rows_in is_awaited (end_row i row left).state.rows + cond (is_awaited row.state) 1 0 ≡ rows_in is_awaited left.state.rows = rows_in-end is_awaited refl i row left at in
    let none : rows_in is_awaited (end_row i row left).state.rows ≡ 0 = omega (arith, a, r.1) in
    let busy : is_some (end_row i row left).state.follows ≡ true = ap (λ (f : Option Sequel). is_some f) same.4 ∙ r.3 in
    let there : IsCovered ps (end_row i row left).state.rows = popped-covered p ps i row o (end_row i row left).state.rows r h e in (
      (
        limited-one (end_row i row left).state.follows (rows_in is_awaited (end_row i row left).state.rows) busy (omega (arith, none)),
        (λ q. let t : times q (end_row i row left).state.to_stop ≡ times q ps = ap (λ (xs : List ℕ). times q xs) same.2 in omega (arith, t, there q)),
        (λ idle. absurd (false≢true (sym idle ∙ busy))),
        (λ over. absurd (false≢true (sym (start.0.3 (sym (ap is_over same.1) ∙ over)) ∙ r.3))),
        (λ x. same.3 ∙ start.0.4 (sym (ap is_end same.4) ∙ x)),
        λ x. same.2 ∙ start.0.5 (sym (ap (λ (f : Option Sequel). is_end f && is_simple (end_row i row left).state.flags.strategy) same.4 ∙ ap (λ (y : SupFlags). is_end left.state.follows && is_simple y.strategy) same.0) ∙ x),
      ),
      none,
      same.2,
      busy,
    ))

-- the next process is told to stop
told-sound : (p : ℕ) (ps : List ℕ) (o : Outcome) → IsReady (p ∷ ps) o → IsSound (tell p (with_work ps o.state.to_start o.state.follows o)).state
unfolding tell tell_row
told-sound p ps o r =
    let left : Outcome = with_work ps o.state.to_start o.state.follows o in
    at_number-survives (λ x. IsSound x.state) p (tell_row p) left (popped-sound p ps o r)
    (λ i row at h.
    let now : RowState = told o.state.last p row.spec.shutdown in
    let e : (t : RowState → Bool) → rows_in t (slice_set o.state.rows i (with_state now row)) + cond (t row.state) 1 0 ≡ rows_in t o.state.rows + cond (t now) 1 0 = λ t. rows_in-set t i row now o.state.rows at in
    let one : (x : Bool) → cond x 1 0 ≤ 1 = λ x. cond_both x 1 0 (λ n. n ≤ 1) (λ _. omega arith) (λ _. omega arith) in
    let g : IsSound left.state = popped-sound p ps o r in (
      limited-one o.state.follows (rows_in is_awaited (slice_set o.state.rows i (with_state now row))) r.3 (omega (arith, e is_awaited, r.1, one (is_awaited now))),
      popped-covered p ps i row o (slice_set o.state.rows i (with_state now row)) r h
          (λ q.
          let z : ◌≡◌ {A = ℕ} (cond (runs_as q now) 1 0) 0 = ap (λ (b : Bool). cond b 1 0) (told-runs o.state.last p q row.spec.shutdown) in
          omega (arith, e (runs_as q), z)),
      g.2,
      g.3,
      g.4,
      g.5,
    ))

-- the next child is ordered to start
ordered-sound : (due : Due) (dues : List Due) (n : ℕ) (o : Outcome) → o.state.to_start ≡ due ∷ dues → IsReady [] o → IsSound (start due n (with_work o.state.to_stop dues o.state.follows o)).state
unfolding start start_row
ordered-sound due dues n o is r =
    let g : IsSound o.state = r.0 in
    let stays : is_end o.state.follows ≡ true → ⊥ = λ e. let k : due ∷ dues ≡ [] = sym is ∙ g.4 e in cc in
    let left : Outcome = with_work o.state.to_stop dues o.state.follows o in
    let sound : IsSound left.state = (g.0, g.1, λ idle. absurd (false≢true (sym idle ∙ r.3)), g.3, λ e. absurd (stays e), g.5) in
    at_row-survives (λ x. IsSound x.state) (is_due due) left (start_row due n) left sound sound
    (λ i row at h.
    let now : RowState = Starting n (unwrap_or due.kept n) in
    let e : (t : RowState → Bool) → rows_in t (slice_set o.state.rows i (with_state now row)) + cond (t row.state) 1 0 ≡ rows_in t o.state.rows + cond (t now) 1 0 = λ t. rows_in-set t i row now o.state.rows at in (
      limited-one o.state.follows (rows_in is_awaited (slice_set o.state.rows i (with_state now row))) r.3 (omega (arith, e is_awaited, r.1)),
      covered-none o.state.to_stop (slice_set o.state.rows i (with_state now row)) r.2,
      sound.2,
      sound.3,
      sound.4,
      sound.5,
    ))

going-sound : (n : ℕ) → GoesOn n IsReady (λ x. IsSound x.state)
unfolding answer end_all refuse_all
going-sound n =
    record {
      uses = λ p rest o _ r. used-ready p rest (position (is_exit p) o.state.waiting) o r;
      tells = λ p rest o _ r. told-sound p rest o r;
      starts = λ due dues o is r. ordered-sound due dues n o is r;
      closes = λ f o _ _ r. closed-sound o r.1;
      answers = λ c x f o _ _ r. closed-sound o r.1;
      ready = λ o _ r. closed-sound o r.1;
      ends = λ e o _ r. (refl, covered-none [] [] refl, λ _. (refl, refl), λ _. refl, λ _. refl, λ _. refl);
    }

pub advance-sound : (n : ℕ) (o : Outcome) → IsSound o.state → IsSound (advance n o).state
advance-sound n o g =
    advance-on n IsReady (λ x. IsSound x.state) (going-sound n) o (λ _. g) (λ busy none. (g, none_in is_awaited o.state.rows none, refl, busy))

pub empty-sound : (flags : SupFlags) (specs : List ChildSpec) → IsSound (empty_state flags specs)
empty-sound flags specs = (refl, covered-none [] [] refl, λ _. (refl, refl), λ _. refl, λ _. refl, λ _. refl)
