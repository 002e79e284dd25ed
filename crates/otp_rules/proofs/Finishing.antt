-- A supervisor that ends stops each child that runs: none is left when nothing is left to stop.
use Rattle.std.specs.Prelude.{◌≡◌, ◌⊎◌, ℕ, ◌==◌, ◌+◌, ◌≤◌, ◌<◌, ◌++◌, Bool, true, false, List, [], ◌∷◌, Option, None, Some, refl, position, is_some, slice_set}
use Rattle.std.specs.List.{cons_option}
use Rattle.std.proofs.Common.{◌∙◌, ap, sym, subst, inl, inr, arith, ⊎_elim, cond}
use Rattle.std.proofs.lemmas.Bool.{false≢true, cases_Bool, eqb-true}
use Prim.Native.Nat.{zero, suc}
use Rattle.otp_spec.specs.declared.child.Shutdown.{Shutdown}
use Rattle.otp_spec.specs.declared.child.Shutdown.TheVariants.{BrutalKill, Milliseconds, Infinity}
use Rattle.otp_table.specs.declared.row.Row.{Row}
use Rattle.otp_table.specs.declared.row.RowState.{RowState}
use Rattle.otp_table.specs.declared.row.RowState.TheVariants.{Undefined, Starting, Up, Asked, Killed, Restarting}
use Rattle.otp_table.specs.Rows.{has_process, is_awaited, row_has, with_state, calm_rows, calmed, up_number}
use Rattle.otp_rules.specs.declared.call.Reply.{Reply}
use Rattle.otp_rules.specs.declared.ending.Ending.{Ending}
use Rattle.otp_rules.specs.declared.ending.Ending.TheVariants as ending
use Rattle.otp_rules.specs.declared.event.Kind.{Kind}
use Rattle.otp_rules.specs.declared.work.Sequel.{Sequel}
use Rattle.otp_rules.specs.declared.work.Sequel.TheVariants as sequel
use Rattle.otp_rules.specs.State.{Outcome, answer, is_busy, with_stamps, with_waiting, with_work}
use Rattle.otp_rules.specs.Places.{at_number, end_row, end_process, set_row}
use Rattle.otp_rules.specs.Restarts.{running}
use Rattle.otp_rules.specs.Stops.{calm_all, is_exit, without, told, tell_row, tell, use_exit, stop_each, terminate}
use Rattle.otp_rules.specs.Starts.{is_due, start_row, start}
use Rattle.otp_rules.specs.Ends.{end_all, refuse_all}
use Rattle.otp_rules.specs.Work.{advance}
use Rattle.otp_rules.specs.Deaths.{restart_rows, restart}
use Rattle.otp_rules.specs.Step.{open_rows, open_with, tick, decide}
use Rattle.otp_rules.specs.Progress.{is_end}
use Rattle.otp_rules.specs.Fit.{is_told, rows_in, times, runs_as, IsLimited, IsSound}
use Rattle.otp_rules.specs.InOrder.{is_begun, Finishes, IsStopping}
use Rattle.otp_rules.proofs.GoesOn.{GoesOn, advance-on}
use Rattle.otp_rules.proofs.Walks.{restart-by, terminate-by}
use Rattle.otp_rules.proofs.Decisions.{StandsAt, Survives, at_row-survives, by_test, decide-survives}
use Rattle.otp_rules.proofs.Counting.{Alike, at_row-found, end_row-alike, none_in, rows_in-at, rows_in-cons, rows_in-end, rows_in-map, rows_in-set, tell-alike, tick_count, times-cons, times-reverse, told-runs, told-told, use_exit-alike, rows_in-apart, rows_in-le}
use Rattle.otp_rules.proofs.Sound.{IsReady, awaits_nothing, sound-survives, used-ready}
use Rattle.otp_rules.proofs.Numbers.{NoMore, holders, no_more-survives, set-no_more, tell-no_more, use_exit-no_more, calm_process, told_process}

-- each process is one row's
abbrev pub AreOne : Outcome → Type 0
AreOne o = (q : ℕ) → holders q o ≤ 1

pub begun_awaited : (rows : List Row) → rows_in is_begun rows ≤ rows_in is_awaited rows
begun_awaited = rows_in-le is_begun is_awaited awaits
  where
    awaits : (state : RowState) → cond (is_begun state) 1 0 ≤ cond (is_awaited state) 1 0
    awaits Undefined = omega arith
    awaits (Starting _ _) = omega arith
    awaits (Up _) = omega arith
    awaits (Asked _ _) = omega arith
    awaits (Killed _) = omega arith
    awaits (Restarting _) = omega arith

-- a row has one state
runs_or_told : (q : ℕ) (rows : List Row) → rows_in (runs_as q) rows + rows_in (is_told q) rows ≤ rows_in (has_process q) rows
runs_or_told q = rows_in-apart (runs_as q) (is_told q) (has_process q) one
  where
    one : (state : RowState) → cond (runs_as q state) 1 0 + cond (is_told q state) 1 0 ≤ cond (has_process q state) 1 0
    one Undefined = omega arith
    one (Starting _ _) = omega arith
    one (Up _) = omega arith
    one (Asked _ _) = omega arith
    one (Killed _) = omega arith
    one (Restarting _) = omega arith

calm_begun : (rows : List Row) → rows_in is_begun (calm_rows rows) ≡ rows_in is_begun rows
calm_begun rows = rows_in-map is_begun (λ (row : Row). with_state (calmed row.state) row) (λ row. same row.state) rows
  where
    same : (state : RowState) → is_begun (calmed state) ≡ is_begun state
    same Undefined = refl
    same (Starting _ _) = refl
    same (Up _) = refl
    same (Asked _ _) = refl
    same (Killed _) = refl
    same (Restarting _) = refl

-- those that run are all that are to be stopped
calm_counted : (q : ℕ) (rows : List Row) → rows_in (runs_as q) (calm_rows rows) ≤ times q (running rows)
calm_counted q [] = omega arith
calm_counted q (row ∷ rows) = omega (arith, one row.state (running rows), rows_in-cons (runs_as q) (with_state (calmed row.state) row) (calm_rows rows), calm_counted q rows)
  where
    one : (state : RowState) (rest : List ℕ) → cond (runs_as q (calmed state)) 1 0 + times q rest ≤ times q (cons_option (up_number state) rest)
    one Undefined rest = omega arith
    one (Starting _ _) rest = omega arith
    one (Up p) rest = omega (arith, times-cons q p rest)
    one (Asked _ _) rest = omega arith
    one (Killed _) rest = omega arith
    one (Restarting _) rest = omega arith

pub zero_or_more : (n : ℕ) → (n ≡ 0) ⊎ (0 < n)
zero_or_more zero = inl refl
zero_or_more (suc n) = inr (omega arith)

-- one process less is to be stopped
popped : (p : ℕ) (ps : List ℕ) (q n : ℕ) → ((p == q) ≡ true → n ≡ 0) → n ≤ times q (p ∷ ps) → n ≤ times q ps
popped p ps q n none le =
    ⊎_elim (λ same. omega (arith, none same))
    (λ (other : (p == q) ≡ false). let z : ◌≡◌ {A = ℕ} (cond (p == q) 1 0) 0 = ap (λ (b : Bool). cond b 1 0) other in omega (arith, le, times-cons q p ps, z))
    (cases_Bool (p == q))

-- no row has the process
none_popped : (p : ℕ) (ps : List ℕ) (o : Outcome) → holders p o ≡ 0 → IsStopping (p ∷ ps) o.state.rows → IsStopping ps o.state.rows
none_popped p ps o none h = (
  λ q. popped p ps q (rows_in (runs_as q) o.state.rows)
      (λ same. let z : rows_in (has_process q) o.state.rows ≡ 0 = ap (λ (n : ℕ). rows_in (has_process n) o.state.rows) (sym (eqb-true p q same)) ∙ none in omega (arith, z, runs_or_told q o.state.rows)) (h.0 q),
  h.1,
)

not_here : (p place : ℕ) (row : Row) (o : Outcome) → holders p o ≡ 0 → StandsAt place row o → has_process p row.state ≡ true → ⊥
not_here p place row o none at has =
    let one : ◌≡◌ {A = ℕ} (cond (has_process p row.state) 1 0) 1 = ap (λ (b : Bool). cond b 1 0) has in
    omega (arith, rows_in-at (has_process p) place row o.state.rows at, one, none)

pub told-begun : (now p : ℕ) (s : Shutdown) → is_begun (told now p s) ≡ false
told-begun now p BrutalKill = refl
told-begun now p (Milliseconds _) = refl
told-begun now p Infinity = refl

tell-stopping : (p : ℕ) (ps : List ℕ) (o : Outcome) → AreOne o → IsStopping (p ∷ ps) o.state.rows → IsStopping ps (tell p o).state.rows
unfolding tell tell_row at_number
tell-stopping p ps o one h =
    ⊎_elim
    (λ none.
    at_row-survives (λ (x : Outcome). IsStopping ps x.state.rows) (row_has (has_process p)) o (tell_row p) o (none_popped p ps o none h) (none_popped p ps o none h)
    (λ i row at has. absurd (not_here p i row o none at has)))
    (λ some.
    at_row-found (λ (x : Outcome). IsStopping ps x.state.rows) (row_has (has_process p)) o (tell_row p) o some
    (λ i row at has.
    let now : RowState = told o.state.last p row.spec.shutdown in
    let rows : List Row = slice_set o.state.rows i (with_state now row) in
    let e : (t : RowState → Bool) → rows_in t rows + cond (t row.state) 1 0 ≡ rows_in t o.state.rows + cond (t now) 1 0 = λ t. rows_in-set t i row now o.state.rows at in
    let quiet : (q : ℕ) → ◌≡◌ {A = ℕ} (cond (runs_as q now) 1 0) 0 = λ q. ap (λ (b : Bool). cond b 1 0) (told-runs o.state.last p q row.spec.shutdown) in
    let calm : ◌≡◌ {A = ℕ} (cond (is_begun now) 1 0) 0 = ap (λ (b : Bool). cond b 1 0) (told-begun o.state.last p row.spec.shutdown) in (
      λ q. popped p ps q (rows_in (runs_as q) rows)
          (λ same.
          let is : p ≡ q = eqb-true p q same in
          let was : ◌≡◌ {A = ℕ} (cond (has_process q row.state) 1 0) 1 = ap (λ (b : Bool). cond b 1 0) (subst (λ (n : ℕ). has_process n row.state ≡ true) is has) in
          let has_now : ◌≡◌ {A = ℕ} (cond (has_process q now) 1 0) 1 = ap (λ (b : Bool). cond b 1 0) (told_process o.state.last p q row.spec.shutdown ∙ same) in
          let told_now : ◌≡◌ {A = ℕ} (cond (is_told q now) 1 0) 1 = ap (λ (b : Bool). cond b 1 0) (subst (λ (n : ℕ). is_told n now ≡ true) is (told-told o.state.last p row.spec.shutdown)) in
          omega (arith, e (has_process q), was, has_now, told_now, one q, e (is_told q), rows_in-at (is_told q) i row o.state.rows at, runs_or_told q rows))
          (omega (arith, e (runs_as q), quiet q, h.0 q)),
      omega (arith, e is_begun, calm, h.1),
    )))
    (zero_or_more (holders p o))

use_exit-stopping : (p : ℕ) (ps : List ℕ) (place : Option ℕ) (o : Outcome) → AreOne o → IsStopping (p ∷ ps) o.state.rows → IsStopping ps (use_exit p place o).state.rows
unfolding use_exit end_process at_number
use_exit-stopping p ps place o one h =
    let left : Outcome = with_waiting (without o.state.waiting place) o in
    ⊎_elim
    (λ none.
    at_row-survives (λ (x : Outcome). IsStopping ps x.state.rows) (row_has (has_process p)) left end_row left (none_popped p ps o none h) (none_popped p ps o none h)
    (λ i row at has. absurd (not_here p i row o none at has)))
    (λ some.
    at_row-found (λ (x : Outcome). IsStopping ps x.state.rows) (row_has (has_process p)) left end_row left some
    (λ i row at has.
    let rows : List Row = (end_row i row left).state.rows in
    let e : (q : ℕ) → rows_in (runs_as q) rows + cond (runs_as q row.state) 1 0 ≡ rows_in (runs_as q) o.state.rows = λ q. rows_in-end (runs_as q) refl i row left at in
    let b : rows_in is_begun rows + cond (is_begun row.state) 1 0 ≡ rows_in is_begun o.state.rows = rows_in-end is_begun refl i row left at in (
      λ q. popped p ps q (rows_in (runs_as q) rows)
          (λ same.
          let d : rows_in (has_process q) rows + cond (has_process q row.state) 1 0 ≡ rows_in (has_process q) o.state.rows = rows_in-end (has_process q) refl i row left at in
          let was : ◌≡◌ {A = ℕ} (cond (has_process q row.state) 1 0) 1 = ap (λ (b : Bool). cond b 1 0) (subst (λ (n : ℕ). has_process n row.state ≡ true) (eqb-true p q same) has) in
          omega (arith, d, was, one q, runs_or_told q rows))
          (omega (arith, e q, h.0 q)),
      omega (arith, b, h.1),
    )))
    (zero_or_more (holders p o))

stop_each-stopping : (ps : List ℕ) (o : Outcome) → AreOne o → IsStopping ps o.state.rows → IsStopping [] (stop_each ps o).state.rows
unfolding stop_each
stop_each-stopping [] o one h = h
stop_each-stopping (p ∷ ps) o one h =
    let place : Option ℕ = position (is_exit p) o.state.waiting in
    let used : NoMore o (use_exit p place o) = use_exit-no_more p place o o (λ q. omega arith) in
    let asked : NoMore o (tell p o) = tell-no_more p o o (λ q. omega arith) in
    by_test (λ (x : Outcome). IsStopping [] x.state.rows) (is_some place) (stop_each ps (use_exit p place o)) (stop_each ps (tell p o))
    (λ _. stop_each-stopping ps (use_exit p place o) (λ q. omega (arith, used q, one q)) (use_exit-stopping p ps place o one h))
    (λ _. stop_each-stopping ps (tell p o) (λ q. omega (arith, asked q, one q)) (tell-stopping p ps o one h))

-- the supervisor ends while no answer to a start is awaited
pub terminate-finishes : (e : Ending) (o : Outcome) → AreOne o → rows_in is_begun o.state.rows ≡ 0 → Finishes (terminate e o).state
terminate-finishes e o one none =
    let calm : rows_in is_begun (calm_rows o.state.rows) ≡ 0 = calm_begun o.state.rows ∙ none in
    terminate-by (λ (x : Outcome). Finishes x.state) e o
    (λ _ _.
    let opened : Outcome = calm_all (with_work [] [] (Some (sequel.End e)) o) in
    let done : IsStopping [] (stop_each (running o.state.rows) opened).state.rows =
    stop_each-stopping (running o.state.rows) opened (λ q. omega (arith, one q, calm_process q o.state.rows)) (λ q. calm_counted q o.state.rows, calm) in
    (λ q. omega (arith, done.0 q), done.1))
    (λ _ _. (λ q. omega (arith, times-reverse q (running o.state.rows), calm_counted q o.state.rows), calm))

end_busy : (f : Option Sequel) → is_end f ≡ true → is_some f ≡ true
end_busy None h = absurd (false≢true h)
end_busy (Some f) h = refl

-- no row is starting where the supervisor ends
pub not_starting : (place : ℕ) (row : Row) (q kept : ℕ) (o : Outcome) → StandsAt place row o → row.state ≡ Starting q kept → rows_in is_begun o.state.rows ≡ 0 → ⊥
not_starting place row q kept o at is none =
    let one : ◌≡◌ {A = ℕ} (cond (is_begun row.state) 1 0) 1 = ap (λ (t : RowState). cond (is_begun t) 1 0) is in
    omega (arith, rows_in-at is_begun place row o.state.rows at, one, none)

end-finishes : (place : ℕ) (row : Row) (o : Outcome) → StandsAt place row o → Finishes o.state → Finishes (end_row place row o).state
end-finishes place row o at h e =
    let same : Alike (end_row place row o) o = end_row-alike place row o in
    let was : IsStopping o.state.to_stop o.state.rows = h (sym (ap is_end same.4) ∙ e) in
    let runs : (q : ℕ) → rows_in (runs_as q) (end_row place row o).state.rows + cond (runs_as q row.state) 1 0 ≡ rows_in (runs_as q) o.state.rows = λ q. rows_in-end (runs_as q) refl place row o at in
    let begun : rows_in is_begun (end_row place row o).state.rows + cond (is_begun row.state) 1 0 ≡ rows_in is_begun o.state.rows = rows_in-end is_begun refl place row o at in (
      λ q. let t : times q (end_row place row o).state.to_stop ≡ times q o.state.to_stop = ap (λ (ps : List ℕ). times q ps) same.2 in omega (arith, runs q, t, was.0 q),
      omega (arith, begun, was.1),
    )

answer-finishes : (c : ℕ) (r : Reply) (o : Outcome) → Finishes o.state → Finishes (answer c r o).state
unfolding answer
answer-finishes c r o h = h

tick-finishes : (o : Outcome) → ((q : ℕ) → rows_in (runs_as q) (tick o).state.rows ≡ rows_in (runs_as q) o.state.rows) → rows_in is_begun (tick o).state.rows ≡ rows_in is_begun o.state.rows → Finishes o.state → Finishes (tick o).state
unfolding tick
tick-finishes o runs begun h e = let was : IsStopping o.state.to_stop o.state.rows = h e in (λ q. omega (arith, runs q, was.0 q), omega (arith, begun, was.1))

open-finishes : (own : ℕ) (o : Outcome) → Finishes (open_rows own o).state
unfolding open_rows open_with
open-finishes own o e = absurd (false≢true e)

down-begun : (place : ℕ) (row : Row) (o : Outcome) → StandsAt place row o → rows_in is_awaited o.state.rows ≤ cond (is_awaited row.state) 1 0 → rows_in is_begun (set_row place row Undefined o).state.rows ≡ 0
down-begun place row o at few =
    let e : rows_in is_awaited (slice_set o.state.rows place (with_state Undefined row)) + cond (is_awaited row.state) 1 0 ≡ rows_in is_awaited o.state.rows + 0 = rows_in-set is_awaited place row Undefined o.state.rows at in
    omega (arith, e, few, begun_awaited (slice_set o.state.rows place (with_state Undefined row)))

restart-finishes : (k place : ℕ) (row : Row) (o : Outcome) → AreOne o → StandsAt place row o → rows_in is_awaited o.state.rows ≡ 0 → Finishes (restart k place row o).state
unfolding restart_rows
restart-finishes k place row o one at none =
    let down : Outcome = set_row place row Undefined o in
    let counted : Outcome = with_stamps (o.state.stamps ++ o.state.last ∷ []) down in
    let less : NoMore o down = set-no_more place row Undefined o o at (λ q. omega arith) (λ q. omega arith) in
    restart-by (λ (x : Outcome). Finishes x.state) k place row o
    (λ _. terminate-finishes ending.Intensity counted (λ q. omega (arith, less q, one q)) (down-begun place row o at (omega (arith, none))))
    (λ _ e. absurd (false≢true e))

-- the work is sound, each process is one row's, and the end stops all
abbrev pub IsFinishing : Outcome → Outcome → Type 0
IsFinishing old o = IsSound o.state × NoMore old o × Finishes o.state

finishing-survives : (old : Outcome) (k : Kind) (b : Bool) → AreOne old → Survives k b (IsFinishing old)
finishing-survives old k b first =
    let s : Survives k b (λ o. IsSound o.state) = sound-survives k b in
    let n : Survives k b (NoMore old) = no_more-survives old k b in
    record {
      answered = λ c r o h. (s.answered c r o h.0, n.answered c r o h.1, answer-finishes c r o h.2);
      taken = λ x xs o idle runs is h. (s.taken x xs o idle runs is h.0, n.taken x xs o idle runs is h.1, h.2);
      call_waits = λ c x o h. (s.call_waits c x o h.0, n.call_waits c x o h.1, h.2);
      exit_waits = λ p r o noted h. (s.exit_waits p r o noted h.0, n.exit_waits p r o noted h.1, h.2);
      up = λ p place row q kept o at is same noted h. (s.up p place row q kept o at is same noted h.0, n.up p place row q kept o at is same noted h.1, λ e. absurd (not_starting place row q kept o at is (h.2 e).1));
      up_closed = λ p place row q kept c o at is same follows h. (s.up_closed p place row q kept c o at is same follows h.0, n.up_closed p place row q kept c o at is same follows h.1, λ e. absurd (false≢true e));
      ignored = λ p place row q kept o at is same noted h. (s.ignored p place row q kept o at is same noted h.0, n.ignored p place row q kept o at is same noted h.1, end-finishes place row o at h.2);
      opening_failed = λ place row q kept o runs at is follows h.
          let one : ◌≡◌ {A = ℕ} (cond (is_awaited row.state) 1 0) 1 = ap (λ (t : RowState). cond (is_awaited t) 1 0) is in
          let few : rows_in is_awaited o.state.rows ≤ 1 = subst (λ (x : Option Sequel). IsLimited x (rows_in is_awaited o.state.rows)) follows h.0.0 in
          let less : NoMore o (set_row place row Undefined o) = set-no_more place row Undefined o o at (λ q. omega arith) (λ q. omega arith) in (
            s.opening_failed place row q kept o runs at is follows h.0,
            n.opening_failed place row q kept o runs at is follows h.1,
            terminate-finishes (ending.InitFailed row.spec.id) (set_row place row Undefined o) (λ x. omega (arith, less x, h.1 x, first x)) (down-begun place row o at (omega (arith, one, few))),
          );
      restart_failed = λ place row q kept o at is follows h. (s.restart_failed place row q kept o at is follows h.0, n.restart_failed place row q kept o at is follows h.1, λ e. absurd (false≢true e));
      added_failed = λ place row q kept c o at is follows h. (s.added_failed place row q kept c o at is follows h.0, n.added_failed place row q kept c o at is follows h.1, λ e. absurd (false≢true e));
      restarted_failed = λ place row q kept c o at is follows h. (s.restarted_failed place row q kept c o at is follows h.0, n.restarted_failed place row q kept c o at is follows h.1, λ e. absurd (false≢true e));
      stopped = λ p r place row o at told noted h. (s.stopped p r place row o at told noted h.0, n.stopped p r place row o at told noted h.1, end-finishes place row o at h.2);
      died = λ p place row o idle runs at is h. (s.died p place row o idle runs at is h.0, n.died p place row o idle runs at is h.1, end-finishes place row o at h.2);
      restarts = λ p place row o idle runs at is h.
          (s.restarts p place row o idle runs at is h.0, n.restarts p place row o idle runs at is h.1, restart-finishes p place row o (λ x. omega (arith, h.1 x, first x)) at (awaits_nothing b o idle h.0));
      ends = λ e o other idle runs h. (
        s.ends e o other idle runs h.0,
        n.ends e o other idle runs h.1,
        terminate-finishes e o (λ x. omega (arith, h.1 x, first x)) (omega (arith, awaits_nothing b o idle h.0, begun_awaited o.state.rows)),
      );
      ticks = λ o is h. (s.ticks o is h.0, n.ticks o is h.1, tick-finishes o (λ q. tick_count (runs_as q) (λ p d. refl) o) (tick_count is_begun (λ p d. refl) o) h.2);
      opens = λ own o is link over h. (s.opens own o is link over h.0, n.opens own o is link over h.1, open-finishes own o);
      adds = λ c id spec o idle runs named h. (s.adds c id spec o idle runs named h.0, n.adds c id spec o idle runs named h.1, λ e. absurd (false≢true e));
      starts_again = λ c id place row o idle runs at has is h. (s.starts_again c id place row o idle runs at has is h.0, n.starts_again c id place row o idle runs at has is h.1, λ e. absurd (false≢true e));
      removed = λ place row o idle runs at down h. (s.removed place row o idle runs at down h.0, n.removed place row o idle runs at down h.1, λ e. absurd (false≢true (sym idle.1 ∙ end_busy o.state.follows e)));
      given_up = λ place row o idle runs at down h. (s.given_up place row o idle runs at down h.0, n.given_up place row o idle runs at down h.1, λ e. absurd (false≢true (sym idle.1 ∙ end_busy o.state.follows e)));
      stops_child = λ c p place row o idle runs at up h. (s.stops_child c p place row o idle runs at up h.0, n.stops_child c p place row o idle runs at up h.1, λ e. absurd (false≢true e));
    }

-- what the event decides
pub decided-finishing : (k : Kind) (o : Outcome) → IsSound o.state → AreOne o → Finishes o.state → IsFinishing o (decide k o)
decided-finishing k o sound one h = decide-survives k (IsFinishing o) o (finishing-survives o k (is_busy o) one) (sound, λ q. omega arith, h)

-- what is left to stop while the work goes on
abbrev pub Stops : List ℕ → Outcome → Type 0
Stops ps o = IsReady ps o × AreOne o × (is_end o.state.follows ≡ true → IsStopping ps o.state.rows)

pub used-stops : (p : ℕ) (ps : List ℕ) (o : Outcome) → Stops (p ∷ ps) o → Stops ps (use_exit p (position (is_exit p) o.state.waiting) (with_work ps o.state.to_start o.state.follows o))
used-stops p ps o h =
    let place : Option ℕ = position (is_exit p) o.state.waiting in
    let left : Outcome = with_work ps o.state.to_start o.state.follows o in
    let less : NoMore o (use_exit p place left) = use_exit-no_more p place o left (λ q. omega arith) in (
      used-ready p ps place o h.0,
      λ q. omega (arith, less q, h.1 q),
      λ e. use_exit-stopping p ps place left h.1 (h.2 (sym (ap is_end (use_exit-alike p place left).4) ∙ e)),
    )

tell-finishes : (p : ℕ) (ps : List ℕ) (o : Outcome) → Stops (p ∷ ps) o → Finishes (tell p (with_work ps o.state.to_start o.state.follows o)).state
tell-finishes p ps o h e =
    let left : Outcome = with_work ps o.state.to_start o.state.follows o in
    let same : Alike (tell p left) left = tell-alike p left in
    let done : IsStopping ps (tell p left).state.rows = tell-stopping p ps left h.1 (h.2 (sym (ap is_end same.4) ∙ e)) in
    (λ q. let t : times q (tell p left).state.to_stop ≡ times q ps = ap (λ (xs : List ℕ). times q xs) same.2 in omega (arith, t, done.0 q), done.1)

going-finishes : (n : ℕ) → GoesOn n Stops (λ x. Finishes x.state)
unfolding start start_row answer end_all refuse_all
going-finishes n =
    record {
      uses = λ p rest o _ h. used-stops p rest o h;
      tells = λ p rest o _ h. tell-finishes p rest o h;
      starts = λ due dues o is h.
          let left : Outcome = with_work o.state.to_stop dues o.state.follows o in
          let stays : is_end o.state.follows ≡ true → ⊥ = λ e. let k : due ∷ dues ≡ [] = sym is ∙ h.0.0.4 e in cc in
          at_row-survives (λ (x : Outcome). Finishes x.state) (is_due due) left (start_row due n) left (λ e. absurd (stays e)) (λ e. absurd (stays e)) (λ i row at has e. absurd (stays e));
      closes = λ f o _ _ h e. absurd (false≢true e);
      answers = λ c r f o _ _ h e. absurd (false≢true e);
      ready = λ o _ h e. absurd (false≢true e);
      ends = λ x o _ h e. absurd (false≢true e);
    }

pub advance-finishes : (n : ℕ) (o : Outcome) → IsSound o.state → AreOne o → Finishes o.state → Finishes (advance n o).state
advance-finishes n o sound one h =
    advance-on n Stops (λ (x : Outcome). Finishes x.state) (going-finishes n) o (λ _. h) (λ busy none. ((sound, none_in is_awaited o.state.rows none, refl, busy), one, h))
