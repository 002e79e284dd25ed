-- Between two events open work awaits an answer, so that an event that ticks does nothing but kill late children.
use Rattle.std.specs.Prelude.{◌≡◌, ℕ, ◌+◌, ◌≤◌, ◌<◌, Bool, true, List, [], ◌∷◌, Option, None, Some, All, Contains, refl, is_some, max, nat_le, slice_set, unwrap_or}
use Rattle.std.specs.List.{cons_option, filter_map, list_any}
use Rattle.std.proofs.Common.{◌∙◌, ap, sym, subst, arith, cond, ⊎_elim}
use Rattle.std.proofs.lemmas.Bool.{cases_Bool, cond_both, false≢true, leb-true, or_cases}
use Rattle.std.proofs.lemmas.List.Elements.{All-cons, All-nil}
use Prim.Native.Nat.{suc}
use Rattle.otp_spec.specs.declared.child.Shutdown.{Shutdown}
use Rattle.otp_spec.specs.declared.child.Shutdown.TheVariants.{BrutalKill, Infinity, Milliseconds}
use Rattle.otp_table.specs.declared.row.Row.{Row}
use Rattle.otp_table.specs.declared.row.RowState.{RowState}
use Rattle.otp_table.specs.declared.row.RowState.TheVariants.{Undefined, Starting, Up, Asked, Killed, Restarting}
use Rattle.otp_table.specs.Rows.{has_process, is_awaited, row_has, with_state}
use Rattle.otp_rules.specs.declared.event.Effect.{Effect}
use Rattle.otp_rules.specs.declared.event.Effect.TheVariants as effect
use Rattle.otp_rules.specs.declared.event.Event.{Event}
use Rattle.otp_rules.specs.declared.event.Kind.{Kind}
use Rattle.otp_rules.specs.declared.event.Kind.TheVariants as kind
use Rattle.otp_rules.specs.declared.work.Due.{Due}
use Rattle.otp_rules.specs.State.{Outcome, State, with_work}
use Rattle.otp_rules.specs.Places.{at_number}
use Rattle.otp_rules.specs.Stops.{tell, tell_row, told}
use Rattle.otp_rules.specs.Starts.{is_due, start, start_row}
use Rattle.otp_rules.specs.Work.{advance, start_first, stop_first}
use Rattle.otp_rules.specs.Step.{decide, kill_order, late_number, stamped, step, step_on, tick}
use Rattle.otp_rules.specs.Run.{empty_state, state_after}
use Rattle.otp_rules.specs.Progress.{Progress, no_progress}
use Rattle.otp_rules.specs.Fit.{rows_in, Fits, IsFit}
use Rattle.otp_rules.specs.InOrder.{Awaits, WorkAwaits}
use Rattle.otp_rules.specs.Late.{KillsLate, TicksKillLate, TicksKillLateFromEmpty}
use Rattle.otp_rules.proofs.Opened.{tick-follows}
use Rattle.otp_rules.proofs.Walks.{advance-by, stop_first-by, with_stops}
use Rattle.otp_rules.proofs.Decisions.{StandsAt, decide-survives}
use Rattle.otp_rules.proofs.Counting.{at_row-first, at_row-found, none_in, rows_in-at, rows_in-cons, rows_in-set, tick_count}
use Rattle.otp_rules.proofs.InTurn.{follow-closes, stands}
use Rattle.otp_rules.proofs.Numbers.{decided-distinct}
use Rattle.otp_rules.proofs.Fits.{due_there}
use Rattle.otp_rules.proofs.Fitted.{Stands, fitted-survives}
use Rattle.otp_rules.proofs.Lawful.{along}
use Rattle.otp_rules.proofs.StartTurn.{MayGoOn, empty_fit, step-lawful, used-goes_on}

-- the test is passed, so it counts
any_counts : (t : RowState → Bool) (rows : List Row) → list_any (row_has t) rows ≡ true → 0 < rows_in t rows
any_counts t [] h = absurd (false≢true h)
any_counts t (row ∷ rows) h =
    ⊎_elim (λ here. let one : ◌≡◌ {A = ℕ} (cond (t row.state) 1 0) 1 = ap (λ (b : Bool). cond b 1 0) here in omega (arith, one, rows_in-cons t row rows))
    (λ later. omega (arith, any_counts t rows later, rows_in-cons t row rows))
    (or_cases (t row.state) (list_any (row_has t) rows) h)

-- a row that awaits an answer
some_awaits : (rows : List Row) → 0 < rows_in is_awaited rows → list_any (row_has is_awaited) rows ≡ true
some_awaits rows some = ⊎_elim (λ any. any) (λ none. absurd (omega (arith, some, none_in is_awaited rows none))) (cases_Bool (list_any (row_has is_awaited) rows))

-- a row whose new state awaits one
set-awaits : (place : ℕ) (row : Row) (now : RowState) (o : Outcome) → StandsAt place row o → is_awaited now ≡ true → list_any (row_has is_awaited) (slice_set o.state.rows place (with_state now row)) ≡ true
set-awaits place row now o at awaited =
    let rows : List Row = slice_set o.state.rows place (with_state now row) in
    let e : rows_in is_awaited rows + cond (is_awaited row.state) 1 0 ≡ rows_in is_awaited o.state.rows + cond (is_awaited now) 1 0 = rows_in-set is_awaited place row now o.state.rows at in
    let one : ◌≡◌ {A = ℕ} (cond (is_awaited now) 1 0) 1 = ap (λ (b : Bool). cond b 1 0) awaited in
    some_awaits rows (omega (arith, e, one, rows_in-at is_awaited place row o.state.rows at))

told_awaited : (now p : ℕ) (s : Shutdown) → is_awaited (told now p s) ≡ true
told_awaited now p BrutalKill = refl
told_awaited now p (Milliseconds _) = refl
told_awaited now p Infinity = refl

told-awaits : (p : ℕ) (ps : List ℕ) (o : Outcome) → MayGoOn (p ∷ ps) o → Awaits (tell p (with_stops ps o)).state
unfolding tell tell_row at_number
told-awaits p ps o m =
    let left : Outcome = with_stops ps o in
    at_row-found (λ (x : Outcome). Awaits x.state) (row_has (has_process p)) left (tell_row p) left (stands p ps o m.0)
    (λ i row at has busy. set-awaits i row (told o.state.last p row.spec.shutdown) left at (told_awaited o.state.last p row.spec.shutdown))

start_first-awaits : (dues : List Due) (n : ℕ) (o : Outcome) → o.state.to_start ≡ dues → MayGoOn [] o → Awaits (start_first dues n o).state
unfolding start_first start start_row
start_first-awaits [] n o is m = λ busy. absurd (false≢true (sym (follow-closes o.state.follows o refl) ∙ busy))
start_first-awaits (due ∷ rest) n o is m =
    let left : Outcome = with_work o.state.to_stop rest o.state.follows o in
    let fits : Fits [] (due ∷ rest) o.state.rows = subst (λ (ds : List Due). Fits [] ds o.state.rows) is m.3 in
    at_row-first (λ (x : Outcome). Awaits x.state) (is_due due) left (start_row due n) left (due_there due rest o.state.rows m.0.1 fits)
    (λ i row found at busy. set-awaits i row (Starting n (unwrap_or due.kept n)) left at refl)

stop_first-awaits : (ps : List ℕ) (n : ℕ) (o : Outcome) → MayGoOn ps o → Awaits (stop_first ps n o).state
stop_first-awaits ps n =
    stop_first-by MayGoOn (λ (x : Outcome). Awaits x.state) n (λ o m. start_first-awaits o.state.to_start n o refl m)
    (λ p rest o waits m. used-goes_on p rest o m)
    (λ p rest o _ m. told-awaits p rest o m) ps

-- work goes on as far as it can
advance-awaits : (n : ℕ) (o : Outcome) → Stands o → ((q : ℕ) → rows_in (has_process q) o.state.rows ≤ 1) → Awaits (advance n o).state
advance-awaits n o h one =
    advance-by (λ x. Awaits x.state) n o (λ rests busy. ⊎_elim (λ idle. absurd (false≢true (sym idle ∙ busy))) (λ any. any) rests)
    (λ busy none. stop_first-awaits o.state.to_stop n o ((h.0, none_in is_awaited o.state.rows none, refl, busy), one, h.1.0, h.1.1))

-- each event of a fit state does so
step-awaits : (m : ℕ) (s : State) (e : Event) (g : Progress) → IsFit m s g → Awaits (step s e).state
unfolding step step_on
step-awaits m s e g fit =
    let start : Outcome = record { state = stamped e.reading s; orders = [] } in
    advance-awaits (unwrap_or e.number 0) (decide e.kind start) (decide-survives e.kind Stands start (fitted-survives e.kind (is_some s.follows)) (fit.0.0, fit.1)) (decided-distinct m s e fit.2).0

pub work_awaits_law : WorkAwaits
work_awaits_law m s g events fit awaits lawful =
    (along (λ n t h. IsFit n t h × Awaits t) (λ n t h both. both.0.2) (λ n k t e h both distinct. (step-lawful n k t e h both.0 distinct, step-awaits n t e h both.0)) m s g events (fit, awaits) lawful).1

-- the kills of an event that ticks

late-row : (s : State) (reading : ℕ) (row : Row) → Contains s.rows row → (state : RowState) → row.state ≡ state → (rest : List Effect) → All (KillsLate s reading) rest
    → All (KillsLate s reading) (cons_option (kill_order row (late_number (max reading s.last) state)) rest)
late-row s reading row among Undefined is rest h = h
late-row s reading row among (Starting _ _) is rest h = h
late-row s reading row among (Up _) is rest h = h
late-row s reading row among (Asked p None) is rest h = h
late-row s reading row among (Asked p (Some deadline)) is rest h =
    cond_both (nat_le deadline (max reading s.last)) (Some p) None (λ (x : Option ℕ). All (KillsLate s reading) (cons_option (kill_order row x) rest))
    (λ late. All-cons (KillsLate s reading) (effect.Kill row.id p) rest (row, refl, (among, deadline, is, leb-true deadline (max reading s.last) late)) h)
    (λ _. h)
late-row s reading row among (Killed _) is rest h = h
late-row s reading row among (Restarting _) is rest h = h

late-rows : (s : State) (reading : ℕ) (rows : List Row) → ((row : Row) → Contains rows row → Contains s.rows row)
    → All (KillsLate s reading) (filter_map (λ row. kill_order row (late_number (max reading s.last) row.state)) rows)
late-rows s reading [] among = All-nil (KillsLate s reading)
late-rows s reading (row ∷ rows) among =
    late-row s reading row (among row (0, omega arith, refl)) row.state refl (filter_map (λ r. kill_order r (late_number (max reading s.last) r.state)) rows)
    (late-rows s reading rows (λ r c. among r (suc c.0, omega (arith, c.1), c.2)))

ticked-late : (s : State) (reading : ℕ) → All (KillsLate s reading) (tick (record { state = stamped reading s; orders = [] })).orders
unfolding tick
ticked-late s reading = late-rows s reading s.rows (λ r c. c)

-- a row that awaits an answer awaits one still
tick-awaits : (o : Outcome) → Awaits o.state → Awaits (tick o).state
tick-awaits o h busy =
    let rows : List Row = o.state.rows in
    let any : list_any (row_has is_awaited) rows ≡ true = h (ap (λ f. is_some f) (sym (tick-follows o)) ∙ busy) in
    let same : rows_in is_awaited (tick o).state.rows ≡ rows_in is_awaited rows = tick_count is_awaited (λ p d. refl) o in
    some_awaits (tick o).state.rows (omega (arith, same, any_counts is_awaited rows any))

-- work that awaits an answer doesn't go on
advance-rests : (n : ℕ) (o : Outcome) → Awaits o.state → advance n o ≡ o
advance-rests n o h = advance-by (λ x. x ≡ o) n o (λ _. refl) (λ busy none. absurd (false≢true (sym none ∙ h busy)))

step-late : (s : State) (e : Event) → Awaits s → e.kind ≡ kind.Ticked → All (KillsLate s e.reading) (step s e).orders
unfolding step step_on decide
step-late s e h ticks =
    let start : Outcome = record { state = stamped e.reading s; orders = [] } in
    let n : ℕ = unwrap_or e.number 0 in
    subst (λ (k : Kind). All (KillsLate s e.reading) (advance n (decide k start)).orders) (sym ticks)
    (subst (λ (x : Outcome). All (KillsLate s e.reading) x.orders) (sym (advance-rests n (tick start) (tick-awaits start h))) (ticked-late s e.reading))

pub ticks_kill_late_law : TicksKillLate
ticks_kill_late_law m s g events e fit awaits lawful ticks = step-late (state_after s events) e (work_awaits_law m s g events fit awaits lawful) ticks

pub ticks_kill_late_from_empty : TicksKillLateFromEmpty
ticks_kill_late_from_empty flags specs events e lawful ticks =
    let base : State = empty_state flags specs in
    ticks_kill_late_law 0 base (no_progress base) events e (empty_fit flags specs) (λ busy. absurd (false≢true busy)) (lawful, λ i d within. omega arith) ticks
