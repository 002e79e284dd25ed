-- Each process that an order names is that of a row after the event.
use Rattle.std.specs.Prelude.{◌≡◌, ◌⊎◌, ℕ, ◌==◌, ◌+◌, ◌≤◌, ◌<◌, ◌++◌, Bool, true, false, List, [], ◌∷◌, Option, None, Some, All, Contains, refl, if◌then◌else◌, position, is_some, slice_set, length, remove, unwrap_or, count_by}
use Rattle.std.specs.List.{filter_map}
use Rattle.std.proofs.Common.{◌∙◌, ap, sym, subst, inl, inr, arith, ⊎_elim, cond, rules, get_or, suc, zero}
use Rattle.std.proofs.lemmas.Bool.{false≢true, cases_Bool, eq-eqb}
use Rattle.std.proofs.lemmas.List.Elements.{All-push}
use Rattle.otp_spec.specs.declared.flags.Strategy.{Strategy}
use Rattle.otp_table.specs.declared.row.Row.{Row}
use Rattle.otp_table.specs.declared.row.RowState.{RowState}
use Rattle.otp_table.specs.declared.row.RowState.TheVariants.{Undefined, Starting, Up, Asked, Killed, Restarting}
use Rattle.otp_table.specs.Rows.{free_slot, has_process, is_awaited, slot_of, with_state}
use Rattle.otp_rules.specs.declared.call.Reply.{Reply}
use Rattle.otp_rules.specs.declared.ending.Ending.{Ending}
use Rattle.otp_rules.specs.declared.ending.Ending.TheVariants as ending
use Rattle.otp_rules.specs.declared.event.Effect.{Effect}
use Rattle.otp_rules.specs.declared.event.Effect.TheVariants as effect
use Rattle.otp_rules.specs.declared.event.Item.{Item}
use Rattle.otp_rules.specs.declared.event.Kind.{Kind}
use Rattle.otp_rules.specs.declared.event.Waiting.{Waiting}
use Rattle.otp_rules.specs.declared.event.Waiting.TheVariants as waiting
use Rattle.otp_rules.specs.declared.work.Sequel.TheVariants as sequel
use Rattle.otp_rules.specs.declared.work.Due.{Due}
use Rattle.otp_spec.specs.Flags.{is_simple}
use Rattle.otp_rules.specs.State.{Outcome, State, answer, closed, emit, put_last, with_rows, with_stamps, with_waiting, with_work}
use Rattle.otp_rules.specs.Places.{end_process, end_row, set_row}
use Rattle.otp_rules.specs.Restarts.{affected_from, affected_to, running}
use Rattle.otp_rules.specs.Stops.{calm_all, is_exit, stop_each, stop_order, tell, tell_row, terminate, terminate_ordered, terminate_together, told, use_exit, without}
use Rattle.otp_rules.specs.Work.{advance, follow, start_first, stop_first}
use Rattle.otp_rules.specs.Starts.{is_due, start, start_row}
use Rattle.otp_rules.specs.Deaths.{restart, restart_rows}
use Rattle.otp_rules.specs.Calls.{new_row}
use Rattle.otp_rules.specs.Step.{decide, kill_order, late_number, open_rows, stamped, step, step_on, tick}
use Rattle.otp_rules.specs.Run.{empty_state, state_after}
use Rattle.otp_rules.specs.Needs.{numbers_of}
use Rattle.otp_rules.specs.Progress.{no_progress, progress}
use Rattle.otp_rules.specs.Fit.{Fits, is_told, next_number, rows_in}
use Rattle.otp_rules.specs.Named.{OrdersNameRows, OrdersNameRowsFrom, named_by}
use Rattle.otp_rules.proofs.States.{one_process, told_has}
use Rattle.otp_rules.proofs.Walks.{advance-by, restart-by, stop_each-by, stop_first-by, with_stops}
use Rattle.otp_rules.proofs.Decisions.{IsUnmoved, SurvivesEvent, ends_unmoved, same_orders, at_number-survives, by_test, decide-survives, decide-survives_event}
use Rattle.otp_rules.proofs.Counting.{at_row-first, end_row-quiet, found, none_in, rows_in-at, rows_in-cons, rows_in-end, rows_in-set, there, tick_count, told-told, use_exit-quiet, without_count, cond_le, rows_in-le}
use Rattle.otp_rules.proofs.InTurn.{TakesReplies, follow-orders, none_told}
use Rattle.otp_rules.proofs.Fits.{due_there}
use Rattle.otp_rules.proofs.Fitted.{Stands, fitted-survives}
use Rattle.otp_rules.proofs.Numbers.{decided-distinct}
use Rattle.otp_rules.proofs.StartTurn.{MayGoOn, stays_fit_law, used-goes_on}
use Rattle.otp_rules.proofs.Named.{kills, late_has, open-orders, stop_names}

-- a process that the order names is that of a row whose state passes the test
abbrev Has : (ℕ → RowState → Bool) → List Row → Effect → Type 0
Has t rows x = (p : ℕ) → named_by x ≡ Some p → 0 < rows_in (t p) rows

names : (t : ℕ → RowState → Bool) (rows : List Row) (x : Effect) (p : ℕ) → named_by x ≡ Some p → 0 < rows_in (t p) rows → Has t rows x
names t rows x p is has q some = subst (λ (n : ℕ). 0 < rows_in (t n) rows) (ap (λ (y : Option ℕ). unwrap_or y q) (sym is ∙ some)) has

nobody : (t : ℕ → RowState → Bool) (rows : List Row) (x : Effect) → named_by x ≡ None → Has t rows x
nobody t rows x none p some = absurd (search (rules, sym none ∙ some))

-- children told to stop: each order names one, and the end of none of them waits
abbrev IsTold : Outcome → Effect → Type 0
IsTold o x = (p : ℕ) → named_by x ≡ Some p → (0 < rows_in (is_told p) o.state.rows) × (count_by (is_exit p) o.state.waiting ≡ 0)

abbrev AllTold : Outcome → Type 0
AllTold o = All (IsTold o) o.orders

none_waits : (p : ℕ) (ws : List Waiting) → is_some (position (is_exit p) ws) ≡ false → count_by (is_exit p) ws ≡ 0
none_waits p ws none = ⊎_elim (λ (z : count_by (is_exit p) ws ≡ 0). z) (λ some. absurd (false≢true (sym none ∙ found (is_exit p) ws some))) (zero_or (count_by (is_exit p) ws))
  where
    zero_or : (n : ℕ) → (n ≡ 0) ⊎ (0 < n)
    zero_or zero = inl refl
    zero_or (suc n) = inr (omega arith)

-- who was told has the process
told_same : (p q : ℕ) (state : RowState) → has_process p state ≡ true → is_told q state ≡ true → q ≡ p
told_same p q state h k = one_process p q state h (told_has q state k)

tell-told : (p : ℕ) (o : Outcome) → count_by (is_exit p) o.state.waiting ≡ 0 → AllTold o → AllTold (tell p o)
unfolding tell tell_row
tell-told p o quiet h =
    at_number-survives AllTold p (tell_row p) o h
    (λ i row at has.
    let now : RowState = told o.state.last p row.spec.shutdown in
    let rows : List Row = slice_set o.state.rows i (with_state now row) in
    let new : Outcome = set_row i row now o in
    let e : (q : ℕ) → rows_in (is_told q) rows + cond (is_told q row.state) 1 0 ≡ rows_in (is_told q) o.state.rows + cond (is_told q now) 1 0 = λ q. rows_in-set (is_told q) i row now o.state.rows at in
    let one : ◌≡◌ {A = ℕ} (cond (is_told p now) 1 0) 1 = ap (λ (b : Bool). cond b 1 0) (told-told o.state.last p row.spec.shutdown) in
    let kept : (q : ℕ) → 0 < rows_in (is_told q) o.state.rows → 0 < rows_in (is_told q) rows = λ q some.
    ⊎_elim
    (λ was. let same : q ≡ p = told_same p q row.state has was in
    subst (λ (n : ℕ). 0 < rows_in (is_told n) rows) (sym same) (omega (arith, e p, one, at_most_1 (is_told p row.state), rows_in-at (is_told p) i row o.state.rows at)))
    (λ other. let none : ◌≡◌ {A = ℕ} (cond (is_told q row.state) 1 0) 0 = ap (λ (b : Bool). cond b 1 0) other in omega (arith, e q, none, some))
    (cases_Bool (is_told q row.state)) in
    All-push (IsTold new) o.orders (stop_order row.id p row.spec.shutdown)
    (λ j d within q some. let was = h j d within q some in (kept q was.0, was.1))
    (λ q some.
    let same : p ≡ q = ap (λ (y : Option ℕ). unwrap_or y q) (sym (stop_names row.id p row.spec.shutdown) ∙ some) in
    subst (λ (n : ℕ). (0 < rows_in (is_told n) rows) × (count_by (is_exit n) o.state.waiting ≡ 0)) same
    (omega (arith, e p, one, rows_in-at (is_told p) i row o.state.rows at), quiet)))
  where
    at_most_1 : (b : Bool) → cond b 1 0 ≤ 1
    at_most_1 true = omega arith
    at_most_1 false = omega arith

-- the end of a process that wasn't told is used
use_exit-rows : (p q : ℕ) (place : Option ℕ) (o : Outcome) → (q ≡ p → ⊥) → rows_in (is_told q) (use_exit p place o).state.rows ≡ rows_in (is_told q) o.state.rows
unfolding use_exit end_process
use_exit-rows p q place o other =
    let left : Outcome = with_waiting (without o.state.waiting place) o in
    at_number-survives (λ (x : Outcome). rows_in (is_told q) x.state.rows ≡ rows_in (is_told q) o.state.rows) p end_row left refl
    (λ i row at has.
    let e : rows_in (is_told q) (end_row i row left).state.rows + cond (is_told q row.state) 1 0 ≡ rows_in (is_told q) left.state.rows = rows_in-end (is_told q) refl i row left at in
    let none : ◌≡◌ {A = ℕ} (cond (is_told q row.state) 1 0) 0 =
    ⊎_elim (λ was. absurd (other (told_same p q row.state has was))) (λ no. ap (λ (b : Bool). cond b 1 0) no) (cases_Bool (is_told q row.state)) in
    let same : rows_in (is_told q) (end_row i row left).state.rows ≡ rows_in (is_told q) left.state.rows = omega (arith, e, none) in same)

use_exit-told : (p : ℕ) (o : Outcome) → is_some (position (is_exit p) o.state.waiting) ≡ true → AllTold o → AllTold (use_exit p (position (is_exit p) o.state.waiting) o)
use_exit-told p o waits h =
    let place : Option ℕ = position (is_exit p) o.state.waiting in
    let used : Outcome = use_exit p place o in
    let quiet = use_exit-quiet p place o in
    let some : 0 < count_by (is_exit p) o.state.waiting = there (is_exit p) o.state.waiting (waiting.Retry 0) waits in
    subst (λ (xs : List Effect). All (IsTold used) xs) (sym quiet.1)
    (λ j d within q is.
    let was = h j d within q is in
    let other : q ≡ p → ⊥ = λ same. let here : count_by (is_exit p) o.state.waiting ≡ 0 = subst (λ (n : ℕ). count_by (is_exit n) o.state.waiting ≡ 0) same was.1 in omega (arith, here, some) in
    let rows : rows_in (is_told q) used.state.rows ≡ rows_in (is_told q) o.state.rows = use_exit-rows p q place o other in
    let left : count_by (is_exit q) used.state.waiting ≡ count_by (is_exit q) (without o.state.waiting place) = ap (λ (ws : List Waiting). count_by (is_exit q) ws) quiet.0 in
    let none : count_by (is_exit q) used.state.waiting ≡ 0 = let less = without_count q (is_exit p) o.state.waiting in omega (arith, left, less, was.1) in
    (omega (arith, rows, was.0), none))

stop_each-told : (ps : List ℕ) (o : Outcome) → AllTold o → AllTold (stop_each ps o)
stop_each-told = stop_each-by AllTold (λ p o waits h. use_exit-told p o waits h) (λ p o none h. tell-told p o (none_waits p o.state.waiting none) h)

-- each order so far names a child that was told to stop
abbrev Tells : Outcome → Type 0
Tells o = All (Has is_told o.state.rows) o.orders

told-tells : (o : Outcome) → AllTold o → Tells o
told-tells o h j d within p is = (h j d within p is).0

nothing-tells : (new : Outcome) → new.orders ≡ [] → Tells new
nothing-tells new none = subst (λ (xs : List Effect). All (Has is_told new.state.rows) xs) (sym none) (λ j d within. absurd (omega (arith, within)))

terminate-tells : (e : Ending) (o : Outcome) → o.orders ≡ [] → Tells (terminate e o)
unfolding terminate terminate_together terminate_ordered
terminate-tells e o none =
    let begun : Outcome = calm_all (with_work [] [] (Some (sequel.End e)) o) in
    by_test Tells (is_simple o.state.flags.strategy) (terminate_together e o) (terminate_ordered e o)
    (λ _. told-tells (terminate_together e o) (stop_each-told (running o.state.rows) begun (subst (λ (xs : List Effect). All (IsTold begun) xs) (sym none) (λ j d within. absurd (omega (arith, within))))))
    (λ _. nothing-tells (terminate_ordered e o) none)

restart-tells : (p place : ℕ) (row : Row) (o : Outcome) → o.orders ≡ [] → Tells (restart p place row o)
unfolding restart_rows
restart-tells p place row o none =
    let counted : Outcome = with_stamps (o.state.stamps ++ o.state.last ∷ []) (set_row place row Undefined o) in
    let strategy : Strategy = o.state.flags.strategy in
    let count : ℕ = length counted.state.rows in
    let started : Outcome = restart_rows (affected_from strategy place) (affected_to strategy place count) place p counted in
    restart-by Tells p place row o
    (λ _. terminate-tells ending.Intensity counted none)
    (λ _. nothing-tells started none)

answer-tells : (c : ℕ) (r : Reply) (o : Outcome) → Tells o → Tells (answer c r o)
unfolding answer
answer-tells c r o h = All-push (Has is_told o.state.rows) o.orders (effect.Reply c) h (nobody is_told o.state.rows (effect.Reply c) refl)

late_told : (now : ℕ) (state : RowState) (p : ℕ) → late_number now state ≡ Some p → is_told p state ≡ true
late_told now Undefined p h = absurd (search (rules, h))
late_told now (Starting _ _) p h = absurd (search (rules, h))
late_told now (Up _) p h = absurd (search (rules, h))
late_told now (Asked q d) p h = late_has now p (Asked q d) h
late_told now (Killed _) p h = absurd (search (rules, h))
late_told now (Restarting _) p h = absurd (search (rules, h))

tick-tells : (o : Outcome) → o.orders ≡ [] → Tells (tick o)
unfolding tick
tick-tells o none =
    let rows : List Row = (tick o).state.rows in
    let given : List Effect = filter_map (λ (row : Row). kill_order row (late_number o.state.last row.state)) o.state.rows in
    let same : (q : ℕ) → rows_in (is_told q) rows ≡ rows_in (is_told q) o.state.rows = λ q. tick_count (is_told q) (λ p d. refl) o in
    subst (λ (xs : List Effect). All (Has is_told rows) (xs ++ given)) (sym none)
    (kills (Has is_told rows) (λ q state. is_told q state) (λ q. rows_in (is_told q) rows) o.state.last o.state.rows
    (λ id p some. names is_told rows (effect.Kill id p) p refl some) (late_told o.state.last) (λ q. omega (arith, same q)))

tells-survive : (k : Kind) (G : Item → Type 0) (old : Outcome) → old.orders ≡ [] → SurvivesEvent k G old Tells
tells-survive k G old none =
    let still : (new o : Outcome) → new.orders ≡ o.orders → IsUnmoved old o → Tells new = λ new o same u. nothing-tells new (same ∙ same_orders old o u ∙ none) in
    record {
      answered = λ c r o quiet h. answer-tells c r o h;
      taken = λ w ws resumed idle runs is h. nothing-tells (with_waiting ws old) none;
      call_waits = λ c call o u busy g h. h;
      exit_waits = λ p r place row o u at has g h. h;
      up = λ p place row q kept o u at is same g h. still (set_row place row (Up p) o) o refl u;
      up_closed = λ p place row q kept c o u at is same follows g h. still (closed (set_row place row (Up p) o)) o refl u;
      ignored = λ p place row q kept o u at is same g h. still (end_row place row o) o (end_row-quiet place row o).1 u;
      opening_failed = λ place row q kept o u runs at is follows g h. terminate-tells (ending.InitFailed row.spec.id) (set_row place row Undefined o) (same_orders old o u ∙ none);
      restart_failed = λ place row q kept o u at is follows g h. still (closed (put_last (waiting.Retry kept) (set_row place row (Restarting kept) o))) o refl u;
      added_failed = λ place row q kept c o u at is follows g h. still (closed (with_rows (remove o.state.rows place) o)) o refl u;
      restarted_failed = λ place row q kept c o u at is follows g h. still (closed (set_row place row Undefined o)) o refl u;
      stopped = λ p r place row o u at told g h. still (end_row place row o) o (end_row-quiet place row o).1 u;
      died = λ p place row o u idle runs at is g h. still (end_row place row o) o (end_row-quiet place row o).1 u;
      restarts = λ p place row o u idle runs at is h. restart-tells p place row o (same_orders old o u ∙ none);
      ends = λ e o u other idle runs h. terminate-tells e o ((ends_unmoved k G old e o u).0 ∙ none);
      ticks = λ is h. tick-tells old none;
      opens = λ own is over h. nothing-tells (open_rows own old) (open-orders (λ (xs : List Effect). xs ≡ []) own old none);
      adds = λ c id spec o u idle runs named few got h.
          nothing-tells (with_work [] (record { id = id; kept = None } ∷ []) (Some (sequel.Added c)) (with_rows (o.state.rows ++ new_row (free_slot o.state.rows) id spec ∷ []) o)) (same_orders old o u ∙ none);
      starts_again = λ c id place row o u idle runs at has is noted found h. h;
      removed = λ place row o u idle runs at down h. still (with_rows (remove o.state.rows place) o) o refl u;
      given_up = λ place row o u idle runs at down h. still (set_row place row Undefined o) o refl u;
      stops_child = λ c p place row o u idle runs at up has got h. h;
    }

-- the order names nobody
abbrev NamesNone : Effect → Type 0
NamesNone x = named_by x ≡ None

-- each order so far names a process that a row has
abbrev Placed : Outcome → Type 0
Placed o = All (Has has_process o.state.rows) o.orders

none-placed : (o : Outcome) → All NamesNone o.orders → Placed o
none-placed o h j d within = nobody has_process o.state.rows (get_or o.orders j d) (h j d within)

-- where nobody is awaited, nobody was told
tells-none : (o : Outcome) → rows_in is_awaited o.state.rows ≡ 0 → Tells o → All NamesNone o.orders
tells-none o calm h j d within = of_named (named_by (get_or o.orders j d)) refl
  where
    of_named : (x : Option ℕ) → named_by (get_or o.orders j d) ≡ x → x ≡ None
    of_named None is = refl
    of_named (Some p) is = absurd (none_told p o.state.rows calm (h j d within p is))

told-more : (rows : List Row) (p : ℕ) → rows_in (is_told p) rows ≤ rows_in (has_process p) rows
told-more rows p = rows_in-le (is_told p) (has_process p) (λ state. cond_le (is_told p state) (has_process p state) (told_has p state)) rows

tells-placed : (o : Outcome) → Tells o → Placed o
tells-placed o h j d within p is = omega (arith, h j d within p is, told-more o.state.rows p)

none-replies : TakesReplies NamesNone
none-replies = (λ c. refl, refl, λ x. refl)

tell-placed : (p : ℕ) (o : Outcome) → All NamesNone o.orders → Placed (tell p o)
unfolding tell tell_row
tell-placed p o h =
    at_number-survives Placed p (tell_row p) o (none-placed o h)
    (λ i row at has.
    let now : RowState = told o.state.last p row.spec.shutdown in
    let rows : List Row = slice_set o.state.rows i (with_state now row) in
    let e : rows_in (is_told p) rows + cond (is_told p row.state) 1 0 ≡ rows_in (is_told p) o.state.rows + cond (is_told p now) 1 0 = rows_in-set (is_told p) i row now o.state.rows at in
    let one : ◌≡◌ {A = ℕ} (cond (is_told p now) 1 0) 1 = ap (λ (b : Bool). cond b 1 0) (told-told o.state.last p row.spec.shutdown) in
    All-push (Has has_process rows) o.orders (stop_order row.id p row.spec.shutdown)
    (λ j d within. nobody has_process rows (get_or o.orders j d) (h j d within))
    (names has_process rows (stop_order row.id p row.spec.shutdown) p (stop_names row.id p row.spec.shutdown)
    (omega (arith, e, one, told-more rows p, rows_in-at (is_told p) i row o.state.rows at))))

start-placed : (due : Due) (rest : List Due) (n : ℕ) (o : Outcome) → rows_in is_awaited o.state.rows ≡ 0 → Fits [] (due ∷ rest) o.state.rows → All NamesNone o.orders
    → Placed (start due n (with_work o.state.to_stop rest o.state.follows o))
unfolding start start_row
start-placed due rest n o calm fits h =
    let left : Outcome = with_work o.state.to_stop rest o.state.follows o in
    let now : RowState = Starting n (unwrap_or due.kept n) in
    at_row-first (λ x. Placed (emit (effect.Start due.id n) x)) (is_due due) left (start_row due n) left (due_there due rest o.state.rows calm fits)
    (λ i row found at.
    let rows : List Row = slice_set o.state.rows i (with_state now row) in
    let e : rows_in (has_process n) rows + cond (has_process n row.state) 1 0 ≡ rows_in (has_process n) o.state.rows + cond (n == n) 1 0 = rows_in-set (has_process n) i row now o.state.rows at in
    let one : ◌≡◌ {A = ℕ} (cond (n == n) 1 0) 1 = ap (λ (b : Bool). cond b 1 0) (eq-eqb n n refl) in
    All-push (Has has_process rows) o.orders (effect.Start due.id n)
    (λ j d within. nobody has_process rows (get_or o.orders j d) (h j d within))
    (names has_process rows (effect.Start due.id n) n refl (omega (arith, e, one, rows_in-at (has_process n) i row o.state.rows at))))

-- the work may go on: its children have rows, and no order was given that names one
abbrev MayGo : List ℕ → Outcome → Type 0
MayGo ps o = MayGoOn ps o × All NamesNone o.orders

start_first-placed : (dues : List Due) (n : ℕ) (o : Outcome) → o.state.to_start ≡ dues → MayGo [] o → Placed (start_first dues n o)
unfolding start_first
start_first-placed [] n o is m = none-placed (follow o.state.follows o) (follow-orders NamesNone none-replies o.state.follows o m.1)
start_first-placed (due ∷ rest) n o is m = start-placed due rest n o m.0.0.1 (subst (λ (ds : List Due). Fits [] ds o.state.rows) is m.0.3) m.1

stop_first-placed : (ps : List ℕ) (n : ℕ) (o : Outcome) → MayGo ps o → Placed (stop_first ps n o)
stop_first-placed ps n =
    stop_first-by MayGo Placed n (λ o m. start_first-placed o.state.to_start n o refl m)
    (λ p rest o _ m. (
      used-goes_on p rest o m.0,
      subst (λ (xs : List Effect). All NamesNone xs) (sym (use_exit-quiet p (position (is_exit p) o.state.waiting) (with_stops rest o)).1) m.1,
    ))
    (λ p rest o _ m. tell-placed p (with_stops rest o) m.1) ps

advance-placed : (n : ℕ) (o : Outcome) → Stands o → ((q : ℕ) → rows_in (has_process q) o.state.rows ≤ 1) → Tells o → Placed (advance n o)
advance-placed n o h one tells =
    advance-by Placed n o (λ _. tells-placed o tells) (λ busy calm.
    let nothing : rows_in is_awaited o.state.rows ≡ 0 = none_in is_awaited o.state.rows calm in
    stop_first-placed o.state.to_stop n o (((h.0, nothing, refl, busy), one, h.1.0, h.1.1), tells-none o nothing tells))

-- the first row that has the process, where a count tells of one
first_row : (p : ℕ) (rows : List Row) → 0 < rows_in (has_process p) rows → (row : Row) × Contains rows row × (has_process p row.state ≡ true) × (slot_of p rows ≡ Some row.slot)
first_row p [] some = absurd (omega (arith, some))
first_row p (row ∷ rows) some = by_first (has_process p row.state) refl (λ more. first_row p rows more)
  where
    by_first : (b : Bool) → has_process p row.state ≡ b → (0 < rows_in (has_process p) rows → (r : Row) × Contains rows r × (has_process p r.state ≡ true) × (slot_of p rows ≡ Some r.slot))
        → (r : Row) × Contains (row ∷ rows) r × (has_process p r.state ≡ true) × (slot_of p (row ∷ rows) ≡ Some r.slot)
    by_first true is later = (row, (0, omega arith, refl), is, ap (λ (b : Bool). if b then Some row.slot else slot_of p rows) is)
    by_first false is later =
        let none : ◌≡◌ {A = ℕ} (cond (has_process p row.state) 1 0) 0 = ap (λ (b : Bool). cond b 1 0) is in
        let one = later (omega (arith, some, none, rows_in-cons (has_process p) row rows)) in
        let c = one.1 in
        (one.0, (suc c.0, omega (arith, c.1), c.2), one.2, ap (λ (b : Bool). if b then Some row.slot else slot_of p rows) is ∙ one.3)

pub orders_name_rows_from_law : OrdersNameRowsFrom
unfolding step step_on
orders_name_rows_from_law next s g e fit j d within p is =
    let start : Outcome = record { state = stamped e.reading s; orders = [] } in
    let o : Outcome = decide e.kind start in
    let stands_now : Stands o = decide-survives e.kind Stands start (fitted-survives e.kind (is_some s.follows)) (fit.0.0, fit.1) in
    let tells : Tells o = decide-survives_event e.kind (λ (i : Item). Unit {0}) start Tells (tells-survive e.kind (λ (i : Item). Unit {0}) start refl) (λ i b idle. tt) (nothing-tells start refl) in
    let placed : Placed (step s e) = advance-placed (unwrap_or e.number 0) o stands_now (decided-distinct next s e fit.2).0 tells in
    first_row p (step s e).state.rows (placed j d within p is)

pub orders_name_rows_law : OrdersNameRows
orders_name_rows_law flags specs events e lawful =
    let base : State = empty_state flags specs in
    orders_name_rows_from_law (next_number 0 (numbers_of events)) (state_after base events) (progress base (no_progress base) events) e
    (stays_fit_law.1 0 base (no_progress base) events (stays_fit_law.0 flags specs) (lawful, λ i d within. omega arith))
