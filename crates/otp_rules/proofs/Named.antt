-- The orders name processes that a row has, or the one that the event starts.
use Rattle.std.specs.Prelude.{◌≡◌, ◌⊎◌, ℕ, ◌==◌, ◌≤◌, ◌<◌, ◌++◌, ◌||◌, Bool, true, false, List, [], ◌∷◌, Option, None, Some, refl, if◌then◌else◌, position, is_some, nat_le, length, remove, unwrap_or}
use Rattle.std.specs.List.{list_any, filter_map, All, Contains}
use Rattle.std.proofs.Common.{◌∙◌, ap, sym, subst, inl, inr, arith, ⊎_elim, cond, rules, append_assoc, get_or, suc, zero}
use Rattle.std.proofs.lemmas.Bool.{false≢true, cases_Bool, eqb-true}
use Rattle.std.proofs.lemmas.List.Elements.{All-head, All-tail, All-push, All-append, filter_map-append, Contains-append_left, Contains-push}
use Rattle.otp_reason.specs.declared.name.Name.{Name}
use Rattle.otp_spec.specs.declared.child.Shutdown.{Shutdown}
use Rattle.otp_spec.specs.declared.child.Shutdown.TheVariants.{BrutalKill, Milliseconds, Infinity}
use Rattle.otp_table.specs.declared.row.Row.{Row}
use Rattle.otp_table.specs.declared.row.RowState.{RowState}
use Rattle.otp_table.specs.declared.row.RowState.TheVariants.{Undefined, Starting, Up, Asked, Killed, Restarting}
use Rattle.otp_table.specs.Rows.{has_process}
use Rattle.otp_rules.specs.declared.call.Reply.{Reply}
use Rattle.otp_rules.specs.declared.ending.Ending.{Ending}
use Rattle.otp_rules.specs.declared.ending.Ending.TheVariants as ending
use Rattle.otp_rules.specs.declared.event.Effect.{Effect}
use Rattle.otp_rules.specs.declared.event.Effect.TheVariants as effect
use Rattle.otp_rules.specs.declared.event.Event.{Event}
use Rattle.otp_rules.specs.declared.event.Item.TheVariants as item
use Rattle.otp_rules.specs.declared.event.Waiting.{Waiting}
use Rattle.otp_rules.specs.declared.event.Waiting.TheVariants as waiting
use Rattle.otp_rules.specs.declared.event.Kind.{Kind}
use Rattle.otp_rules.specs.declared.work.Due.{Due}
use Rattle.otp_rules.specs.declared.work.Sequel.TheVariants as sequel
use Rattle.otp_rules.specs.State.{Outcome, State, answer, with_rows, with_waiting, with_work}
use Rattle.otp_rules.specs.Places.{at_row, end_row, end_process, set_row, is_removed}
use Rattle.otp_rules.specs.Restarts.{running}
use Rattle.otp_rules.specs.Stops.{calm_all, is_exit, without, tell_row, tell, use_exit, stop_each, stop_order, terminate}
use Rattle.otp_rules.specs.Starts.{is_due, start_row, start}
use Rattle.otp_rules.specs.Work.{advance}
use Rattle.otp_rules.specs.Deaths.{restart_rows, restart}
use Rattle.otp_rules.specs.Step.{open_with, open_rows, tick, decide, stamped, step, step_on, kill_order, late_number}
use Rattle.otp_rules.specs.Named.{AreAmong, named_by, NamesOneOf, OrdersNumbered, OrdersNumberedFrom}
use Rattle.otp_rules.specs.Ends.{sup_end_of, refuse_all, refusal, end_all}
use Rattle.otp_rules.specs.Progress.{decided}
use Rattle.otp_rules.specs.Fit.{rows_in}
use Rattle.otp_rules.specs.Needs.{is_start, needs_number, numbers_of, IsNumbered}
use Rattle.otp_rules.specs.Run.{empty_state, orders_of}
use Rattle.otp_rules.proofs.GoesOn.{GoesOn, advance-on}
use Rattle.otp_rules.proofs.Walks.{stop_each-by, terminate-by, with_stops, counted_restart}
use Rattle.otp_rules.proofs.Decisions.{StandsAt, Survives, at_row-survives, at_number-survives, by_test, decide-survives}
use Rattle.otp_rules.proofs.Counting.{rows_in-cons, rows_in-at}
use Rattle.otp_rules.proofs.Numbers.{holders, NoMore, set-no_more, tell-no_more, use_exit-no_more, calm_process, restart_rows-no_more, no_more-survives, step-grown, restart-within}

-- if the order names a process, that is n, or a row had it
abbrev pub IsHeld : ℕ → Outcome → Effect → Type 0
IsHeld n old e = (m : ℕ) → named_by e ≡ Some m → ((m ≡ n) × (is_start e ≡ true)) ⊎ (1 ≤ holders m old)

-- the orders so far are such, and no process has more rows
abbrev pub Held : ℕ → Outcome → Outcome → Type 0
Held n old o = NoMore old o × All (IsHeld n old) o.orders

unnamed : (n : ℕ) (old : Outcome) (e : Effect) → named_by e ≡ None → IsHeld n old e
unnamed n old e none m some = absurd (search (rules, sym none ∙ some))

named : (n : ℕ) (old : Outcome) (e : Effect) (p : ℕ) → named_by e ≡ Some p → ((p ≡ n) × (is_start e ≡ true)) ⊎ (1 ≤ holders p old) → IsHeld n old e
named n old e p is held m some =
    let same : p ≡ m = ap (λ (x : Option ℕ). unwrap_or x 0) (sym is ∙ some) in
    let F : ℕ → Type 0 = λ k. ((k ≡ n) × (is_start e ≡ true)) ⊎ (1 ≤ holders k old) in
    subst F same held

pub stop_names : (id : Option Name) (p : ℕ) (s : Shutdown) → named_by (stop_order id p s) ≡ Some p
stop_names id p BrutalKill = refl
stop_names id p (Milliseconds m) = refl
stop_names id p Infinity = refl

-- the row that stands there has the process
stands_held : (p place : ℕ) (row : Row) (old o : Outcome) → StandsAt place row o → has_process p row.state ≡ true → NoMore old o → 1 ≤ holders p old
stands_held p place row old o at has h =
    let one : ◌≡◌ {A = ℕ} (cond (has_process p row.state) 1 0) 1 = ap (λ (b : Bool). cond b 1 0) has in
    omega (arith, one, rows_in-at (has_process p) place row o.state.rows at, h p)

tell-held : (n p : ℕ) (old o : Outcome) → Held n old o → Held n old (tell p o)
unfolding tell tell_row
tell-held n p old o h = (
  tell-no_more p old o h.0,
  at_number-survives (λ (x : Outcome). All (IsHeld n old) x.orders) p (tell_row p) o h.1
      (λ i row at has. All-push (IsHeld n old) o.orders (stop_order row.id p row.spec.shutdown) h.1
      (named n old (stop_order row.id p row.spec.shutdown) p (stop_names row.id p row.spec.shutdown) (inr (stands_held p i row old o at has h.0)))),
)

end-orders : (P : List Effect → Type 0) (place : ℕ) (row : Row) (o : Outcome) → P o.orders → P (end_row place row o).orders
unfolding end_row
end-orders P place row o h = by_test (λ (x : Outcome). P x.orders) (is_removed row) (with_rows (remove o.state.rows place) o) (set_row place row Undefined o) (λ _. h) (λ _. h)

use_exit-held : (n p : ℕ) (place : Option ℕ) (old o : Outcome) → Held n old o → Held n old (use_exit p place o)
unfolding use_exit end_process
use_exit-held n p place old o h = (
  use_exit-no_more p place old o h.0,
  at_number-survives (λ (x : Outcome). All (IsHeld n old) x.orders) p end_row (with_waiting (without o.state.waiting place) o) h.1
      (λ i row at has. end-orders (λ (l : List Effect). All (IsHeld n old) l) i row (with_waiting (without o.state.waiting place) o) h.1),
)

stop_each-held : (n : ℕ) (ps : List ℕ) (old o : Outcome) → Held n old o → Held n old (stop_each ps o)
stop_each-held n ps old = stop_each-by (Held n old) (λ p o _ h. use_exit-held n p (position (is_exit p) o.state.waiting) old o h) (λ p o _ h. tell-held n p old o h) ps

terminate-held : (n : ℕ) (e : Ending) (old o : Outcome) → Held n old o → Held n old (terminate e o)
terminate-held n e old o h =
    terminate-by (Held n old) e o
    (λ _. stop_each-held n (running o.state.rows) old (calm_all (with_work [] [] (Some (sequel.End e)) o)) ((λ q. omega (arith, h.0 q, calm_process q o.state.rows)), h.1))
    (λ _. ((λ q. omega (arith, h.0 q, calm_process q o.state.rows)), h.1))

restart-held : (n p place : ℕ) (row : Row) (old o : Outcome) → StandsAt place row o → Held n old o → Held n old (restart p place row o)
unfolding restart_rows
restart-held n p place row old o at h =
    let counted : Outcome = counted_restart place row o in
    let less : NoMore old counted = set-no_more place row Undefined old o at (λ q. omega arith) h.0 in
    restart-within (Held n old) p place row o at (terminate-held n ending.Intensity old counted (less, h.1)) (λ from to le. (restart_rows-no_more from to place p old counted le less, h.1))

pub late_has : (now p : ℕ) (s : RowState) → late_number now s ≡ Some p → has_process p s ≡ true
late_has now p Undefined h = absurd (search (rules, h))
late_has now p (Starting _ _) h = absurd (search (rules, h))
late_has now p (Up _) h = absurd (search (rules, h))
late_has now p (Asked q None) h = absurd (search (rules, h))
late_has now p (Asked q (Some d)) h = by_late (nat_le d now) h
  where
    by_late : (b : Bool) → (if b then Some q else None) ≡ Some p → (q == p) ≡ true
    by_late true e = let same : q ≡ p = ap (λ (x : Option ℕ). unwrap_or x 0) e in grind (arith, same)
    by_late false e = absurd (search (rules, e))
late_has now p (Killed _) h = absurd (search (rules, h))
late_has now p (Restarting _) h = absurd (search (rules, h))

pub one_order : (Q : Effect → Type 0) (x : Option Effect) → ((e : Effect) → x ≡ Some e → Q e) → All Q (filter_map (λ (u : Unit {0}). x) (tt ∷ []))
one_order Q None h k d b = absurd (omega arith)
one_order Q (Some e) h k d b = All-push Q [] e (λ k d b. absurd (omega arith)) (h e refl) k d b

-- the kills of a tick: what holds of a kill of each process that some row has so
pub kills : (Q : Effect → Type 0) (t : ℕ → RowState → Bool) (count : ℕ → ℕ) (now : ℕ) (rows : List Row)
    → ((id : Option Name) (p : ℕ) → 1 ≤ count p → Q (effect.Kill id p)) → ((state : RowState) (p : ℕ) → late_number now state ≡ Some p → t p state ≡ true)
    → ((q : ℕ) → rows_in (t q) rows ≤ count q) → All Q (filter_map (λ (row : Row). kill_order row (late_number now row.state)) rows)
kills Q t count now [] holds late h = λ k d b. absurd (omega arith)
kills Q t count now (row ∷ rows) holds late h =
    let f : Row → Option Effect = λ r. kill_order r (late_number now r.state) in
    let rest : All Q (filter_map f rows) = kills Q t count now rows holds late (λ q. omega (arith, h q, rows_in-cons (t q) row rows)) in
    let here : (p : ℕ) → late_number now row.state ≡ Some p → 1 ≤ count p = λ p is.
    let one : ◌≡◌ {A = ℕ} (cond (t p row.state) 1 0) 1 = ap (λ (b : Bool). cond b 1 0) (late row.state p is) in
    omega (arith, one, h p, rows_in-cons (t p) row rows) in
    subst (λ (l : List Effect). All Q l) (sym (filter_map-append f (row ∷ []) rows))
    (All-append Q (filter_map f (row ∷ [])) (filter_map f rows) (one_order Q (f row) (kill row (late_number now row.state) here)) rest)
  where
    kill : (row : Row) (x : Option ℕ) → ((p : ℕ) → x ≡ Some p → 1 ≤ count p) → (e : Effect) → kill_order row x ≡ Some e → Q e
    kill row None h e is = absurd (search (rules, is))
    kill row (Some p) h e is = subst Q (ap (λ (y : Option Effect). unwrap_or y e) is) (holds row.id p (h p refl))

kills-held : (n now : ℕ) (old : Outcome) (rows : List Row) → ((q : ℕ) → rows_in (has_process q) rows ≤ holders q old) → All (IsHeld n old) (filter_map (λ (row : Row). kill_order row (late_number now row.state)) rows)
kills-held n now old rows h =
    kills (IsHeld n old) (λ q state. has_process q state) (λ q. holders q old) now rows
    (λ id p has. named n old (effect.Kill id p) p refl (inr has)) (λ state p. late_has now p state) h

tick-held : (n : ℕ) (old o : Outcome) → NoMore old (tick o) → Held n old o → Held n old (tick o)
unfolding tick
tick-held n old o less h = (less, All-append (IsHeld n old) o.orders (filter_map (λ (row : Row). kill_order row (late_number o.state.last row.state)) o.state.rows) h.1 (kills-held n o.state.last old o.state.rows h.0))

answer-held : (n c : ℕ) (r : Reply) (old o : Outcome) → All (IsHeld n old) o.orders → All (IsHeld n old) (answer c r o).orders
unfolding answer
answer-held n c r old o h = All-push (IsHeld n old) o.orders (effect.Reply c) h (unnamed n old (effect.Reply c) refl)

pub open-orders : (P : List Effect → Type 0) (own : ℕ) (o : Outcome) → P o.orders → P (open_rows own o).orders
unfolding open_rows open_with
open-orders P own o h = h

pub held-survives : (n : ℕ) (old : Outcome) (k : Kind) (b : Bool) → Survives k b (Held n old)
held-survives n old k b =
    let s = no_more-survives old k b in
    let P : List Effect → Type 0 = λ l. All (IsHeld n old) l in
    record {
      answered = λ c r o h. (s.answered c r o h.0, answer-held n c r old o h.1);
      taken = λ w ws o idle runs is h. h;
      call_waits = λ c call o h. h;
      exit_waits = λ p r o noted h. h;
      up = λ p place row q kept o at is same noted h. (s.up p place row q kept o at is same noted h.0, h.1);
      up_closed = λ p place row q kept c o at is same follows h. (s.up_closed p place row q kept c o at is same follows h.0, h.1);
      ignored = λ p place row q kept o at is same noted h. (s.ignored p place row q kept o at is same noted h.0, end-orders P place row o h.1);
      opening_failed = λ place row q kept o runs at is follows h.
          terminate-held n (ending.InitFailed row.spec.id) old (set_row place row Undefined o) (set-no_more place row Undefined old o at (λ x. omega arith) h.0, h.1);
      restart_failed = λ place row q kept o at is follows h. (s.restart_failed place row q kept o at is follows h.0, h.1);
      added_failed = λ place row q kept c o at is follows h. (s.added_failed place row q kept c o at is follows h.0, h.1);
      restarted_failed = λ place row q kept c o at is follows h. (s.restarted_failed place row q kept c o at is follows h.0, h.1);
      stopped = λ p r place row o at told noted h. (s.stopped p r place row o at told noted h.0, end-orders P place row o h.1);
      died = λ p place row o idle runs at is h. (s.died p place row o idle runs at is h.0, end-orders P place row o h.1);
      restarts = λ p place row o idle runs at is h. restart-held n p place row old o at h;
      ends = λ e o other idle runs h. terminate-held n e old o h;
      ticks = λ o is h. tick-held n old o (s.ticks o is h.0) h;
      opens = λ own o is link over h. (s.opens own o is link over h.0, open-orders P own o h.1);
      adds = λ c id spec o idle runs named h. (s.adds c id spec o idle runs named h.0, h.1);
      starts_again = λ c id place row o idle runs at has is h. h;
      removed = λ place row o idle runs at down h. (s.removed place row o idle runs at down h.0, h.1);
      given_up = λ place row o idle runs at down h. (s.given_up place row o idle runs at down h.0, h.1);
      stops_child = λ c p place row o idle runs at up h. h;
    }

-- the refusals of waiting calls name no process
refusals-held : (n : ℕ) (old : Outcome) (ws : List Waiting) → All (IsHeld n old) (filter_map refusal ws)
refusals-held n old [] = λ k d b. absurd (omega arith)
refusals-held n old (w ∷ ws) =
    let F : List Effect → Type 0 = λ l. All (IsHeld n old) l in
    subst F (sym (filter_map-append refusal (w ∷ []) ws))
    (All-append (IsHeld n old) (filter_map refusal (w ∷ [])) (filter_map refusal ws) (one_order (IsHeld n old) (refusal w) (refusal_held w)) (refusals-held n old ws))
  where
    refusal_held : (x : Waiting) (e : Effect) → refusal x ≡ Some e → IsHeld n old e
    refusal_held (waiting.Item (item.Note y)) e is = absurd (search (rules, is))
    refusal_held (waiting.Item (item.Call c y)) e is =
        let G : Effect → Type 0 = λ z. IsHeld n old z in
        subst G (ap (λ (z : Option Effect). unwrap_or z e) is) (unnamed n old (effect.Reply c) refl)
    refusal_held (waiting.Retry y) e is = absurd (search (rules, is))

start-held : (n : ℕ) (old : Outcome) (due : Due) (o : Outcome) → All (IsHeld n old) o.orders → All (IsHeld n old) (start due n o).orders
unfolding start start_row
start-held n old due o h =
    All-push (IsHeld n old) (at_row (is_due due) o (start_row due n) o).orders (effect.Start due.id n)
    (at_row-survives (λ (x : Outcome). All (IsHeld n old) x.orders) (is_due due) o (start_row due n) o h h (λ i row at has. h))
    (named n old (effect.Start due.id n) n refl (inl (refl, refl)))

going-held : (n : ℕ) (old : Outcome) → GoesOn n (λ _. Held n old) (λ x. All (IsHeld n old) x.orders)
unfolding answer end_all refuse_all
going-held n old =
    record {
      uses = λ p rest o _ h. use_exit-held n p (position (is_exit p) o.state.waiting) old (with_stops rest o) h;
      tells = λ p rest o _ h. (tell-held n p old (with_stops rest o) h).1;
      starts = λ due dues o _ h. start-held n old due (with_work o.state.to_stop dues o.state.follows o) h.1;
      closes = λ f o _ _ h. h.1;
      answers = λ c r f o _ _ h. All-push (IsHeld n old) o.orders (effect.Reply c) h.1 (unnamed n old (effect.Reply c) refl);
      ready = λ o _ h. All-push (IsHeld n old) o.orders effect.Ready h.1 (unnamed n old effect.Ready refl);
      ends = λ e o _ h.
          let more : All (IsHeld n old) (o.orders ++ filter_map refusal o.state.waiting) = All-append (IsHeld n old) o.orders (filter_map refusal o.state.waiting) h.1 (refusals-held n old o.state.waiting) in
          All-push (IsHeld n old) (o.orders ++ filter_map refusal o.state.waiting) (effect.End (sup_end_of o.state.flags o.state.stamps e)) more (unnamed n old (effect.End (sup_end_of o.state.flags o.state.stamps e)) refl);
    }

advance-held : (n : ℕ) (old o : Outcome) → Held n old o → All (IsHeld n old) (advance n o).orders
advance-held n old o h = advance-on n (λ _. Held n old) (λ x. All (IsHeld n old) x.orders) (going-held n old) o (λ _. h.1) (λ _ _. h)

-- the orders of an event name its own number or a process that a row had
pub step-held : (s : State) (e : Event) → All (IsHeld (unwrap_or e.number 0) (record { state = stamped e.reading s; orders = [] })) (step s e).orders
unfolding step step_on
step-held s e =
    let old : Outcome = record { state = stamped e.reading s; orders = [] } in
    let n : ℕ = unwrap_or e.number 0 in
    advance-held n old (decide e.kind old)
    (decide-survives e.kind (Held n old) old (held-survives n old e.kind (is_some s.follows)) ((λ q. omega arith), (λ k d b. absurd (omega arith))))

-- each process that a row has was given
abbrev IsGiven : List ℕ → State → Type 0
IsGiven given s = (q : ℕ) → 1 ≤ rows_in (has_process q) s.rows → Contains given q

no_start : (l : List Effect) → list_any is_start l ≡ false → (k : ℕ) (d : Effect) → k < length l → is_start (get_or l k d) ≡ true → ⊥
no_start [] h k d b e = omega arith
no_start (x ∷ xs) h zero d b e = false≢true (sym (first_false (is_start x) (list_any is_start xs) h) ∙ e)
  where
    first_false : (a c : Bool) → (a || c) ≡ false → a ≡ false
    first_false true c i = i
    first_false false c i = refl
no_start (x ∷ xs) h (suc k) d b e = no_start xs (rest_false (is_start x) (list_any is_start xs) h) k d (omega arith) e
  where
    rest_false : (a c : Bool) → (a || c) ≡ false → c ≡ false
    rest_false true c i = absurd (search (rules, i))
    rest_false false c i = i

decided-less : (s : State) (e : Event) (q : ℕ) → rows_in (has_process q) (decided s e).rows ≤ rows_in (has_process q) s.rows
decided-less s e q =
    let start : Outcome = record { state = stamped e.reading s; orders = [] } in
    let less : NoMore start (decide e.kind start) = decide-survives e.kind (NoMore start) start (no_more-survives start e.kind (is_some s.follows)) (λ q. omega arith) in
    less q

-- with a number
some-among : (given : List ℕ) (s : State) (e : Event) (n : ℕ) → e.number ≡ Some n → IsGiven given s → All (NamesOneOf (given ++ n ∷ [])) (step s e).orders
some-among given s e n is g k d b m names =
    let own : unwrap_or e.number 0 ≡ n = ap (λ (x : Option ℕ). unwrap_or x 0) is in
    let F : ℕ → Type 0 = λ x. Contains (given ++ n ∷ []) x in
    ⊎_elim
    (λ (same : _). subst F (sym (same.0 ∙ own)) (Contains-push given n))
    (λ (had : _). Contains-append_left given (n ∷ []) m (g m had))
    (step-held s e k d b m names)

none-among : (given : List ℕ) (s : State) (e : Event) → list_any is_start (step s e).orders ≡ false → IsGiven given s → All (NamesOneOf (given ++ [])) (step s e).orders
none-among given s e quiet g k d b m names =
    ⊎_elim
    (λ (same : _). absurd (no_start (step s e).orders quiet k d b same.1))
    (λ (had : _). Contains-append_left given [] m (g m had))
    (step-held s e k d b m names)

some-given : (given : List ℕ) (s : State) (e : Event) (n : ℕ) → e.number ≡ Some n → IsGiven given s → IsGiven (given ++ n ∷ []) (step s e).state
some-given given s e n is g q has =
    let F : ℕ → Type 0 = λ x. Contains (given ++ n ∷ []) x in
    let own : ◌≡◌ {A = ℕ} (cond (unwrap_or e.number 0 == q) 1 0) (cond (n == q) 1 0) = ap (λ (x : Option ℕ). cond {A = ℕ} (unwrap_or x 0 == q) 1 0) is in
    ⊎_elim
    (λ less. Contains-append_left given (n ∷ []) q (g q (omega (arith, less q, decided-less s e q, has))))
    (λ more. ⊎_elim
    (λ same. subst F (eqb-true n q same) (Contains-push given n))
    (λ other. let none : ◌≡◌ {A = ℕ} (cond (n == q) 1 0) 0 = ap (λ (b : Bool). cond b 1 0) other in
    Contains-append_left given (n ∷ []) q (g q (omega (arith, more.1 q, own, none, decided-less s e q, has))))
    (cases_Bool (n == q)))
    (step-grown s e)

none-given : (given : List ℕ) (s : State) (e : Event) → list_any is_start (step s e).orders ≡ false → IsGiven given s → IsGiven (given ++ []) (step s e).state
none-given given s e quiet g q has =
    ⊎_elim
    (λ less. Contains-append_left given [] q (g q (omega (arith, less q, decided-less s e q, has))))
    (λ more. absurd (false≢true (sym quiet ∙ more.0)))
    (step-grown s e)

quiet_event : (s : State) (e : Event) → e.number ≡ None → is_some e.number ≡ needs_number s e.reading e.kind → list_any is_start (step s e).orders ≡ false
unfolding needs_number
quiet_event s e is numbered =
    ap (λ (x : Option ℕ). list_any is_start (step s (record { reading = e.reading; number = x; kind = e.kind })).orders) is
    ∙ sym numbered ∙ ap (λ (x : Option ℕ). is_some x) is

-- one event, by its number
event-among : (given : List ℕ) (s : State) (e : Event) → is_some e.number ≡ needs_number s e.reading e.kind → IsGiven given s
    → All (NamesOneOf (given ++ numbers_of (e ∷ []))) (step s e).orders × IsGiven (given ++ numbers_of (e ∷ [])) (step s e).state
event-among given s e numbered g = by_number e.number refl
  where
    by_number : (x : Option ℕ) → e.number ≡ x → All (NamesOneOf (given ++ numbers_of (e ∷ []))) (step s e).orders × IsGiven (given ++ numbers_of (e ∷ [])) (step s e).state
    by_number (Some n) is =
        let P : List ℕ → Type 0 = λ l. All (NamesOneOf (given ++ l)) (step s e).orders × IsGiven (given ++ l) (step s e).state in
        let numbers : numbers_of (e ∷ []) ≡ n ∷ [] = ap (λ (x : Option ℕ). filter_map (λ (u : Unit {0}). x) (tt ∷ [])) is in
        subst P (sym numbers) (some-among given s e n is g, some-given given s e n is g)
    by_number None is =
        let P : List ℕ → Type 0 = λ l. All (NamesOneOf (given ++ l)) (step s e).orders × IsGiven (given ++ l) (step s e).state in
        let numbers : numbers_of (e ∷ []) ≡ [] = ap (λ (x : Option ℕ). filter_map (λ (u : Unit {0}). x) (tt ∷ [])) is in
        let quiet : list_any is_start (step s e).orders ≡ false = quiet_event s e is numbered in
        subst P (sym numbers) (none-among given s e quiet g, none-given given s e quiet g)

run-named : (given : List ℕ) (s : State) (es : List Event) → IsNumbered s es → IsGiven given s → All (NamesOneOf (given ++ numbers_of es)) (orders_of s es)
run-named given s [] h g = λ k d b. absurd (omega arith)
run-named given s (e ∷ es) h g =
    let one = event-among given s e h.0 g in
    let now : List ℕ = given ++ numbers_of (e ∷ []) in
    let all : given ++ numbers_of (e ∷ es) ≡ now ++ numbers_of es =
    ap (λ (l : List ℕ). given ++ l) (filter_map-append (λ (x : Event). x.number) (e ∷ []) es) ∙ sym (append_assoc given (numbers_of (e ∷ [])) (numbers_of es)) in
    let P : List ℕ → Type 0 = λ l. All (NamesOneOf l) (orders_of s (e ∷ es)) in
    subst P (sym all) (All-append (NamesOneOf (now ++ numbers_of es)) (step s e).orders (orders_of (step s e).state es)
    (λ k d b m names. Contains-append_left now (numbers_of es) m (one.0 k d b m names))
    (run-named now (step s e).state es h.1 one.1))

among-given : (given : List ℕ) (rows : List Row) → AreAmong given rows → (q : ℕ) → 1 ≤ rows_in (has_process q) rows → Contains given q
among-given given [] h q has = absurd (omega (arith, has))
among-given given (row ∷ rows) h q has =
    ⊎_elim
    (λ here. All-head (λ (r : Row). (p : ℕ) → has_process p r.state ≡ true → Contains given p) row rows h q here)
    (λ other.
    let none : ◌≡◌ {A = ℕ} (cond (has_process q row.state) 1 0) 0 = ap (λ (b : Bool). cond b 1 0) other in
    among-given given rows (All-tail (λ (r : Row). (p : ℕ) → has_process p r.state ≡ true → Contains given p) row rows h) q (omega (arith, has, none, rows_in-cons (has_process q) row rows)))
    (cases_Bool (has_process q row.state))

pub orders_numbered_from_law : OrdersNumberedFrom
orders_numbered_from_law s given events lawful among = run-named given s events lawful.0 (among-given given s.rows among)

pub orders_numbered_law : OrdersNumbered
orders_numbered_law flags specs events lawful = run-named [] (empty_state flags specs) events lawful.0 (λ q has. absurd (omega (arith, has)))
