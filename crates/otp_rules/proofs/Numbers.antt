-- In a lawful history no process is a child's in two rows.
use Rattle.std.specs.Prelude.{◌≡◌, ◌⊎◌, ℕ, ◌==◌, ◌+◌, ◌≤◌, ◌<◌, ◌++◌, ◌||◌, Bool, true, false, List, [], ◌∷◌, Option, None, Some, refl, position, is_some, slice_set, slice_range, length, remove, unwrap_or, take, drop}
use Rattle.std.specs.List.{list_any}
use Rattle.std.proofs.Common.{◌∙◌, ap, sym, subst, inl, inr, arith, ⊎_elim, cond}
use Rattle.std.proofs.lemmas.Bool.{false≢true, cases_Bool, eqb-true}
use Rattle.std.proofs.lemmas.List.Sums.{sum_by-take-drop}
use Rattle.std.proofs.lemmas.Option.{slice_get_within}
use Rattle.otp_spec.specs.declared.child.ChildSpec.{ChildSpec}
use Rattle.otp_spec.specs.declared.flags.Strategy.{Strategy}
use Rattle.otp_spec.specs.declared.flags.Strategy.TheVariants.{OneForOne, OneForAll, RestForOne, SimpleOneForOne}
use Rattle.otp_spec.specs.declared.child.Shutdown.{Shutdown}
use Rattle.otp_spec.specs.declared.child.Shutdown.TheVariants.{BrutalKill, Milliseconds, Infinity}
use Rattle.otp_table.specs.declared.row.Row.{Row}
use Rattle.otp_table.specs.declared.row.RowState.{RowState}
use Rattle.otp_table.specs.declared.row.RowState.TheVariants.{Undefined, Starting, Up, Asked, Killed, Restarting}
use Rattle.otp_table.specs.Rows.{has_process, row_has, with_state, calm_rows, calmed, free_slot}
use Rattle.otp_rules.specs.declared.call.Reply.{Reply}
use Rattle.otp_rules.specs.declared.ending.Ending.{Ending}
use Rattle.otp_rules.specs.declared.event.Event.{Event}
use Rattle.otp_rules.specs.declared.event.Kind.{Kind}
use Rattle.otp_rules.specs.declared.work.Due.{Due}
use Rattle.otp_spec.specs.Flags.{is_simple}
use Rattle.otp_rules.specs.State.{Outcome, State, answer, with_rows, with_waiting, with_work}
use Rattle.otp_rules.specs.Places.{at_row, end_row, end_process, set_row}
use Rattle.otp_rules.specs.Restarts.{affected_from, affected_to, running}
use Rattle.otp_rules.specs.Stops.{calm_all, is_exit, without, told, tell_row, tell, use_exit, stop_each, terminate}
use Rattle.otp_rules.specs.Starts.{is_due, start_row, start}
use Rattle.otp_rules.specs.Ends.{refuse_all, end_all}
use Rattle.otp_rules.specs.Work.{advance}
use Rattle.otp_rules.specs.Deaths.{restart_rows, restart}
use Rattle.otp_rules.specs.Calls.{new_row}
use Rattle.otp_rules.specs.Step.{rows_from, open_with, open_rows, opening_specs, tick, decide, stamped, step, step_on}
use Rattle.otp_rules.specs.Progress.{decided}
use Rattle.otp_rules.specs.Fit.{rows_in, IsDistinct}
use Rattle.otp_rules.proofs.GoesOn.{GoesOn, advance-on}
use Rattle.otp_rules.proofs.Walks.{restart-by, stop_each-by, terminate-by, counted_restart, with_stops}
use Rattle.otp_rules.proofs.Decisions.{StandsAt, Survives, at_row-survives, at_number-survives, decide-survives}
use Rattle.otp_rules.proofs.Counting.{rows_in-cons, rows_in-append, remove_count, rows_in-set, rows_in-end, rows_in-map, tick_count}
use Rattle.std.proofs.lemmas.List.Folds.{drop_split, list_any-append}
use Rattle.std.proofs.lemmas.List.{length-set}
use Rattle.otp_rules.specs.Needs.{is_start, needs_number}
use Rattle.otp_rules.specs.declared.ending.Ending.TheVariants as ending
use Rattle.otp_rules.specs.declared.event.Effect.TheVariants as effect
use Rattle.otp_rules.specs.declared.work.Sequel.TheVariants as sequel

-- how many rows have this process
abbrev pub holders : ℕ → Outcome → ℕ
holders q o = rows_in (has_process q) o.state.rows

-- no process has more rows
abbrev pub NoMore : Outcome → Outcome → Type 0
NoMore old new = (q : ℕ) → holders q new ≤ holders q old

-- a row's new state has no other process
pub set-no_more : (place : ℕ) (row : Row) (state : RowState) (old o : Outcome) → StandsAt place row o → ((q : ℕ) → cond (has_process q state) 1 0 ≤ cond (has_process q row.state) 1 0) → NoMore old o → NoMore old (set_row place row state o)
set-no_more place row state old o at less h q =
    let e : rows_in (has_process q) (slice_set o.state.rows place (with_state state row)) + cond (has_process q row.state) 1 0 ≡ rows_in (has_process q) o.state.rows + cond (has_process q state) 1 0 = rows_in-set (has_process q) place row state o.state.rows at in
    omega (arith, e, less q, h q)

pub remove-no_more : (place : ℕ) (row : Row) (old o : Outcome) → StandsAt place row o → NoMore old o → NoMore old (with_rows (remove o.state.rows place) o)
remove-no_more place row old o at h q =
    let e : rows_in (has_process q) (remove o.state.rows place) + cond (has_process q row.state) 1 0 ≡ rows_in (has_process q) o.state.rows = remove_count (row_has (has_process q)) o.state.rows place row at in
    omega (arith, e, h q)

pub end-no_more : (place : ℕ) (row : Row) (old o : Outcome) → StandsAt place row o → NoMore old o → NoMore old (end_row place row o)
end-no_more place row old o at h q =
    let e : rows_in (has_process q) (end_row place row o).state.rows + cond (has_process q row.state) 1 0 ≡ rows_in (has_process q) o.state.rows = rows_in-end (has_process q) refl place row o at in
    omega (arith, e, h q)

-- one process has one number
same_process : (p q : ℕ) (state : RowState) → has_process p state ≡ true → cond (p == q) 1 0 ≤ cond (has_process q state) 1 0
same_process p q Undefined h = absurd (false≢true h)
same_process p q (Starting x _) h = subst (λ (n : ℕ). cond (n == q) 1 0 ≤ cond (x == q) 1 0) (eqb-true x p h) (omega arith)
same_process p q (Up x) h = subst (λ (n : ℕ). cond (n == q) 1 0 ≤ cond (x == q) 1 0) (eqb-true x p h) (omega arith)
same_process p q (Asked x _) h = subst (λ (n : ℕ). cond (n == q) 1 0 ≤ cond (x == q) 1 0) (eqb-true x p h) (omega arith)
same_process p q (Killed x) h = subst (λ (n : ℕ). cond (n == q) 1 0 ≤ cond (x == q) 1 0) (eqb-true x p h) (omega arith)
same_process p q (Restarting _) h = absurd (false≢true h)

pub told_process : (now p q : ℕ) (s : Shutdown) → has_process q (told now p s) ≡ (p == q)
told_process now p q BrutalKill = refl
told_process now p q (Milliseconds _) = refl
told_process now p q Infinity = refl

pub tell-no_more : (p : ℕ) (old o : Outcome) → NoMore old o → NoMore old (tell p o)
unfolding tell tell_row
tell-no_more p old o h =
    at_number-survives (NoMore old) p (tell_row p) o h
    (λ i row at has. set-no_more i row (told o.state.last p row.spec.shutdown) old o at
    (λ q.
    let e : ◌≡◌ {A = ℕ} (cond (has_process q (told o.state.last p row.spec.shutdown)) 1 0) (cond (p == q) 1 0) = ap (λ (b : Bool). cond b 1 0) (told_process o.state.last p q row.spec.shutdown) in
    omega (arith, e, same_process p q row.state has)) h)

pub use_exit-no_more : (p : ℕ) (place : Option ℕ) (old o : Outcome) → NoMore old o → NoMore old (use_exit p place o)
unfolding use_exit end_process
use_exit-no_more p place old o h =
    at_number-survives (NoMore old) p end_row (with_waiting (without o.state.waiting place) o) h (λ i row at has. end-no_more i row old (with_waiting (without o.state.waiting place) o) at h)

pub stop_each-no_more : (ps : List ℕ) (old o : Outcome) → NoMore old o → NoMore old (stop_each ps o)
stop_each-no_more ps old = stop_each-by (NoMore old) (λ p o _ h. use_exit-no_more p (position (is_exit p) o.state.waiting) old o h) (λ p o _ h. tell-no_more p old o h) ps

calmed-process : (q : ℕ) (state : RowState) → has_process q (calmed state) ≡ has_process q state
calmed-process q Undefined = refl
calmed-process q (Starting _ _) = refl
calmed-process q (Up _) = refl
calmed-process q (Asked _ _) = refl
calmed-process q (Killed _) = refl
calmed-process q (Restarting _) = refl

pub calm_process : (q : ℕ) (rows : List Row) → rows_in (has_process q) (calm_rows rows) ≡ rows_in (has_process q) rows
calm_process q rows = rows_in-map (has_process q) (λ (row : Row). with_state (calmed row.state) row) (λ row. calmed-process q row.state) rows

pub terminate-no_more : (e : Ending) (old o : Outcome) → NoMore old o → NoMore old (terminate e o)
terminate-no_more e old o h =
    terminate-by (NoMore old) e o
    (λ _. stop_each-no_more (running o.state.rows) old (calm_all (with_work [] [] (Some (sequel.End e)) o)) (λ q. omega (arith, h q, calm_process q o.state.rows)))
    (λ _ q. omega (arith, h q, calm_process q o.state.rows))

pub restart_rows-no_more : (from to place k : ℕ) (old o : Outcome) → from ≤ to → NoMore old o → NoMore old (restart_rows from to place k o)
unfolding restart_rows
restart_rows-no_more from to place k old o le h q =
    let rows : List Row = o.state.rows in
    let part : List Row = slice_range o.state.rows from to in
    let t : RowState → Bool = has_process q in
    let split : rows_in t (drop from rows) ≡ rows_in t part + rows_in t (drop to rows) = ap (λ (xs : List Row). rows_in t xs) (drop_split rows from to le) ∙ rows_in-append t part (drop to rows) in
    let all : rows_in t (take from rows) + rows_in t (drop from rows) ≡ rows_in t rows = sum_by-take-drop (λ (r : Row). cond (row_has t r) 1 0) rows from in
    omega (arith, rows_in-append t (take from rows ++ calm_rows part) (drop to rows), rows_in-append t (take from rows) (calm_rows part), calm_process q part, split, all, h q)

-- the rows that a restart affects lie in order
pub affected_in_order : (s : Strategy) (place count : ℕ) → place ≤ count → affected_from s place ≤ affected_to s place count
affected_in_order OneForOne place count h = omega arith
affected_in_order OneForAll place count h = omega arith
affected_in_order RestForOne place count h = h
affected_in_order SimpleOneForOne place count h = omega arith

pub counted_length : (place : ℕ) (row : Row) (o : Outcome) → StandsAt place row o → place < length (slice_set o.state.rows place (with_state Undefined row))
counted_length place row o at = omega (arith, slice_get_within o.state.rows place row at, length-set o.state.rows place (with_state Undefined row))

-- a restart of a child that stands there, whose range is in order
pub restart-within : (P : Outcome → Type 0) (k place : ℕ) (row : Row) (o : Outcome) → StandsAt place row o → P (terminate ending.Intensity (counted_restart place row o))
    → ((from to : ℕ) → from ≤ to → P (restart_rows from to place k (counted_restart place row o))) → P (restart k place row o)
restart-within P k place row o at ends restarts =
    let rows : List Row = (counted_restart place row o).state.rows in
    let strategy : Strategy = o.state.flags.strategy in
    restart-by P k place row o (λ _. ends) (λ _. restarts (affected_from strategy place) (affected_to strategy place (length rows)) (affected_in_order strategy place (length rows) (omega (arith, counted_length place row o at))))

pub restart-no_more : (p place : ℕ) (row : Row) (old o : Outcome) → StandsAt place row o → NoMore old o → NoMore old (restart p place row o)
restart-no_more p place row old o at h =
    let counted : Outcome = counted_restart place row o in
    let less : NoMore old counted = set-no_more place row Undefined old o at (λ q. omega arith) h in
    restart-within (NoMore old) p place row o at (terminate-no_more ending.Intensity old counted less) (λ from to le. restart_rows-no_more from to place p old counted le less)

new-no_more : (q slot : ℕ) (specs : List ChildSpec) → rows_in (has_process q) (rows_from slot specs) ≡ 0
new-no_more q slot [] = refl
new-no_more q slot (spec ∷ specs) = omega (arith, rows_in-cons (has_process q) (new_row slot (Some spec.id) spec) (rows_from (slot + 1) specs), new-no_more q (slot + 1) specs)

open-no_more : (own : ℕ) (old o : Outcome) → NoMore old (open_rows own o)
unfolding open_rows open_with
open-no_more own old o q = omega (arith, new-no_more q 0 (opening_specs (is_simple o.state.flags.strategy) o.state.specs))

answer-no_more : (c : ℕ) (r : Reply) (old o : Outcome) → NoMore old o → NoMore old (answer c r o)
unfolding answer
answer-no_more c r old o h = h

up-less : (p : ℕ) (row : Row) (q kept : ℕ) → row.state ≡ Starting q kept → (q == p) ≡ true → (x : ℕ) → cond (has_process x (Up p)) 1 0 ≤ cond (has_process x row.state) 1 0
up-less p row q kept is same x = same_process p x row.state (ap (λ (s : RowState). has_process p s) is ∙ same)

-- no decision gives a process to a row
pub no_more-survives : (old : Outcome) (k : Kind) (b : Bool) → Survives k b (NoMore old)
no_more-survives old k b =
    record {
      answered = λ c r o h. answer-no_more c r old o h;
      taken = λ w ws o idle runs is h. h;
      call_waits = λ c call o h. h;
      exit_waits = λ p r o noted h. h;
      up = λ p place row q kept o at is same noted h. set-no_more place row (Up p) old o at (up-less p row q kept is same) h;
      up_closed = λ p place row q kept c o at is same follows h. set-no_more place row (Up p) old o at (up-less p row q kept is same) h;
      ignored = λ p place row q kept o at is same noted h. end-no_more place row old o at h;
      opening_failed = λ place row q kept o runs at is follows h.
          terminate-no_more (ending.InitFailed row.spec.id) old (set_row place row Undefined o) (set-no_more place row Undefined old o at (λ x. omega arith) h);
      restart_failed = λ place row q kept o at is follows h. set-no_more place row (Restarting kept) old o at (λ x. omega arith) h;
      added_failed = λ place row q kept c o at is follows h. remove-no_more place row old o at h;
      restarted_failed = λ place row q kept c o at is follows h. set-no_more place row Undefined old o at (λ x. omega arith) h;
      stopped = λ p r place row o at told noted h. end-no_more place row old o at h;
      died = λ p place row o idle runs at is h. end-no_more place row old o at h;
      restarts = λ p place row o idle runs at is h. restart-no_more p place row old o at h;
      ends = λ e o other idle runs h. terminate-no_more e old o h;
      ticks = λ o is h q. let e : holders q (tick o) ≡ holders q o = tick_count (has_process q) (λ p d. refl) o in omega (arith, e, h q);
      opens = λ own o is link over h. open-no_more own old o;
      adds = λ c id spec o idle runs named h q. omega (arith, h q, rows_in-append (has_process q) o.state.rows (new_row (free_slot o.state.rows) id spec ∷ []), rows_in-cons (has_process q) (new_row (free_slot o.state.rows) id spec) []);
      starts_again = λ c id place row o idle runs at has is h. h;
      removed = λ place row o idle runs at down h. remove-no_more place row old o at h;
      given_up = λ place row o idle runs at down h. set-no_more place row Undefined old o at (λ x. omega arith) h;
      stops_child = λ c p place row o idle runs at up h. h;
    }

-- no process has more rows, or a start was ordered and its number alone has one more
abbrev Grown : ℕ → Outcome → Outcome → Type 0
Grown n old new = NoMore old new ⊎ ((list_any is_start new.orders ≡ true) × ((q : ℕ) → holders q new ≤ holders q old + cond (n == q) 1 0))

grown-chain : (n : ℕ) (old mid new : Outcome) → NoMore old mid → Grown n mid new → Grown n old new
grown-chain n old mid new h (inl k) = inl (λ q. omega (arith, h q, k q))
grown-chain n old mid new h (inr (starts, k)) = inr (starts, λ q. omega (arith, h q, k q))

started-grown : (due : Due) (n : ℕ) (o : Outcome) → Grown n o (start due n o)
unfolding start start_row
started-grown due n o =
    let x : Outcome = at_row (is_due due) o (start_row due n) o in
    inr (
      list_any-append is_start x.orders (effect.Start due.id n ∷ []) ∙ or_true (list_any is_start x.orders),
      at_row-survives (λ y. (q : ℕ) → holders q y ≤ holders q o + cond (n == q) 1 0) (is_due due) o (start_row due n) o (λ q. omega arith) (λ q. omega arith)
          (λ i row at h q.
          let e : rows_in (has_process q) (slice_set o.state.rows i (with_state (Starting n (unwrap_or due.kept n)) row)) + cond (has_process q row.state) 1 0 ≡ rows_in (has_process q) o.state.rows + cond (n == q) 1 0 = rows_in-set (has_process q) i row (Starting n (unwrap_or due.kept n)) o.state.rows at in
          omega (arith, e)),
    )
  where
    or_true : (b : Bool) → (b || (true || false)) ≡ true
    or_true true = refl
    or_true false = refl

going-grown : (n : ℕ) (old : Outcome) → GoesOn n (λ _. NoMore old) (Grown n old)
unfolding answer end_all refuse_all
going-grown n old =
    record {
      uses = λ p rest o _ h. use_exit-no_more p (position (is_exit p) o.state.waiting) old (with_stops rest o) h;
      tells = λ p rest o _ h. inl (tell-no_more p old (with_stops rest o) h);
      starts = λ due dues o _ h. grown-chain n old (with_work o.state.to_stop dues o.state.follows o) (start due n (with_work o.state.to_stop dues o.state.follows o)) h (started-grown due n (with_work o.state.to_stop dues o.state.follows o));
      closes = λ f o _ _ h. inl h;
      answers = λ c r f o _ _ h. inl h;
      ready = λ o _ h. inl h;
      ends = λ e o _ h. inl (λ q. omega arith);
    }

advance-grown : (n : ℕ) (o : Outcome) → Grown n o (advance n o)
advance-grown n o = advance-on n (λ _. NoMore o) (Grown n o) (going-grown n o) o (λ _. inl (λ q. omega arith)) (λ _ _ q. omega arith)

pub decided-distinct : (m : ℕ) (s : State) (e : Event) → IsDistinct m s → IsDistinct m (decided s e)
decided-distinct m s e d =
    let start : Outcome = record { state = stamped e.reading s; orders = [] } in
    let less : NoMore start (decide e.kind start) = decide-survives e.kind (NoMore start) start (no_more-survives start e.kind (is_some s.follows)) (λ q. omega arith) in
    (λ q. omega (arith, less q, d.0 q), λ q h. omega (arith, less q, d.1 q h))

-- a start takes a number that none has
pub step-grown : (s : State) (e : Event) → ((q : ℕ) → rows_in (has_process q) (step s e).state.rows ≤ rows_in (has_process q) (decided s e).rows) ⊎ ((list_any is_start (step s e).orders ≡ true) × ((q : ℕ) → rows_in (has_process q) (step s e).state.rows ≤ rows_in (has_process q) (decided s e).rows + cond (unwrap_or e.number 0 == q) 1 0))
unfolding step step_on
step-grown s e = advance-grown (unwrap_or e.number 0) (decide e.kind (record { state = stamped e.reading s; orders = [] }))

own_number_is : (n : ℕ) (e : Event) (q : ℕ) → e.number ≡ Some n → ◌≡◌ {A = ℕ} (cond (unwrap_or e.number 0 == q) 1 0) (cond (n == q) 1 0)
own_number_is n e q is = ap (λ (x : Option ℕ). cond {A = ℕ} (unwrap_or x 0 == q) 1 0) is

pub numbered-distinct : (m n : ℕ) (s : State) (e : Event) → e.number ≡ Some n → m ≤ n → IsDistinct m s → IsDistinct (n + 1) (step s e).state
numbered-distinct m n s e is le d =
    let before : IsDistinct m (decided s e) = decided-distinct m s e d in
    ⊎_elim
    (λ less. (λ q. omega (arith, less q, before.0 q), λ q h. omega (arith, less q, before.1 q (omega (arith, h, le)))))
    (λ more.
    let own : (q : ℕ) → ◌≡◌ {A = ℕ} (cond (unwrap_or e.number 0 == q) 1 0) (cond (n == q) 1 0) = λ q. own_number_is n e q is in (
      λ q. ⊎_elim
          (λ same. let z : n ≡ q = eqb-true n q same in let one : ◌≡◌ {A = ℕ} (cond (n == q) 1 0) 1 = ap (λ (b : Bool). cond b 1 0) same in omega (arith, more.1 q, own q, one, before.1 q (omega (arith, le, z))))
          (λ other. let one : ◌≡◌ {A = ℕ} (cond (n == q) 1 0) 0 = ap (λ (b : Bool). cond b 1 0) other in omega (arith, more.1 q, own q, one, before.0 q))
          (cases_Bool (n == q)),
      λ q h. ⊎_elim
          (λ same. absurd (let z : n ≡ q = eqb-true n q same in omega (arith, z, h)))
          (λ other. let one : ◌≡◌ {A = ℕ} (cond (n == q) 1 0) 0 = ap (λ (b : Bool). cond b 1 0) other in omega (arith, more.1 q, own q, one, before.1 q (omega (arith, h, le))))
          (cases_Bool (n == q)),
    ))
    (step-grown s e)

pub unnumbered-distinct : (m : ℕ) (s : State) (e : Event) → e.number ≡ None → needs_number s e.reading e.kind ≡ false → IsDistinct m s → IsDistinct m (step s e).state
unfolding needs_number
unnumbered-distinct m s e is none d =
    let before : IsDistinct m (decided s e) = decided-distinct m s e d in
    let quiet : list_any is_start (step s e).orders ≡ false = ap (λ (x : Option ℕ). list_any is_start (step s (record { reading = e.reading; number = x; kind = e.kind })).orders) is ∙ none in
    ⊎_elim
    (λ less. (λ q. omega (arith, less q, before.0 q), λ q h. omega (arith, less q, before.1 q h)))
    (λ more. absurd (false≢true (sym quiet ∙ more.0)))
    (step-grown s e)
