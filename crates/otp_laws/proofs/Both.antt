-- How many rows pass a test of what stays, and are in such a state that only a start brings them there: no event makes them
-- more, but for a start that it orders.
use Rattle.std.specs.Prelude.{◌≡◌, ◌⊎◌, ℕ, ◌==◌, ◌+◌, ◌≤◌, ◌++◌, ◌&&◌, Bool, true, false, List, [], ◌∷◌, Option, None, Some, Contains, refl, position, is_some, nat_le, slice_set, slice_range, remove, unwrap_or, take, drop, count_by}
use Rattle.std.proofs.Common.{◌∙◌, ap, sym, subst, inl, inr, arith, ⊎_elim, cond}
use Rattle.std.proofs.lemmas.Bool.{and_parts, cases_Bool, cond_both}
use Rattle.std.proofs.lemmas.List.Elements.{Contains-push}
use Rattle.std.proofs.lemmas.List.Folds.{drop_split}
use Rattle.std.proofs.lemmas.List.Sums.{sum_by-append, sum_by-cons, sum_by-take-drop}
use Rattle.otp_reason.specs.declared.name.Name.{Name}
use Rattle.otp_spec.specs.declared.child.ChildSpec.{ChildSpec}
use Rattle.otp_table.specs.declared.row.Row.{Row}
use Rattle.otp_table.specs.declared.row.RowState.{RowState}
use Rattle.otp_table.specs.declared.row.RowState.TheVariants.{Undefined, Starting, Up, Asked, Killed, Restarting}
use Rattle.otp_table.specs.Rows.{calm_rows, calmed, free_slot, with_state}
use Rattle.otp_rules.specs.declared.call.Reply.{Reply}
use Rattle.otp_rules.specs.declared.ending.Ending.{Ending}
use Rattle.otp_rules.specs.declared.ending.Ending.TheVariants as ending
use Rattle.otp_rules.specs.declared.event.Effect.TheVariants as effect
use Rattle.otp_rules.specs.declared.event.Event.{Event}
use Rattle.otp_rules.specs.declared.event.Kind.{Kind}
use Rattle.otp_rules.specs.declared.work.Due.{Due}
use Rattle.otp_rules.specs.declared.work.Sequel.TheVariants as sequel
use Rattle.otp_spec.specs.Flags.{is_simple}
use Rattle.otp_rules.specs.State.{Outcome, State, answer, with_rows, with_waiting, with_work}
use Rattle.otp_rules.specs.Places.{at_row, end_process, end_row, is_removed, set_row}
use Rattle.otp_rules.specs.Restarts.{running}
use Rattle.otp_rules.specs.Stops.{calm_all, is_exit, tell, tell_row, terminate, told, use_exit, without}
use Rattle.otp_rules.specs.Starts.{is_due, start, start_row}
use Rattle.otp_rules.specs.Ends.{end_all, refuse_all}
use Rattle.otp_rules.specs.Deaths.{restart, restart_rows}
use Rattle.otp_rules.specs.Calls.{new_row}
use Rattle.otp_rules.specs.Step.{decide, killed, late_number, open_rows, open_with, opening_specs, rows_from, stamped, step, step_on, tick}
use Rattle.otp_rules.specs.Progress.{decided}
use Rattle.otp_rules.proofs.GoesOn.{GoesOn, advance-on}
use Rattle.otp_rules.proofs.Walks.{counted_restart, stop_each-by, terminate-by, with_stops}
use Rattle.otp_rules.proofs.Decisions.{StandsAt, Survives, at_number-survives, at_row-survives, by_test, decide-survives}
use Rattle.otp_rules.proofs.Counting.{remove_count, set_count}
use Rattle.otp_rules.proofs.Numbers.{restart-within}
use Rattle.otp_laws.proofs.Falls.{Falling, Sinking, sinking}
use Rattle.otp_laws.proofs.Still.{IsStill, each-counts}

abbrev pub both : (Row → Bool) → (RowState → Bool) → Row → Bool
both u t row = u row && t row.state

-- so many rows pass both at most
abbrev pub Most : (Row → Bool) → (RowState → Bool) → ℕ → Outcome → Type 0
Most u t c o = count_by (both u t) o.state.rows ≤ c

and_less : (a b c : Bool) → cond b 1 0 ≤ cond c 1 0 → cond (a && b) 1 0 ≤ cond (a && c) 1 0
and_less true b c h = h
and_less false b c h = omega arith

no_more : (t : RowState → Bool) (state other : RowState) → t state ≡ false → cond (t state) 1 0 ≤ cond (t other) 1 0
no_more t state other none = let z : ◌≡◌ {A = ℕ} (cond (t state) 1 0) 0 = ap (λ (b : Bool). cond b 1 0) none in omega (arith, z)

pub set-most : (u : Row → Bool) (t : RowState → Bool) → IsStill u → (c place : ℕ) (row : Row) (state : RowState) (o : Outcome) → StandsAt place row o → cond (t state) 1 0 ≤ cond (t row.state) 1 0 → Most u t c o → Most u t c (set_row place row state o)
set-most u t still c place row state o at less h =
    let new : Row = with_state state row in
    let e : count_by (both u t) (slice_set o.state.rows place new) + cond (both u t row) 1 0 ≡ count_by (both u t) o.state.rows + cond (both u t new) 1 0 = set_count (both u t) o.state.rows place row new at in
    let same : ◌≡◌ {A = ℕ} (cond (both u t new) 1 0) (cond (u row && t state) 1 0) = ap (λ (b : Bool). cond {A = ℕ} (b && t state) 1 0) (still state row) in
    omega (arith, e, same, and_less (u row) (t state) (t row.state) less, h)

pub down-most : (u : Row → Bool) (t : RowState → Bool) → IsStill u → Sinking t → (c place : ℕ) (row : Row) (o : Outcome) → StandsAt place row o → Most u t c o → Most u t c (set_row place row Undefined o)
down-most u t still f c place row o at h = set-most u t still c place row Undefined o at (no_more t Undefined row.state f.down) h

pub remove-most : (u : Row → Bool) (t : RowState → Bool) (c place : ℕ) (row : Row) (o : Outcome) → StandsAt place row o → Most u t c o → Most u t c (with_rows (remove o.state.rows place) o)
remove-most u t c place row o at h =
    let e : count_by (both u t) (remove o.state.rows place) + cond (both u t row) 1 0 ≡ count_by (both u t) o.state.rows = remove_count (both u t) o.state.rows place row at in
    omega (arith, e, h)

pub end-most : (u : Row → Bool) (t : RowState → Bool) → IsStill u → Sinking t → (c place : ℕ) (row : Row) (o : Outcome) → StandsAt place row o → Most u t c o → Most u t c (end_row place row o)
unfolding end_row
end-most u t still f c place row o at h =
    by_test (Most u t c) (is_removed row) (with_rows (remove o.state.rows place) o) (set_row place row Undefined o) (λ _. remove-most u t c place row o at h) (λ _. down-most u t still f c place row o at h)

pub tell-most : (u : Row → Bool) (t : RowState → Bool) → IsStill u → Sinking t → (c p : ℕ) (o : Outcome) → Most u t c o → Most u t c (tell p o)
unfolding tell tell_row
tell-most u t still f c p o h =
    at_number-survives (Most u t c) p (tell_row p) o h
    (λ i row at has. set-most u t still c i row (told o.state.last p row.spec.shutdown) o at (f.telling o.state.last p row.spec.shutdown row.state has) h)

pub use_exit-most : (u : Row → Bool) (t : RowState → Bool) → IsStill u → Sinking t → (c p : ℕ) (place : Option ℕ) (o : Outcome) → Most u t c o → Most u t c (use_exit p place o)
unfolding use_exit end_process
use_exit-most u t still f c p place o h =
    let left : Outcome = with_waiting (without o.state.waiting place) o in
    at_number-survives (Most u t c) p end_row left h (λ i row at has. end-most u t still f c i row left at h)

calm-most : (u : Row → Bool) (t : RowState → Bool) → IsStill u → Falling t → (rows : List Row) → count_by (both u t) (calm_rows rows) ≡ count_by (both u t) rows
calm-most u t still f rows =
    each-counts (both u t) (λ (row : Row). with_state (calmed row.state) row)
    (λ row. ap (λ (b : Bool). b && t (calmed row.state)) (still (calmed row.state) row) ∙ ap (λ (b : Bool). u row && b) (f.calm row.state)) rows

terminate-most : (u : Row → Bool) (t : RowState → Bool) → IsStill u → Falling t → (c : ℕ) (e : Ending) (o : Outcome) → Most u t c o → Most u t c (terminate e o)
terminate-most u t still f c e o h =
    terminate-by (Most u t c) e o
    (λ _. stop_each-by (Most u t c) (λ p x _ k. use_exit-most u t still (sinking t f) c p (position (is_exit p) x.state.waiting) x k) (λ p x _ k. tell-most u t still (sinking t f) c p x k) (running o.state.rows) (calm_all (with_work [] [] (Some (sequel.End e)) o)) (omega (arith, h, calm-most u t still f o.state.rows)))
    (λ _. omega (arith, h, calm-most u t still f o.state.rows))

restart-most : (u : Row → Bool) (t : RowState → Bool) → IsStill u → Falling t → (c k place : ℕ) (row : Row) (o : Outcome) → StandsAt place row o → Most u t c o → Most u t c (restart k place row o)
unfolding restart_rows
restart-most u t still f c k place row o at h =
    let counted : Outcome = counted_restart place row o in
    let down : Most u t c counted = down-most u t still (sinking t f) c place row o at h in
    restart-within (Most u t c) k place row o at (terminate-most u t still f c ending.Intensity counted down)
    (λ from to le.
    let rows : List Row = counted.state.rows in
    let part : List Row = slice_range rows from to in
    let n : Row → ℕ = λ (r : Row). cond (both u t r) 1 0 in
    let split : count_by (both u t) (drop from rows) ≡ count_by (both u t) part + count_by (both u t) (drop to rows) = ap (λ (xs : List Row). count_by (both u t) xs) (drop_split rows from to le) ∙ sum_by-append n part (drop to rows) in
    let all : count_by (both u t) (take from rows) + count_by (both u t) (drop from rows) ≡ count_by (both u t) rows = sum_by-take-drop n rows from in
    omega (arith, sum_by-append n (take from rows ++ calm_rows part) (drop to rows), sum_by-append n (take from rows) (calm_rows part), calm-most u t still f part, split, all, down))

pub tick-most : (u : Row → Bool) (t : RowState → Bool) → IsStill u → Sinking t → (c : ℕ) (o : Outcome) → Most u t c o → Most u t c (tick o)
unfolding tick
tick-most u t still f c o h =
    omega (arith, h, each-counts (both u t) (λ (row : Row). killed row (late_number o.state.last row.state)) (λ row. one row row.state refl) o.state.rows)
  where
    one : (row : Row) (state : RowState) → row.state ≡ state → both u t (killed row (late_number o.state.last state)) ≡ both u t row
    one row Undefined is = refl
    one row (Starting _ _) is = refl
    one row (Up _) is = refl
    one row (Asked q None) is = refl
    one row (Asked q (Some d)) is =
        cond_both (nat_le d o.state.last) (Some q) None (λ (x : Option ℕ). both u t (killed row x) ≡ both u t row)
        (λ _. ap (λ (b : Bool). b && t (Killed q)) (still (Killed q) row) ∙ ap (λ (b : Bool). u row && b) (f.late q (Some d) ∙ ap (λ (s : RowState). t s) (sym is)))
        (λ _. refl)
    one row (Killed _) is = refl
    one row (Restarting _) is = refl

answer-most : (u : Row → Bool) (t : RowState → Bool) (c n : ℕ) (r : Reply) (o : Outcome) → Most u t c o → Most u t c (answer n r o)
unfolding answer
answer-most u t c n r o h = h

and_none : (a b : Bool) → b ≡ false → ◌≡◌ {A = ℕ} (cond (a && b) 1 0) 0
and_none true b h = ap (λ (x : Bool). cond x 1 0) h
and_none false b h = refl

new-most : (u : Row → Bool) (t : RowState → Bool) → Falling t → (slot : ℕ) (specs : List ChildSpec) → count_by (both u t) (rows_from slot specs) ≡ 0
new-most u t f slot [] = refl
new-most u t f slot (spec ∷ specs) =
    let new : Row = new_row slot (Some spec.id) spec in
    omega (arith, and_none (u new) (t Undefined) f.down, sum_by-cons (λ (r : Row). cond (both u t r) 1 0) new (rows_from (slot + 1) specs), new-most u t f (slot + 1) specs)

open-most : (u : Row → Bool) (t : RowState → Bool) → Falling t → (c own : ℕ) (o : Outcome) → Most u t c (open_rows own o)
unfolding open_rows open_with
open-most u t f c own o = omega (arith, new-most u t f 0 (opening_specs (is_simple o.state.flags.strategy) o.state.specs))

most-survives : (u : Row → Bool) (t : RowState → Bool) → IsStill u → Falling t → (c : ℕ) (k : Kind) (b : Bool) → Survives k b (Most u t c)
most-survives u t still f c k b =
    record {
      answered = λ n r o h. answer-most u t c n r o h;
      taken = λ w ws o idle runs is h. h;
      call_waits = λ n call o h. h;
      exit_waits = λ p r o noted h. h;
      up = λ p place row q kept o at is same noted h. set-most u t still c place row (Up p) o at (up-less p q kept row is same) h;
      up_closed = λ p place row q kept n o at is same follows h. set-most u t still c place row (Up p) o at (up-less p q kept row is same) h;
      ignored = λ p place row q kept o at is same noted h. end-most u t still (sinking t f) c place row o at h;
      opening_failed = λ place row q kept o runs at is follows h. terminate-most u t still f c (ending.InitFailed row.spec.id) (set_row place row Undefined o) (down-most u t still (sinking t f) c place row o at h);
      restart_failed = λ place row q kept o at is follows h. set-most u t still c place row (Restarting kept) o at (no_more t (Restarting kept) row.state (f.waits kept)) h;
      added_failed = λ place row q kept n o at is follows h. remove-most u t c place row o at h;
      restarted_failed = λ place row q kept n o at is follows h. down-most u t still (sinking t f) c place row o at h;
      stopped = λ p r place row o at told noted h. end-most u t still (sinking t f) c place row o at h;
      died = λ p place row o idle runs at is h. end-most u t still (sinking t f) c place row o at h;
      restarts = λ p place row o idle runs at is h. restart-most u t still f c p place row o at h;
      ends = λ e o other idle runs h. terminate-most u t still f c e o h;
      ticks = λ o is h. tick-most u t still (sinking t f) c o h;
      opens = λ own o is link over h. open-most u t f c own o;
      adds = λ n id spec o idle runs named h.
          let new : Row = new_row (free_slot o.state.rows) id spec in
          omega (arith, h, and_none (u new) (t Undefined) f.down, sum_by-append (λ (r : Row). cond (both u t r) 1 0) o.state.rows (new ∷ []), sum_by-cons (λ (r : Row). cond (both u t r) 1 0) new []);
      starts_again = λ n id place row o idle runs at has is h. h;
      removed = λ place row o idle runs at down h. remove-most u t c place row o at h;
      given_up = λ place row o idle runs at down h. down-most u t still (sinking t f) c place row o at h;
      stops_child = λ n p place row o idle runs at up h. h;
    }
  where
    up-less : (p q kept : ℕ) (row : Row) → row.state ≡ Starting q kept → (q == p) ≡ true → cond (t (Up p)) 1 0 ≤ cond (t row.state) 1 0
    up-less p q kept row is same = subst (λ (x : RowState). cond (t (Up p)) 1 0 ≤ cond (t x) 1 0) (sym is) (f.up p q kept same)

pub decided-most : (u : Row → Bool) (t : RowState → Bool) → IsStill u → Falling t → (s : State) (e : Event) → count_by (both u t) (decided s e).rows ≤ count_by (both u t) s.rows
decided-most u t still f s e =
    let start : Outcome = record { state = stamped e.reading s; orders = [] } in
    decide-survives e.kind (Most u t (count_by (both u t) s.rows)) start (most-survives u t still f (count_by (both u t) s.rows) e.kind (is_some s.follows)) (omega arith)

-- or a start was ordered of a child that passes the first test, as do all of its id, under a number that brings it into the state
abbrev pub Begins : (Option Name → ℕ → Type 0) → Outcome → Type 0
Begins Is o = (id : Option Name) × (n : ℕ) × Contains o.orders (effect.Start id n) × Is id n

abbrev Grown : (Row → Bool) → (RowState → Bool) → ℕ → (Option Name → ℕ → Type 0) → Outcome → Type 0
Grown u t c Is o = Most u t c o ⊎ Begins Is o

-- what is named so of a start under this number
abbrev Names : (Row → Bool) → (RowState → Bool) → ℕ → (Option Name → ℕ → Type 0) → Type 0
Names u t n Is = (due : Due) (row : Row) (kept : ℕ) → is_due due row ≡ true → u row ≡ true → t (Starting n kept) ≡ true → Is due.id n

start-grown : (u : Row → Bool) (t : RowState → Bool) → IsStill u → (c n : ℕ) (Is : Option Name → ℕ → Type 0) → Names u t n Is → (due : Due) (o : Outcome) → Most u t c o → Grown u t c Is (start due n o)
unfolding start start_row
start-grown u t still c n Is named due o h =
    ⊎_elim (λ (most : Most u t c x). inl most) (λ (is : Is due.id n). inr (due.id, n, Contains-push x.orders (effect.Start due.id n), is))
    (at_row-survives (λ (y : Outcome). Most u t c y ⊎ Is due.id n) (is_due due) o (λ place row. set_row place row (Starting n (unwrap_or due.kept n))) o (inl h) (inl h)
    (λ i row at has.
    let kept : ℕ = unwrap_or due.kept n in
    let state : RowState = Starting n kept in
    let new : Row = with_state state row in
    let e : count_by (both u t) (slice_set o.state.rows i new) + cond (both u t row) 1 0 ≡ count_by (both u t) o.state.rows + cond (both u t new) 1 0 = set_count (both u t) o.state.rows i row new at in
    ⊎_elim
    (λ (holds_so : (u row && t state) ≡ true). let parts = and_parts (u row) (t state) holds_so in inr (named due row kept has parts.0 parts.1))
    (λ (isnt : (u row && t state) ≡ false).
    let zero_new : ◌≡◌ {A = ℕ} (cond (both u t new) 1 0) 0 = ap (λ (b : Bool). cond {A = ℕ} (b && t state) 1 0) (still state row) ∙ ap (λ (b : Bool). cond {A = ℕ} b 1 0) isnt in
    inl (omega (arith, e, zero_new, h)))
    (cases_Bool (u row && t state))))
  where
    x : Outcome
    x = at_row (is_due due) o (start_row due n) o

going-grown : (u : Row → Bool) (t : RowState → Bool) → IsStill u → Falling t → (c n : ℕ) (Is : Option Name → ℕ → Type 0) → Names u t n Is → GoesOn n (λ _. Most u t c) (Grown u t c Is)
unfolding answer end_all refuse_all
going-grown u t still f c n Is named =
    record {
      uses = λ p rest o _ h. use_exit-most u t still (sinking t f) c p (position (is_exit p) o.state.waiting) (with_stops rest o) h;
      tells = λ p rest o _ h. inl (tell-most u t still (sinking t f) c p (with_stops rest o) h);
      starts = λ due dues o _ h. start-grown u t still c n Is named due (with_work o.state.to_stop dues o.state.follows o) h;
      closes = λ g o _ _ h. inl h;
      answers = λ m r g o _ _ h. inl h;
      ready = λ o _ h. inl h;
      ends = λ e o _ h. inl (omega arith);
    }

-- what is more after an event was started by it
pub step-most : (u : Row → Bool) (t : RowState → Bool) → IsStill u → Falling t → (Is : Option Name → ℕ → Type 0) (s : State) (e : Event) → Names u t (unwrap_or e.number 0) Is
    → (count_by (both u t) (step s e).state.rows ≤ count_by (both u t) (decided s e).rows) ⊎ Begins Is (step s e)
unfolding step step_on
step-most u t still f Is s e named =
    let d : Outcome = decide e.kind (record { state = stamped e.reading s; orders = [] }) in
    let c : ℕ = count_by (both u t) d.state.rows in
    let n : ℕ = unwrap_or e.number 0 in
    advance-on n (λ _. Most u t c) (Grown u t c Is) (going-grown u t still f c n Is named) d (λ _. inl (omega arith)) (λ _ _. omega arith)
