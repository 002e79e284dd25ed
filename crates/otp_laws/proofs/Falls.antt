-- How many rows are in such a state that only a start brings them there: no event makes them more, but for a start that it
-- orders.
use Rattle.std.specs.Prelude.{◌≡◌, ◌⊎◌, ℕ, ◌==◌, ◌+◌, ◌≤◌, ◌<◌, ◌++◌, ◌||◌, Bool, true, false, List, [], ◌∷◌, Option, Some, refl, position, is_some, slice_set, slice_range, remove, unwrap_or, take, drop}
use Rattle.std.specs.List.{list_any}
use Rattle.std.proofs.Common.{◌∙◌, ap, sym, subst, inl, inr, arith, ⊎_elim, cond}
use Rattle.std.proofs.lemmas.Bool.{cases_Bool, eqb-true, false≢true}
use Rattle.std.proofs.lemmas.List.Folds.{drop_split, list_any-append}
use Rattle.std.proofs.lemmas.List.Sums.{sum_by-take-drop}
use Rattle.otp_spec.specs.declared.child.ChildSpec.{ChildSpec}
use Rattle.otp_spec.specs.declared.child.Shutdown.{Shutdown}
use Rattle.otp_spec.specs.declared.child.Shutdown.TheVariants.{BrutalKill, Infinity, Milliseconds}
use Rattle.otp_table.specs.declared.row.Row.{Row}
use Rattle.otp_table.specs.declared.row.RowState.{RowState}
use Rattle.otp_table.specs.declared.row.RowState.TheVariants.{Undefined, Starting, Up, Asked, Killed, Restarting}
use Rattle.otp_table.specs.Rows.{calm_rows, calmed, free_slot, has_process, row_has, with_state}
use Rattle.otp_rules.specs.declared.call.Reply.{Reply}
use Rattle.otp_rules.specs.declared.ending.Ending.{Ending}
use Rattle.otp_rules.specs.declared.ending.Ending.TheVariants as ending
use Rattle.otp_rules.specs.declared.event.Effect.TheVariants as effect
use Rattle.otp_rules.specs.declared.event.Event.{Event}
use Rattle.otp_rules.specs.declared.event.Kind.{Kind}
use Rattle.otp_rules.specs.declared.work.Due.{Due}
use Rattle.otp_rules.specs.declared.work.Sequel.TheVariants as sequel
use Rattle.otp_spec.specs.Flags.{is_simple}
use Rattle.otp_rules.specs.State.{Outcome, State, answer, with_rows, with_waiting, with_work}
use Rattle.otp_rules.specs.Places.{at_row, end_process, end_row, set_row}
use Rattle.otp_rules.specs.Restarts.{running}
use Rattle.otp_rules.specs.Stops.{calm_all, is_exit, stop_each, tell, tell_row, terminate, told, use_exit, without}
use Rattle.otp_rules.specs.Starts.{is_due, start, start_row}
use Rattle.otp_rules.specs.Ends.{end_all, refuse_all}
use Rattle.otp_rules.specs.Deaths.{restart, restart_rows}
use Rattle.otp_rules.specs.Calls.{new_row}
use Rattle.otp_rules.specs.Step.{decide, open_rows, open_with, opening_specs, rows_from, stamped, step, step_on}
use Rattle.otp_rules.specs.Needs.{is_start}
use Rattle.otp_rules.specs.Run.{state_after}
use Rattle.otp_rules.specs.Progress.{decided}
use Rattle.otp_rules.specs.Fit.{is_starting, rows_in, IsLawfulFrom}
use Rattle.otp_rules.proofs.GoesOn.{GoesOn, advance-on}
use Rattle.otp_rules.proofs.Walks.{counted_restart, stop_each-by, terminate-by, with_stops}
use Rattle.otp_rules.proofs.Decisions.{StandsAt, Survives, at_number-survives, at_row-survives, decide-survives}
use Rattle.otp_rules.proofs.Counting.{remove_count, rows_in-append, rows_in-cons, rows_in-end, rows_in-map, rows_in-set, tick_count}
use Rattle.otp_rules.proofs.Numbers.{restart-within, told_process}
use Rattle.otp_laws.proofs.Basis.{Numbered, first_numbered, rest_lawful}

-- only a start brings a row into such a state
pub record Falling (t : RowState → Bool) : Type 0 where
  pub down : t Undefined ≡ false
  pub waits : (k : ℕ) → t (Restarting k) ≡ false
  pub telling : (now p : ℕ) (s : Shutdown) (state : RowState) → has_process p state ≡ true → cond (t (told now p s)) 1 0 ≤ cond (t state) 1 0
  pub up : (p q kept : ℕ) → (q == p) ≡ true → cond (t (Up p)) 1 0 ≤ cond (t (Starting q kept)) 1 0
  pub late : (p : ℕ) (d : Option ℕ) → t (Killed p) ≡ t (Asked p d)
  pub calm : (state : RowState) → t (calmed state) ≡ t state

-- a child that is told to stop, is killed or has ended isn't brought into such a state
pub record Sinking (t : RowState → Bool) : Type 0 where
  pub down : t Undefined ≡ false
  pub telling : (now p : ℕ) (s : Shutdown) (state : RowState) → has_process p state ≡ true → cond (t (told now p s)) 1 0 ≤ cond (t state) 1 0
  pub late : (p : ℕ) (d : Option ℕ) → t (Killed p) ≡ t (Asked p d)

pub sinking : (t : RowState → Bool) → Falling t → Sinking t
sinking t f = record { down = f.down; telling = f.telling; late = f.late }

-- so many are there at most
abbrev pub AtMost : (RowState → Bool) → ℕ → Outcome → Type 0
AtMost t c o = rows_in t o.state.rows ≤ c

no_count : (t : RowState → Bool) (state : RowState) → t state ≡ false → ◌≡◌ {A = ℕ} (cond (t state) 1 0) 0
no_count t state none = ap (λ (b : Bool). cond b 1 0) none

set-falls : (t : RowState → Bool) (c place : ℕ) (row : Row) (state : RowState) (o : Outcome) → StandsAt place row o → cond (t state) 1 0 ≤ cond (t row.state) 1 0 → AtMost t c o → AtMost t c (set_row place row state o)
set-falls t c place row state o at less h =
    let e : rows_in t (slice_set o.state.rows place (with_state state row)) + cond (t row.state) 1 0 ≡ rows_in t o.state.rows + cond (t state) 1 0 = rows_in-set t place row state o.state.rows at in
    omega (arith, e, less, h)

down-falls : (t : RowState → Bool) → Falling t → (c place : ℕ) (row : Row) (o : Outcome) → StandsAt place row o → AtMost t c o → AtMost t c (set_row place row Undefined o)
down-falls t f c place row o at h = set-falls t c place row Undefined o at (omega (arith, no_count t Undefined f.down)) h

remove-falls : (t : RowState → Bool) (c place : ℕ) (row : Row) (o : Outcome) → StandsAt place row o → AtMost t c o → AtMost t c (with_rows (remove o.state.rows place) o)
remove-falls t c place row o at h =
    let e : rows_in t (remove o.state.rows place) + cond (t row.state) 1 0 ≡ rows_in t o.state.rows = remove_count (row_has t) o.state.rows place row at in
    omega (arith, e, h)

end-falls : (t : RowState → Bool) → Falling t → (c place : ℕ) (row : Row) (o : Outcome) → StandsAt place row o → AtMost t c o → AtMost t c (end_row place row o)
end-falls t f c place row o at h =
    let e : rows_in t (end_row place row o).state.rows + cond (t row.state) 1 0 ≡ rows_in t o.state.rows = rows_in-end t f.down place row o at in
    omega (arith, e, h)

tell-falls : (t : RowState → Bool) → Falling t → (c p : ℕ) (o : Outcome) → AtMost t c o → AtMost t c (tell p o)
unfolding tell tell_row
tell-falls t f c p o h =
    at_number-survives (AtMost t c) p (tell_row p) o h
    (λ i row at has. set-falls t c i row (told o.state.last p row.spec.shutdown) o at (f.telling o.state.last p row.spec.shutdown row.state has) h)

use_exit-falls : (t : RowState → Bool) → Falling t → (c p : ℕ) (place : Option ℕ) (o : Outcome) → AtMost t c o → AtMost t c (use_exit p place o)
unfolding use_exit end_process
use_exit-falls t f c p place o h =
    let left : Outcome = with_waiting (without o.state.waiting place) o in
    at_number-survives (AtMost t c) p end_row left h (λ i row at has. end-falls t f c i row left at h)

stop_each-falls : (t : RowState → Bool) → Falling t → (c : ℕ) (ps : List ℕ) (o : Outcome) → AtMost t c o → AtMost t c (stop_each ps o)
stop_each-falls t f c = stop_each-by (AtMost t c) (λ p o _ h. use_exit-falls t f c p (position (is_exit p) o.state.waiting) o h) (λ p o _ h. tell-falls t f c p o h)

calm-counts : (t : RowState → Bool) → Falling t → (rows : List Row) → rows_in t (calm_rows rows) ≡ rows_in t rows
calm-counts t f rows = rows_in-map t (λ (row : Row). with_state (calmed row.state) row) (λ row. f.calm row.state) rows

pub terminate-falls : (t : RowState → Bool) → Falling t → (c : ℕ) (e : Ending) (o : Outcome) → AtMost t c o → AtMost t c (terminate e o)
terminate-falls t f c e o h =
    terminate-by (AtMost t c) e o
    (λ _. stop_each-falls t f c (running o.state.rows) (calm_all (with_work [] [] (Some (sequel.End e)) o)) (omega (arith, h, calm-counts t f o.state.rows)))
    (λ _. omega (arith, h, calm-counts t f o.state.rows))

restart_rows-falls : (t : RowState → Bool) → Falling t → (c from to place k : ℕ) (o : Outcome) → from ≤ to → AtMost t c o → AtMost t c (restart_rows from to place k o)
unfolding restart_rows
restart_rows-falls t f c from to place k o le h =
    let rows : List Row = o.state.rows in
    let part : List Row = slice_range rows from to in
    let split : rows_in t (drop from rows) ≡ rows_in t part + rows_in t (drop to rows) = ap (λ (xs : List Row). rows_in t xs) (drop_split rows from to le) ∙ rows_in-append t part (drop to rows) in
    let all : rows_in t (take from rows) + rows_in t (drop from rows) ≡ rows_in t rows = sum_by-take-drop (λ (r : Row). cond (row_has t r) 1 0) rows from in
    omega (arith, rows_in-append t (take from rows ++ calm_rows part) (drop to rows), rows_in-append t (take from rows) (calm_rows part), calm-counts t f part, split, all, h)

-- the restart of a child whose row is down
pub restart-falls : (t : RowState → Bool) → Falling t → (c k place : ℕ) (row : Row) (o : Outcome) → StandsAt place row o → AtMost t c (set_row place row Undefined o) → AtMost t c (restart k place row o)
restart-falls t f c k place row o at h =
    let counted : Outcome = counted_restart place row o in
    restart-within (AtMost t c) k place row o at (terminate-falls t f c ending.Intensity counted h) (λ from to le. restart_rows-falls t f c from to place k counted le h)

new-counts : (t : RowState → Bool) → Falling t → (slot : ℕ) (specs : List ChildSpec) → rows_in t (rows_from slot specs) ≡ 0
new-counts t f slot [] = refl
new-counts t f slot (spec ∷ specs) =
    omega (arith, rows_in-cons t (new_row slot (Some spec.id) spec) (rows_from (slot + 1) specs), no_count t Undefined f.down, new-counts t f (slot + 1) specs)

open-falls : (t : RowState → Bool) → Falling t → (c own : ℕ) (o : Outcome) → AtMost t c (open_rows own o)
unfolding open_rows open_with
open-falls t f c own o = omega (arith, new-counts t f 0 (opening_specs (is_simple o.state.flags.strategy) o.state.specs))

answer-falls : (t : RowState → Bool) (c n : ℕ) (r : Reply) (o : Outcome) → AtMost t c o → AtMost t c (answer n r o)
unfolding answer
answer-falls t c n r o h = h

-- no decision makes them more
falls-survives : (t : RowState → Bool) → Falling t → (c : ℕ) (k : Kind) (b : Bool) → Survives k b (AtMost t c)
falls-survives t f c k b =
    record {
      answered = λ n r o h. answer-falls t c n r o h;
      taken = λ w ws o idle runs is h. h;
      call_waits = λ n call o h. h;
      exit_waits = λ p r o noted h. h;
      up = λ p place row q kept o at is same noted h. set-falls t c place row (Up p) o at (up-less p q kept row is same) h;
      up_closed = λ p place row q kept n o at is same follows h. set-falls t c place row (Up p) o at (up-less p q kept row is same) h;
      ignored = λ p place row q kept o at is same noted h. end-falls t f c place row o at h;
      opening_failed = λ place row q kept o runs at is follows h. terminate-falls t f c (ending.InitFailed row.spec.id) (set_row place row Undefined o) (down-falls t f c place row o at h);
      restart_failed = λ place row q kept o at is follows h. set-falls t c place row (Restarting kept) o at (omega (arith, no_count t (Restarting kept) (f.waits kept))) h;
      added_failed = λ place row q kept n o at is follows h. remove-falls t c place row o at h;
      restarted_failed = λ place row q kept n o at is follows h. down-falls t f c place row o at h;
      stopped = λ p r place row o at told noted h. end-falls t f c place row o at h;
      died = λ p place row o idle runs at is h. end-falls t f c place row o at h;
      restarts = λ p place row o idle runs at is h. restart-falls t f c p place row o at (down-falls t f c place row o at h);
      ends = λ e o other idle runs h. terminate-falls t f c e o h;
      ticks = λ o is h. omega (arith, h, tick_count t f.late o);
      opens = λ own o is link over h. open-falls t f c own o;
      adds = λ n id spec o idle runs named h. omega (arith, h, no_count t Undefined f.down, rows_in-append t o.state.rows (new_row (free_slot o.state.rows) id spec ∷ []), rows_in-cons t (new_row (free_slot o.state.rows) id spec) []);
      starts_again = λ n id place row o idle runs at has is h. h;
      removed = λ place row o idle runs at down h. remove-falls t c place row o at h;
      given_up = λ place row o idle runs at down h. down-falls t f c place row o at h;
      stops_child = λ n p place row o idle runs at up h. h;
    }
  where
    up-less : (p q kept : ℕ) (row : Row) → row.state ≡ Starting q kept → (q == p) ≡ true → cond (t (Up p)) 1 0 ≤ cond (t row.state) 1 0
    up-less p q kept row is same = subst (λ (x : RowState). cond (t (Up p)) 1 0 ≤ cond (t x) 1 0) (sym is) (f.up p q kept same)

-- they are no more, or a start was ordered under the number n, which makes d more at most
abbrev pub Grows : (RowState → Bool) → ℕ → ℕ → Outcome → Type 0
Grows t c d o = AtMost t c o ⊎ ((list_any is_start o.orders ≡ true) × AtMost t (c + d) o)

start-grows : (t : RowState → Bool) (c d n : ℕ) → ((kept : ℕ) → cond (t (Starting n kept)) 1 0 ≤ d) → (due : Due) (o : Outcome) → AtMost t c o → Grows t c d (start due n o)
unfolding start start_row
start-grows t c d n one due o h =
    let x : Outcome = at_row (is_due due) o (start_row due n) o in
    inr (
      list_any-append is_start x.orders (effect.Start due.id n ∷ []) ∙ or_true (list_any is_start x.orders),
      at_row-survives (AtMost t (c + d)) (is_due due) o (start_row due n) o (omega (arith, h)) (omega (arith, h))
          (λ i row at has.
          let e : rows_in t (slice_set o.state.rows i (with_state (Starting n (unwrap_or due.kept n)) row)) + cond (t row.state) 1 0 ≡ rows_in t o.state.rows + cond (t (Starting n (unwrap_or due.kept n))) 1 0 = rows_in-set t i row (Starting n (unwrap_or due.kept n)) o.state.rows at in
          omega (arith, e, h, one (unwrap_or due.kept n))),
    )
  where
    or_true : (b : Bool) → (b || (true || false)) ≡ true
    or_true true = refl
    or_true false = refl

going-grows : (t : RowState → Bool) → Falling t → (c d n : ℕ) → ((kept : ℕ) → cond (t (Starting n kept)) 1 0 ≤ d) → GoesOn n (λ _. AtMost t c) (Grows t c d)
unfolding answer end_all refuse_all
going-grows t f c d n one =
    record {
      uses = λ p rest o _ h. use_exit-falls t f c p (position (is_exit p) o.state.waiting) (with_stops rest o) h;
      tells = λ p rest o _ h. inl (tell-falls t f c p (with_stops rest o) h);
      starts = λ due dues o _ h. start-grows t c d n one due (with_work o.state.to_stop dues o.state.follows o) h;
      closes = λ g o _ _ h. inl h;
      answers = λ m r g o _ _ h. inl h;
      ready = λ o _ h. inl h;
      ends = λ e o _ h. inl (omega arith);
    }

-- a start under another number doesn't bring a row there
abbrev pub IsOf : ℕ → (RowState → Bool) → Type 0
IsOf p t = (n kept : ℕ) → (n == p) ≡ false → t (Starting n kept) ≡ false

-- an event whose decision leaves so many leaves no more, where its number comes after that of the process
pub goes-falls : (t : RowState → Bool) → Falling t → (p : ℕ) → IsOf p t → (c m : ℕ) (s : State) (e : Event) → p < m → Numbered m s e → rows_in t (decided s e).rows ≤ c → rows_in t (step s e).state.rows ≤ c
unfolding step step_on
goes-falls t f p own c m s e less (inl (n, is, le)) h =
    let one : (kept : ℕ) → cond (t (Starting (unwrap_or e.number 0) kept)) 1 0 ≤ 0 = λ kept.
    let none : t (Starting (unwrap_or e.number 0) kept) ≡ false = ap (λ (x : Option ℕ). t (Starting (unwrap_or x 0) kept)) is ∙ own n kept (other n p (omega (arith, less, le))) in
    omega (arith, no_count t (Starting (unwrap_or e.number 0) kept) none) in
    ⊎_elim (λ (k : AtMost t c (step s e)). k) (λ (k : (list_any is_start (step s e).orders ≡ true) × AtMost t (c + 0) (step s e)). omega (arith, k.1))
    (advance-on (unwrap_or e.number 0) (λ _. AtMost t c) (Grows t c 0) (going-grows t f c 0 (unwrap_or e.number 0) one) (decide e.kind (record { state = stamped e.reading s; orders = [] })) (λ _. inl h) (λ _ _. h))
  where
    other : (x y : ℕ) → y < x → (x == y) ≡ false
    other x y k = ⊎_elim (λ same. absurd (let z : x ≡ y = eqb-true x y same in omega (arith, z, k))) (λ isnt. isnt) (cases_Bool (x == y))
goes-falls t f p own c m s e less (inr quiet) h =
    ⊎_elim (λ (k : AtMost t c (step s e)). k) (λ (k : (list_any is_start (step s e).orders ≡ true) × AtMost t (c + 1) (step s e)). absurd (false≢true (sym quiet ∙ k.0)))
    (advance-on (unwrap_or e.number 0) (λ _. AtMost t c) (Grows t c 1) (going-grows t f c 1 (unwrap_or e.number 0) (λ kept. at_most_1 (t (Starting (unwrap_or e.number 0) kept)))) (decide e.kind (record { state = stamped e.reading s; orders = [] })) (λ _. inl h) (λ _ _. h))
  where
    at_most_1 : (b : Bool) → cond b 1 0 ≤ 1
    at_most_1 true = omega arith
    at_most_1 false = omega arith

-- no event makes them more whose number comes after that of the process
pub step-falls : (t : RowState → Bool) → Falling t → (p : ℕ) → IsOf p t → (m : ℕ) (s : State) (e : Event) → p < m → Numbered m s e → rows_in t (step s e).state.rows ≤ rows_in t s.rows
step-falls t f p own m s e less numbered =
    let start : Outcome = record { state = stamped e.reading s; orders = [] } in
    goes-falls t f p own (rows_in t s.rows) m s e less numbered (decide-survives e.kind (AtMost t (rows_in t s.rows)) start (falls-survives t f (rows_in t s.rows) e.kind (is_some s.follows)) (omega arith))

-- nor does a lawful history of such events
pub run-falls : (t : RowState → Bool) → Falling t → (p : ℕ) → IsOf p t → (m : ℕ) (s : State) (events : List Event) → p < m → IsLawfulFrom m s events → rows_in t (state_after s events).rows ≤ rows_in t s.rows
run-falls t f p own m s [] less lawful = omega arith
run-falls t f p own m s (e ∷ events) less lawful =
    omega (arith, step-falls t f p own m s e less (first_numbered m s e events lawful), run-falls t f p own m (step s e).state events less (rest_lawful m s e events lawful))

-- a row with a process, and one whose start has no answer yet, are such

pub process-falling : (p : ℕ) → Falling (has_process p)
process-falling p =
    record {
      down = refl;
      waits = λ k. refl;
      telling = λ now q s state has. let e : ◌≡◌ {A = ℕ} (cond (has_process p (told now q s)) 1 0) (cond (q == p) 1 0) = ap (λ (b : Bool). cond b 1 0) (told_process now q p s) in omega (arith, e, same q state has);
      up = λ x q kept is. same x (Starting q kept) is;
      late = λ q d. refl;
      calm = calmed-same;
    }
  where
    same : (q : ℕ) (state : RowState) → has_process q state ≡ true → cond (q == p) 1 0 ≤ cond (has_process p state) 1 0
    same q Undefined h = absurd (false≢true h)
    same q (Starting x _) h = subst (λ (n : ℕ). cond (n == p) 1 0 ≤ cond (x == p) 1 0) (eqb-true x q h) (omega arith)
    same q (Up x) h = subst (λ (n : ℕ). cond (n == p) 1 0 ≤ cond (x == p) 1 0) (eqb-true x q h) (omega arith)
    same q (Asked x _) h = subst (λ (n : ℕ). cond (n == p) 1 0 ≤ cond (x == p) 1 0) (eqb-true x q h) (omega arith)
    same q (Killed x) h = subst (λ (n : ℕ). cond (n == p) 1 0 ≤ cond (x == p) 1 0) (eqb-true x q h) (omega arith)
    same q (Restarting _) h = absurd (false≢true h)

    calmed-same : (state : RowState) → has_process p (calmed state) ≡ has_process p state
    calmed-same Undefined = refl
    calmed-same (Starting _ _) = refl
    calmed-same (Up _) = refl
    calmed-same (Asked _ _) = refl
    calmed-same (Killed _) = refl
    calmed-same (Restarting _) = refl

pub process-of : (p : ℕ) → IsOf p (has_process p)
process-of p n kept other = other

pub starting-falling : (p : ℕ) → Falling (is_starting p)
starting-falling p =
    record {
      down = refl;
      waits = λ k. refl;
      telling = λ now q s state has. let e : ◌≡◌ {A = ℕ} (cond (is_starting p (told now q s)) 1 0) 0 = ap (λ (b : Bool). cond b 1 0) (told_no now q s) in omega (arith, e);
      up = λ x q kept is. omega arith;
      late = λ q d. refl;
      calm = calmed-same;
    }
  where
    told_no : (now q : ℕ) (s : Shutdown) → is_starting p (told now q s) ≡ false
    told_no now q BrutalKill = refl
    told_no now q (Milliseconds _) = refl
    told_no now q Infinity = refl

    calmed-same : (state : RowState) → is_starting p (calmed state) ≡ is_starting p state
    calmed-same Undefined = refl
    calmed-same (Starting _ _) = refl
    calmed-same (Up _) = refl
    calmed-same (Asked _ _) = refl
    calmed-same (Killed _) = refl
    calmed-same (Restarting _) = refl

pub starting-of : (p : ℕ) → IsOf p (is_starting p)
starting-of p n kept other = other
