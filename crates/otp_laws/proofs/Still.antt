-- How many rows have what no change of their state touches: their slot, their id, their specification. Only a child that is
-- added, and an opening, makes them more.
use Rattle.std.specs.Prelude.{◌≡◌, ℕ, ◌+◌, ◌≤◌, ◌++◌, ◌&&◌, not, Bool, true, false, List, [], ◌∷◌, Option, None, Some, refl, position, is_some, slice_set, slice_range, remove, unwrap_or, take, drop, map, count_by}
use Rattle.std.proofs.Common.{◌∙◌, ap, arith, cond}
use Rattle.std.proofs.lemmas.List.Folds.{drop_split}
use Rattle.std.proofs.lemmas.List.Sums.{sum_by-append, sum_by-cons, sum_by-take-drop}
use Rattle.otp_reason.specs.declared.name.Name.{Name}
use Rattle.otp_spec.specs.declared.child.ChildSpec.{ChildSpec}
use Rattle.otp_table.specs.declared.row.Row.{Row}
use Rattle.otp_table.specs.declared.row.RowState.{RowState}
use Rattle.otp_table.specs.declared.row.RowState.TheVariants.{Undefined, Starting, Up, Killed, Restarting}
use Rattle.otp_table.specs.Rows.{calm_rows, calmed, free_slot, with_state}
use Rattle.otp_rules.specs.declared.call.Reply.{Reply}
use Rattle.otp_rules.specs.declared.ending.Ending.{Ending}
use Rattle.otp_rules.specs.declared.ending.Ending.TheVariants as ending
use Rattle.otp_rules.specs.declared.event.Item.{Item}
use Rattle.otp_rules.specs.declared.event.Kind.{Kind}
use Rattle.otp_rules.specs.declared.event.Kind.TheVariants as kind
use Rattle.otp_rules.specs.declared.work.Sequel.TheVariants as sequel
use Rattle.otp_spec.specs.Flags.{is_simple}
use Rattle.otp_rules.specs.State.{Outcome, answer, is_over, with_rows, with_waiting, with_work}
use Rattle.otp_rules.specs.Places.{end_process, end_row, is_removed, set_row}
use Rattle.otp_rules.specs.Restarts.{running}
use Rattle.otp_rules.specs.Stops.{calm_all, is_exit, tell, tell_row, terminate, told, use_exit, without}
use Rattle.otp_rules.specs.Starts.{is_due, start, start_row}
use Rattle.otp_rules.specs.Ends.{end_all, refuse_all}
use Rattle.otp_rules.specs.Work.{advance}
use Rattle.otp_rules.specs.Deaths.{restart, restart_rows}
use Rattle.otp_rules.specs.Calls.{new_row}
use Rattle.otp_rules.specs.Step.{killed, late_number, open_rows, tick}
use Rattle.otp_rules.proofs.GoesOn.{GoesOn, advance-on}
use Rattle.otp_rules.proofs.Walks.{counted_restart, stop_each-by, terminate-by, with_stops}
use Rattle.otp_rules.proofs.Decisions.{BringsStart, IsUnmoved, StandsAt, SurvivesEvent, at_number-survives, at_row-survives, by_test}
use Rattle.otp_rules.proofs.Counting.{remove_count, set_count}
use Rattle.otp_rules.proofs.Numbers.{restart-within}

-- the test asks nothing of the row's state
abbrev pub IsStill : (Row → Bool) → Type 0
IsStill t = (state : RowState) (row : Row) → t (with_state state row) ≡ t row

-- so many rows pass it at most
abbrev pub Few : (Row → Bool) → ℕ → Outcome → Type 0
Few t c o = count_by t o.state.rows ≤ c

set-few : (t : Row → Bool) → IsStill t → (c place : ℕ) (row : Row) (state : RowState) (o : Outcome) → StandsAt place row o → Few t c o → Few t c (set_row place row state o)
set-few t still c place row state o at h =
    let e : count_by t (slice_set o.state.rows place (with_state state row)) + cond (t row) 1 0 ≡ count_by t o.state.rows + cond (t (with_state state row)) 1 0 = set_count t o.state.rows place row (with_state state row) at in
    let same : ◌≡◌ {A = ℕ} (cond (t (with_state state row)) 1 0) (cond (t row) 1 0) = ap (λ (b : Bool). cond b 1 0) (still state row) in
    omega (arith, e, same, h)

remove-few : (t : Row → Bool) (c place : ℕ) (row : Row) (o : Outcome) → StandsAt place row o → Few t c o → Few t c (with_rows (remove o.state.rows place) o)
remove-few t c place row o at h =
    let e : count_by t (remove o.state.rows place) + cond (t row) 1 0 ≡ count_by t o.state.rows = remove_count t o.state.rows place row at in
    omega (arith, e, h)

end-few : (t : Row → Bool) → IsStill t → (c place : ℕ) (row : Row) (o : Outcome) → StandsAt place row o → Few t c o → Few t c (end_row place row o)
unfolding end_row
end-few t still c place row o at h =
    by_test (Few t c) (is_removed row) (with_rows (remove o.state.rows place) o) (set_row place row Undefined o) (λ _. remove-few t c place row o at h) (λ _. set-few t still c place row Undefined o at h)

tell-few : (t : Row → Bool) → IsStill t → (c p : ℕ) (o : Outcome) → Few t c o → Few t c (tell p o)
unfolding tell tell_row
tell-few t still c p o h = at_number-survives (Few t c) p (tell_row p) o h (λ i row at has. set-few t still c i row (told o.state.last p row.spec.shutdown) o at h)

use_exit-few : (t : Row → Bool) → IsStill t → (c p : ℕ) (place : Option ℕ) (o : Outcome) → Few t c o → Few t c (use_exit p place o)
unfolding use_exit end_process
use_exit-few t still c p place o h =
    let left : Outcome = with_waiting (without o.state.waiting place) o in
    at_number-survives (Few t c) p end_row left h (λ i row at has. end-few t still c i row left at h)

-- rows that are changed one by one
pub each-counts : (t : Row → Bool) (f : Row → Row) → ((row : Row) → t (f row) ≡ t row) → (rows : List Row) → count_by t (map f rows) ≡ count_by t rows
each-counts t f same [] = refl
each-counts t f same (row ∷ rows) =
    let e : ◌≡◌ {A = ℕ} (cond (t (f row)) 1 0) (cond (t row) 1 0) = ap (λ (b : Bool). cond b 1 0) (same row) in
    omega (arith, e, sum_by-cons (λ (r : Row). cond (t r) 1 0) row rows, sum_by-cons (λ (r : Row). cond (t r) 1 0) (f row) (map f rows), each-counts t f same rows)

calm-few : (t : Row → Bool) → IsStill t → (rows : List Row) → count_by t (calm_rows rows) ≡ count_by t rows
calm-few t still rows = each-counts t (λ (row : Row). with_state (calmed row.state) row) (λ row. still (calmed row.state) row) rows

terminate-few : (t : Row → Bool) → IsStill t → (c : ℕ) (e : Ending) (o : Outcome) → Few t c o → Few t c (terminate e o)
terminate-few t still c e o h =
    terminate-by (Few t c) e o
    (λ _. stop_each-by (Few t c) (λ p x _ k. use_exit-few t still c p (position (is_exit p) x.state.waiting) x k) (λ p x _ k. tell-few t still c p x k) (running o.state.rows) (calm_all (with_work [] [] (Some (sequel.End e)) o)) (omega (arith, h, calm-few t still o.state.rows)))
    (λ _. omega (arith, h, calm-few t still o.state.rows))

restart-few : (t : Row → Bool) → IsStill t → (c k place : ℕ) (row : Row) (o : Outcome) → StandsAt place row o → Few t c o → Few t c (restart k place row o)
unfolding restart_rows
restart-few t still c k place row o at h =
    let counted : Outcome = counted_restart place row o in
    let down : Few t c counted = set-few t still c place row Undefined o at h in
    restart-within (Few t c) k place row o at (terminate-few t still c ending.Intensity counted down)
    (λ from to le.
    let rows : List Row = counted.state.rows in
    let part : List Row = slice_range rows from to in
    let n : Row → ℕ = λ (r : Row). cond (t r) 1 0 in
    let split : count_by t (drop from rows) ≡ count_by t part + count_by t (drop to rows) = ap (λ (xs : List Row). count_by t xs) (drop_split rows from to le) ∙ sum_by-append n part (drop to rows) in
    let all : count_by t (take from rows) + count_by t (drop from rows) ≡ count_by t rows = sum_by-take-drop n rows from in
    omega (arith, sum_by-append n (take from rows ++ calm_rows part) (drop to rows), sum_by-append n (take from rows) (calm_rows part), calm-few t still part, split, all, down))

tick-few : (t : Row → Bool) → IsStill t → (c : ℕ) (o : Outcome) → Few t c o → Few t c (tick o)
unfolding tick
tick-few t still c o h = omega (arith, h, each-counts t (λ (row : Row). killed row (late_number o.state.last row.state)) (λ row. one row (late_number o.state.last row.state)) o.state.rows)
  where
    one : (row : Row) (p : Option ℕ) → t (killed row p) ≡ t row
    one row None = refl
    one row (Some p) = still (Killed p) row

pub answer-few : (t : Row → Bool) (c n : ℕ) (r : Reply) (o : Outcome) → Few t c o → Few t c (answer n r o)
unfolding answer
answer-few t c n r o h = h

-- a decision keeps it so, if a child that is added does, and an opening
pub few-survives : (t : Row → Bool) → IsStill t → (c : ℕ) (k : Kind) (G : Item → Type 0) (old : Outcome)
    → ((n : ℕ) (id : Option Name) (spec : ChildSpec) (o : Outcome) → IsUnmoved old o → BringsStart G n id spec o → is_some id ≡ not (is_simple o.state.flags.strategy) → Few t c o → count_by t o.state.rows + cond (t (new_row (free_slot o.state.rows) id spec)) 1 0 ≤ c)
    → ((own : ℕ) → k ≡ kind.Opened own → is_over old.state.phase ≡ true → Few t c (open_rows own old)) → SurvivesEvent k G old (Few t c)
few-survives t still c k G old added opened =
    record {
      answered = λ n r o quiet h. answer-few t c n r o h;
      taken = λ w ws resumed idle runs is h. h;
      call_waits = λ n x o u busy g h. h;
      exit_waits = λ p r place row o u at has g h. h;
      up = λ p place row q kept o u at is same g h. set-few t still c place row (Up p) o at h;
      up_closed = λ p place row q kept n o u at is same follows g h. set-few t still c place row (Up p) o at h;
      ignored = λ p place row q kept o u at is same g h. end-few t still c place row o at h;
      opening_failed = λ place row q kept o u runs at is follows g h. terminate-few t still c (ending.InitFailed row.spec.id) (set_row place row Undefined o) (set-few t still c place row Undefined o at h);
      restart_failed = λ place row q kept o u at is follows g h. set-few t still c place row (Restarting kept) o at h;
      added_failed = λ place row q kept n o u at is follows g h. remove-few t c place row o at h;
      restarted_failed = λ place row q kept n o u at is follows g h. set-few t still c place row Undefined o at h;
      stopped = λ p r place row o u at told g h. end-few t still c place row o at h;
      died = λ p place row o u idle runs at is g h. end-few t still c place row o at h;
      restarts = λ p place row o u idle runs at is h. restart-few t still c p place row o at h;
      ends = λ e o u other idle runs h. terminate-few t still c e o h;
      ticks = λ is h. tick-few t still c old h;
      opens = λ own is over h. opened own is over;
      adds = λ n id spec o u idle runs named few got h. omega (arith, added n id spec o u got named h, sum_by-append (λ (r : Row). cond (t r) 1 0) o.state.rows (new_row (free_slot o.state.rows) id spec ∷ []), sum_by-cons (λ (r : Row). cond (t r) 1 0) (new_row (free_slot o.state.rows) id spec) []);
      starts_again = λ n id place row o u idle runs at has is noted found h. h;
      removed = λ place row o u idle runs at down h. remove-few t c place row o at h;
      given_up = λ place row o u idle runs at down h. set-few t still c place row Undefined o at h;
      stops_child = λ n p place row o u idle runs at up has got h. h;
    }

going-few : (t : Row → Bool) → IsStill t → (c n : ℕ) → GoesOn n (λ _. Few t c) (Few t c)
unfolding start start_row answer end_all refuse_all
going-few t still c n =
    record {
      uses = λ p rest o _ h. use_exit-few t still c p (position (is_exit p) o.state.waiting) (with_stops rest o) h;
      tells = λ p rest o _ h. tell-few t still c p (with_stops rest o) h;
      starts = λ due dues o _ h.
          let left : Outcome = with_work o.state.to_stop dues o.state.follows o in
          at_row-survives (Few t c) (is_due due) left (start_row due n) left h h (λ i row at has. set-few t still c i row (Starting n (unwrap_or due.kept n)) left at h);
      closes = λ f o _ _ h. h;
      answers = λ m r f o _ _ h. h;
      ready = λ o _ h. h;
      ends = λ e o _ h. omega arith;
    }

-- and so does the work that goes on
pub advance-few : (t : Row → Bool) → IsStill t → (c n : ℕ) (o : Outcome) → Few t c o → Few t c (advance n o)
advance-few t still c n o h = advance-on n (λ _. Few t c) (Few t c) (going-few t still c n) o (λ _. h) (λ _ _. h)

-- two tests that no row passes together
pub apart : (t u v : Row → Bool) → ((row : Row) → cond (t row) 1 0 + cond (u row) 1 0 ≤ cond (v row) 1 0) → (rows : List Row) → count_by t rows + count_by u rows ≤ count_by v rows
apart t u v less [] = omega arith
apart t u v less (row ∷ rows) =
    omega (arith, less row, apart t u v less rows, sum_by-cons (λ (r : Row). cond (t r) 1 0) row rows, sum_by-cons (λ (r : Row). cond (u r) 1 0) row rows, sum_by-cons (λ (r : Row). cond (v r) 1 0) row rows)

pub split : (b c : Bool) → cond (b && c) 1 0 + cond (b && not c) 1 0 ≤ cond b 1 0
split true true = omega arith
split true false = omega arith
split false c = omega arith
