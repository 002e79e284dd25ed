-- How many orders an event gives.
use Rattle.std.specs.Prelude.{◌≡◌, ℕ, ◌+◌, ◌≤◌, ◌++◌, true, List, [], ◌∷◌, Option, None, Some, refl, position, is_some, slice_set, length, remove, unwrap_or, count_by}
use Rattle.std.specs.List.{cons_option, filter_map}
use Rattle.std.proofs.Common.{◌∙◌, ap, sym, subst, arith, cond, rules}
use Rattle.std.proofs.lemmas.Bool.{false≢true}
use Rattle.std.proofs.lemmas.List.{length-map, length-set}
use Rattle.std.proofs.lemmas.List.Edits.{length-remove}
use Rattle.std.proofs.lemmas.List.Sums.{sum_by-append, sum_by-cons}
use Rattle.std.proofs.lemmas.Option.{slice_get_within}
use Rattle.otp_table.specs.declared.row.Row.{Row}
use Rattle.otp_table.specs.declared.row.RowState.{RowState}
use Rattle.otp_table.specs.declared.row.RowState.TheVariants.{Undefined, Up, Restarting}
use Rattle.otp_table.specs.Rows.{calm_rows, calmed, up_number, with_state}
use Rattle.otp_rules.specs.declared.call.Reply.{Reply}
use Rattle.otp_rules.specs.declared.ending.Ending.{Ending}
use Rattle.otp_rules.specs.declared.ending.Ending.TheVariants as ending
use Rattle.otp_rules.specs.declared.event.Effect.{Effect}
use Rattle.otp_rules.specs.declared.event.Effect.TheVariants as effect
use Rattle.otp_rules.specs.declared.event.Item.{Item}
use Rattle.otp_rules.specs.declared.event.Item.TheVariants as item
use Rattle.otp_rules.specs.declared.event.Kind.{Kind}
use Rattle.otp_rules.specs.declared.event.Kind.TheVariants as kind
use Rattle.otp_rules.specs.declared.event.Waiting.{Waiting}
use Rattle.otp_rules.specs.declared.event.Waiting.TheVariants as waiting
use Rattle.otp_rules.specs.declared.work.Sequel.{Sequel}
use Rattle.otp_rules.specs.declared.work.Sequel.TheVariants as sequel
use Rattle.otp_rules.specs.State.{Outcome, answer, is_busy, is_over, with_rows, with_stamps, with_waiting, with_work}
use Rattle.otp_rules.specs.Effects.{OrdersFew, is_order}
use Rattle.otp_rules.specs.Ends.{sup_end_of, refuse_all, refusal, end_all}
use Rattle.otp_rules.specs.Places.{end_row, end_process, is_removed, set_row}
use Rattle.otp_rules.specs.Restarts.{running}
use Rattle.otp_rules.specs.Stops.{calm_all, is_exit, without, told, tell_row, tell, use_exit, stop_each, stop_order, terminate}
use Rattle.otp_rules.specs.Starts.{is_due, start_row, start}
use Rattle.otp_rules.specs.Work.{advance}
use Rattle.otp_rules.specs.Deaths.{restart_rows, restart}
use Rattle.otp_rules.specs.Step.{open_with, open_rows, tick, decide, stamped, step, step_on, kill_order, killed, late_number}
use Rattle.otp_rules.proofs.GoesOn.{GoesOn, advance-on}
use Rattle.otp_rules.proofs.Bits.{at_most_1}
use Rattle.otp_rules.proofs.Walks.{restart-by, terminate-by, with_stops}
use Rattle.otp_rules.proofs.Decisions.{StandsAt, SurvivesEvent, ends_unmoved, same_orders, same_work, at_row-survives, at_number-survives, by_test, decide-survives_event}
use Rattle.otp_rules.proofs.Counting.{end_row-quiet, stop_each-alike, use_exit-quiet}

abbrev pub orders_in : List Effect → ℕ
orders_in xs = count_by is_order xs

orders-append : (xs ys : List Effect) → orders_in (xs ++ ys) ≡ orders_in xs + orders_in ys
orders-append xs ys = sum_by-append (λ (x : Effect). cond (is_order x) 1 0) xs ys

orders-cons : (x : Effect) (xs : List Effect) → orders_in (x ∷ xs) ≡ cond (is_order x) 1 0 + orders_in xs
orders-cons x xs = sum_by-cons (λ (y : Effect). cond (is_order y) 1 0) x xs

one_more : (xs : List Effect) (x : Effect) → orders_in (xs ++ x ∷ []) ≤ orders_in xs + 1
one_more xs x = omega (arith, orders-append xs (x ∷ []), orders-cons x [], at_most_1 (is_order x))

reply_more : (xs : List Effect) (c : ℕ) → orders_in (xs ++ effect.Reply c ∷ []) ≡ orders_in xs
reply_more xs c = omega (arith, orders-append xs (effect.Reply c ∷ []))

-- an order for some of these at most
from_some : {X : Type 0} (f : X → Option Effect) (xs : List X) → orders_in (filter_map f xs) ≤ length xs
from_some f [] = omega arith
from_some f (x ∷ xs) = of_first (f x) (from_some f xs)
  where
    of_first : (y : Option Effect) → orders_in (filter_map f xs) ≤ length xs → orders_in (cons_option y (filter_map f xs)) ≤ length (x ∷ xs)
    of_first None rest = omega (arith, rest)
    of_first (Some y) rest = omega (arith, orders-cons y (filter_map f xs), at_most_1 (is_order y), rest)

-- the refusals of waiting calls are replies
refusals-few : (ws : List Waiting) → orders_in (filter_map refusal ws) ≡ 0
refusals-few [] = refl
refusals-few (waiting.Item (item.Note x) ∷ ws) = refusals-few ws
refusals-few (waiting.Item (item.Call c x) ∷ ws) = let rest : orders_in (filter_map refusal ws) ≡ 0 = refusals-few ws in omega (arith, orders-cons (effect.Reply c) (filter_map refusal ws), rest)
refusals-few (waiting.Retry k ∷ ws) = refusals-few ws

running-few : (rows : List Row) → length (running rows) ≤ length rows
running-few [] = omega arith
running-few (row ∷ rows) = of_first (up_number row.state) (running-few rows)
  where
    of_first : (p : Option ℕ) → length (running rows) ≤ length rows → length (cons_option p (running rows)) ≤ length (row ∷ rows)
    of_first None rest = omega (arith, rest)
    of_first (Some p) rest = omega (arith, rest)

end-shorter : (place : ℕ) (row : Row) (o : Outcome) → StandsAt place row o → length (end_row place row o).state.rows ≤ length o.state.rows
unfolding end_row
end-shorter place row o at =
    by_test (λ (x : Outcome). length x.state.rows ≤ length o.state.rows) (is_removed row) (with_rows (remove o.state.rows place) o) (set_row place row Undefined o)
    (λ _. omega (arith, length-remove o.state.rows place (slice_get_within o.state.rows place row at)))
    (λ _. omega (arith, length-set o.state.rows place (with_state Undefined row)))

-- so many orders more at most, and no more rows
abbrev Adds : ℕ → Outcome → Outcome → Type 0
Adds n old new = (orders_in new.orders ≤ orders_in old.orders + n) × (length new.state.rows ≤ length old.state.rows)

tell-adds : (p : ℕ) (o : Outcome) → Adds 1 o (tell p o)
unfolding tell tell_row
tell-adds p o =
    at_number-survives (Adds 1 o) p (tell_row p) o (omega arith, omega arith)
    (λ i row at has. (one_more o.orders (stop_order row.id p row.spec.shutdown), omega (arith, length-set o.state.rows i (with_state (told o.state.last p row.spec.shutdown) row))))

use_exit-shorter : (p : ℕ) (place : Option ℕ) (o : Outcome) → length (use_exit p place o).state.rows ≤ length o.state.rows
unfolding use_exit end_process
use_exit-shorter p place o =
    at_number-survives (λ (x : Outcome). length x.state.rows ≤ length o.state.rows) p end_row (with_waiting (without o.state.waiting place) o) (omega arith)
    (λ i row at has. end-shorter i row (with_waiting (without o.state.waiting place) o) at)

use_exit-adds : (p : ℕ) (place : Option ℕ) (o : Outcome) → Adds 0 o (use_exit p place o)
use_exit-adds p place o =
    let same : orders_in (use_exit p place o).orders ≡ orders_in o.orders = ap (λ (xs : List Effect). orders_in xs) (use_exit-quiet p place o).1 in
    (omega (arith, same), use_exit-shorter p place o)

stop_each-adds : (ps : List ℕ) (o : Outcome) → Adds (length ps) o (stop_each ps o)
unfolding stop_each
stop_each-adds [] o = (omega arith, omega arith)
stop_each-adds (p ∷ ps) o =
    let place : Option ℕ = position (is_exit p) o.state.waiting in
    by_test (Adds (length (p ∷ ps)) o) (is_some place) (stop_each ps (use_exit p place o)) (stop_each ps (tell p o))
    (λ _. let first = use_exit-adds p place o in let rest = stop_each-adds ps (use_exit p place o) in (omega (arith, first.0, rest.0), omega (arith, first.1, rest.1)))
    (λ _. let first = tell-adds p o in let rest = stop_each-adds ps (tell p o) in (omega (arith, first.0, rest.0), omega (arith, first.1, rest.1)))

calm-length : (rows : List Row) → length (calm_rows rows) ≡ length rows
calm-length rows = length-map rows (λ (row : Row). with_state (calmed row.state) row)

-- one for each row at most
terminate-adds : (e : Ending) (o : Outcome) → Adds (length o.state.rows) o (terminate e o)
terminate-adds e o =
    terminate-by (Adds (length o.state.rows) o) e o
    (λ _. let all = stop_each-adds (running o.state.rows) (calm_all (with_work [] [] (Some (sequel.End e)) o)) in
    (omega (arith, all.0, running-few o.state.rows), omega (arith, all.1, calm-length o.state.rows)))
    (λ _. (omega arith, omega (arith, calm-length o.state.rows)))

terminate-busy : (e : Ending) (o : Outcome) → is_busy (terminate e o) ≡ true
terminate-busy e o =
    terminate-by (λ (x : Outcome). is_busy x ≡ true) e o
    (λ _. ap (λ (f : Option Sequel). is_some f) (stop_each-alike (running o.state.rows) (calm_all (with_work [] [] (Some (sequel.End e)) o))).4)
    (λ _. refl)

restart-adds : (p place : ℕ) (row : Row) (o : Outcome) → (orders_in (restart p place row o).orders ≤ orders_in o.orders + length o.state.rows) × (is_busy (restart p place row o) ≡ true)
unfolding restart_rows
restart-adds p place row o =
    let counted : Outcome = with_stamps (o.state.stamps ++ o.state.last ∷ []) (set_row place row Undefined o) in
    restart-by (λ (x : Outcome). (orders_in x.orders ≤ orders_in o.orders + length o.state.rows) × (is_busy x ≡ true)) p place row o
    (λ _. let ends = terminate-adds ending.Intensity counted in (omega (arith, ends.0, length-set o.state.rows place (with_state Undefined row)), terminate-busy ending.Intensity counted))
    (λ _. (omega arith, refl))

-- what was ordered is no more than there were rows; what may still be stopped is no more while no work was opened or closed
abbrev Few : Outcome → Outcome → Type 0
Few old o = (orders_in o.orders ≤ length old.state.rows) × (is_busy o ≡ is_busy old → length o.state.rows ≤ length old.state.rows)

answer-few : (old : Outcome) (c : ℕ) (r : Reply) (o : Outcome) → Few old o → Few old (answer c r o)
unfolding answer
answer-few old c r o h = (omega (arith, reply_more o.orders c, h.0), h.1)

end-few : (old : Outcome) (place : ℕ) (row : Row) (o : Outcome) → is_busy o ≡ is_busy old → StandsAt place row o → Few old o → Few old (end_row place row o)
end-few old place row o same at h =
    let quiet : orders_in (end_row place row o).orders ≡ orders_in o.orders = ap (λ (xs : List Effect). orders_in xs) (end_row-quiet place row o).1 in
    (omega (arith, quiet, h.0), λ _. omega (arith, h.1 same, end-shorter place row o at))

-- all that an ending adds, where nothing was ordered before
ends-few : (old : Outcome) (e : Ending) (o : Outcome) → orders_in o.orders ≡ 0 → length o.state.rows ≤ length old.state.rows → Few old (terminate e o)
ends-few old e o none less = let ends = terminate-adds e o in (omega (arith, ends.0, none, less), λ _. omega (arith, ends.1, less))

tick-few : (o : Outcome) → orders_in o.orders ≡ 0 → Few o (tick o)
unfolding tick
tick-few o none =
    let kills : Row → Option Effect = λ row. kill_order row (late_number o.state.last row.state) in (
      omega (arith, none, orders-append o.orders (filter_map kills o.state.rows), from_some kills o.state.rows),
      λ _. omega (arith, length-map o.state.rows (λ (row : Row). killed row (late_number o.state.last row.state))),
    )

few-survive : (k : Kind) (G : Item → Type 0) (old : Outcome) → orders_in old.orders ≡ 0 → ((own : ℕ) → k ≡ kind.Opened own → ⊥) → SurvivesEvent k G old (Few old)
few-survive k G old none other =
    let still : (o : Outcome) → o.orders ≡ old.orders → orders_in o.orders ≡ 0 = λ o same. ap (λ (xs : List Effect). orders_in xs) same ∙ none in
    let set : (place : ℕ) (row : Row) (state : RowState) (o : Outcome) → length (slice_set o.state.rows place (with_state state row)) ≡ length o.state.rows =
    λ place row state o. length-set o.state.rows place (with_state state row) in
    let removes : (place : ℕ) (row : Row) (o : Outcome) → StandsAt place row o → length (remove o.state.rows place) ≤ length o.state.rows =
    λ place row o at. let e : length (remove o.state.rows place) + 1 ≡ length o.state.rows = length-remove o.state.rows place (slice_get_within o.state.rows place row at) in omega (arith, e) in
    record {
      answered = λ c r o quiet h. answer-few old c r o h;
      taken = λ w ws resumed idle runs is h. h;
      call_waits = λ c call o u busy g h. h;
      exit_waits = λ p r place row o u at has g h. h;
      up = λ p place row q kept o u at is same g h. (h.0, λ _. omega (arith, h.1 (same_work old o u), set place row (Up p) o));
      up_closed = λ p place row q kept c o u at is same follows g h. (h.0, λ _. omega (arith, h.1 (same_work old o u), set place row (Up p) o));
      ignored = λ p place row q kept o u at is same g h. end-few old place row o (same_work old o u) at h;
      opening_failed = λ place row q kept o u runs at is follows g h.
          ends-few old (ending.InitFailed row.spec.id) (set_row place row Undefined o) (still o (same_orders old o u)) (omega (arith, h.1 (same_work old o u), set place row Undefined o));
      restart_failed = λ place row q kept o u at is follows g h. (h.0, λ _. omega (arith, h.1 (same_work old o u), set place row (Restarting kept) o));
      added_failed = λ place row q kept c o u at is follows g h. (h.0, λ _. omega (arith, h.1 (same_work old o u), removes place row o at));
      restarted_failed = λ place row q kept c o u at is follows g h. (h.0, λ _. omega (arith, h.1 (same_work old o u), set place row Undefined o));
      stopped = λ p r place row o u at told g h. end-few old place row o (same_work old o u) at h;
      died = λ p place row o u idle runs at is g h. end-few old place row o (same_work old o u) at h;
      restarts = λ p place row o u idle runs at is h.
          let new = restart-adds p place row o in
          (omega (arith, new.0, still o (same_orders old o u), h.1 (same_work old o u)), λ same. absurd (false≢true (sym idle.0 ∙ sym same ∙ new.1)));
      ends = λ e o u other_end idle runs h. let same = ends_unmoved k G old e o u in ends-few old e o (still o same.0) (h.1 same.1);
      ticks = λ is h. tick-few old none;
      opens = λ own is over h. absurd (other own is);
      adds = λ c id spec o u idle runs named few got h. (h.0, λ same. absurd (false≢true (sym idle.0 ∙ sym same)));
      starts_again = λ c id place row o u idle runs at has is noted found h. (h.0, λ _. h.1 (same_work old o u));
      removed = λ place row o u idle runs at down h. (h.0, λ _. omega (arith, h.1 (same_work old o u), removes place row o at));
      given_up = λ place row o u idle runs at down h. (h.0, λ _. omega (arith, h.1 (same_work old o u), set place row Undefined o));
      stops_child = λ c p place row o u idle runs at up has got h. (h.0, λ _. h.1 (same_work old o u));
    }

-- an opening orders nothing itself
open-few : (own : ℕ) (o : Outcome) → (open_rows own o).orders ≡ o.orders
unfolding open_rows open_with
open-few own o = refl

opened-few : (own : ℕ) (o : Outcome) → orders_in o.orders ≡ 0 → orders_in (decide (kind.Opened own) o).orders ≤ length o.state.rows
unfolding decide
opened-few own o none =
    by_test (λ (x : Outcome). orders_in x.orders ≤ length o.state.rows) (is_over o.state.phase) (open_rows own o) o
    (λ _. let same : orders_in (open_rows own o).orders ≡ orders_in o.orders = ap (λ (xs : List Effect). orders_in xs) (open-few own o) in omega (arith, same, none))
    (λ _. omega (arith, none))

decide-few : (k : Kind) (o : Outcome) → orders_in o.orders ≡ 0 → orders_in (decide k o).orders ≤ length o.state.rows
decide-few k o none = by_kind k refl
  where
    other_kind : ((own : ℕ) → k ≡ kind.Opened own → ⊥) → orders_in (decide k o).orders ≤ length o.state.rows
    other_kind other = (decide-survives_event k (λ (i : Item). Unit {0}) o (Few o) (few-survive k (λ (i : Item). Unit {0}) o none other) (λ i b idle. tt) (omega (arith, none), λ _. omega arith)).0

    by_kind : (j : Kind) → k ≡ j → orders_in (decide k o).orders ≤ length o.state.rows
    by_kind (kind.Opened own) is = subst (λ (j : Kind). orders_in (decide j o).orders ≤ length o.state.rows) (sym is) (opened-few own o none)
    by_kind (kind.Took i) is = other_kind (λ own as_opened. absurd (search (rules, sym is ∙ as_opened)))
    by_kind kind.Resumed is = other_kind (λ own as_opened. absurd (search (rules, sym is ∙ as_opened)))
    by_kind kind.Ticked is = other_kind (λ own as_opened. absurd (search (rules, sym is ∙ as_opened)))
    by_kind kind.Stopped is = other_kind (λ own as_opened. absurd (search (rules, sym is ∙ as_opened)))

-- work that goes on gives one order at most
going-one : (n : ℕ) (old : Outcome) → GoesOn n (λ _ x. orders_in x.orders ≤ orders_in old.orders) (λ x. orders_in x.orders ≤ orders_in old.orders + 1)
unfolding start start_row answer end_all refuse_all
going-one n old =
    record {
      uses = λ p rest o _ h. let first = use_exit-adds p (position (is_exit p) o.state.waiting) (with_stops rest o) in omega (arith, first.0, h);
      tells = λ p rest o _ h. omega (arith, (tell-adds p (with_stops rest o)).0, h);
      starts = λ due dues o _ h.
          let left : Outcome = with_work o.state.to_stop dues o.state.follows o in
          let more : orders_in (o.orders ++ effect.Start due.id n ∷ []) ≤ orders_in old.orders + 1 = omega (arith, one_more o.orders (effect.Start due.id n), h) in
          at_row-survives (λ (x : Outcome). orders_in (x.orders ++ effect.Start due.id n ∷ []) ≤ orders_in old.orders + 1) (is_due due) left (start_row due n) left more more (λ i row at has. more);
      closes = λ f o _ _ h. omega (arith, h);
      answers = λ c r f o _ _ h. omega (arith, h, one_more o.orders (effect.Reply c));
      ready = λ o _ h. omega (arith, h, one_more o.orders effect.Ready);
      ends = λ e o _ h.
          let refused : List Effect = filter_map refusal o.state.waiting in
          let none : orders_in refused ≡ 0 = refusals-few o.state.waiting in
          omega (arith, h, none, orders-append o.orders refused, one_more (o.orders ++ refused) (effect.End (sup_end_of o.state.flags o.state.stamps e)));
    }

advance-one : (n : ℕ) (o : Outcome) → orders_in (advance n o).orders ≤ orders_in o.orders + 1
advance-one n o =
    advance-on n (λ _ x. orders_in x.orders ≤ orders_in o.orders) (λ x. orders_in x.orders ≤ orders_in o.orders + 1) (going-one n o) o (λ _. omega arith) (λ _ _. omega arith)

pub orders_few_law : OrdersFew
unfolding step step_on
orders_few_law s e =
    let start : Outcome = record { state = stamped e.reading s; orders = [] } in
    omega (arith, decide-few e.kind start refl, advance-one (unwrap_or e.number 0) (decide e.kind start))
