-- An event's orders start the process of its number, and no other.
use Rattle.std.specs.Prelude.{◌≡◌, ℕ, ◌++◌, ◌&&◌, not, Bool, true, false, List, [], ◌∷◌, Option, None, Some, refl, if◌then◌else◌, is_some, position}
use Rattle.std.specs.List.{cons_option, list_any}
use Rattle.std.proofs.Common.{◌∙◌, ap, sym}
use Rattle.std.proofs.lemmas.Bool.{false≢true, and_parts}
use Rattle.std.proofs.lemmas.List.Elements.{filter-append, filter_map-append}
use Rattle.otp_rules.specs.declared.event.Effect.{Effect}
use Rattle.otp_rules.specs.declared.event.Effect.TheVariants as effect
use Rattle.otp_rules.specs.declared.event.Event.{Event}
use Rattle.otp_rules.specs.declared.event.Kind.{Kind}
use Rattle.otp_rules.specs.declared.event.Waiting.{Waiting}
use Rattle.otp_rules.specs.declared.work.Due.{Due}
use Rattle.otp_table.specs.Rows.{is_awaited, row_has}
use Rattle.otp_rules.specs.Effects.{is_reply}
use Rattle.otp_rules.specs.Run.{orders_of}
use Rattle.otp_rules.specs.Needs.{IsNumbered, NumberStartsWork, numbers_of, ends_wait, has_due, is_start, needs_number, work_starts}
use Rattle.otp_rules.specs.Places.{at_row}
use Rattle.otp_rules.specs.Progress.{at_most_one}
use Rattle.otp_rules.specs.Starts.{is_due, start, start_row}
use Rattle.otp_rules.specs.State.{Outcome, State, is_busy, with_work}
use Rattle.otp_rules.specs.Step.{decide, stamped, step, step_on}
use Rattle.otp_rules.specs.Stops.{is_exit, tell, use_exit, without}
use Rattle.otp_rules.specs.Work.{advance, start_first, stop_first}
use Rattle.otp_rules.proofs.Counting.{use_exit-alike, use_exit-quiet}
use Rattle.otp_rules.proofs.Decisions.{at_row-survives, decide-survives}
use Rattle.otp_rules.proofs.NeedsWork.{decide-quiet}
use Rattle.otp_bodies.specs.Orders.{started_by, orders_in, starts_in}

-- none starts a child: none names a process to be started
none_start : (xs : List Effect) → list_any is_start xs ≡ false → starts_in xs ≡ []
none_start [] h = refl
none_start (effect.Start id p ∷ xs) h = absurd (false≢true (sym h))
none_start (effect.Ask id p ∷ xs) h = none_start xs h
none_start (effect.Kill id p ∷ xs) h = none_start xs h
none_start (effect.Reply c ∷ xs) h = none_start xs h
none_start (effect.Ready ∷ xs) h = none_start xs h
none_start (effect.End e ∷ xs) h = none_start xs h

-- a reply starts nobody
pub starts_ordered : (xs : List Effect) → starts_in (orders_in xs) ≡ starts_in xs
starts_ordered [] = refl
starts_ordered (effect.Start id p ∷ xs) = ap (λ (l : List ℕ). p ∷ l) (starts_ordered xs)
starts_ordered (effect.Ask id p ∷ xs) = starts_ordered xs
starts_ordered (effect.Kill id p ∷ xs) = starts_ordered xs
starts_ordered (effect.Reply c ∷ xs) = starts_ordered xs
starts_ordered (effect.Ready ∷ xs) = starts_ordered xs
starts_ordered (effect.End e ∷ xs) = starts_ordered xs

started_orders : (due : Due) (n : ℕ) (o : Outcome) → (at_row (is_due due) o (start_row due n) o).orders ≡ o.orders
unfolding start_row
started_orders due n o = at_row-survives (λ (x : Outcome). x.orders ≡ o.orders) (is_due due) o (start_row due n) o refl refl (λ place row at is. refl)

start_starts : (due : Due) (n : ℕ) (o : Outcome) → starts_in o.orders ≡ [] → starts_in (start due n o).orders ≡ n ∷ []
unfolding start
start_starts due n o quiet =
    filter_map-append started_by (at_row (is_due due) o (start_row due n) o).orders (effect.Start due.id n ∷ [])
    ∙ ap (λ (xs : List Effect). starts_in xs ++ n ∷ []) (started_orders due n o) ∙ ap (λ (l : List ℕ). l ++ n ∷ []) quiet

first_starts : (dues : List Due) (n : ℕ) (o : Outcome) → starts_in o.orders ≡ [] → has_due dues ≡ true → starts_in (start_first dues n o).orders ≡ n ∷ []
unfolding start_first
first_starts [] n o quiet some = absurd (false≢true some)
first_starts (due ∷ dues) n o quiet some = start_starts due n (with_work o.state.to_stop dues o.state.follows o) quiet

-- all that is to stop has ended: the first child to start is started
stopped_starts : (ps : List ℕ) (n : ℕ) (o : Outcome) → starts_in o.orders ≡ [] → ends_wait ps o.state.waiting ≡ true → has_due o.state.to_start ≡ true → starts_in (stop_first ps n o).orders ≡ n ∷ []
unfolding stop_first
stopped_starts [] n o quiet ended some = first_starts o.state.to_start n o quiet some
stopped_starts (p ∷ ps) n o quiet ended some =
    let place : Option ℕ = position (is_exit p) o.state.waiting in
    let left : Outcome = with_work ps o.state.to_start o.state.follows o in
    let used : Outcome = use_exit p place left in
    let parts : (is_some place ≡ true) × (ends_wait ps (without o.state.waiting place) ≡ true) = and_parts (is_some place) (ends_wait ps (without o.state.waiting place)) ended in
    let same = use_exit-quiet p place left in
    let dues : used.state.to_start ≡ o.state.to_start = (use_exit-alike p place left).3 in
    ap (λ (b : Bool). starts_in (if b then stop_first ps n used else tell p left).orders) parts.0
    ∙ stopped_starts ps n used (ap (λ (xs : List Effect). starts_in xs) same.1 ∙ quiet) (ap (λ (ws : List Waiting). ends_wait ps ws) same.0 ∙ parts.1) (ap (λ (ds : List Due). has_due ds) dues ∙ some)

-- the open work goes on to a start
work_starts_one : (n : ℕ) (o : Outcome) → starts_in o.orders ≡ [] → work_starts o ≡ true → starts_in (advance n o).orders ≡ n ∷ []
unfolding advance work_starts
work_starts_one n o quiet starts =
    let awaits : Bool = list_any (row_has is_awaited) o.state.rows in
    let go : Outcome = stop_first o.state.to_stop n o in
    let busy : (is_busy o ≡ true) × ((not awaits && (ends_wait o.state.to_stop o.state.waiting && has_due o.state.to_start)) ≡ true) = and_parts (is_busy o) (not awaits && (ends_wait o.state.to_stop o.state.waiting && has_due o.state.to_start)) starts in
    let idle : (not awaits ≡ true) × ((ends_wait o.state.to_stop o.state.waiting && has_due o.state.to_start) ≡ true) = and_parts (not awaits) (ends_wait o.state.to_stop o.state.waiting && has_due o.state.to_start) busy.1 in
    let ready : (ends_wait o.state.to_stop o.state.waiting ≡ true) × (has_due o.state.to_start ≡ true) = and_parts (ends_wait o.state.to_stop o.state.waiting) (has_due o.state.to_start) idle.1 in
    ap (λ (b : Bool). starts_in (if b then (if awaits then o else go) else o).orders) busy.0
    ∙ ap (λ (b : Bool). starts_in (if b then o else go).orders) (is_false awaits idle.0)
    ∙ stopped_starts o.state.to_stop n o quiet ready.0 ready.1
  where
    is_false : (b : Bool) → not b ≡ true → b ≡ false
    is_false true h = absurd (false≢true h)
    is_false false h = refl

-- an event that has a number exactly where it needs one starts the process of that number
starts_one : (law : NumberStartsWork) (s : State) (reading : ℕ) (number : Option ℕ) (k : Kind) → is_some number ≡ needs_number s reading k
    → starts_in (step s (record { reading = reading; number = number; kind = k })).orders ≡ at_most_one number
unfolding needs_number step step_on
starts_one law s reading None k needed = none_start (step s (record { reading = reading; number = None; kind = k })).orders (sym needed)
starts_one law s reading (Some n) k needed =
    let before : Outcome = record { state = stamped reading s; orders = [] } in
    work_starts_one n (decide k before)
    (none_start (decide k before).orders (decide-survives k (λ (o : Outcome). list_any is_start o.orders ≡ false) before (decide-quiet k (is_busy before)) refl))
    (sym (law reading k (record { state = s; orders = [] })) ∙ sym needed)

pub event_starts : (law : NumberStartsWork) (s : State) (e : Event) → is_some e.number ≡ needs_number s e.reading e.kind → starts_in (orders_in (step s e).orders) ≡ at_most_one e.number
event_starts law s e needed = starts_ordered (step s e).orders ∙ starts_one law s e.reading e.number e.kind needed

-- along a history whose numbers are given so, the processes that its orders start are those that it numbers
pub starts_along : (law : NumberStartsWork) (s : State) (es : List Event) → IsNumbered s es → starts_in (orders_in (orders_of s es)) ≡ numbers_of es
starts_along law s [] numbered = refl
starts_along law s (e ∷ es) numbered =
    let first : List Effect = (step s e).orders in
    let later : State = (step s e).state in
    ap starts_in (filter-append (λ (x : Effect). not (is_reply x)) first (orders_of later es))
    ∙ filter_map-append started_by (orders_in first) (orders_in (orders_of later es))
    ∙ ap (λ (l : List ℕ). l ++ starts_in (orders_in (orders_of later es))) (event_starts law s e numbered.0)
    ∙ ap (λ (l : List ℕ). at_most_one e.number ++ l) (starts_along law later es numbered.1)
    ∙ numbers_on e.number (numbers_of es)
  where
    numbers_on : (n : Option ℕ) (l : List ℕ) → at_most_one n ++ l ≡ cons_option n l
    numbers_on None l = refl
    numbers_on (Some n) l = refl
