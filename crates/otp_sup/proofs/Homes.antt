-- Where the bodies are after an event.
use Rattle.std.specs.Prelude.{◌≡◌, ◌⊎◌, ℕ, ◌<◌, ◌≤◌, ◌==◌, ◌++◌, ◌&&◌, ◌||◌, not, Bool, true, false, List, [], ◌∷◌, Option, None, Some, All, Contains, refl, if◌then◌else◌, is_some, length, slice_get, unwrap_or, count_by}
use Prim.Native.Nat.{zero, suc}
use Rattle.std.specs.List.{cons_option, list_any}
use Rattle.std.proofs.Common.{◌∙◌, ap, sym, subst, arith, cond, rules, inl, inr, ⊎_elim}
use Rattle.std.proofs.lemmas.Bool.{false≢true, cases_Bool, cond_both, eqb-true, eq-eqb, and_parts}
use Rattle.std.proofs.lemmas.List.Elements.{All-head, All-tail}
use Rattle.std.proofs.lemmas.List.Sums.{sum_by-cons}
use Rattle.std.proofs.lemmas.Option.{slice_get_within}
use Rattle.otp_reason.specs.declared.note.Note.{Note}
use Rattle.otp_reason.specs.declared.note.Note.TheVariants as note
use Rattle.otp_spec.specs.Flags.{is_simple}
use Rattle.otp_table.specs.declared.row.Row.{Row}
use Rattle.otp_table.specs.declared.row.RowState.{RowState}
use Rattle.otp_table.specs.Rows.{free_slot, has_process, has_slot}
use Rattle.otp_rules.specs.declared.event.Effect.{Effect}
use Rattle.otp_rules.specs.declared.event.Effect.TheVariants as effect
use Rattle.otp_rules.specs.declared.event.Event.{Event}
use Rattle.otp_rules.specs.declared.event.Item.{Item}
use Rattle.otp_rules.specs.declared.event.Item.TheVariants as item
use Rattle.otp_rules.specs.declared.event.Kind.{Kind}
use Rattle.otp_rules.specs.declared.event.Kind.TheVariants as kind
use Rattle.otp_rules.specs.declared.event.Waiting.{Waiting}
use Rattle.otp_rules.specs.declared.event.Waiting.TheVariants as waiting
use Rattle.otp_rules.specs.Frames.{StepKeepsPlan}
use Rattle.otp_rules.specs.Homes.{EndsProcess, HomesKeptFrom, IsAdded, IsNewNumber, IsOpened, WasThere, end_number, is_ended, is_home, is_start_call, is_started}
use Rattle.otp_rules.specs.Lives.{EndedHasNoRows, EndsAreHeard, EndsTellStarted, HasEnded, IsHeld, IsHeldIn, ProcessesStay, TakesEnd}
use Rattle.otp_rules.specs.Named.{NamesRowOf, OrdersNameRows, named_by}
use Rattle.otp_rules.specs.Needs.{IsLawfulHistory, NumberStartsWork, needs_number, numbers_of}
use Rattle.otp_rules.specs.Fit.{IsDistinct}
use Rattle.otp_rules.specs.Processes.{ProcessesOwned}
use Rattle.otp_rules.specs.Progress.{IsIn, at_most_one}
use Rattle.otp_rules.specs.Run.{RunGoesOn, empty_state, state_after}
use Rattle.otp_rules.specs.State.{Outcome, State, is_over}
use Rattle.otp_rules.specs.Step.{decide, open_rows, open_with, opening_specs, stamped, step, step_on}
use Rattle.otp_rules.specs.Waits.{starts_waiting}
use Rattle.otp_rules.specs.Work.{advance, follow, start_first, stop_first}
use Rattle.otp_rules.proofs.Homes.{none_has}
use Rattle.otp_rules.proofs.States.{one_process}
use Rattle.otp_core.specs.View.{state_of}
use Rattle.otp_bodies.specs.declared.bodies.Kept.{Kept}
use Rattle.otp_bodies.specs.declared.bodies.Origin.TheVariants as origin
use Rattle.otp_bodies.specs.declared.bodies.BodyPlace.{BodyPlace}
use Rattle.otp_bodies.specs.declared.bodies.BodyPlace.TheVariants as placed
use Rattle.otp_bodies.specs.Letters.{is_end_note}
use Rattle.otp_bodies.specs.Bodies.{are_given, calls_waiting, came_for, come_home, count_away, count_home, has_body, home_or_free, is_at_home, is_waiting, move_first, place_of_call, settled, stray, taken_up, count_opened}
use Rattle.otp_sup.specs.Moves.{bodies_after, given_in, home_of, is_heeded, is_start_waiting, is_taken_up, is_waited_for, received, slot_given, slot_heeding}
use Rattle.otp_bodies.specs.Events.{is_any_waiting, IsOpening, Happened}
use Rattle.otp_bodies.specs.Orders.{orders_in, starts_in}
use Rattle.otp_bodies.specs.Offices.{AreApart, Begins, KeepsOffice, OfficeView}
use Rattle.otp_sup.specs.Facts.{AreToStart, HasBodies, IsOut, KeepsBodies, is_to_start, is_unsent}
use Rattle.otp_sup.proofs.Calls.{later_is}
use Rattle.otp_sup.proofs.Heeding.{Adds, Alias, Heeded, Heeder, Tells, alias, heeder, heeds_own, tells}
use Rattle.otp_bodies.proofs.Placed.{any_before, any_last, any_to, away_less, away_moved, away_no_more, away_opened, away_put, away_settled, away_when_come, away_when_up, comes_home, given_at, given_come, given_has_body, given_moved, given_opened, given_put, given_settled, some_waits, stays_when_come, stays_when_settled, stays_when_up}
use Rattle.otp_sup.proofs.OneAfter.{AreOfRows, count_after, one_after, there_after}
use Rattle.otp_bodies.proofs.Once.{none_home}
use Rattle.otp_sup.proofs.OwnAfter.{own_after}
use Rattle.otp_bodies.proofs.StartOrders.{event_starts}
use Rattle.otp_rules.specs.Alive.{EndsChild, LivesIn, ProcessesLived}

-- the laws on which it rests
pub record Laws : Type 0 where
  pub goes_on : RunGoesOn
  pub homes : HomesKeptFrom
  pub stay : ProcessesStay
  pub heard : EndsAreHeard
  pub started : EndsTellStarted
  pub bare : EndedHasNoRows
  pub named : OrdersNameRows
  pub owned : ProcessesOwned
  pub works : NumberStartsWork
  pub plan : StepKeepsPlan
  pub lived : ProcessesLived

-- what they say of a supervisor that is about to have an event of this number
pub record Known (s : State) (number : Option ℕ) : Type 0 where
  pub free : IsNewNumber number s.rows
  pub stays : (e : Event) (row : Row) (p : ℕ) → Contains s.rows row → has_process p row.state ≡ true → HasEnded s e.kind p ⊎ IsHeldIn (step s e).state.rows row.slot p
  pub bare : is_over s.phase ≡ true → s.rows ≡ []
  pub names : (e : Event) → All (NamesRowOf (step s e).state.rows) (step s e).orders
  pub unended : (p : ℕ) → number ≡ Some p → list_any (is_ended p) s.waiting ≡ true → ⊥
  pub apart : AreApart s.rows
  pub lived : (e : Event) → is_some e.number ≡ needs_number s e.reading e.kind → (slot p : ℕ) → LivesIn (step s e).state slot p → (e.number ≡ Some p) ⊎ (LivesIn s slot p × (EndsChild s e.kind p → ⊥))

none_below : (p : ℕ) (ns : List ℕ) → All (λ m. m < p) ns → count_by (λ q. q == p) ns ≡ 0
none_below p [] h = refl
none_below p (n ∷ ns) h =
    let less : n < p = All-head (λ m. m < p) n ns h in
    let no : ◌≡◌ {A = ℕ} (cond (n == p) 1 0) 0 = ap (λ (b : Bool). cond b 1 0) (isnt (n == p) refl less) in
    omega (arith, no, none_below p ns (All-tail (λ m. m < p) n ns h), sum_by-cons (λ (q : ℕ). cond (q == p) 1 0) n ns)
  where
    isnt : (b : Bool) → (n == p) ≡ b → n < p → (n == p) ≡ false
    isnt false e less = e
    isnt true e less = absurd (let same = eqb-true n p e in omega (arith, same, less))

new_number : (number : Option ℕ) (s : State) → ((n : ℕ) → number ≡ Some n → IsDistinct n s) → IsNewNumber number s.rows
new_number None s distinct row among = refl
new_number (Some n) s distinct row among = none_has n s.rows ((distinct n refl).1 n (omega arith)) row among

pub known : Laws → (o : OfficeView) (number : Option ℕ) → KeepsOffice o → ((n : ℕ) → number ≡ Some n → All (λ m. m < n) (numbers_of o.core.history)) → Known (state_of o.core) number
known laws o number keeps rises =
    let begins : Begins o.core.base = keeps.begins in
    let h : List Event = o.core.history in
    let Lawful : State → Type 0 = λ b. IsLawfulHistory b h in
    let lawful : IsLawfulHistory (empty_state begins.flags begins.specs) h = subst Lawful begins.is keeps.lawful in
    let Distinct : ℕ → State → Type 0 = λ n b. IsDistinct n (state_after b h) in
    let Stays : State → Type 0 = λ b. (e : Event) (row : Row) (p : ℕ) → Contains (state_after b h).rows row → has_process p row.state ≡ true → HasEnded (state_after b h) e.kind p ⊎ IsHeldIn (step (state_after b h) e).state.rows row.slot p in
    let Bare : State → Type 0 = λ b. is_over (state_after b h).phase ≡ true → (state_after b h).rows ≡ [] in
    let Names : State → Type 0 = λ b. (e : Event) → All (NamesRowOf (step (state_after b h) e).state.rows) (step (state_after b h) e).orders in
    let Lived : State → Type 0 = λ b. (e : Event) → is_some e.number ≡ needs_number (state_after b h) e.reading e.kind → (slot p : ℕ) → LivesIn (step (state_after b h) e).state slot p → (e.number ≡ Some p) ⊎ (LivesIn (state_after b h) slot p × (EndsChild (state_after b h) e.kind p → ⊥)) in
    let Ended : State → Type 0 = λ b. (p : ℕ) → list_any (is_ended p) (state_after b h).waiting ≡ true → IsIn p (numbers_of h) in
    let ended : Ended o.core.base = subst Ended (sym begins.is) (λ p w. laws.started begins.flags begins.specs h p lawful w) in
    record {
      free = new_number number (state_of o.core) (λ n is. subst (Distinct n) (sym begins.is) (laws.owned begins.flags begins.specs h n lawful (rises n is)));
      stays = subst Stays (sym begins.is) (λ e row p among has. laws.stay begins.flags begins.specs h e lawful row p among has);
      bare = subst Bare (sym begins.is) (laws.bare begins.flags begins.specs h);
      names = subst Names (sym begins.is) (λ e. laws.named begins.flags begins.specs h e lawful);
      unended = λ p is w. let none : count_by (λ q. q == p) (numbers_of h) ≡ 0 = none_below p (numbers_of h) (rises p is) in let some : 0 < count_by (λ q. q == p) (numbers_of h) = ended p w in omega (arith, none, some);
      apart = keeps.apart;
      lived = subst Lived (sym begins.is) (λ e needed slot p live. laws.lived begins.flags begins.specs h e lawful needed slot p live);
    }

-- a row has its slot
pub slot_among : (rows : List Row) (row : Row) → Contains rows row → list_any (has_slot row.slot) rows ≡ true
slot_among [] row c = absurd (omega (arith, c.1))
slot_among (r ∷ rows) row (zero, a, b) = ap (λ (x : Bool). x || list_any (has_slot row.slot) rows) (eq-eqb r.slot row.slot (ap (λ (y : Row). y.slot) b))
slot_among (r ∷ rows) row (suc k, a, b) =
    let rest : list_any (has_slot row.slot) rows ≡ true = slot_among rows row (k, omega (arith, a), b) in
    ⊎_elim (λ (e : has_slot row.slot r ≡ true). ap (λ (x : Bool). x || list_any (has_slot row.slot) rows) e) (λ (e : has_slot row.slot r ≡ false). ap (λ (x : Bool). x || list_any (has_slot row.slot) rows) e ∙ rest) (cases_Bool (has_slot row.slot r))

none_among : (rows : List Row) (row : Row) → rows ≡ [] → Contains rows row → ⊥
none_among rows row none c = let d : Contains [] row = subst (λ (l : List Row). Contains l row) none c in omega (arith, d.1)

-- what happens to a body at home in the slot of a row that stays

came_stays : (home : Option ℕ) (slot : ℕ) (kept : List Kept) → has_body slot kept ≡ true → has_body slot (came_for home kept) ≡ true
came_stays None slot kept h = any_before (is_at_home slot) kept (stray ∷ []) h
came_stays (Some k) slot kept h = stays_when_come k slot kept h

up_stays : (is : Bool) (given : Option ℕ) (slot : ℕ) (kept : List Kept) → has_body slot kept ≡ true → has_body slot (taken_up is given kept) ≡ true
up_stays true given slot kept h = stays_when_up (home_or_free given) slot kept h
up_stays false given slot kept h = h

stays_after : (s later : State) (k : Kind) (slot : ℕ) (kept : List Kept) → (IsOpening k → ⊥) → list_any (has_slot slot) later.rows ≡ true → has_body slot kept ≡ true → has_body slot (bodies_after s later k kept) ≡ true
stays_after s later (kind.Opened own) slot kept shut row h = absurd (shut tt)
stays_after s later (kind.Took (item.Note x)) slot kept shut row h =
    stays_when_settled slot later.rows (is_any_waiting later) (received s later.rows (item.Note x) kept) row
    (cond_both (is_end_note x) (came_for (home_of s x) kept) kept (λ (l : List Kept). has_body slot l ≡ true) (λ _. came_stays (home_of s x) slot kept h) (λ _. h))
stays_after s later (kind.Took (item.Call c x)) slot kept shut row h =
    let b : Kept = record { origin = origin.Call c; place = place_of_call (is_waited_for s) (slot_given s.rows later.rows) } in
    stays_when_settled slot later.rows (is_any_waiting later) (received s later.rows (item.Call c x) kept) row
    (cond_both (is_start_call x) (kept ++ b ∷ []) kept (λ (l : List Kept). has_body slot l ≡ true) (λ _. any_before (is_at_home slot) kept (b ∷ []) h) (λ _. h))
stays_after s later kind.Resumed slot kept shut row h =
    stays_when_settled slot later.rows (is_any_waiting later) (taken_up (is_taken_up s) (slot_given s.rows later.rows) kept) row (up_stays (is_taken_up s) (slot_given s.rows later.rows) slot kept h)
stays_after s later kind.Ticked slot kept shut row h = stays_when_settled slot later.rows (is_any_waiting later) kept row h
stays_after s later kind.Stopped slot kept shut row h = stays_when_settled slot later.rows (is_any_waiting later) kept row h

-- the end note that is heeded brings the body home

ends_note : (x : Note) (p : ℕ) → end_number x ≡ Some p → is_end_note x ≡ true
ends_note (note.Up q) p is = let e : ◌≡◌ {A = Option ℕ} None (Some p) = is in absurd (search (rules, e))
ends_note (note.Ignored q) p is = refl
ends_note (note.Failed q r) p is = refl
ends_note (note.Exit q r) p is = refl

heeded_received : (s : State) (rows : List Row) (x : Note) (p slot : ℕ) (kept : List Kept) → end_number x ≡ Some p → home_of s x ≡ Some slot → received s rows (item.Note x) kept ≡ come_home slot kept
heeded_received s rows x p slot kept ends home = ap (λ (b : Bool). if b then came_for (home_of s x) kept else kept) (ends_note x p ends) ∙ ap (λ (h : Option ℕ). came_for h kept) home

heeded_home : (s later : State) (k : Kind) (p slot : ℕ) (kept : List Kept) (h : Heeded s k p) → h.slot ≡ slot → list_any (has_slot slot) later.rows ≡ true → has_body slot (bodies_after s later k kept) ≡ true
heeded_home s later k p slot kept h is row =
    let Home : Kind → Type 0 = λ j. has_body slot (bodies_after s later j kept) ≡ true in
    subst Home (sym h.takes)
    (stays_when_settled slot later.rows (is_any_waiting later) (received s later.rows (item.Note h.x) kept) row
    (ap (λ (l : List Kept). has_body slot l) (heeded_received s later.rows h.x p h.slot kept h.ends h.home ∙ ap (λ (n : ℕ). come_home n kept) is) ∙ comes_home slot kept))

heeded_away : (s later : State) (k : Kind) (p slot : ℕ) (kept : List Kept) (h : Heeded s k p) → h.slot ≡ slot → count_away slot kept ≤ 1 → count_away slot (bodies_after s later k kept) ≡ 0
heeded_away s later k p slot kept h is one =
    let None : Kind → Type 0 = λ j. count_away slot (bodies_after s later j kept) ≡ 0 in
    subst None (sym h.takes)
    (away_settled slot later.rows (is_any_waiting later) (received s later.rows (item.Note h.x) kept)
    ∙ ap (λ (l : List Kept). count_away slot l) (heeded_received s later.rows h.x p h.slot kept h.ends h.home ∙ ap (λ (n : ℕ). come_home n kept) is)
    ∙ away_no_more slot kept one)

pub heeds_in : (s : State) (x : Note) (slot : ℕ) → home_of s x ≡ Some slot → slot_heeding x s.rows ≡ Some slot
heeds_in s x slot is = by (is_over s.phase) refl
  where
    by : (b : Bool) → is_over s.phase ≡ b → slot_heeding x s.rows ≡ Some slot
    by true h = absurd (let e : ◌≡◌ {A = Option ℕ} None (Some slot) = sym (ap (λ (b : Bool). if b then None else slot_heeding x s.rows) h) ∙ is in search (rules, e))
    by false h = sym (ap (λ (b : Bool). if b then None else slot_heeding x s.rows) h) ∙ is

-- the child that heeds the note is the one whose process it tells of
heeded_slot : (s : State) (k : Kind) (p : ℕ) (row : Row) → AreApart s.rows → (h : Heeded s k p) → Contains s.rows row → has_process p row.state ≡ true → h.slot ≡ row.slot
heeded_slot s k p row apart h among has =
    let by : Heeder h.x s.rows h.slot = heeder h.x s.rows h.slot (heeds_in s h.x h.slot h.home) in
    sym by.same ∙ (apart by.row row p p by.among among (heeds_own h.x p by.row h.ends by.heeds) has).1 refl

-- a start call that is taken up has its body at home, in the slot of the child that it adds

given_slot : (rows later : List Row) (slot : ℕ) → slot ≡ free_slot rows → list_any (has_slot slot) later ≡ true → slot_given rows later ≡ Some slot
given_slot rows later slot is row = ap (λ (n : ℕ). given_in n later) (sym is) ∙ ap (λ (b : Bool). if b then Some slot else None) row

same_number : (n : ℕ) → (n == n) ≡ true
same_number n = eq-eqb n n refl

start_first_waits : (ws : List Waiting) → is_start_waiting (slice_get ws 0) ≡ true → (c : ℕ) × (rest : List ℕ) × (starts_waiting ws ≡ c ∷ rest)
start_first_waits [] h = absurd (false≢true h)
start_first_waits (waiting.Retry k ∷ ws) h = absurd (false≢true h)
start_first_waits (waiting.Item (item.Note x) ∷ ws) h = absurd (false≢true h)
start_first_waits (waiting.Item (item.Call c x) ∷ ws) h = (c, starts_waiting ws, ap (λ (b : Bool). cons_option (if b then Some c else None) (starts_waiting ws)) h)

added_home : (s later : State) (k : Kind) (slot : ℕ) (kept : List Kept) → Adds s k → slot ≡ free_slot s.rows → calls_waiting kept ≡ starts_waiting s.waiting → list_any (has_slot slot) later.rows ≡ true → has_body slot (bodies_after s later k kept) ≡ true
added_home s later k slot kept (inl (c, x, is, start, waits)) free calls row =
    let Home : Kind → Type 0 = λ j. has_body slot (bodies_after s later j kept) ≡ true in
    let b : Kept = record { origin = origin.Call c; place = place_of_call (is_waited_for s) (slot_given s.rows later.rows) } in
    let there : place_of_call (is_waited_for s) (slot_given s.rows later.rows) ≡ placed.Home slot =
    ap (λ (w : Bool). place_of_call w (slot_given s.rows later.rows)) waits ∙ ap (λ (o : Option ℕ). home_or_free o) (given_slot s.rows later.rows slot free row) in
    subst Home (sym is)
    (stays_when_settled slot later.rows (is_any_waiting later) (received s later.rows (item.Call c x) kept) row
    (ap (λ (y : Bool). has_body slot (if y then kept ++ b ∷ [] else kept)) start
    ∙ any_last (is_at_home slot) kept b (ap (λ (p : BodyPlace). is_at_home slot (record { origin = origin.Call c; place = p })) there ∙ same_number slot)))
added_home s later k slot kept (inr (is, taken)) free calls row =
    let Home : Kind → Type 0 = λ j. has_body slot (bodies_after s later j kept) ≡ true in
    let to : Option ℕ = slot_given s.rows later.rows in
    let first = start_first_waits s.waiting (and_parts (not (is_some s.follows) && not (is_over s.phase)) (is_start_waiting (slice_get s.waiting 0)) taken).1 in
    subst Home (sym is)
    (stays_when_settled slot later.rows (is_any_waiting later) (taken_up (is_taken_up s) to kept) row
    (ap (λ (b : Bool). has_body slot (taken_up b to kept)) taken
    ∙ ap (λ (o : Option ℕ). has_body slot (move_first is_waiting (home_or_free o) kept)) (given_slot s.rows later.rows slot free row)
    ∙ any_to is_waiting (is_at_home slot) (placed.Home slot) kept (λ b w. same_number slot) (some_waits kept first.0 first.1 (calls ∙ first.2))))

-- at the opening each child has the body that was handed in for it

-- dynamic children are none at first
simple_opens : (s : State) (reading : ℕ) (number : Option ℕ) (own : ℕ) → is_over s.phase ≡ true → is_simple s.flags.strategy ≡ true → (step s (record { reading = reading; number = number; kind = kind.Opened own })).state.rows ≡ []
unfolding step step_on decide open_rows open_with advance stop_first start_first follow
simple_opens s reading number own over simple =
    let before : Outcome = record { state = stamped reading s; orders = [] } in
    ap (λ (b : Bool). (advance (unwrap_or number 0) (if b then open_rows own before else before)).state.rows) over
    ∙ ap (λ (b : Bool). (advance (unwrap_or number 0) (open_with (opening_specs b s.specs) own before)).state.rows) simple

no_more : (n : ℕ) → (0 < n → ⊥) → n ≡ 0
no_more zero h = refl
no_more (suc n) h = absurd (h (omega arith))

opened_home : (s : State) (reading : ℕ) (number : Option ℕ) (own : ℕ) (row : Row) (kept : List Kept) → is_over s.phase ≡ true → s.rows ≡ [] → KeepsBodies s [] kept
    → slice_get s.specs row.slot ≡ Some row.spec
    → Contains (step s (record { reading = reading; number = number; kind = kind.Opened own })).state.rows row
    → has_body row.slot (bodies_after s (step s (record { reading = reading; number = number; kind = kind.Opened own })).state (kind.Opened own) kept) ≡ true
opened_home s reading number own row kept over none keeps place among =
    let later : State = (step s (record { reading = reading; number = number; kind = kind.Opened own })).state in
    given_has_body row.slot later.rows (is_any_waiting later) kept (slot_among later.rows row among)
    (λ j. no_more (count_away j kept) (λ some. let out : IsOut s [] j = keeps.away j some in none_among s.rows out.row none out.runs.among))
    (given_at (count_opened s.flags s.specs) row.slot kept keeps.given (by (is_simple s.flags.strategy) refl))
  where
    by : (b : Bool) → is_simple s.flags.strategy ≡ b → row.slot < count_opened s.flags s.specs
    by true simple = absurd (none_among (step s (record { reading = reading; number = number; kind = kind.Opened own })).state.rows row (simple_opens s reading number own over simple) among)
    by false simple =
        let all : length (opening_specs (is_simple s.flags.strategy) s.specs) ≡ length s.specs = ap (λ (b : Bool). length (opening_specs b s.specs)) simple in
        omega (arith, all, slice_get_within s.specs row.slot row.spec place)

abbrev Needed : State → Option ℕ → Row → Type 0
Needed later number row = (is_home later.waiting row.state ≡ true) ⊎ (is_started number row.state ≡ true)

-- each child that has no process, or that the event starts, has its body at home
home_after : Laws → (s : State) (reading : ℕ) (number : Option ℕ) (k : Kind) (kept : List Kept) → Known s number → (IsOpening k → is_over s.phase ≡ true) → calls_waiting kept ≡ starts_waiting s.waiting → KeepsBodies s [] kept
    → (row : Row) → Contains (step s (record { reading = reading; number = number; kind = k })).state.rows row → Needed (step s (record { reading = reading; number = number; kind = k })).state number row
    → has_body row.slot (bodies_after s (step s (record { reading = reading; number = number; kind = k })).state k kept) ≡ true
home_after laws s reading number k kept known opens calls keeps row among needed =
    let e : Event = record { reading = reading; number = number; kind = k } in
    let later : State = (step s e).state in
    let a : Alias s reading number k = alias s reading number k in
    let f : Event = record { reading = reading; number = number; kind = a.says } in
    let there : list_any (has_slot row.slot) later.rows ≡ true = slot_among later.rows row among in
    let free : IsNewNumber number a.state.rows = subst (λ (l : List Row). IsNewNumber number l) (sym a.rows) known.free in
    let Among : Outcome → Type 0 = λ o. Contains o.state.rows row in
    let Need : Outcome → Type 0 = λ o. Needed o.state number row in
    let h : WasThere a.state a.says row.slot ⊎ (IsAdded a.state a.says row.slot ⊎ IsOpened a.state a.says row) = laws.homes a.state f free row (subst Among (sym a.same) among) (subst Need (sym a.same) needed) in
    let shut : (old : Row) → Contains s.rows old → IsOpening k → ⊥ = λ old was o. none_among s.rows old (known.bare (opens o)) was in
    ⊎_elim
    (λ (w : WasThere a.state a.says row.slot).
    let was : Contains s.rows w.row = subst (λ (l : List Row). Contains l w.row) a.rows w.among in
    ⊎_elim
    (λ (home : is_home a.state.waiting w.row.state ≡ true).
    stays_after s later k row.slot kept (shut w.row was) there (ap (λ (n : ℕ). has_body n kept) (sym w.same) ∙ keeps.home w.row was (a.homes w.row.state home)))
    (λ (t : (x : Note) × (a.says ≡ kind.Took (item.Note x)) × EndsProcess x w.row).
    let heeded : Heeded s k t.2.p = a.ends t.2.p (t.0, t.1, t.2.ends) in
    heeded_home s later k t.2.p row.slot kept heeded (heeded_slot s k t.2.p w.row known.apart heeded was t.2.has ∙ w.same) there)
    w.home)
    (⊎_elim
    (λ (d : IsAdded a.state a.says row.slot). added_home s later k row.slot kept (a.adds d.c d.x d.start d.brought) (d.free ∙ ap (λ (l : List Row). free_slot l) a.rows) calls there)
    (λ (o : IsOpened a.state a.says row).
    let is : k ≡ kind.Opened o.own = a.opens o.own o.opening in
    let Opens : Kind → Type 0 = λ j. IsOpening j → is_over s.phase ≡ true in
    let over : is_over s.phase ≡ true = subst Opens is opens tt in
    let In : Kind → Type 0 = λ j. Contains (step s (record { reading = reading; number = number; kind = j })).state.rows row in
    let Has : Kind → Type 0 = λ j. has_body row.slot (bodies_after s (step s (record { reading = reading; number = number; kind = j })).state j kept) ≡ true in
    subst Has (sym is) (opened_home s reading number o.own row kept over (known.bare over) keeps (ap (λ l. slice_get l row.slot) (sym a.specs) ∙ o.place) (subst In is among))))
    h

-- no event takes a body away

received_less : (slot : ℕ) (s : State) (rows : List Row) (x : Item) (kept : List Kept) → count_away slot (received s rows x kept) ≤ count_away slot kept
received_less slot s rows (item.Note x) kept =
    cond_both (is_end_note x) (came_for (home_of s x) kept) kept (λ (l : List Kept). count_away slot l ≤ count_away slot kept) (λ _. came_less (home_of s x)) (λ _. omega arith)
  where
    came_less : (home : Option ℕ) → count_away slot (came_for home kept) ≤ count_away slot kept
    came_less None = let same = away_put slot kept stray refl in omega (arith, same)
    came_less (Some k) = away_less slot k kept
received_less slot s rows (item.Call c x) kept =
    let b : Kept = record { origin = origin.Call c; place = place_of_call (is_waited_for s) (slot_given s.rows rows) } in
    cond_both (is_start_call x) (kept ++ b ∷ []) kept (λ (l : List Kept). count_away slot l ≤ count_away slot kept) (λ _. let same = away_put slot kept b (near (is_waited_for s) (slot_given s.rows rows)) in omega (arith, same)) (λ _. omega arith)
  where
    near : (waits : Bool) (given : Option ℕ) → Rattle.otp_bodies.specs.Bodies.is_away_from slot (place_of_call waits given) ≡ false
    near true given = refl
    near false None = refl
    near false (Some k) = refl

taken_less : (slot : ℕ) (is : Bool) (given : Option ℕ) (kept : List Kept) → count_away slot (taken_up is given kept) ≤ count_away slot kept
taken_less slot true None kept = away_moved is_waiting slot placed.Free kept refl
taken_less slot true (Some k) kept = away_moved is_waiting slot (placed.Home k) kept refl
taken_less slot false given kept = omega arith

away_after : (slot : ℕ) (s later : State) (k : Kind) (kept : List Kept) → count_away slot (bodies_after s later k kept) ≤ count_away slot kept
away_after slot s later (kind.Opened own) kept = let a = away_opened slot later.rows (settled [] (is_any_waiting later) kept) in let b = away_settled slot [] (is_any_waiting later) kept in omega (arith, a, b)
away_after slot s later (kind.Took x) kept = let a = away_settled slot later.rows (is_any_waiting later) (received s later.rows x kept) in omega (arith, a, received_less slot s later.rows x kept)
away_after slot s later kind.Resumed kept =
    let a = away_settled slot later.rows (is_any_waiting later) (taken_up (is_taken_up s) (slot_given s.rows later.rows) kept) in omega (arith, a, taken_less slot (is_taken_up s) (slot_given s.rows later.rows) kept)
away_after slot s later kind.Ticked kept = let a = away_settled slot later.rows (is_any_waiting later) kept in omega (arith, a)
away_after slot s later kind.Stopped kept = let a = away_settled slot later.rows (is_any_waiting later) kept in omega (arith, a)

-- nor one that was handed in

given_received : (n : ℕ) (s : State) (rows : List Row) (x : Item) (kept : List Kept) → are_given n kept ≡ true → are_given n (received s rows x kept) ≡ true
given_received n s rows (item.Note x) kept h =
    cond_both (is_end_note x) (came_for (home_of s x) kept) kept (λ (l : List Kept). are_given n l ≡ true) (λ _. came (home_of s x)) (λ _. h)
  where
    came : (home : Option ℕ) → are_given n (came_for home kept) ≡ true
    came None = given_put n kept stray h
    came (Some k) = given_come k n kept h
given_received n s rows (item.Call c x) kept h =
    let b : Kept = record { origin = origin.Call c; place = place_of_call (is_waited_for s) (slot_given s.rows rows) } in
    cond_both (is_start_call x) (kept ++ b ∷ []) kept (λ (l : List Kept). are_given n l ≡ true) (λ _. given_put n kept b h) (λ _. h)

given_taken : (n : ℕ) (is : Bool) (given : Option ℕ) (kept : List Kept) → are_given n kept ≡ true → are_given n (taken_up is given kept) ≡ true
given_taken n true None kept h = given_moved is_waiting placed.Free n kept refl h
given_taken n true (Some k) kept h = given_moved is_waiting (placed.Home k) n kept refl h
given_taken n false given kept h = h

given_after : (n : ℕ) (s later : State) (k : Kind) (kept : List Kept) → are_given n kept ≡ true → are_given n (bodies_after s later k kept) ≡ true
given_after n s later (kind.Opened own) kept h = given_opened later.rows n (settled [] (is_any_waiting later) kept) (given_settled [] (is_any_waiting later) n kept h)
given_after n s later (kind.Took x) kept h = given_settled later.rows (is_any_waiting later) n (received s later.rows x kept) (given_received n s later.rows x kept h)
given_after n s later kind.Resumed kept h = given_settled later.rows (is_any_waiting later) n (taken_up (is_taken_up s) (slot_given s.rows later.rows) kept) (given_taken n (is_taken_up s) (slot_given s.rows later.rows) kept h)
given_after n s later kind.Ticked kept h = given_settled later.rows (is_any_waiting later) n kept h
given_after n s later kind.Stopped kept h = given_settled later.rows (is_any_waiting later) n kept h

pub or_none : (b : Bool) → (b || false) ≡ b
or_none true = refl
or_none false = refl

unsent_started : (number : Option ℕ) (state : RowState) → is_unsent (at_most_one number) state ≡ is_started number state
unsent_started None state = refl
unsent_started (Some n) state = or_none (has_process n state)

-- a body that is away after the event was so before, with a process that goes on
out_after : Laws → (s : State) (reading : ℕ) (number : Option ℕ) (k : Kind) (kept : List Kept) → Known s number → KeepsBodies s [] kept → (slot : ℕ)
    → 0 < count_away slot (bodies_after s (step s (record { reading = reading; number = number; kind = k })).state k kept)
    → IsOut (step s (record { reading = reading; number = number; kind = k })).state (at_most_one number) slot
out_after laws s reading number k kept known keeps slot some =
    let e : Event = record { reading = reading; number = number; kind = k } in
    let later : State = (step s e).state in
    let t : Tells s reading number k = tells s reading number k in
    let f : Event = record { reading = reading; number = number; kind = t.says } in
    let out : IsOut s [] slot = keeps.away slot (omega (arith, some, away_after slot s later k kept)) in
    let untaken : TakesEnd t.says out.p → ⊥ = λ takes.
    let heeded : Heeded s k out.p = t.ends out.p takes in
    let none : count_away slot (bodies_after s later k kept) ≡ 0 = heeded_away s later k out.p slot kept heeded (heeded_slot s k out.p out.row known.apart heeded out.runs.among out.runs.has ∙ out.same) (let few = keeps.one_body slot in omega (arith, few)) in
    omega (arith, some, none) in
    let held : IsHeldIn (step s f).state.rows out.row.slot out.p =
    ⊎_elim
    (λ ended. absurd (⊎_elim (λ w. false≢true (sym out.runs.lives ∙ w)) untaken ended))
    (λ h. h)
    (known.stays f out.row out.p out.runs.among out.runs.has) in
    let Among : Outcome → Type 0 = λ o. Contains o.state.rows held.0 in
    let Waits : Outcome → Type 0 = λ o. list_any (is_ended out.p) o.state.waiting ≡ true in
    record {
      row = held.0;
      p = out.p;
      runs = record {
        among = subst Among t.same held.1;
        has = held.3;
        lives = isnt (list_any (is_ended out.p) later.waiting) refl
            (λ w. ⊎_elim (λ was. false≢true (sym out.runs.lives ∙ was)) (λ takes. untaken takes.0) (laws.heard s f out.p (subst Waits (sym t.same) w)));
      };
      same = held.2 ∙ out.same;
      sent = unsent_started number held.0.state ∙ isnt (is_started number held.0.state) refl (λ started. other number known.free out held.0.state held.3 started);
    }
  where
    isnt : (b : Bool) {c : Bool} → c ≡ b → (c ≡ true → ⊥) → c ≡ false
    isnt false e never = e
    isnt true e never = absurd (never e)

    other : (n : Option ℕ) → IsNewNumber n s.rows → (out : IsOut s [] slot) (state : RowState) → has_process out.p state ≡ true → is_started n state ≡ true → ⊥
    other None free out state has started = false≢true started
    other (Some n) free out state has started =
        let same : n ≡ out.p = one_process out.p n state has started in
        false≢true (sym (free out.row out.runs.among) ∙ subst (λ (m : ℕ). has_process m out.row.state ≡ true) (sym same) out.runs.has)

-- a body that is away stays so, unless the event takes a note that its child heeds

less_by_note : (slot : ℕ) (home : Option ℕ) (kept : List Kept) → (home ≡ Some slot → ⊥) → count_away slot kept ≤ count_away slot (came_for home kept)
less_by_note slot None kept other = let same = away_put slot kept stray refl in omega (arith, same)
less_by_note slot (Some k) kept other = away_when_come slot k kept (λ is. other (ap (λ (n : ℕ). Some n) is))

call_near : (slot : ℕ) (waits : Bool) (given : Option ℕ) → Rattle.otp_bodies.specs.Bodies.is_away_from slot (place_of_call waits given) ≡ false
call_near slot true given = refl
call_near slot false None = refl
call_near slot false (Some k) = refl

up_away : (slot : ℕ) (is : Bool) (given : Option ℕ) (kept : List Kept) → count_away slot kept ≤ count_away slot (taken_up is given kept)
up_away slot true given kept = away_when_up slot (home_or_free given) kept
up_away slot false given kept = omega arith

away_stays : (slot : ℕ) (s later : State) (k : Kind) (kept : List Kept) → ((x : Note) → k ≡ kind.Took (item.Note x) → home_of s x ≡ Some slot → ⊥) → count_away slot kept ≤ count_away slot (bodies_after s later k kept)
away_stays slot s later (kind.Opened own) kept other = omega (arith, away_opened slot later.rows (settled [] (is_any_waiting later) kept), away_settled slot [] (is_any_waiting later) kept)
away_stays slot s later (kind.Took (item.Note x)) kept other =
    let came : count_away slot kept ≤ count_away slot (received s later.rows (item.Note x) kept) =
    cond_both (is_end_note x) (came_for (home_of s x) kept) kept (λ (l : List Kept). count_away slot kept ≤ count_away slot l) (λ _. less_by_note slot (home_of s x) kept (λ is. other x refl is)) (λ _. omega arith) in
    omega (arith, came, away_settled slot later.rows (is_any_waiting later) (received s later.rows (item.Note x) kept))
away_stays slot s later (kind.Took (item.Call c x)) kept other =
    let b : Kept = record { origin = origin.Call c; place = place_of_call (is_waited_for s) (slot_given s.rows later.rows) } in
    let came : count_away slot kept ≤ count_away slot (received s later.rows (item.Call c x) kept) =
    cond_both (is_start_call x) (kept ++ b ∷ []) kept (λ (l : List Kept). count_away slot kept ≤ count_away slot l)
    (λ _. let same = away_put slot kept b (call_near slot (is_waited_for s) (slot_given s.rows later.rows)) in omega (arith, same)) (λ _. omega arith) in
    omega (arith, came, away_settled slot later.rows (is_any_waiting later) (received s later.rows (item.Call c x) kept))
away_stays slot s later kind.Resumed kept other =
    omega (arith, up_away slot (is_taken_up s) (slot_given s.rows later.rows) kept, away_settled slot later.rows (is_any_waiting later) (taken_up (is_taken_up s) (slot_given s.rows later.rows) kept))
away_stays slot s later kind.Ticked kept other = omega (arith, away_settled slot later.rows (is_any_waiting later) kept)
away_stays slot s later kind.Stopped kept other = omega (arith, away_settled slot later.rows (is_any_waiting later) kept)

-- a note that a row heeds tells the end of a process
told_heeded : (x : Note) (row : Row) → is_heeded x row ≡ true → (p : ℕ) × (end_number x ≡ Some p)
told_heeded (note.Up p) row h = absurd (false≢true h)
told_heeded (note.Ignored p) row h = (p, refl)
told_heeded (note.Failed p r) row h = (p, refl)
told_heeded (note.Exit p r) row h = (p, refl)

ends_its_child : (s : State) (k : Kind) (slot p : ℕ) (x : Note) → AreApart s.rows → LivesIn s slot p → k ≡ kind.Took (item.Note x) → home_of s x ≡ Some slot → EndsChild s k p
ends_its_child s k slot p x apart live takes home =
    let by : Heeder x s.rows slot = heeder x s.rows slot (heeds_in s x slot home) in
    let told = told_heeded x by.row by.heeds in
    let has : has_process told.0 by.row.state ≡ true = heeds_own x told.0 by.row told.1 by.heeds in
    let same : told.0 ≡ p = (apart by.row live.0.0 told.0 p by.among live.0.1 has live.0.3).0 (by.same ∙ sym live.0.2) in
    (x, takes, told.1 ∙ ap (λ (n : ℕ). Some n) same, (by.row, by.among, by.heeds))

not_to_start : (number : Option ℕ) (p : ℕ) → is_to_start p (at_most_one number) ≡ false → number ≡ Some p → ⊥
not_to_start None p h is = search (rules, is)
not_to_start (Some n) p h is = false≢true (sym h ∙ or_none (n == p) ∙ eq-eqb n p (ap (λ (o : Option ℕ). unwrap_or o n) is))

-- where a process lives after the event, and isn't the one to be started, its child's body is away
out_event : (s : State) (reading : ℕ) (number : Option ℕ) (k : Kind) (kept : List Kept) → Known s number → is_some number ≡ needs_number s reading k → KeepsBodies s [] kept → (slot p : ℕ)
    → LivesIn (step s (record { reading = reading; number = number; kind = k })).state slot p → is_to_start p (at_most_one number) ≡ false
    → 0 < count_away slot (bodies_after s (step s (record { reading = reading; number = number; kind = k })).state k kept)
out_event s reading number k kept known needed keeps slot p live sent =
    let e : Event = record { reading = reading; number = number; kind = k } in
    let later : State = (step s e).state in
    ⊎_elim
    (λ is. absurd (not_to_start number p sent is))
    (λ (was : LivesIn s slot p × (EndsChild s k p → ⊥)).
    omega (arith, keeps.out slot p was.0 refl, away_stays slot s later k kept (λ x takes home. was.1 (ends_its_child s k slot p x known.apart was.0 takes home))))
    (known.lived e needed slot p live)

-- the child whose start is ordered has the process, which hasn't ended

start_order : (P : Effect → Type 0) (xs : List Effect) (n : ℕ) → All P xs → starts_in xs ≡ n ∷ [] → (x : Effect) × P x × (named_by x ≡ Some n)
start_order P [] n h is = let e : ◌≡◌ {A = List ℕ} [] (n ∷ []) = is in absurd (search (rules, e))
start_order P (effect.Start id p ∷ xs) n h is = (effect.Start id p, All-head P (effect.Start id p) xs h, ap (λ (q : ℕ). Some q) (ap first is))
  where
    first : List ℕ → ℕ
    first [] = p
    first (q ∷ qs) = q
start_order P (effect.Ask id p ∷ xs) n h is = start_order P xs n (All-tail P (effect.Ask id p) xs h) is
start_order P (effect.Kill id p ∷ xs) n h is = start_order P xs n (All-tail P (effect.Kill id p) xs h) is
start_order P (effect.Reply c ∷ xs) n h is = start_order P xs n (All-tail P (effect.Reply c) xs h) is
start_order P (effect.Ready ∷ xs) n h is = start_order P xs n (All-tail P effect.Ready xs h) is
start_order P (effect.End x ∷ xs) n h is = start_order P xs n (All-tail P (effect.End x) xs h) is

to_start_after : Laws → (s : State) (reading : ℕ) (number : Option ℕ) (k : Kind) → Known s number → starts_in (step s (record { reading = reading; number = number; kind = k })).orders ≡ at_most_one number
    → AreToStart (step s (record { reading = reading; number = number; kind = k })).state (at_most_one number)
to_start_after laws s reading None k known is = tt
to_start_after laws s reading (Some n) k known is =
    let e : Event = record { reading = reading; number = Some n; kind = k } in
    let later : State = (step s e).state in
    let x = start_order (NamesRowOf later.rows) (step s e).orders n (known.names e) is in
    let named = x.1 n x.2 in (
      named.0,
      record {
        among = named.1;
        has = named.2;
        lives = isnt (list_any (is_ended n) later.waiting) refl
            (λ w. ⊎_elim (λ was. known.unended n refl was) (λ takes. let held : IsHeld s.rows n = takes.1 in false≢true (sym (known.free held.0 held.1) ∙ held.2)) (laws.heard s e n w));
      },
    )
  where
    isnt : (b : Bool) {c : Bool} → c ≡ b → (c ≡ true → ⊥) → c ≡ false
    isnt false e never = e
    isnt true e never = absurd (never e)

-- a slot that no row has has no body

none_out_at : (s : State) (kept : List Kept) → KeepsBodies s [] kept → s.rows ≡ [] → (slot : ℕ) → count_away slot kept ≡ 0
none_out_at s kept keeps none slot = no_more (count_away slot kept) (λ some. let out : IsOut s [] slot = keeps.away slot some in none_among s.rows out.row none out.runs.among)

of_rows : (s : State) (kept : List Kept) → KeepsBodies s [] kept → AreOfRows s.rows kept
of_rows s kept keeps slot none =
    let home : count_home slot kept ≡ 0 = none_home slot kept (isnt (has_body slot kept) (λ h. false≢true (sym none ∙ keeps.there slot h))) in
    let away : count_away slot kept ≡ 0 = no_more (count_away slot kept) (λ some.
    let out : IsOut s [] slot = keeps.away slot some in
    false≢true (sym none ∙ subst (λ (n : ℕ). list_any (has_slot n) s.rows ≡ true) out.same (slot_among s.rows out.row out.runs.among))) in
    omega (arith, home, away)
  where
    isnt : (b : Bool) → (b ≡ true → ⊥) → b ≡ false
    isnt false never = refl
    isnt true never = absurd (never refl)

-- all of it: the bodies are where the children are, after an event too
bodies_event : Laws → (s : State) (reading : ℕ) (number : Option ℕ) (k : Kind) (kept : List Kept) → Known s number → is_some number ≡ needs_number s reading k → (IsOpening k → is_over s.phase ≡ true) → calls_waiting kept ≡ starts_waiting s.waiting → KeepsBodies s [] kept
    → starts_in (step s (record { reading = reading; number = number; kind = k })).orders ≡ at_most_one number
    → KeepsBodies (step s (record { reading = reading; number = number; kind = k })).state (at_most_one number) (bodies_after s (step s (record { reading = reading; number = number; kind = k })).state k kept)
bodies_event laws s reading number k kept known needed opens calls keeps starts =
    let e : Event = record { reading = reading; number = number; kind = k } in
    let later : State = (step s e).state in
    let plan = laws.plan s e in
    let count : count_opened later.flags later.specs ≡ count_opened s.flags s.specs = ap (λ f. count_opened f later.specs) plan.0 ∙ ap (λ l. count_opened s.flags l) plan.1 in
    record {
      home = λ row among home. home_after laws s reading number k kept known opens calls keeps row among (inl home);
      unsent = λ row among unsent. home_after laws s reading number k kept known opens calls keeps row among (inr (sym (unsent_started number row.state) ∙ unsent));
      one_start = to_start_after laws s reading number k known starts;
      away = λ slot some. out_after laws s reading number k kept known keeps slot some;
      out = λ slot p live sent. out_event s reading number k kept known needed keeps slot p live sent;
      there = λ slot home. there_after slot s later k kept home;
      one_body = λ slot. one_after slot s later k kept (of_rows s kept keeps) (keeps.one_body slot) (λ own is j. none_out_at s kept keeps (known.bare (opens (opening own is))) j) (keeps.one_given slot);
      given = ap (λ (n : ℕ). are_given n (bodies_after s later k kept)) count ∙ given_after (count_opened s.flags s.specs) s later k kept keeps.given;
      one_given = λ n. let same = count_after n s later k kept in let few = keeps.one_given n in omega (arith, same, few);
      own = own_after s later k kept keeps.own;
    }
  where
    opening : (own : ℕ) → k ≡ kind.Opened own → IsOpening k
    opening own is = subst IsOpening (sym is) tt

pub bodies_happened : Laws → (old new : OfficeView) (reading : ℕ) (k : Kind) (kept : List Kept) → KeepsOffice old → Happened reading k old new → old.outbox ≡ [] → (IsOpening k → is_over (state_of old.core).phase ≡ true)
    → calls_waiting kept ≡ starts_waiting (state_of old.core).waiting → HasBodies old kept → HasBodies new (bodies_after (state_of old.core) (state_of new.core) k kept)
bodies_happened laws old new reading k kept keeps h empty opens calls has =
    let s : State = state_of old.core in
    let e : Event = record { reading = reading; number = h.number; kind = k } in
    let starts : starts_in (orders_in (step s e).orders) ≡ at_most_one h.number = event_starts laws.works s e h.needed in
    let plain : starts_in (step s e).orders ≡ at_most_one h.number = sym (Rattle.otp_bodies.proofs.StartOrders.starts_ordered (step s e).orders) ∙ starts in
    let Before : List Effect → Type 0 = λ l. KeepsBodies s (starts_in l) kept in
    let After : State → Type 0 = λ later. KeepsBodies later (at_most_one h.number) (bodies_after s later k kept) in
    let Unsent : List ℕ → Type 0 = λ l. KeepsBodies (state_of new.core) l (bodies_after s (state_of new.core) k kept) in
    subst Unsent (sym (ap (λ (l : List Effect). starts_in l) h.outbox ∙ starts))
    (subst After (sym (later_is old new reading k laws.goes_on h))
    (bodies_event laws s reading h.number k kept (known laws old h.number keeps h.rises) h.needed opens calls (subst Before empty has) plain))
