-- One event of a scene.
use Rattle.std.specs.Prelude.{◌≡◌, ℕ, ◌+◌, ◌<◌, ◌≤◌, Bool, true, false, List, [], ◌∷◌, ◌++◌, Option, Some, None, refl, drop, length, unwrap_or, if◌then◌else◌, not}
use Rattle.std.proofs.Common.{◌∙◌, ⊎_elim, ap, arith, length-append, sym}
use Rattle.std.proofs.Math.Seq.{drop-append_seam}
use Rattle.std.specs.List.{filter, filter_map}
use Rattle.otp_core.specs.declared.cut.TheConstants.{MAX_EVENTS_IN_ALL}
use Rattle.otp_rules.specs.Effects.{is_reply}
use Rattle.otp_spec.specs.declared.limits.TheConstants.{MAX_READING}
use Rattle.otp_core.specs.Happened.{number_after}
use Rattle.otp_driver.specs.Members.{Happens, IsRefused, IsSpent, Member, greatest, state_in}
use Rattle.otp_driver.specs.declared.driven.fault.DriveFault.TheVariants.{Spent}
use Rattle.otp_reason.specs.declared.note.Note.{Note}
use Rattle.otp_rules.specs.Needs.{last_from, last_number, needs_number}
use Rattle.otp_rules.specs.declared.event.Effect.{Effect}
use Rattle.otp_rules.specs.declared.event.Event.{Event}
use Rattle.otp_rules.specs.declared.event.Kind.{Kind}
use Rattle.otp_rules.specs.Run.{state_after}
use Rattle.otp_rules.specs.State.{State}
use Rattle.otp_rules.specs.Step.{step}
use Rattle.otp_costs.specs.Scene.{Scene, after_event, event_for, happened, note_of}
use Rattle.otp_costs.specs.Taking.{Stays, pending}

-- one event more: the state, and the last number
pushed : (s : State) (es : List Event) (e : Event) → state_after s (es ++ e ∷ []) ≡ (step (state_after s es) e).state
pushed s [] e = refl
pushed s (x ∷ xs) e = pushed (step s x).state xs e

last_pushed : (p : ℕ) (es : List Event) (e : Event) → last_from p (es ++ e ∷ []) ≡ unwrap_or e.number (last_from p es)
last_pushed p [] e = refl
last_pushed p (x ∷ xs) e = last_pushed (unwrap_or x.number p) xs e

at_most_next : (number : Option ℕ) (needs : Bool) (last : ℕ) → number ≡ (if needs then Some (last + 1) else None) → unwrap_or number last ≤ last + 1
at_most_next None needs last h = omega arith
at_most_next (Some n) false last h = cc
at_most_next (Some n) true last h = let e : n ≡ last + 1 = cc in omega (arith, e)

-- there are no more numbers than events, one event more
still : (history longer : List Event) (e : Event) (needs : Bool) → longer ≡ history ++ e ∷ [] → e.number ≡ number_after (last_number history) needs
    → last_number history ≤ length history → last_number longer ≤ length longer
still history longer e needs more next few =
    let count : length longer ≡ length history + 1 = ap (λ (h : List Event). length h) more ∙ length-append history (e ∷ []) in
    let last : last_number longer ≡ unwrap_or e.number (last_number history) = ap last_number more ∙ last_pushed 0 history e in
    let most : unwrap_or e.number (last_number history) ≤ last_number history + 1 = at_most_next e.number needs (last_number history) next in
    omega (arith, count, last, most, few)

-- an event of a supervisor whose orders were taken, and are taken again after it
pub record Went (time : ℕ) (k : Kind) (m mid taken : Member) (last : ℕ) : Type 0 where
  pub event : Event
  pub event_is : event ≡ record { reading = time; number = number_after (last_number m.history) (needs_number (state_in m) time k); kind = k }
  pub history : taken.history ≡ m.history ++ event ∷ []
  pub state : state_in taken ≡ (step (state_in m) event).state
  pub orders : pending mid ≡ (step (state_in m) event).orders
  pub last_is : last ≡ last_number taken.history
  pub numbers : last_number taken.history ≤ length taken.history
  pub given : taken.given ≡ m.given

pub went : (time last : ℕ) (k : Kind) (m mid taken : Member) (after : ℕ) → Happens time last k m mid after → Stays mid taken
    → m.taken ≡ length m.effects → last ≡ last_number m.history → last_number m.history ≤ length m.history → Went time k m mid taken after
went time last k m mid taken after h stays all same few =
    let e : Event = record { reading = time; number = h.0; kind = k } in
    let fresh : List Effect = (step (state_in m) e).orders in
    let next : h.0 ≡ number_after (last_number m.history) (needs_number (state_in m) time k) =
    h.1 ∙ ap (λ (l : ℕ). number_after l (needs_number (state_in m) time k)) same in
    let base : taken.base ≡ m.base = stays.base ∙ ap (λ (x : Member). x.base) h.3 in
    let more : taken.history ≡ m.history ++ e ∷ [] = stays.history ∙ ap (λ (x : Member). x.history) h.3 in
    record {
      event = e;
      event_is = ap (λ (o : Option ℕ). record { reading = time; number = o; kind = k }) next;
      history = more;
      state = ap (λ (s : State). state_after s taken.history) base ∙ ap (state_after m.base) more ∙ pushed m.base m.history e;
      orders = ap pending h.3 ∙ ap (λ (n : ℕ). drop n (m.effects ++ fresh)) all ∙ drop-append_seam m.effects fresh;
      last_is = h.2 ∙ ap (λ (l : ℕ). unwrap_or h.0 l) same ∙ sym (ap last_number more ∙ last_pushed 0 m.history e);
      numbers = still m.history taken.history e (needs_number (state_in m) time k) more next few;
      given = stays.given ∙ ap (λ (x : Member). x.given) h.3;
    }

-- there are orders for as many as were taken
pub within : (time last : ℕ) (k : Kind) (m mid : Member) (after : ℕ) → Happens time last k m mid after → m.taken ≡ length m.effects → mid.taken ≤ length mid.effects
within time last k m mid after h all =
    let fresh : List Effect = (step (state_in m) (record { reading = time; number = h.0; kind = k })).orders in
    let same : mid.taken ≡ m.taken = ap (λ (x : Member). x.taken) h.3 in
    let more : length mid.effects ≡ length m.effects + length fresh = ap (λ (x : Member). length x.effects) h.3 ∙ length-append m.effects fresh in
    omega (arith, same, more, all)

-- where the numbers are used up there were as many events
pub spent : (last : ℕ) (m : Member) → IsRefused last m Spent → m.given ≡ 0 → last ≡ last_number m.history → last_number m.history ≤ length m.history → MAX_EVENTS_IN_ALL ≤ length m.history
spent last m refused none same few =
    ⊎_elim
    (λ memory. cc)
    (⊎_elim
    (λ (used : (Spent ≡ Spent) × IsSpent last m). ⊎_elim (λ (most : MAX_READING ≤ last). omega (arith, most, same, few)) (λ (less : last < greatest m). absurd (omega (arith, less, none, same))) used.1)
    (⊎_elim (λ waits. cc) (λ (full : (Spent ≡ Spent) × (MAX_EVENTS_IN_ALL ≤ length m.history)). full.1)))
    refused

-- orders but for answers
abbrev pub asked : List Effect → List Effect
asked orders = filter (λ order. not (is_reply order)) orders

-- a scene by its parts
pub happened-is : (time : ℕ) (kind : Kind) (old : Scene) (event : Event) (state : State) (last : ℕ) (orders : List Effect) (notes : List Note) (events : ℕ)
    → event ≡ event_for time kind old → state ≡ (step old.state event).state → last ≡ unwrap_or event.number old.last
    → orders ≡ old.orders ++ asked (step old.state event).orders → notes ≡ old.notes ++ filter_map note_of (step old.state event).orders
    → events ≡ old.events + 1
    → record { state = state; last = last; orders = orders; notes = notes; events = events } ≡ happened time kind old
unfolding happened after_event
happened-is time kind old event state last orders notes events is is_state is_last is_orders is_notes is_events =
    ap (λ (s : State). record { state = s; last = last; orders = orders; notes = notes; events = events }) is_state
    ∙ ap (λ (n : ℕ). record { state = (step old.state event).state; last = n; orders = orders; notes = notes; events = events }) is_last
    ∙ ap (λ (os : List Effect). record { state = (step old.state event).state; last = unwrap_or event.number old.last; orders = os; notes = notes; events = events }) is_orders
    ∙ ap (λ (ns : List Note). record { state = (step old.state event).state; last = unwrap_or event.number old.last; orders = old.orders ++ asked (step old.state event).orders; notes = ns; events = events }) is_notes
    ∙ ap (λ (n : ℕ). record { state = (step old.state event).state; last = unwrap_or event.number old.last; orders = old.orders ++ asked (step old.state event).orders; notes = old.notes ++ filter_map note_of (step old.state event).orders; events = n }) is_events
    ∙ ap (λ (e : Event). after_event e old) is

-- one event more
pub happened_events : (time : ℕ) (kind : Kind) (s : Scene) → (happened time kind s).events ≡ s.events + 1
unfolding happened after_event
happened_events time kind s = refl

-- the last number after an event whose number is counted
pub last_after : (history longer : List Event) (e : Event) → longer ≡ history ++ e ∷ [] → last_number longer ≡ unwrap_or e.number (last_number history)
last_after history longer e more = ap last_number more ∙ last_pushed 0 history e
