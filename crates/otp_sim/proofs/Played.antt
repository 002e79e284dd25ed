use Rattle.std.proofs.Common.{◌≡◌, ℕ, ◌+◌, ◌-◌, ◌<◌, ◌≤◌, ◌++◌, ◌==◌, Bool, false, List, [], ◌∷◌, ◌∙◌, Option, None, Some, ap, arith, inl, inr, length, refl, sym}
use Rattle.std.specs.Prelude.{if◌then◌else◌, true, unwrap_or}
use Rattle.otp_core.specs.Happened.{IsEventFault, number_after}
use Rattle.otp_core.specs.View.{View}
use Rattle.otp_core.specs.declared.cut.TheConstants.{MAX_EVENTS_IN_ALL}
use Rattle.otp_core.specs.declared.happening.EventFault.{EventFault}
use Rattle.otp_core.specs.declared.happening.EventFault.TheVariants as fault
use Rattle.std.proofs.lemmas.Bool.{eqb-true}
use Rattle.otp_rules.specs.declared.event.Event.{Event}
use Rattle.otp_rules.specs.declared.event.Kind.{Kind}
use Rattle.otp_rules.specs.declared.event.Effect.{Effect}
use Rattle.otp_rules.specs.Needs.{last_from, last_number}
use Rattle.otp_rules.specs.State.{State}
use Rattle.otp_rules.specs.Step.{step}
use Rattle.otp_sim.specs.declared.driven.LinesEnd.TheVariants as stop
use Rattle.std.specs.List.{All}
use Rattle.std.proofs.lemmas.List.Elements.{All-head, All-tail}
use Rattle.otp_rules.specs.Answers.{IsKeptIn}
use Rattle.otp_rules.specs.declared.call.Answered.{Answered}
use Rattle.otp_rules.specs.declared.call.Reply.{Reply}
use Rattle.otp_rules.specs.declared.event.Effect.TheVariants as effect
use Rattle.otp_text.specs.Effects.{effect_line}
use Rattle.otp_sim.specs.Sim.{Sim, event_of, happen, orders_text, stepped, told_by}

-- what happens is the event, its state and its printed orders
pub happened : (kind : Kind) (s : Sim) (event : Event) (state : State) (processes room : ℕ) (text : List ℕ) →
    (s.room == 0) ≡ false → event ≡ event_of kind s → state ≡ (step s.state event).state → processes ≡ unwrap_or event.number s.processes → room ≡ s.room - 1 →
    text ≡ s.text ++ orders_text state.replies (step s.state event).orders →
    record s { state = state; processes = processes; room = room; text = text } ≡ happen kind s
unfolding happen stepped
happened kind s event state processes room text some is_event is_state is_processes is_room is_text =
    let next : State = (step s.state event).state in
    let orders : List Effect = (step s.state event).orders in
    let printed : List ℕ = s.text ++ orders_text next.replies orders in
    ap (λ (t : List ℕ). record s { state = state; processes = processes; room = room; text = t }) (is_text ∙ ap (λ (x : State). s.text ++ orders_text x.replies orders) is_state)
    ∙ ap (λ (x : State). record s { state = x; processes = processes; room = room; text = printed }) is_state
    ∙ ap (λ (n : ℕ). record s { state = next; processes = n; room = room; text = printed }) is_processes
    ∙ ap (λ (n : ℕ). record s { state = next; processes = unwrap_or event.number s.processes; room = n; text = printed }) is_room
    ∙ ap (λ (e : Event). stepped e (step s.state e) s) is_event
    ∙ sym (ap (λ (b : Bool). if b then record s { end = Some stop.HistoryFull } else stepped (event_of kind s) (step s.state (event_of kind s)) s) some)

last_from_pushed : (p : ℕ) (es : List Event) (e : Event) → last_from p (es ++ e ∷ []) ≡ unwrap_or e.number (last_from p es)
last_from_pushed p [] e = refl
last_from_pushed p (x ∷ xs) e = last_from_pushed (unwrap_or x.number p) xs e

-- the last process number, one event more
pub last_pushed : (es longer : List Event) (e : Event) → longer ≡ es ++ e ∷ [] → last_number longer ≡ unwrap_or e.number (last_number es)
last_pushed es longer e more = ap last_number more ∙ last_from_pushed 0 es e

pub at_most_next : (number : Option ℕ) (draws : Bool) (p : ℕ) → number ≡ number_after p draws → unwrap_or number p ≤ p + 1
at_most_next None draws p h = omega arith
at_most_next (Some n) false p h = cc
at_most_next (Some n) true p h = let e : n ≡ p + 1 = cc in omega (arith, e)

pub few_left : (n : ℕ) → n < 4611686018427387904 → (4611686018427387904 - n == 0) ≡ false
few_left n few =
    (elim (4611686018427387904 - n == 0) as (λ b. (4611686018427387904 - n == 0) ≡ b → b ≡ false) [
      | true ↦ λ e. let none : 4611686018427387904 - n ≡ 0 = eqb-true (4611686018427387904 - n) 0 e in absurd (omega (arith, few, none))
      | false ↦ λ e. refl
    ]) refl

-- a core that takes no event for this has had all
pub spent : (v : View) (why : EventFault) → why ≡ fault.HistoryFull → IsEventFault v why → MAX_EVENTS_IN_ALL ≤ length v.history
spent v why is (inl memory) = cc
spent v why is (inr (inl (waits, _, _))) = cc
spent v why is (inr (inr (_, many))) = many

-- what is printed for an order whose answer is kept
told_same : (all kept : List Answered) (e : Effect) → IsKeptIn all kept e → told_by e kept ≡ told_by e all
unfolding told_by
told_same all kept (effect.Start _ _) h = refl
told_same all kept (effect.Ask _ _) h = refl
told_same all kept (effect.Kill _ _) h = refl
told_same all kept (effect.Reply c) h = sym h
told_same all kept effect.Ready h = refl
told_same all kept (effect.End _) h = refl

pub texts_same : (all kept : List Answered) (orders : List Effect) → All (IsKeptIn all kept) orders → orders_text kept orders ≡ orders_text all orders
unfolding orders_text
texts_same all kept [] h = refl
texts_same all kept (e ∷ rest) h =
    ap (λ (r : Option Reply). effect_line e r ++ orders_text kept rest) (told_same all kept e (All-head (IsKeptIn all kept) e rest h))
    ∙ ap (λ (text : List ℕ). effect_line e (told_by e all) ++ text) (texts_same all kept rest (All-tail (IsKeptIn all kept) e rest h))
