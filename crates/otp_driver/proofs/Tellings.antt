-- What is told of an order is what the order says.
use Rattle.std.specs.Prelude.{◌≡◌, ℕ, List, Option, Some, refl, slice_get}
use Rattle.std.proofs.Common.{◌∙◌, ap, subst, sym}
use Rattle.std.proofs.lemmas.List.{get_or_default}
use Rattle.otp_rules.specs.declared.event.Effect.{Effect}
use Rattle.otp_rules.specs.declared.event.Effect.TheVariants as effect
use Rattle.otp_driver.specs.declared.order.Order.{Order}
use Rattle.otp_rules.specs.declared.call.Answered.{Answered}
use Rattle.otp_table.specs.declared.row.Row.{Row}
use Rattle.otp_driver.specs.declared.route.Route.{Route}
use Rattle.otp_driver.specs.Driven.{Driven, IsAt, IsNext, IsOutside}
use Rattle.otp_driver.specs.Members.{Member, state_in}
use Rattle.otp_driver.specs.Orders.{what_of}
use Rattle.otp_driver.specs.Routes.{route_of}
use Rattle.otp_driver.specs.Sessions.{AnswersAt, IsReplyNext, IsToldAt, KeepsAt, KeepsOf}
use Rattle.otp_driver.specs.Replies.{IsAnswerTo}

same-member : (ms : List Member) (p : ℕ) (a b : Member) → IsAt ms p a → IsAt ms p b → a ≡ b
same-member ms p a b first second = first.is ∙ (get_or_default ms p a b first.inside ∙ sym second.is)

some-one : (a b : Effect) → Some a ≡ Some b → a ≡ b
some-one a b same = cc

-- what is told of the next order is what the order that is next for the outside says
pub told_next : (t : Driven) (place : ℕ) (order : Order) (outside : IsOutside t place) → IsToldAt place order t
    → order.what ≡ what_of (state_in outside.next.member).rows outside.order
told_next t place order outside told =
    let m : outside.next.member ≡ told.member = same-member t.members place outside.next.member told.member outside.next.at told.at in
    let s : Some outside.order ≡ Some told.effect =
    sym outside.next.order_is ∙ (ap (λ (x : Member). slice_get x.effects x.taken) m ∙ told.is_next) in
    let e : outside.order ≡ told.effect = some-one outside.order told.effect s in
    subst (λ (x : Member). order.what ≡ what_of (state_in x).rows outside.order) (sym m)
    (subst (λ (x : Effect). order.what ≡ what_of (state_in told.member).rows x) (sym e) told.what_is)

-- an answer that is kept for an order is kept for what is told of it
pub keeps_what : (e : Effect) (rows : List Row) (place : ℕ) (t : Driven) (old new : Option Answered) → KeepsAt e place t old new
    → KeepsOf (what_of rows e) place t old new
unfolding what_of
keeps_what (effect.Start _ _) rows place t old new keeps = keeps
keeps_what (effect.Ask _ _) rows place t old new keeps = keeps
keeps_what (effect.Kill _ _) rows place t old new keeps = keeps
keeps_what (effect.Reply _) rows place t old new keeps = keeps
keeps_what effect.Ready rows place t old new keeps = keeps
keeps_what (effect.End _) rows place t old new keeps = keeps

-- an order that tells of no answer leaves the last one
pub keeps_none : (e : Effect) (place : ℕ) (t : Driven) (old : Option Answered) → ((call : ℕ) → e ≡ effect.Reply call → ⊥) → KeepsAt e place t old old
keeps_none (effect.Start _ _) place t old none = refl
keeps_none (effect.Ask _ _) place t old none = refl
keeps_none (effect.Kill _ _) place t old none = refl
keeps_none (effect.Reply call) place t old none = absurd (none call refl)
keeps_none effect.Ready place t old none = refl
keeps_none (effect.End _) place t old none = refl

-- and one that tells of an answer has it kept
pub keeps_some : (t : Driven) (place : ℕ) (e : Effect) (r : Route) (call : ℕ) (old new : Option Answered) → IsNext t place e r → AnswersAt t place call
    → ((m : Member) → IsAt t.members place m → IsAnswerTo call (state_in m).replies new) → KeepsAt e place t old new
keeps_some t place e r call old new next answers kept =
    let s : Some e ≡ Some (effect.Reply call) = sym next.order_is ∙ answers next.member next.at in
    subst (λ (x : Effect). KeepsAt x place t old new) (sym (some-one e (effect.Reply call) s)) (next.member, next.at, kept next.member next.at)

-- an answer that an order tells of: that order is the next one for the outside
pub tells_next : (t : Driven) (place call : ℕ) → IsOutside t place → AnswersAt t place call → IsReplyNext t
unfolding route_of
tells_next t place call outside answers =
    let m : Member = outside.next.member in
    record { place = place; call = call; next = record { member = m; at = outside.next.at; order_is = answers m outside.next.at; route_is = refl } }
