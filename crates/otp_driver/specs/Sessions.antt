-- Orders that are taken one by one (own).
use Rattle.std.specs.Prelude.{◌≡◌, ◌⊎◌, ℕ, Option, Some, None, Result, Ok, Err, position, slice_get}
use Rattle.otp_rules.specs.declared.call.Answered.{Answered}
use Rattle.otp_rules.specs.declared.event.Effect.{Effect}
use Rattle.otp_rules.specs.declared.event.Effect.TheVariants as effect
use Rattle.otp_driver.specs.declared.driven.fault.DriveFault.{DriveFault}
use Rattle.otp_driver.specs.declared.driven.fault.DriveFault.TheVariants.{OutOfMemory}
use Rattle.otp_driver.specs.declared.order.Order.{Order}
use Rattle.otp_driver.specs.declared.order.What.{What}
use Rattle.otp_driver.specs.declared.order.What.TheVariants as what
use Rattle.otp_driver.specs.declared.route.Route.TheVariants.{Outside}
use Rattle.otp_driver.specs.declared.session.Session.{Session}
use Rattle.otp_driver.specs.Driven.{Driven, GoesOn, IsAt, IsIdle, IsNext, RefusesMore, Takes}
use Rattle.otp_driver.specs.Members.{Member, has_order, state_in}
use Rattle.otp_driver.specs.Orders.{what_of}
use Rattle.otp_driver.specs.Runs.{AllDone, Comes, Ordered, TakesNext}
use Rattle.otp_driver.specs.Replies.{IsAnswerTo}

-- the order is what the supervisor at this place orders next
pub record IsToldAt (place : ℕ) (order : Order) (t : Driven) : Type 0 where
  pub member : Member
  pub at : IsAt t.members place member
  pub effect : Effect
  pub is_next : slice_get member.effects member.taken ≡ Some effect
  pub supervisor : order.supervisor ≡ place
  pub what_is : order.what ≡ what_of (state_in member).rows effect

-- where an order tells that a call was answered, the answer is kept from then on; else the last one stays
abbrev pub KeepsOf : What → ℕ → Driven → Option Answered → Option Answered → Type 0
KeepsOf (what.Reply call) place t old new = (m : Member) × IsAt t.members place m × IsAnswerTo call (state_in m).replies new
KeepsOf _ place t old new = new ≡ old

-- where the next order of the supervisor at this place, which is this one, tells that a call was answered, the answer is kept from
-- then on; else the last one stays
abbrev pub KeepsAt : Effect → ℕ → Driven → Option Answered → Option Answered → Type 0
KeepsAt (effect.Reply call) place t old new = (m : Member) × IsAt t.members place m × IsAnswerTo call (state_in m).replies new
KeepsAt _ place t old new = new ≡ old

-- the next order of the supervisor at this place tells that this call was answered
abbrev pub AnswersAt : Driven → ℕ → ℕ → Type 0
AnswersAt t place call = (m : Member) → IsAt t.members place m → slice_get m.effects m.taken ≡ Some (effect.Reply call)

-- the tree goes on by itself until an order for the outside is next at this place; it isn't taken by that
pub record Readied (place : ℕ) (old new : Session) : Type 0 where
  pub goes_on : GoesOn old.driver new.driver
  pub effect : Effect
  pub next : IsNext new.driver place effect Outside
  -- no supervisor before it has one
  pub first : position has_order new.driver.members ≡ Some place
  pub keeps : KeepsAt effect place new.driver old.answer new.answer

-- the tree goes on by itself until an order for the outside is next; that is told, and taken by that
pub record Told (order : Order) (old new : Session) : Type 0 where
  pub mid : Driven
  pub goes_on : GoesOn old.driver mid
  pub place : ℕ
  pub supervisor : order.supervisor ≡ place
  pub effect : Effect
  pub next : IsNext mid place effect Outside
  -- no supervisor before it has one
  pub first : position has_order mid.members ≡ Some place
  pub what_is : order.what ≡ what_of (state_in next.member).rows effect
  pub takes : Takes place mid new.driver
  pub keeps : KeepsOf order.what order.supervisor mid old.answer new.answer

-- the order that a call was answered is next
pub record IsReplyNext (t : Driven) : Type 0 where
  pub place : ℕ
  pub call : ℕ
  pub next : IsNext t place (effect.Reply call) Outside

-- why no order is told: the tree doesn't go on; or there was no memory for the copy of an answer, whose order is next then
abbrev pub RefusesNext : DriveFault → Driven → Driven → Type 0
RefusesNext why old new = RefusesMore why old new ⊎ ((why ≡ OutOfMemory) × IsReplyNext new)

-- an order, or none, since nothing is left to do; a refusal tells none, and takes none
abbrev pub NextTold : Result (Option Order) DriveFault → Session → Session → Type 0
NextTold (Ok (Some order)) old new = Told order old new
NextTold (Ok None) old new = GoesOn old.driver new.driver × IsIdle new.driver × (new.answer ≡ old.answer)
NextTold (Err why) old new = GoesOn old.driver new.driver × (new.answer ≡ old.answer) × RefusesNext why old.driver new.driver

-- where an order is next, if there is one, since nothing is left to do; a refusal tells none
abbrev pub IsReadied : Result (Option ℕ) DriveFault → Session → Session → Type 0
IsReadied (Ok (Some place)) old new = Readied place old new
IsReadied (Ok None) old new = GoesOn old.driver new.driver × IsIdle new.driver × (new.answer ≡ old.answer)
IsReadied (Err why) old new = GoesOn old.driver new.driver × (new.answer ≡ old.answer) × RefusesNext why old.driver new.driver

-- each answer to who asks for the next order is what comes of a run in which that is taken
abbrev pub NextsRun : Type 0
NextsRun =
    (old new : Session)
    → ((order : Order) → NextTold (Ok (Some order)) old new → Comes TakesNext (Ordered order) old.driver new.driver)
    × (NextTold (Ok None) old new → Comes TakesNext AllDone old.driver new.driver)
