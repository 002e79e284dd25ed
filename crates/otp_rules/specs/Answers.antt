-- The answers that an event gives, and the orders that tell of them.
use Rattle.std.specs.Prelude.{◌≡◌, ℕ, ◌++◌, List, Option, None, Some, ⊤, All, map}
use Rattle.std.specs.List.{filter_map}
use Rattle.otp_rules.specs.declared.call.Answered.{Answered}
use Rattle.otp_rules.specs.declared.event.Effect.{Effect}
use Rattle.otp_rules.specs.declared.event.Effect.TheVariants as effect
use Rattle.otp_rules.specs.declared.event.Event.{Event}
use Rattle.otp_rules.specs.State.{State}
use Rattle.otp_rules.specs.Run.{reply_of}
use Rattle.otp_rules.specs.Step.{step}

-- the call whose answer an order tells of
abbrev pub answered_in : Effect → Option ℕ
answered_in (effect.Reply c) = Some c
answered_in _ = None

-- the answers that an event gives are those that its orders tell of, in their order
abbrev pub AnswersTold : Type 0
AnswersTold =
    (s : State) (e : Event)
    → (given : List Answered) × ((step s e).state.replies ≡ s.replies ++ given) × (map (λ (a : Answered). a.call) given ≡ filter_map answered_in (step s e).orders)

-- of all answers, those that are kept have the one that the order tells of
abbrev pub IsKeptIn : List Answered → List Answered → Effect → Type 0
IsKeptIn all kept (effect.Reply c) = reply_of c all ≡ reply_of c kept
IsKeptIn all kept _ = ⊤

-- so it is of each order of an event, whatever was answered before
abbrev pub AnswersKept : Type 0
AnswersKept = (replies : List Answered) (s : State) (e : Event) → All (IsKeptIn (replies ++ (step s e).state.replies) (step s e).state.replies) (step s e).orders
