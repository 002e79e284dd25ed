-- A run from a base that a cut made agrees with the whole run.
use Rattle.std.specs.Prelude.{◌≡◌, ℕ, ◌++◌, Bool, true, false, List, [], ◌∷◌, refl, if◌then◌else◌}
use Rattle.std.proofs.Common.{◌∙◌, ap, sym, subst}
use Rattle.std.proofs.lemmas.List.{append-nil}
use Rattle.otp_rules.specs.declared.call.Answered.{Answered}
use Rattle.otp_rules.specs.declared.ending.SupEnd.{SupEnd}
use Rattle.otp_rules.specs.declared.event.Effect.{Effect}
use Rattle.otp_rules.specs.declared.event.Event.{Event}
use Rattle.otp_rules.specs.declared.event.Kind.{Kind}
use Rattle.otp_rules.specs.declared.event.Kind.TheVariants as kind
use Rattle.otp_rules.specs.State.{Outcome, State, is_over}
use Rattle.otp_rules.specs.Step.{step}
use Rattle.otp_rules.specs.Run.{orders_of, state_after}
use Rattle.otp_rules.specs.Progress.{decided}
use Rattle.otp_rules.specs.Cuts.{Earlier, older, base_of, left_of, ShowsAlike, CutsAgree, StepForgets, NeedForgets}
use Rattle.otp_rules.specs.Needs.{is_start, needs_number}
use Rattle.std.specs.List.{list_any}
use Rattle.std.specs.Prelude.{None}
use Rattle.otp_rules.proofs.Earlier.{step-behind}

-- answers and ends alone
abbrev plain : List Answered → List (ℕ × SupEnd) → Earlier
plain rs es = record { stamps = []; replies = rs; ends = es }

-- the outcome of a step where these stand before its own
abbrev outcome_under : Earlier → State → Event → Outcome
outcome_under x s e = record { state = older x (step s e).state; orders = (step s e).orders }

stays_plain_if : (b : Bool) (rs : List Answered) (es : List (ℕ × SupEnd)) → (if b then plain rs es else plain rs es) ≡ plain rs es
stays_plain_if true rs es = refl
stays_plain_if false rs es = refl

stays_plain : (rs : List Answered) (es : List (ℕ × SupEnd)) (k : Kind) (s : State) → left_of (plain rs es) k s ≡ plain rs es
stays_plain rs es (kind.Opened own) s = stays_plain_if (is_over s.phase) rs es
stays_plain rs es (kind.Took x) s = refl
stays_plain rs es kind.Resumed s = refl
stays_plain rs es kind.Ticked s = refl
stays_plain rs es kind.Stopped s = refl

pub step-plain : (rs : List Answered) (es : List (ℕ × SupEnd)) (s : State) (e : Event) → step (older (plain rs es) s) e ≡ record { state = older (plain rs es) (step s e).state; orders = (step s e).orders }
step-plain rs es s e =
    let Says : Earlier → Type 0 = λ x. ShowsAlike x (decided s e).flags (decided s e).stamps in
    step-behind (plain rs es) s e refl (subst Says (sym (stays_plain rs es e.kind s)) refl)
    ∙ ap (λ (x : Earlier). outcome_under x s e) (stays_plain rs es e.kind s)

pub run-plain : (rs : List Answered) (es : List (ℕ × SupEnd)) (s : State) (events : List Event)
    → (orders_of (older (plain rs es) s) events ≡ orders_of s events) × (state_after (older (plain rs es) s) events ≡ older (plain rs es) (state_after s events))
run-plain rs es s [] = (refl, refl)
run-plain rs es s (e ∷ events) =
    let one : step (older (plain rs es) s) e ≡ outcome_under (plain rs es) s e = step-plain rs es s e in
    let rest = run-plain rs es (step s e).state events in (
      ap (λ (o : Outcome). o.orders ++ orders_of o.state events) one ∙ ap (λ (os : List Effect). (step s e).orders ++ os) rest.0,
      ap (λ (o : Outcome). state_after o.state events) one ∙ rest.1,
    )

-- a state is its base with its answers and ends
with_base : (s : State) → s ≡ older (plain s.replies s.ends) (base_of s)
with_base s =
    sym (ap (λ (rs : List Answered). record s { replies = rs; ends = s.ends ++ [] }) (append-nil s.replies)
    ∙ ap (λ (es : List (ℕ × SupEnd)). record s { ends = es }) (append-nil s.ends))

pub cuts_agree_law : CutsAgree
cuts_agree_law s events =
    let run = run-plain s.replies s.ends (base_of s) events in (
      sym run.0 ∙ ap (λ (x : State). orders_of x events) (sym (with_base s)),
      ap (λ (x : State). state_after x events) (with_base s) ∙ run.1,
    )

pub step_forgets_law : StepForgets
step_forgets_law rs es s e = let one = step-plain rs es s e in (ap (λ (o : Outcome). o.state) one, ap (λ (o : Outcome). o.orders) one)

pub need_forgets_law : NeedForgets
unfolding needs_number
need_forgets_law rs es s reading kind =
    ap (λ (o : Outcome). list_any is_start o.orders) (step-plain rs es s (record { reading = reading; number = None; kind = kind }))
