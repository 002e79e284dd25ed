-- Orders are told by the answers that are kept as by all that were given.
use Rattle.std.specs.Prelude.{◌≡◌, ℕ, Bool, List, [], ◌∷◌, ◌++◌, Option, codes, refl, if◌then◌else◌}
use Rattle.std.specs.List.{All}
use Rattle.std.proofs.Common.{◌∙◌, ap, sym}
use Rattle.std.proofs.lemmas.List.Elements.{All-head, All-tail}
use Rattle.otp_rules.specs.Answers.{IsKeptIn}
use Rattle.otp_rules.specs.declared.call.Answered.{Answered}
use Rattle.otp_rules.specs.declared.call.Reply.{Reply}
use Rattle.otp_rules.specs.declared.event.Effect.{Effect}
use Rattle.otp_rules.specs.declared.event.Effect.TheVariants as effect
use Rattle.otp_text.specs.Effects.{effect_line}
use Rattle.otp_trial.specs.Story.{heading, is_told, line_if, order_text, time_text, told_line, told_lines}
use Rattle.otp_trial.specs.declared.story.starts.Started.{Started}

order_same : (path : List ℕ) (starts : List Started) (all kept : List Answered) (e : Effect) → IsKeptIn all kept e
    → order_text path starts e kept ≡ order_text path starts e all
unfolding order_text
order_same path starts all kept (effect.Start _ _) h = refl
order_same path starts all kept (effect.Ask _ _) h = refl
order_same path starts all kept (effect.Kill _ _) h = refl
order_same path starts all kept (effect.Reply c) h = ap (λ (r : Option Reply). heading path ++ effect_line (effect.Reply c) r) (sym h)
order_same path starts all kept effect.Ready h = refl
order_same path starts all kept (effect.End _) h = refl

line_same : (tells : Bool) (time : ℕ) (path : List ℕ) (starts : List Started) (all kept : List Answered) (e : Effect) → IsKeptIn all kept e
    → line_if tells time path starts kept e ≡ line_if tells time path starts all e
unfolding line_if told_line
line_same tells time path starts all kept e h =
    ap (λ (text : List ℕ). if is_told tells path e then time_text time ++ codes "  " ++ text else []) (order_same path starts all kept e h)

pub lines_same : (tells : Bool) (time : ℕ) (path : List ℕ) (starts : List Started) (all kept : List Answered) (orders : List Effect)
    → All (IsKeptIn all kept) orders → told_lines tells time path starts kept orders ≡ told_lines tells time path starts all orders
unfolding told_lines
lines_same tells time path starts all kept [] h = refl
lines_same tells time path starts all kept (e ∷ rest) h =
    ap (λ (line : List ℕ). line ++ told_lines tells time path starts kept rest) (line_same tells time path starts all kept e (All-head (IsKeptIn all kept) e rest h))
    ∙ ap (λ (text : List ℕ). line_if tells time path starts all e ++ text) (lines_same tells time path starts all kept rest (All-tail (IsKeptIn all kept) e rest h))
