use Rattle.std.proofs.Common.{arith, ◌∙◌, ◌-◌, ◌^◌, ℕ, ap}
use Rattle.std.specs.Prelude.{nat_le}
use Rattle.otp_rules.specs.Counts.{lines_told}
use Rattle.otp_machine.specs.Kept.{Kept}
use Rattle.otp_machine.specs.AnswersInside.{kept_of}
use Rattle.otp_machine.proofs.Lines.{reached_alike}
use Rattle.otp_machine.proofs.stores.answers.Answers.has_lines.Goals as goal

pub returns : goal.returns
returns c =
    ap (λ (n : ℕ). nat_le c.args.limit n) c.self.invariant.lines
    ∙ reached_alike c.args.limit (lines_told (kept_of c.self.inside).answers) (2 ^ 64 - 1) (omega (arith, c.ranges.limit.fits))
    ∙ ap (λ (k : Kept). nat_le c.args.limit (lines_told k.answers)) c.self.view_is
