use Rattle.std.proofs.Common.{List, ap, sym, ◌∙◌}
use Rattle.std.specs.List.{list_any}
use Rattle.otp_bodies.specs.Bodies.{stray}
use Rattle.otp_bodies.specs.Loose.{is_loose}
use Rattle.otp_bodies.specs.declared.bodies.Kept.{Kept}
use Rattle.otp_bodies.proofs.Keeping.{first_at, none_passes}
use Rattle.otp_bodies.proofs.OnlyLoose.{first_only, none_only}
use Rattle.otp_bodies.proofs.loose.only_loose.Goals as goal

pub returns-in_default : goal.returns-in_default
returns-in_default c = none_only c.args.kept.now (none_passes is_loose c.args.kept.now (sym c.find_loose.ensures ∙ c.in_default.is))

pub returns-else-is_any_loose : goal.returns-else-is_any_loose
returns-else-is_any_loose c =
    first_only c.args.kept.now c.in-Some.at (first_at is_loose c.args.kept.now c.in-Some.at stray (sym c.find_loose.ensures ∙ c.in-Some.is))
    (ap (λ (l : List Kept). list_any is_loose l) (sym c.behind.ensures) ∙ sym c.is_any_loose.ensures ∙ c.if-is_any_loose.false)
