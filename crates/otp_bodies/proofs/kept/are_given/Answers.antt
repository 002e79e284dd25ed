use Rattle.std.proofs.Common.{sym, ◌∙◌}
use Rattle.otp_bodies.proofs.Placed.{given_not}
use Rattle.otp_bodies.proofs.kept.are_given.Goals as goal

pub returns-then-not-is_any_given : goal.returns-then-not-is_any_given
returns-then-not-is_any_given c =
    sym (given_not c.args.specs c.loop-place.place c.args.kept.now c.loop-place-test.true (sym c.is_any_given.ensures ∙ c.if-not-is_any_given.true))
