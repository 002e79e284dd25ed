use Rattle.std.proofs.Common.{◌∙◌}
use Rattle.otp_needs.specs.Begun.{left}
use Rattle.otp_needs.proofs.Needed.{restart_seen}
use Rattle.otp_needs.proofs.waited.restart_goes_on.Goals as goal

pub returns : goal.returns
returns c = λ kept row at.
    c.others_have_ended.ensures
    ∙ restart_seen c.args.rows.now c.args.span.from c.args.span.place c.args.span.to kept row (left c.args.resumed c.args.waiting.now.items) c.requires.from c.requires.place at
