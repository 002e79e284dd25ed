use Rattle.otp_commands.specs.Findings.{warning_text}
use Rattle.otp_commands.proofs.Joined.{three_joined}
use Rattle.otp_commands.proofs.objects.put_warning.Goals as goal

pub returns : goal.returns
unfolding warning_text
returns c =
    three_joined c.args.out.now.items _ _ _ _ _ _ c.in_ok-extend_from_slice.ensures.items c.in_ok-put_text.ensures c.in_ok-extend_from_slice-2.ensures.items
