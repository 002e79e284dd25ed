use Rattle.otp_commands.specs.Findings.{more_text}
use Rattle.otp_commands.proofs.Joined.{three_joined}
use Rattle.otp_commands.proofs.findings.write_more.Goals as goal

pub returns : goal.returns
unfolding more_text
returns c =
    three_joined c.args.out.now.items _ _ _ _ _ _ c.in_ok-extend_from_slice.ensures.items c.in_ok-write_number.ensures c.in_ok-extend_from_slice-2.ensures.items
