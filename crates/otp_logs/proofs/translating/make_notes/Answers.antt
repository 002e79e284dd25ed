use Rattle.otp_logs.proofs.translating.make_notes.Goals as goal

pub returns : goal.returns
returns c = (c.args.is_last, (c.as_slice.result.now, c.in_ok-notes.ensures))
