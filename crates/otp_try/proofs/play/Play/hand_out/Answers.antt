use Rattle.std.proofs.Common.{refl}
use Rattle.otp_try.proofs.Pages.{part_page, wrote_page}
use Rattle.otp_try.proofs.play.Play.hand_out.Goals as goal

pub returns-in_default-clause-ran : goal.returns-in_default-clause-ran
returns-in_default-clause-ran g c seats =
    part_page seats c.args.self.now.page.items c.as_slice.result.now (g.W.Output.seen c.args.output.now).bytes (g.W.Output.seen c.write_all.new.output).bytes c.as_slice.ensures.value c.write_all.ensures.part

pub returns-clause-ran : goal.returns-clause-ran
returns-clause-ran g c seats =
    wrote_page seats seats c.args.self.now.page.items c.as_slice.result.now c.clear.new.self.items (g.W.Output.seen c.args.output.now).bytes (g.W.Output.seen c.write_all.new.output).bytes
    refl c.as_slice.ensures.value c.in-Ok.ensures.ok c.clear.ensures.items
