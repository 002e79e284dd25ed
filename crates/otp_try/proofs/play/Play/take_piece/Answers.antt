use Rattle.std.proofs.Common.{refl}
use Rattle.otp_try.proofs.Pages.{stops-then, wrote-then, wrote_adds}
use Rattle.otp_try.proofs.Pieces.{adds_nothing}
use Rattle.otp_try.proofs.play.Play.take_piece.Goals as goal

pub loop-byte-init : goal.loop-byte-init
loop-byte-init g c = wrote_adds c.args.self.now.trial c.args.self.now.trial c.args.self.now.page.items c.args.self.now.page.items (g.W.Output.seen c.args.output.now).bytes (adds_nothing c.args.self.now.trial c.args.self.now.trial c.args.self.now.page.items c.args.self.now.page.items refl refl)

pub returns-in-Err : goal.returns-in-Err
returns-in-Err g c =
    stops-then c.in-Err.end c.args.self.now.trial c.loop-byte.self.trial c.args.self.now.page.items c.loop-byte.self.page.items c.take_byte.new.self.page.items
    (g.W.Output.seen c.args.output.now).bytes (g.W.Output.seen c.loop-byte.output).bytes (g.W.Output.seen c.take_byte.new.output).bytes c.loop-byte.invariant c.in-Err.ensures

pub loop-byte-preserved : goal.loop-byte-preserved
loop-byte-preserved g c =
    wrote-then c.args.self.now.trial c.loop-byte.self.trial c.take_byte.new.self.trial c.args.self.now.page.items c.loop-byte.self.page.items c.take_byte.new.self.page.items
    (g.W.Output.seen c.args.output.now).bytes (g.W.Output.seen c.loop-byte.output).bytes (g.W.Output.seen c.take_byte.new.output).bytes c.loop-byte.invariant (c.in_default.ensures {u = tt})
