use Rattle.std.proofs.Common.{subst, sym}
use Rattle.otp_try.proofs.Pages.{ends_last, part_last, part_stops}
use Rattle.otp_try.specs.Pages.{Ended}
use Rattle.otp_try.specs.declared.play.TryEnd.{TryEnd}
use Rattle.otp_try.proofs.play.Play.write_last.Goals as goal

pub returns-in_default : goal.returns-in_default
returns-in_default g c seats =
    part_last c.draw-drawn.result seats c.args.self.now.page.items c.draw-drawn.new.self.page.items (g.W.Output.seen c.args.output.now).bytes (g.W.Output.seen c.hand_out.new.output).bytes (c.draw-drawn.ensures.drawn seats)
    (λ s. part_stops c.in_default.field-0 s c.draw-drawn.new.self.page.items c.hand_out.new.self.page.items (g.W.Output.seen c.args.output.now).bytes (g.W.Output.seen c.hand_out.new.output).bytes (c.in_default.ensures.ran s))

pub returns : goal.returns
returns g c seats =
    subst (λ (end : TryEnd). Ended end seats c.args.self.now.page.items (g.W.Output.seen c.args.output.now).bytes (g.W.Output.seen c.hand_out.new.output).bytes) (sym c.told.ensures)
    (ends_last c.draw-drawn.result c.args.end seats c.args.self.now.page.items c.draw-drawn.new.self.page.items c.hand_out.new.self.page.items (g.W.Output.seen c.args.output.now).bytes (g.W.Output.seen c.hand_out.new.output).bytes
    (c.draw-drawn.ensures.drawn seats) (λ s. c.in-Ok.ensures.ran s) c.in-Ok.ensures.empty)
