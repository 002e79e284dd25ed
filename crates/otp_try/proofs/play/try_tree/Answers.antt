use Rattle.std.proofs.Common.{Bool, inl, inr, subst}
use Rattle.otp_try.proofs.Pages.{opens_at, unopened}
use Rattle.otp_try.specs.Pages.{Tries}
use Rattle.otp_try.proofs.play.try_tree.Goals as goal

pub returns-in-Err : goal.returns-in-Err
returns-in-Err g c = inl (unopened c.from.result c.told.result (g.W.Output.seen c.args.output.now).bytes c.from.ensures c.told.ensures)

pub returns : goal.returns
returns g c =
    subst (λ (b : Bool). Tries c.play-end.result c.args.tree b (g.W.Output.seen c.args.output.now).bytes (g.W.Output.seen c.play-end.new.output).bytes) c.tells_orders.ensures
    (inr (opens_at c.play-end.result c.args.tree c.tells_orders.result c.args.playing.clock c.in-Ok.trial c.new-told.result.items c.open.new.out.items
    (g.W.Output.seen c.args.output.now).bytes (g.W.Output.seen c.play-end.new.output).bytes c.new-told.ensures.items c.in-Ok.ensures.told c.play-end.ensures))
