use Rattle.std.proofs.Common.{◌≡◌, ◌++◌, drop}
use Rattle.std.specs.List.{flat_map}
use Rattle.otp_core.specs.View.{stored_state}
use Rattle.otp_trial.specs.Story.{line_if}
use Rattle.otp_trial.proofs.story.telling.write_all.Given as goal

abbrev pub invariant-loop-order : goal.invariant-loop-order
invariant-loop-order l =
    l.out.items ++ flat_map (line_if l.scene.tells l.scene.time l.scene.path.now l.scene.starts.now (stored_state l.core).replies) (drop l.order-index l.orders)
    ≡ l.fn.out.items ++ flat_map (line_if l.scene.tells l.scene.time l.scene.path.now l.scene.starts.now (stored_state l.core).replies) l.orders
