use Rattle.std.proofs.Common.{◌+◌, ◌∙◌, length, length-append, ap, sym, subst}
use Rattle.otp_run.specs.Lists.{AllAt}
use Rattle.otp_run.specs.Opens.{IsFresh}
use Rattle.otp_run.proofs.Places.{push_at}
use Rattle.otp_run.proofs.queue.RunQueue.open.Goals as goal

pub loop-preserved : goal.loop-preserved
loop-preserved g c =
    let made = c.in_ok-fifo_as.ensures {u = tt} in
    let pushed = (c.in_ok-push.ensures {u = tt}).items in (
      ap (λ l. length l) pushed ∙ length-append _ _ ∙ ap (λ m. m + 1) c.loop.invariant.0,
      subst (AllAt (λ k w. IsFresh w)) (sym pushed) (push_at (λ k w. IsFresh w) _ _ c.loop.invariant.1 (made.1, made.4)),
    )
