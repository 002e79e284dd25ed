use Rattle.std.proofs.Common.{◌≡◌, ◌+◌, ◌∙◌, length, ap, subst, sym, arith}
use Rattle.otp_run.specs.Lists.{AllAt}
use Rattle.otp_run.proofs.Places.{push_at}
use Rattle.otp_close.proofs.Apart.{length-more}
use Rattle.otp_close.proofs.Settlings.{first_of, rest_of}
use Rattle.otp_close.proofs.unlocking.unlock_all.Goals as goal

pub loop-sup-preserved : goal.loop-sup-preserved
loop-sup-preserved g c =
    let i = c.loop-sup.invariant in
    let next = (c.in-Some.ensures {u = tt}).steps.0 in
    let fewer = (c.in-Some.ensures {u = tt}).steps.1 in
    let shorter = ap length next in
    let before = i.left in
    let room = i.room in
    let many = i.many in
    let one = c.push_reserved.ensures.items in
    let len = c.push_reserved.ensures.len in
    let capacity = c.push_reserved.ensures.capacity in
    let long = length-more _ _ _ one in
    record {
      left = omega arith;
      room = omega arith;
      many = omega arith;
      done = subst (λ l. AllAt (λ k u. u.inbox ≡ k) l) (sym one) (push_at (λ k u. u.inbox ≡ k) _ _ i.done (c.unlock.ensures.inbox ∙ first_of (λ s. s.inbox) _ _ _ _ next i.placed));
      placed = subst (λ n. AllAt (λ j s. s.inbox ≡ n + j) c.next.new.self.rest.items) (sym long) (rest_of (λ s. s.inbox) _ _ _ _ next i.placed);
    }
