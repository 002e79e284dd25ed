use Rattle.std.proofs.Common.{arith, ◌≡◌, ℕ, ◌∙◌, ap, sym, length, subst}
use Rattle.std.proofs.lemmas.List.{length-map}
use Rattle.crossbeam_deque.specs.Handles.{worker_deque}
use Rattle.otp_run.specs.Lists.{AllAt}
use Rattle.otp_run.specs.Names.{DequeId}
use Rattle.otp_run.specs.Opens.{opened}
use Rattle.otp_run.proofs.Places.{map_at}
use Rattle.otp_run.proofs.queue.RunQueue.named.Goals as goal

pub unused_schedulers-requires-clause-names : goal.unused_schedulers-requires-clause-names
unused_schedulers-requires-clause-names g c =
    let P : ℕ → DequeId → Type 0 = λ k id. id ≡ g.N.RunNaming.deque k in
    map_at worker_deque P c.self.inside.workers.items (subst (AllAt P) (sym c.self.view_is) c.requires)

pub unused_schedulers-requires-clause-fresh : goal.unused_schedulers-requires-clause-fresh
unused_schedulers-requires-clause-fresh g c = c.self.invariant.2

pub equip_all-requires-clause-few : goal.equip_all-requires-clause-few
equip_all-requires-clause-few g c =
    let few = c.self.invariant.1 in
    let count = (c.in_ok-schedulers.ensures {u = tt}).count in
    omega arith

pub equip_all-requires-clause-unused : goal.equip_all-requires-clause-unused
equip_all-requires-clause-unused g c = (c.in_ok-schedulers.ensures {u = tt}).unused

pub returns-clause-count : goal.returns-clause-count
returns-clause-count g c =
    let count = (c.in-Ok.ensures {u = tt}).count in
    count ∙ (c.in_ok-schedulers.ensures {u = tt}).count ∙ sym (length-map c.self.inside.workers.items worker_deque) ∙ ap (λ l. length l) c.self.view_is

pub returns-clause-opened : goal.returns-clause-opened
returns-clause-opened g c =
    let count = (c.in_ok-schedulers.ensures {u = tt}).count ∙ sym (length-map c.self.inside.workers.items worker_deque) ∙ ap (λ l. length l) c.self.view_is in
    subst (λ (n : ℕ). AllAt (λ k s. s ≡ opened n k) c.equip_all.new.schedulers.items) count (c.in-Ok.ensures {u = tt}).opened
