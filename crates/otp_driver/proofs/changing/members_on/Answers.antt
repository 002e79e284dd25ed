use Rattle.std.specs.Prelude.{◌≡◌, ◌+◌, ℕ, List, [], ◌∷◌, ◌++◌, Option, length}
use Rattle.std.proofs.Common.{◌∙◌, ap, length-append, subst}
use Rattle.otp_driver.specs.Members.{Member}
use Rattle.otp_driver.specs.Changed.{MayGoOnAs, at_origin, member_on, origin_at}
use Rattle.otp_driver.proofs.Changed.{held_more, may_more, members_more}
use Rattle.otp_driver.proofs.changing.members_on.Goals as goal

pub loop-supervisor-preserved : goal.loop-supervisor-preserved
loop-supervisor-preserved c =
    let olds : List Member = c.args.olds.now in
    let origins : List (Option ℕ) = c.args.origins.now in
    let done : List Member = c.loop-supervisor.list.items in
    let new : List Member = c.push_reserved.new.self.items in
    let m : Member = c.in-Some.supervisor in
    let rest : List Member = c.loop-supervisor.supervisor-iterator.rest.items in
    let later : List Member = c.next.new.self.rest.items in
    let i = c.loop-supervisor.invariant in
    let next : rest ≡ m ∷ later = (c.in-Some.ensures {u = tt}).steps.0 in
    let same : c.as_slice-place.result.now ≡ done = c.as_slice-place.ensures.value ∙ c.reserve.ensures.items in
    let origin : c.origin_at.result ≡ origin_at origins (length done) =
    c.origin_at.ensures ∙ ap (λ (ms : List Member). origin_at origins (length ms)) same in
    let push : new ≡ done ++ c.in_ok-new.new ∷ [] =
    c.push_reserved.ensures.items ∙ ap (λ (ms : List Member). ms ++ c.in_ok-new.new ∷ []) c.reserve.ensures.items in
    let longer : length new ≡ length done + 1 = ap (λ (ms : List Member). length ms) push ∙ length-append done (c.in_ok-new.new ∷ []) in
    let is : c.in_ok-new.new ≡ member_on (at_origin olds (origin_at origins (length done))) m =
    c.in_ok-new.ensures.ok ∙ ap (λ (o : Option ℕ). member_on (at_origin olds o) m) origin in
    let may : MayGoOnAs (at_origin olds (origin_at origins (length done))) m =
    subst (λ (o : Option ℕ). MayGoOnAs (at_origin olds o) m) origin c.in_ok-new.ensures.may in
    record {
      all = members_more olds origins done new c.in_ok-new.new m rest later _ i.all next push is;
      may = may_more olds origins (length done) (length new) m rest later i.may next longer may;
      held = held_more olds origins (length done) (length new) m rest later i.held next longer;
    }
