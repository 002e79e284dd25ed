use Rattle.std.proofs.Common.{◌≡◌, suc, ◌+◌, ◌++◌, ◌∷◌, [], Some, length, arith, ap, sym, ◌∙◌, subst, add-zero, length-append, take}
use Rattle.std.specs.Prelude.{slice_get}
use Rattle.std.proofs.lemmas.List.{take_all, take_more}
use Rattle.otp_inbox.specs.Tokens.{first_sender}
use Rattle.otp_bodies.specs.declared.letter.Message.{Message}
use Rattle.otp_run.specs.Lists.{AllAt}
use Rattle.otp_run.proofs.Places.{push_at}
use Rattle.otp_open.specs.Readies.{AreReadyFor, IsReadyFor}
use Rattle.otp_open.proofs.Readies.{ready_more}
use Rattle.otp_open.proofs.ready.ready_all.Goals as goal

pub ready_one-requires-clause-named : goal.ready_one-requires-clause-named
ready_one-requires-clause-named g c =
    let n = c.loop-number.number in
    let all = c.args.inboxes.items in
    let e = c.next_of-inbox.ensures.next in
    let at : slice_get all n ≡ Some c.next_of-inbox.result = ap (slice_get all) (sym (add-zero n)) ∙ sym (c.loop-number.invariant.rest 0) ∙ ap (λ l. slice_get l 0) e in
    rw at at (c.requires.named n)

pub ready_one-requires-clause-slots : goal.ready_one-requires-clause-slots
ready_one-requires-clause-slots g c =
    let i = c.loop-number.invariant in
    let count = i.count in
    let next = ap length c.next_of-inbox.ensures.next in
    λ slot low below. i.slots slot low (omega (arith, below, count, next))

pub loop-number-preserved : goal.loop-number-preserved
loop-number-preserved g c =
    let i = c.loop-number.invariant in
    let n = c.loop-number.number in
    let plans = c.args.plans.now in
    let p = c.index-plans-number.result in
    let e = c.next_of-inbox.ensures.next in
    let step = ap length e in
    let count = i.count in
    let left = i.left in
    let fewer = c.next_of-inbox.ensures.len in
    let one = c.in-Ok.ensures {u = tt} in
    let kept = c.in-Ok-keep.ensures {u = tt} in
    let more = take_more plans n p (omega (arith, c.loop-number-test.true)) ∙ ap (λ x. take n plans ++ x ∷ []) (sym c.index-plans-number.is) in
    let many = i.many_places in
    let same : n ≡ 0 + length c.loop-number.all.places.items = omega (arith, many) in
    let at : IsReadyFor (0 + length c.loop-number.all.places.items) p c.in-Ok.one.place = subst (λ m. IsReadyFor m p c.in-Ok.one.place) same one.ready in
    record {
      rest = λ k. ap (λ l. slice_get l (suc k)) (sym e) ∙ i.rest (suc k) ∙ ap (slice_get c.args.inboxes.items) (omega arith);
      count = omega arith;
      left = omega arith;
      many = ap length kept.senders ∙ length-append _ _ ∙ ap (λ m. m + 1) i.many;
      many_passes = ap length kept.passes ∙ length-append _ _ ∙ ap (λ m. m + 1) i.many_passes;
      many_places = ap length kept.places ∙ length-append _ _ ∙ ap (λ m. m + 1) i.many_places;
      ready = subst (λ l. AreReadyFor 0 l c.keep.new.self.places.items) (sym more)
          (subst (AreReadyFor 0 (take n plans ++ p ∷ [])) (sym kept.places) (ready_more 0 (take n plans) c.loop-number.all.places.items p c.in-Ok.one.place i.ready at));
      seated = subst (AllAt (λ k s. s ≡ first_sender {P = Message} k)) (sym kept.senders) (push_at (λ k s. s ≡ first_sender k) _ _ i.seated (one.sender ∙ ap first_sender (sym i.many)));
      root = one.lower 0 (omega arith) i.root;
      slots = λ slot le below. one.upper slot le (i.slots slot (omega (arith, le)) below);
      unposted = one.posts;
    }

pub returns-clause-places : goal.returns-clause-places
returns-clause-places g c =
    subst (λ l. AreReadyFor 0 l c.loop-number.all.places.items) (take_all c.loop-number.number c.args.plans.now (omega (arith, c.loop-number-test.false))) c.loop-number.invariant.ready
