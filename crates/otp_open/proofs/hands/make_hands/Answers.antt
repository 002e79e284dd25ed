use Rattle.std.proofs.Common.{◌≡◌, suc, ◌+◌, ◌∷◌, [], Some, add-zero, ap, arith, length, length-append, map, refl, sym, ◌∙◌, subst}
use Rattle.std.specs.Prelude.{IfSome, slice_get}
use Rattle.otp_hand.specs.Hands.{senders_of}
use Rattle.otp_hand.specs.Sendings.{parts_at, parts_to}
use Rattle.otp_run.specs.Lists.{AllAt}
use Rattle.otp_run.proofs.Places.{push_at}
use Rattle.otp_open.specs.Opens.{IsOpened, opened_for}
use Rattle.otp_open.specs.Passes.{IsFresh, renewed}
use Rattle.otp_open.proofs.Splits.{hand_more}
use Rattle.otp_open.proofs.hands.make_hands.Goals as goal

pub loop-scheduler-init : goal.loop-scheduler-init
loop-scheduler-init g c =
    let root = c.args.root.ticket in
    let count = length c.args.schedulers.items in
    let begun = c.in_ok-begin_first.ensures {u = tt} in
    let gives = c.into_iter-scheduler-iterator.ensures.into_iter_gives in
    let hands = ap length c.new-hands.ensures.items in
    let rest = ap length gives.0 in
    let many = begun.many in
    let ok = c.begin_first.new.schedulers.ok.0 in
    let firsts = subst (AllAt (IsOpened root count)) (sym gives.0) begun.begun in
    record {
      idle = λ k. let same : k ≡ length c.new-hands.result.items + k = omega (arith, hands) in subst (λ n. IfSome (slice_get c.into_iter-scheduler-iterator.result.rest.items k) (IsOpened root count n)) same (firsts k);
      many = omega (arith, hands, rest, many);
      left = omega (arith, gives.1, rest, ok);
      opened = subst (AllAt (λ k h. h.scheduler ≡ opened_for root count k)) (sym c.new-hands.ensures.items) (λ k. tt);
      split = λ k. ap (λ l. parts_at k c.args.senders.now + parts_to k (map senders_of l)) c.new-hands.ensures.items ∙ add-zero _;
      reach = subst (AllAt (λ _ h. length (senders_of h) ≡ length c.args.senders.now)) (sym c.new-hands.ensures.items) (λ k. tt);
      len = refl;
      same = refl;
      starts = refl;
      ends = refl;
      fresh = subst (AllAt (λ _ h. IsFresh c.args.passes.now.items h)) (sym c.new-hands.ensures.items) (λ k. tt);
    }

pub loop-scheduler-preserved : goal.loop-scheduler-preserved
loop-scheduler-preserved g c =
    let root = c.args.root.ticket in
    let count = length c.args.schedulers.items in
    let i = c.loop-scheduler.invariant in
    let e = (c.in-Some.ensures {u = tt}).steps.0 in
    let fewer = (c.in-Some.ensures {u = tt}).steps.1 in
    let made = c.in_ok-hand.ensures {u = tt} in
    let kept = c.in_ok-keep.ensures {u = tt} in
    let firsts = c.args.passes.now.items in
    let longer = ap length kept ∙ length-append c.loop-scheduler.hands.items (c.in_ok-hand.hand ∷ []) in
    let shorter = ap length e in
    let many = i.many in
    let left = i.left in
    let at : slice_get c.loop-scheduler.scheduler-iterator.rest.items 0 ≡ Some c.in-Some.scheduler = ap (λ l. slice_get l 0) e in
    let first : IsOpened root count (length c.loop-scheduler.hands.items + 0) c.in-Some.scheduler = rw at at (i.idle 0) in
    record {
      idle = λ k. let step : slice_get c.loop-scheduler.scheduler-iterator.rest.items (suc k) ≡ slice_get c.next.new.self.rest.items k = ap (λ l. slice_get l (suc k)) e in
          let same : length c.loop-scheduler.hands.items + suc k ≡ length c.keep.new.list.items + k = omega (arith, longer) in
          subst (λ n. IfSome (slice_get c.next.new.self.rest.items k) (IsOpened root count n)) same (rw step at (i.idle (suc k)));
      many = omega (arith, longer, shorter, many);
      left = omega (arith, fewer, shorter, left);
      opened = subst (AllAt (λ k h. h.scheduler ≡ opened_for root count k)) (sym kept) (push_at (λ k h. h.scheduler ≡ opened_for root count k) _ _ i.opened (made.scheduler ∙ first.is ∙ ap (opened_for root count) (add-zero _)));
      split = λ k.
          let more = ap (λ l. parts_to k (map senders_of l)) kept ∙ hand_more k c.loop-scheduler.hands.items c.in_ok-hand.hand in
          let off = made.split k in
          let so_far = i.split k in
          omega (arith, more, off, so_far);
      reach = subst (AllAt (λ _ h. length (senders_of h) ≡ length c.args.senders.now)) (sym kept) (push_at (λ _ h. length (senders_of h) ≡ length c.args.senders.now) _ _ i.reach (made.reach ∙ i.len));
      len = made.len ∙ i.len;
      same = made.same ∙ i.same;
      starts = made.starts ∙ i.starts;
      ends = made.ends ∙ i.ends;
      fresh = subst (AllAt (λ _ h. IsFresh firsts h)) (sym kept) (push_at (λ _ h. IsFresh firsts h) _ _ i.fresh (made.fresh ∙ ap (map renewed) i.same));
    }

pub make_hand-requires : goal.make_hand-requires
make_hand-requires g c =
    let e = (c.in-Some.ensures {u = tt}).steps.0 in
    let at : slice_get c.loop-scheduler.scheduler-iterator.rest.items 0 ≡ Some c.in-Some.scheduler = ap (λ l. slice_get l 0) e in
    let root = c.args.root.ticket in
    let count = length c.args.schedulers.items in
    let first : IsOpened root count (length c.loop-scheduler.hands.items + 0) c.in-Some.scheduler = rw at at (c.loop-scheduler.invariant.idle 0) in
    first.only

pub returns : goal.returns
returns g c =
    let none = (c.in-None.ensures {u = tt}).steps.0 in
    let left = c.loop-scheduler.invariant.left in
    let many = c.loop-scheduler.invariant.many in
    record {
      hands = record { passes = c.args.passes.now.items; many = refl; fresh = c.loop-scheduler.invariant.fresh };
      opened = record { many = omega (arith, none, left, many); each = c.loop-scheduler.invariant.opened };
      split = c.loop-scheduler.invariant.split;
      reach = c.loop-scheduler.invariant.reach;
      len = c.loop-scheduler.invariant.len;
      same = c.loop-scheduler.invariant.same;
      starts = c.loop-scheduler.invariant.starts;
      ends = c.loop-scheduler.invariant.ends;
    }
