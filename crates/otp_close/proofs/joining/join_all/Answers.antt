use Rattle.std.proofs.Common.{◌+◌, ◌-◌, ◌^◌, ◌≤◌, ◌∷◌, ◌++◌, [], length, map, min, refl, sym, ap, ◌∙◌, subst, arith, append_assoc, append-nil}
use Rattle.otp_inbox.specs.Tokens.{all_parts}
use Rattle.otp_run.specs.Lists.{AllAt}
use Rattle.otp_run.proofs.Places.{each_at, map-append}
use Rattle.otp_close.specs.Settlings.{HasAll, HasLists, HasShares, held_in, senders_in}
use Rattle.otp_close.proofs.Leavings.{few_parts, has_more, has_one, has_whole}
use Rattle.otp_close.proofs.Ordered.{lists_all, lists_one}
use Rattle.otp_close.proofs.Credited.{shares_all, shares_one}
use Rattle.otp_close.proofs.Begun.{hand_push, reaches_as_far}
use Rattle.otp_hand.specs.Begun.{starts_credited}
use Rattle.otp_hand.specs.Ended.{ends_sent}
use Rattle.std.specs.Prelude.{sum_by}
use Rattle.std.proofs.lemmas.List.Sums.{sum_by_push}
use Rattle.otp_close.proofs.Partings.{nothing_left}
use Rattle.otp_close.proofs.joining.join_all.Goals as goal

pub loop-rest-init : goal.loop-rest-init
loop-rest-init g c =
    let gives = c.into_iter-rest-iterator.ensures.into_iter_gives in
    let items = ap length gives.0 in
    let ok = c.args.rests.ok.0 in
    record {
      has = has_one c.args.senders (few_parts c.args.senders (map senders_in c.args.rests.items) c.requires.whole);
      lists = lists_one c.args.senders;
      shares = shares_one c.args.senders;
      len = refl;
      starts = omega arith;
      ends = omega arith;
      held = omega arith;
      all = gives.0;
      left = omega (arith, gives.1, items, ok);
    }

pub join_senders-requires-clause-bounded : goal.join_senders-requires-clause-bounded
join_senders-requires-clause-bounded g c = each_at (HasAll (c.args.senders ∷ map senders_in c.loop-rest.yielded)) (λ k s. s.parts ≤ all_parts) c.loop-rest.senders c.loop-rest.invariant.has (λ j s within h. omega (arith, h.1))

pub loop-rest-preserved : goal.loop-rest-preserved
loop-rest-preserved g c =
    let i = c.loop-rest.invariant in
    let next = (c.in-Some.ensures {u = tt}).steps.0 in
    let fewer = (c.in-Some.ensures {u = tt}).steps.1 in
    let shorter = ap length next in
    let left = i.left in
    let before = c.loop-rest.yielded in
    let r = c.in-Some.rest in
    record {
      has = subst (λ l. AllAt (HasAll (c.args.senders ∷ l)) c.join_senders.new.senders) (sym (map-append senders_in before (r ∷ []))) (has_more (c.args.senders ∷ map senders_in before) c.loop-rest.senders r.senders c.join_senders.new.senders i.has c.join_senders.ensures.joined);
      lists = subst (λ l. AllAt (HasLists (c.args.senders ∷ l)) c.join_senders.new.senders) (sym (map-append senders_in before (r ∷ []))) (lists_all (c.args.senders ∷ map senders_in before) c.loop-rest.senders r.senders c.join_senders.new.senders i.lists c.join_senders.ensures.lists);
      shares = subst (λ l. AllAt (HasShares (c.args.senders ∷ l)) c.join_senders.new.senders) (sym (map-append senders_in before (r ∷ []))) (shares_all (c.args.senders ∷ map senders_in before) c.loop-rest.senders r.senders c.join_senders.new.senders i.shares c.join_senders.ensures.shares);
      len = c.join_senders.ensures.len ∙ i.len;
      starts =
          let one = c.join_senders.ensures.starts in
          let so_far = i.starts in
          let more = hand_push starts_credited before r in
          omega (arith, one, so_far, more);
      ends =
          let one = c.join_senders.ensures.ends in
          let so_far = i.ends in
          let more = hand_push ends_sent before r in
          omega (arith, one, so_far, more);
      held =
          let one = c.count_held.ensures in
          let so_far = i.held in
          let sum = c.saturating_add-held.ensures in
          let more = sum_by_push held_in before r in
          omega (arith, one, so_far, sum, more);
      all = append_assoc before (r ∷ []) c.next.new.self.rest.items ∙ ap (λ l. before ++ l) (sym next) ∙ i.all;
      left = omega arith;
    }

pub returns-clause-whole : goal.returns-clause-whole
returns-clause-whole g c =
    let i = c.loop-rest.invariant in
    let none = (c.in-None.ensures {u = tt}).steps.0 in
    let left = i.left in
    let before = c.loop-rest.yielded in
    let all = sym (append-nil before) ∙ ap (λ l. before ++ l) (sym (nothing_left c.loop-rest.rest-iterator.rest.items (omega arith))) ∙ i.all in
    has_whole (c.args.senders ∷ map senders_in c.args.rests.items) (length c.args.senders) c.loop-rest.senders i.len c.requires.whole
    (subst (λ l. AllAt (HasAll (c.args.senders ∷ map senders_in l)) c.loop-rest.senders) all i.has)

pub join_senders-requires-clause-as_far : goal.join_senders-requires-clause-as_far
join_senders-requires-clause-as_far g c =
    let i = c.loop-rest.invariant in
    let next = (c.in-Some.ensures {u = tt}).steps.0 in
    let before = c.loop-rest.yielded in
    let len = i.len in
    let far = reaches_as_far (length c.args.senders) c.in-Some.rest c.next.new.self.rest.items before c.args.rests.items (ap (λ l. before ++ l) (sym next) ∙ i.all) c.requires.as_far in
    omega (arith, far, len)

pub returns-clause-starts : goal.returns-clause-starts
returns-clause-starts g c =
    let i = c.loop-rest.invariant in
    let none = (c.in-None.ensures {u = tt}).steps.0 in
    let left = i.left in
    let before = c.loop-rest.yielded in
    let all = sym (append-nil before) ∙ ap (λ l. before ++ l) (sym (nothing_left c.loop-rest.rest-iterator.rest.items (omega arith))) ∙ i.all in
    i.starts ∙ ap (λ l. starts_credited c.args.senders + sum_by starts_credited (map senders_in l)) all

pub returns-clause-ends : goal.returns-clause-ends
returns-clause-ends g c =
    let i = c.loop-rest.invariant in
    let none = (c.in-None.ensures {u = tt}).steps.0 in
    let left = i.left in
    let before = c.loop-rest.yielded in
    let all = sym (append-nil before) ∙ ap (λ l. before ++ l) (sym (nothing_left c.loop-rest.rest-iterator.rest.items (omega arith))) ∙ i.all in
    i.ends ∙ ap (λ l. ends_sent c.args.senders + sum_by ends_sent (map senders_in l)) all

pub returns-clause-held : goal.returns-clause-held
returns-clause-held g c =
    let i = c.loop-rest.invariant in
    let none = (c.in-None.ensures {u = tt}).steps.0 in
    let left = i.left in
    let before = c.loop-rest.yielded in
    let all = sym (append-nil before) ∙ ap (λ l. before ++ l) (sym (nothing_left c.loop-rest.rest-iterator.rest.items (omega arith))) ∙ i.all in
    i.held ∙ ap (λ l. min (sum_by held_in l) (2 ^ 64 - 1)) all

pub returns-clause-lists : goal.returns-clause-lists
returns-clause-lists g c =
    let i = c.loop-rest.invariant in
    let none = (c.in-None.ensures {u = tt}).steps.0 in
    let left = i.left in
    let before = c.loop-rest.yielded in
    let all = sym (append-nil before) ∙ ap (λ l. before ++ l) (sym (nothing_left c.loop-rest.rest-iterator.rest.items (omega arith))) ∙ i.all in
    subst (λ l. AllAt (HasLists (c.args.senders ∷ map senders_in l)) c.loop-rest.senders) all i.lists

pub returns-clause-shares : goal.returns-clause-shares
returns-clause-shares g c =
    let i = c.loop-rest.invariant in
    let none = (c.in-None.ensures {u = tt}).steps.0 in
    let left = i.left in
    let before = c.loop-rest.yielded in
    let all = sym (append-nil before) ∙ ap (λ l. before ++ l) (sym (nothing_left c.loop-rest.rest-iterator.rest.items (omega arith))) ∙ i.all in
    subst (λ l. AllAt (HasShares (c.args.senders ∷ map senders_in l)) c.loop-rest.senders) all i.shares
