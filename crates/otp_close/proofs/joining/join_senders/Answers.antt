use Rattle.std.proofs.Common.{◌≡◌, ◌∷◌, ◌++◌, [], length, set, sym, ap, ◌∙◌, subst, arith, append_assoc, length-append}
use Rattle.std.proofs.lemmas.List.Sums.{sum_by_push}
use Rattle.otp_hand.specs.Ended.{end_share}
use Rattle.otp_hand.proofs.Begun.{starts_push}
use Rattle.std.specs.Prelude.{slice_get}
use Rattle.otp_run.specs.Lists.{AllAt}
use Rattle.otp_hand.specs.Seats.{Seated}
use Rattle.otp_close.specs.Settlings.{HasGained, HasJoined, IsJoined}
use Rattle.otp_hand.specs.Sendings.{with_sender}
use Rattle.otp_close.proofs.Leavings.{joined_more, joined_past}
use Rattle.otp_close.proofs.Ordered.{lists_more, lists_past}
use Rattle.otp_close.proofs.Credited.{shares_more, shares_past}
use Rattle.otp_close.proofs.Settlings.{seat_of, some_at}
use Rattle.otp_close.proofs.joining.join_senders.Goals as goal

pub loop-sender-preserved-then-place-len : goal.loop-sender-preserved-then-place-len
loop-sender-preserved-then-place-len g c =
    let i = c.loop-sender.invariant in
    let next = (c.in-Some.ensures {u = tt}).steps.0 in
    let x = c.in-Some.sender in
    let old = c.args.senders.now in
    let now = c.loop-sender.senders in
    let before = c.loop-sender.yielded in
    let all = append_assoc before (x ∷ []) c.next.new.self.rest.items ∙ ap (λ l. before ++ l) (sym next) ∙ i.all in
    let seat : x.inbox ≡ length before = seat_of before x c.next.new.self.rest.items c.args.others (append_assoc before (x ∷ []) c.next.new.self.rest.items) all (subst Seated c.others.view_is c.others.invariant) in
    let number = c.number-place.ensures in
    let size = c.len.ensures in
    let test = c.if-place-len.true in
    let len = i.len in
    let reach = c.requires.reach in
    let at : c.inbox_at.result.now ≡ length before = c.inbox_at.ensures (omega arith) ∙ number ∙ seat in
    let s = some_at now (length before) (omega arith) in
    let new : c.join_at.new.self ≡ set now (length before) (with_sender x s.0) = c.join_at.ensures.joined s.0 (ap (slice_get now) at ∙ s.1) ∙ ap (λ k. set now k (with_sender x s.0)) at in
    record {
      joined = subst (λ l. AllAt (IsJoined old (before ++ x ∷ [])) l) (sym new) (joined_more old before now x s.0 s.1 i.joined);
      lists = subst (λ l. AllAt (HasJoined old (before ++ x ∷ [])) l) (sym new) (lists_more old before now x s.0 s.1 i.lists);
      shares = subst (λ l. AllAt (HasGained old (before ++ x ∷ [])) l) (sym new) (shares_more old before now x s.0 s.1 i.shares);
      len = c.join_at.ensures.len ∙ i.len;
      starts =
          let one = c.join_at.ensures.starts in
          let so_far = i.starts in
          let more = starts_push before x in
          omega (arith, one, so_far, more);
      ends =
          let one = c.join_at.ensures.ends in
          let so_far = i.ends in
          let more = sum_by_push end_share before x in
          omega (arith, one, so_far, more);
      all = all;
    }

pub loop-sender-preserved : goal.loop-sender-preserved
loop-sender-preserved g c =
    let i = c.loop-sender.invariant in
    let next = (c.in-Some.ensures {u = tt}).steps.0 in
    let x = c.in-Some.sender in
    let old = c.args.senders.now in
    let now = c.loop-sender.senders in
    let before = c.loop-sender.yielded in
    let all = append_assoc before (x ∷ []) c.next.new.self.rest.items ∙ ap (λ l. before ++ l) (sym next) ∙ i.all in
    let seat : x.inbox ≡ length before = seat_of before x c.next.new.self.rest.items c.args.others (append_assoc before (x ∷ []) c.next.new.self.rest.items) all (subst Seated c.others.view_is c.others.invariant) in
    let number = c.number-place.ensures in
    let size = c.len.ensures in
    let test = c.if-place-len.false in
    let as_far = c.requires.as_far in
    let len = i.len in
    let whole = ap length all in
    let long = length-append (before ++ x ∷ []) c.next.new.self.rest.items in
    let one = length-append before (x ∷ []) in
    let none : ⊥ = omega (arith, number, seat, size, test, len, as_far, whole, long, one) in
    record {
      joined = joined_past old before now x (omega arith) i.joined;
      lists = lists_past old before now x (omega arith) i.lists;
      shares = shares_past old before now x (omega arith) i.shares;
      len = i.len;
      starts = absurd none;
      ends = absurd none;
      all = all;
    }
