use Rattle.std.proofs.Common.{◌≡◌, drop, length, map, sym, ap, ◌∙◌, subst, arith}
use Rattle.otp_inbox.specs.Lists.{AsOften, EachInOrder}
use Rattle.otp_run.specs.Lists.{AllAt}
use Rattle.otp_run.proofs.Places.{push_at}
use Rattle.otp_close.specs.declared.report.report.TableReport.{TableReport}
use Rattle.otp_sup.specs.Plans.{IsBegunBy}
use Rattle.otp_close.specs.Closes.{HasBegun, HasTold, HaveBegun}
use Rattle.otp_bodies.specs.Messages.{items_in}
use Rattle.otp_inbox.specs.Tokens.{all_sent}
use Rattle.otp_close.specs.Leavings.{HasCome, HasUnsent, line_of, lists_at, lists_in}
use Rattle.otp_close.specs.Tables.{IsOfTable, shares_at, shares_in}
use Rattle.otp_hand.specs.Sendings.{sent_at, sent_in}
use Rattle.otp_close.proofs.Apart.{all-more, length-more, seen-more, apart-more}
use Rattle.otp_close.proofs.Settlings.{all_ready, more_next, next_at, next_behind, room_ready, sender_ready}
use Rattle.otp_close.proofs.Begun.{apart_starts, none_left}
use Rattle.otp_close.proofs.Leavings.{found_at}
use Rattle.otp_close.proofs.Ended.{told_each}
use Rattle.otp_close.proofs.closing.take_all_apart.Goals as goal

pub next_of-sender-requires : goal.next_of-sender-requires
next_of-sender-requires g c =
    let i = c.loop-sup.invariant in
    let n = length c.loop-sup.tables.items in
    let sup = next_at c.args.sups.items n _ _ _ i.sups (c.in-Some.ensures {u = tt}).steps.0 in
    let more = more_next c.args.senders.items n _ _ i.senders (sender_ready c.args.sups.items c.args.senders.items c.args.rooms.items n _ c.requires.ready sup) in
    let left = i.left_too in
    omega arith

pub next_of-room-requires : goal.next_of-room-requires
next_of-room-requires g c =
    let i = c.loop-sup.invariant in
    let n = length c.loop-sup.tables.items in
    let sup = next_at c.args.sups.items n _ _ _ i.sups (c.in-Some.ensures {u = tt}).steps.0 in
    let sender = next_at c.args.senders.items n _ _ _ i.senders c.next_of-sender.ensures.next in
    let more = more_next c.args.rooms.items n _ _ i.rooms (room_ready c.args.sups.items c.args.senders.items c.args.rooms.items n _ _ c.requires.ready sup sender) in
    let left = i.left_rooms in
    omega arith

pub take_apart-requires : goal.take_apart-requires
take_apart-requires g c =
    let i = c.loop-sup.invariant in
    let n = length c.loop-sup.tables.items in
    let sup = next_at c.args.sups.items n _ _ _ i.sups (c.in-Some.ensures {u = tt}).steps.0 in
    let sender = next_at c.args.senders.items n _ _ _ i.senders c.next_of-sender.ensures.next in
    let room = next_at c.args.rooms.items n _ _ _ i.rooms c.next_of-room.ensures.next in
    all_ready c.args.sups.items c.args.senders.items c.args.rooms.items n _ _ _ c.requires.ready sup sender room

pub loop-sup-preserved : goal.loop-sup-preserved
loop-sup-preserved g c =
    let i = c.loop-sup.invariant in
    let n = length c.loop-sup.tables.items in
    let next = (c.in-Some.ensures {u = tt}).steps.0 in
    let fewer = (c.in-Some.ensures {u = tt}).steps.1 in
    let shorter = ap length next in
    let sender = c.next_of-sender.ensures.next in
    let room_of = c.next_of-room.ensures.next in
    let at = next_at c.args.sups.items n _ _ _ i.sups next in
    let own : c.in-Some.sup.inbox ≡ n = found_at (λ k u. u.inbox ≡ k) c.args.sups.items n c.in-Some.sup c.requires.placed at in
    let planned = subst (λ m. IsBegunBy (g.N.PlanNaming.plan m) c.take_apart.result.core.base) own c.take_apart.ensures.plan in
    let shorter_too = ap length sender in
    let shorter_rooms = ap length room_of in
    let fewer_too = c.next_of-sender.ensures.len in
    let fewer_rooms = c.next_of-room.ensures.len in
    let before_too = i.left_too in
    let before_rooms = i.left_rooms in
    let before = i.left in
    let room = i.room in
    let count = i.count in
    let one = c.push_reserved.ensures.items in
    let len = c.push_reserved.ensures.len in
    let capacity = c.push_reserved.ensures.capacity in
    let long = length-more _ _ _ one in
    let apart = c.take_apart.ensures in
    let old = c.loop-sup.owner.drawn in
    let new = c.take_apart.new.owner.drawn in
    record {
      left = omega arith;
      left_too = omega arith;
      left_rooms = omega arith;
      room = omega arith;
      count = omega arith;
      plans = subst (HaveBegun g.N.PlanNaming.plan) (sym one) (push_at (λ k (t : TableReport). IsBegunBy (g.N.PlanNaming.plan k) t.core.base) _ _ i.plans planned);
      begins = all-more HasBegun _ _ _ one i.begins apart.begins;
      shown = all-more HasTold _ _ _ one i.shown apart.shown;
      apart = apart-more _ _ _ old one apart.apart i.seen i.apart;
      seen = seen-more _ _ _ old new one apart.kept apart.gained i.seen;
      unsent = all-more HasUnsent _ _ _ one i.unsent apart.unsent;
      starts = apart_starts c.args.senders.items _ _ _ _ _ _ one sender apart.starts i.starts;
      done = subst (λ l. AllAt (λ k t. AsOften (items_in (sent_at k c.args.senders.items)) (line_of t)) l) (sym one) (push_at (λ k t. AsOften (items_in (sent_at k c.args.senders.items)) (line_of t)) _ _ i.done (subst (λ o. AsOften (items_in (sent_in o)) (line_of c.take_apart.result)) (sym (next_at c.args.senders.items n _ _ _ i.senders sender)) apart.left));
      order = subst (λ l. AllAt (λ k t. EachInOrder (map items_in (lists_at k c.args.senders.items)) (line_of t)) l) (sym one) (push_at (λ k t. EachInOrder (map items_in (lists_at k c.args.senders.items)) (line_of t)) _ _ i.order (subst (λ o. EachInOrder (map items_in (lists_in o)) (line_of c.take_apart.result)) (sym (next_at c.args.senders.items n _ _ _ i.senders sender)) apart.order));
      come = subst (λ l. AllAt (λ k t. HasCome (sent_at k c.args.senders.items) t) l) (sym one) (push_at (λ k t. HasCome (sent_at k c.args.senders.items) t) _ _ i.come (subst (λ o. HasCome (sent_in o) c.take_apart.result) (sym (next_at c.args.senders.items n _ _ _ i.senders sender)) apart.come));
      tables = subst (λ l. AllAt (λ k t. IsOfTable g.N.PlanNaming.plan k (sent_at k c.args.senders.items) (shares_at k c.args.senders.items) t) l) (sym one) (push_at (λ k t. IsOfTable g.N.PlanNaming.plan k (sent_at k c.args.senders.items) (shares_at k c.args.senders.items) t) _ _ i.tables
          (subst (λ o. IsOfTable g.N.PlanNaming.plan n (sent_in o) (shares_in o) c.take_apart.result) (sym (next_at c.args.senders.items n _ _ _ i.senders sender))
          (subst (λ m. IsOfTable g.N.PlanNaming.plan m (all_sent c.next_of-sender.result) c.next_of-sender.result.shares c.take_apart.result) own apart.table)));
      sups = ap (λ n. drop n c.args.sups.items) long ∙ next_behind c.args.sups.items n _ _ _ i.sups next;
      senders = ap (λ n. drop n c.args.senders.items) long ∙ next_behind c.args.senders.items n _ _ _ i.senders sender;
      rooms = ap (λ n. drop n c.args.rooms.items) long ∙ next_behind c.args.rooms.items n _ _ _ i.rooms room_of;
    }

pub returns-clause-starts : goal.returns-clause-starts
returns-clause-starts g c =
    let i = c.loop-sup.invariant in
    let none = (c.in-None.ensures {u = tt}).steps.0 in
    let left = i.left in
    let count = i.count in
    let many = c.requires.as_many in
    let starts = i.starts in
    let rest = none_left c.args.senders.items (length c.loop-sup.tables.items) c.loop-sup.senders.rest.items (omega (arith, none, left, count, many)) i.senders in
    omega (arith, starts, rest)

pub returns-clause-ends : goal.returns-clause-ends
returns-clause-ends g c =
    let i = c.loop-sup.invariant in
    let none = (c.in-None.ensures {u = tt}).steps.0 in
    let left = i.left in
    let count = i.count in
    let many = c.requires.as_many in
    told_each c.args.senders.items c.loop-sup.tables.items (omega (arith, none, left, count, many)) i.done
