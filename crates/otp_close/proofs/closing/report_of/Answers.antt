use Rattle.std.proofs.Common.{◌≡◌, ◌<◌, ℕ, ◌-◌, ◌^◌, ◌∷◌, ◌++◌, length, map, min, sym, ap, ◌∙◌, subst, arith}
use Rattle.std.specs.Prelude.{IfSome, MatchOption, sum_by}
use Rattle.otp_inbox.specs.Lists.{AsOften, EachInOrder}
use Rattle.otp_inbox.specs.declared.rule.Shares.{Shares}
use Rattle.otp_inbox.specs.Tokens.{TakerState, all_parts, all_sent, no_shares}
use Rattle.otp_bodies.specs.Messages.{items_in}
use Rattle.otp_close.proofs.Come.{ends_said}
use Rattle.otp_hand.specs.Sendings.{parts_to, sent_at, sent_to}
use Rattle.otp_bodies.specs.declared.letter.Message.{Message}
use Rattle.std.proofs.lemmas.List.Sums.{sum_by-append, sum_by_push}
use Rattle.otp_hand.specs.Begun.{starts_credited}
use Rattle.otp_hand.specs.Ended.{CountsHeard, end_of, end_share, ends_among, ends_in, ends_sent}
use Rattle.otp_close.proofs.Begun.{as_far_as, others_as_far}
use Rattle.otp_hand.proofs.Begun.{starts_push}
use Rattle.otp_run.specs.Lists.{AllAt}
use Rattle.otp_run.proofs.Places.{each_at}
use Rattle.otp_close.specs.Leavings.{HasCome, line_of, lists_at, lists_to}
use Rattle.otp_close.specs.Settlings.{HasLists, HasShares, IsRoom, IsWhole, senders_in}
use Rattle.otp_close.specs.Tables.{IsOfTable, shares_at, shares_to}
use Rattle.otp_close.proofs.Credited.{shares_but_last}
use Rattle.otp_close.proofs.Ordered.{lists_but_last, lists_of_last}
use Rattle.otp_close.proofs.Settlings.{last_whole, others_ready, others_sent, others_whole}
use Rattle.otp_close.proofs.closing.report_of.Goals as goal

pub take_all_apart-tables-requires-clause-ready : goal.take_all_apart-tables-requires-clause-ready
take_all_apart-tables-requires-clause-ready g c =
    let rests = c.args.gathered.rests.items in
    let whole = subst (λ v. AllAt (IsWhole (v.senders ∷ map senders_in rests)) c.join_all-senders.result.senders) c.client.view_is c.join_all-senders.ensures.whole in
    let many = c.join_all-senders.ensures.len ∙ ap (λ v. length v.senders) c.client.view_is ∙ c.requires.reached.reach in
    let l = c.into_last-senders.ensures in
    others_ready (c.args.client.senders ∷ map senders_in rests) c.args.loose.sups.items c.args.loose.outer _ _ c.join_all-senders.result.senders c.args.loose.rooms.items c.requires.loose.placed l.all l.seated whole many c.requires.loose.rooms c.requires.loose.many_rooms

pub settle-last-requires-clause-sends : goal.settle-last-requires-clause-sends
settle-last-requires-clause-sends g c =
    let rests = c.args.gathered.rests.items in
    let whole = subst (λ v. AllAt (IsWhole (v.senders ∷ map senders_in rests)) c.join_all-senders.result.senders) c.client.view_is c.join_all-senders.ensures.whole in
    let many = c.join_all-senders.ensures.len ∙ ap (λ v. length v.senders) c.client.view_is ∙ c.requires.reached.reach in
    let l = c.into_last-senders.ensures in
    (last_whole (c.args.client.senders ∷ map senders_in rests) c.args.loose.sups.items c.args.loose.outer _ _ c.join_all-senders.result.senders c.requires.loose.placed l.all l.seated whole many).0

pub settle-last-requires-clause-whole : goal.settle-last-requires-clause-whole
settle-last-requires-clause-whole g c =
    let rests = c.args.gathered.rests.items in
    let whole = subst (λ v. AllAt (IsWhole (v.senders ∷ map senders_in rests)) c.join_all-senders.result.senders) c.client.view_is c.join_all-senders.ensures.whole in
    let many = c.join_all-senders.ensures.len ∙ ap (λ v. length v.senders) c.client.view_is ∙ c.requires.reached.reach in
    let l = c.into_last-senders.ensures in
    (last_whole (c.args.client.senders ∷ map senders_in rests) c.args.loose.sups.items c.args.loose.outer _ _ c.join_all-senders.result.senders c.requires.loose.placed l.all l.seated whole many).1.1

pub settle-last-requires-clause-room : goal.settle-last-requires-clause-room
settle-last-requires-clause-room g c =
    let rests = c.args.gathered.rests.items in
    let all = c.args.client.senders ∷ map senders_in rests in
    let tables = length c.args.loose.sups.items in
    let whole = subst (λ v. AllAt (IsWhole (v.senders ∷ map senders_in rests)) c.join_all-senders.result.senders) c.client.view_is c.join_all-senders.ensures.whole in
    let many = c.join_all-senders.ensures.len ∙ ap (λ v. length v.senders) c.client.view_is ∙ c.requires.reached.reach in
    let l = c.into_last-senders.ensures in
    let sent = (last_whole all c.args.loose.sups.items c.args.loose.outer _ _ c.join_all-senders.result.senders c.requires.loose.placed l.all l.seated whole many).1.0 in
    let waits = sym (ap (λ v. v.waiter) c.client.view_is) ∙ c.in-Some.is in
    subst (λ n. IsRoom n (length c.in-Some.waiter.taken) c.args.loose.last) (ap length (sym sent))
    (subst (λ o. MatchOption o ⊥ (λ w. IsRoom (length (sent_to tables all)) (length w.taken) c.args.loose.last)) waits c.requires.loose.last)

pub returns-clause-left : goal.returns-clause-left
returns-clause-left g c =
    let rests = c.args.gathered.rests.items in
    let all = c.args.client.senders ∷ map senders_in rests in
    let list = c.into_last-senders.result.0.items in
    let whole = subst (λ v. AllAt (IsWhole (v.senders ∷ map senders_in rests)) c.join_all-senders.result.senders) c.client.view_is c.join_all-senders.ensures.whole in
    let many = c.join_all-senders.ensures.len ∙ ap (λ v. length v.senders) c.client.view_is ∙ c.requires.reached.reach in
    let l = c.into_last-senders.ensures in
    let w = others_whole all c.args.loose.sups.items list _ c.join_all-senders.result.senders l.all whole many in
    let size = w.1 in
    let count = c.take_all_apart-tables.ensures.count in
    each_at (λ k t. AsOften (items_in (sent_at k list)) (line_of t)) (λ k t. AsOften (items_in (sent_to k all)) (line_of t)) c.take_all_apart-tables.result.items c.take_all_apart-tables.ensures.left
    (λ j t within often. λ weight. ap (λ l. sum_by weight (items_in l)) (sym (others_sent all list j w.0 (omega (arith, within, size, count)))) ∙ often weight)

pub returns-clause-come : goal.returns-clause-come
returns-clause-come g c =
    let rests = c.args.gathered.rests.items in
    let all = c.args.client.senders ∷ map senders_in rests in
    let list = c.into_last-senders.result.0.items in
    let whole = subst (λ v. AllAt (IsWhole (v.senders ∷ map senders_in rests)) c.join_all-senders.result.senders) c.client.view_is c.join_all-senders.ensures.whole in
    let many = c.join_all-senders.ensures.len ∙ ap (λ v. length v.senders) c.client.view_is ∙ c.requires.reached.reach in
    let l = c.into_last-senders.ensures in
    let w = others_whole all c.args.loose.sups.items list _ c.join_all-senders.result.senders l.all whole many in
    let size = w.1 in
    let count = c.take_all_apart-tables.ensures.count in
    each_at (λ k t. HasCome (sent_at k list) t) (λ k t. HasCome (sent_to k all) t) c.take_all_apart-tables.result.items c.take_all_apart-tables.ensures.come
    (λ j t within come. subst (λ sent. HasCome sent t) (others_sent all list j w.0 (omega (arith, within, size, count))) come)

pub returns-clause-last : goal.returns-clause-last
returns-clause-last g c =
    let rests = c.args.gathered.rests.items in
    let all = c.args.client.senders ∷ map senders_in rests in
    let tables = length c.args.loose.sups.items in
    let whole = subst (λ v. AllAt (IsWhole (v.senders ∷ map senders_in rests)) c.join_all-senders.result.senders) c.client.view_is c.join_all-senders.ensures.whole in
    let many = c.join_all-senders.ensures.len ∙ ap (λ v. length v.senders) c.client.view_is ∙ c.requires.reached.reach in
    let l = c.into_last-senders.ensures in
    let sent = (last_whole all c.args.loose.sups.items c.args.loose.outer _ _ c.join_all-senders.result.senders c.requires.loose.placed l.all l.seated whole many).1.0 in
    let waits = sym (ap (λ v. v.waiter) c.client.view_is) ∙ c.in-Some.is in
    subst (λ o. MatchOption o ⊥ (λ w. AsOften (items_in (sent_to tables all)) (items_in w.taken ++ c.settle-last.result.items))) (sym waits)
    (λ weight. ap (λ l. sum_by weight (items_in l)) (sym sent) ∙ c.settle-last.ensures.left weight)

pub join_all-senders-requires-clause-whole : goal.join_all-senders-requires-clause-whole
join_all-senders-requires-clause-whole g c =
    let rests = c.args.gathered.rests.items in
    subst (λ v. (place : ℕ) → place < length v.senders → parts_to place (v.senders ∷ map senders_in rests) ≡ all_parts) (sym c.client.view_is) c.requires.reached.whole

pub join_all-senders-requires-clause-as_far : goal.join_all-senders-requires-clause-as_far
join_all-senders-requires-clause-as_far g c =
    let reach = ap (λ v. length v.senders) c.client.view_is ∙ c.requires.reached.reach in
    as_far_as _ _ _ (sym reach) (others_as_far _ _ _ c.requires.reached.as_far)

pub take_all_apart-tables-requires-clause-as_many : goal.take_all_apart-tables-requires-clause-as_many
take_all_apart-tables-requires-clause-as_many g c =
    let rests = c.args.gathered.rests.items in
    let whole = subst (λ v. AllAt (IsWhole (v.senders ∷ map senders_in rests)) c.join_all-senders.result.senders) c.client.view_is c.join_all-senders.ensures.whole in
    let many = c.join_all-senders.ensures.len ∙ ap (λ v. length v.senders) c.client.view_is ∙ c.requires.reached.reach in
    let l = c.into_last-senders.ensures in
    (others_whole (c.args.client.senders ∷ map senders_in rests) c.args.loose.sups.items _ _ c.join_all-senders.result.senders l.all whole many).1

pub returns-clause-starts : goal.returns-clause-starts
returns-clause-starts g c =
    let joined = c.join_all-senders.ensures.starts in
    let none = c.client.invariant.1 in
    let cut = sym (ap starts_credited c.into_last-senders.ensures.all) ∙ starts_push c.into_last-senders.result.0.items c.into_last-senders.result.1 in
    let last = ap (λ (s : Shares). s.starts) c.settle-last.ensures.shares in
    let waits = subst (λ o. IfSome o (λ (w : TakerState Message). w.given ≡ no_shares)) c.in-Some.is c.client.invariant.2 in
    let given = ap (λ (s : Shares). s.starts) waits in
    let all = c.take_all_apart-tables.ensures.starts in
    let begun = c.requires.begun in
    omega (arith, joined, none, cut, last, given, all, begun)

pub returns-clause-ends : goal.returns-clause-ends
returns-clause-ends g c =
    let taken = c.in-Some.waiter.taken in
    let left = c.settle-last.result.items in
    let joined = c.join_all-senders.ensures.ends in
    let none = c.client.invariant.3 in
    let cut = sym (ap ends_sent c.into_last-senders.ensures.all) ∙ sum_by_push end_share c.into_last-senders.result.0.items c.into_last-senders.result.1 in
    let last : ends_in (items_in (all_sent c.into_last-senders.result.1)) ≡ ends_in (items_in taken ++ left) = c.settle-last.ensures.left end_of in
    let said = ends_said (all_sent c.into_last-senders.result.1) in
    let said_taken = ends_said taken in
    let parts = sum_by-append end_of (items_in taken) left in
    let heard : c.client.inside.heard ≡ min (ends_among taken) (2 ^ 64 - 1) = subst (λ o. IfSome o (CountsHeard c.client.inside.heard)) c.in-Some.is c.client.invariant.4 in
    let held = c.join_all-senders.ensures.held in
    let all = c.take_all_apart-tables.ensures.ends in
    let ended = c.requires.ended in
    omega (arith, joined, none, cut, last, said, said_taken, parts, heard, held, all, ended)

pub returns-clause-heard : goal.returns-clause-heard
returns-clause-heard g c =
    let taken = c.in-Some.waiter.taken in
    let left = c.settle-last.result.items in
    let joined = c.join_all-senders.ensures.ends in
    let none = c.client.invariant.3 in
    let cut = sym (ap ends_sent c.into_last-senders.ensures.all) ∙ sum_by_push end_share c.into_last-senders.result.0.items c.into_last-senders.result.1 in
    let last : ends_in (items_in (all_sent c.into_last-senders.result.1)) ≡ ends_in (items_in taken ++ left) = c.settle-last.ensures.left end_of in
    let said = ends_said (all_sent c.into_last-senders.result.1) in
    let said_taken = ends_said taken in
    let parts = sum_by-append end_of (items_in taken) left in
    let heard : c.client.inside.heard ≡ min (ends_among taken) (2 ^ 64 - 1) = subst (λ o. IfSome o (CountsHeard c.client.inside.heard)) c.in-Some.is c.client.invariant.4 in
    let ended = c.requires.ended in
    let exact : c.client.inside.heard ≡ ends_among taken = omega (arith, joined, none, cut, last, said, said_taken, parts, heard, ended) in
    let waits = sym (ap (λ v. v.waiter) c.client.view_is) ∙ c.in-Some.is in
    subst (λ o. MatchOption o ⊥ (λ (w : TakerState Message). c.client.inside.heard ≡ ends_among w.taken)) (sym waits) exact

pub returns-clause-order : goal.returns-clause-order
returns-clause-order g c =
    let rests = c.args.gathered.rests.items in
    let all = c.args.client.senders ∷ map senders_in rests in
    let list = c.into_last-senders.result.0.items in
    let lists = subst (λ v. AllAt (HasLists (v.senders ∷ map senders_in rests)) c.join_all-senders.result.senders) c.client.view_is c.join_all-senders.ensures.lists in
    let whole = subst (λ v. AllAt (IsWhole (v.senders ∷ map senders_in rests)) c.join_all-senders.result.senders) c.client.view_is c.join_all-senders.ensures.whole in
    let many = c.join_all-senders.ensures.len ∙ ap (λ v. length v.senders) c.client.view_is ∙ c.requires.reached.reach in
    let l = c.into_last-senders.ensures in
    let size = (others_whole all c.args.loose.sups.items list _ c.join_all-senders.result.senders l.all whole many).1 in
    let count = c.take_all_apart-tables.ensures.count in
    each_at (λ k t. EachInOrder (map items_in (lists_at k list)) (line_of t)) (λ k t. EachInOrder (map items_in (lists_to k all)) (line_of t)) c.take_all_apart-tables.result.items c.take_all_apart-tables.ensures.order
    (λ j t within each. subst (λ ls. EachInOrder (map items_in ls) (line_of t)) (lists_but_last all list _ c.join_all-senders.result.senders j l.all lists (omega (arith, within, size, count))) each)

pub returns-clause-last_order : goal.returns-clause-last_order
returns-clause-last_order g c =
    let rests = c.args.gathered.rests.items in
    let all = c.args.client.senders ∷ map senders_in rests in
    let list = c.into_last-senders.result.0.items in
    let tables = length c.args.loose.sups.items in
    let lists = subst (λ v. AllAt (HasLists (v.senders ∷ map senders_in rests)) c.join_all-senders.result.senders) c.client.view_is c.join_all-senders.ensures.lists in
    let whole = subst (λ v. AllAt (IsWhole (v.senders ∷ map senders_in rests)) c.join_all-senders.result.senders) c.client.view_is c.join_all-senders.ensures.whole in
    let many = c.join_all-senders.ensures.len ∙ ap (λ v. length v.senders) c.client.view_is ∙ c.requires.reached.reach in
    let l = c.into_last-senders.ensures in
    let size : length list ≡ tables = (others_whole all c.args.loose.sups.items list _ c.join_all-senders.result.senders l.all whole many).1 in
    let last = lists_of_last all list _ c.join_all-senders.result.senders l.all lists ∙ ap (λ n. lists_to n all) size in
    let waits = sym (ap (λ v. v.waiter) c.client.view_is) ∙ c.in-Some.is in
    subst (λ o. MatchOption o ⊥ (λ w. EachInOrder (map items_in (lists_to tables all)) (items_in w.taken ++ c.settle-last.result.items))) (sym waits)
    (subst (λ ls. EachInOrder (map items_in ls) (items_in c.in-Some.waiter.taken ++ c.settle-last.result.items)) last c.settle-last.ensures.order)

pub returns-clause-tables : goal.returns-clause-tables
returns-clause-tables g c =
    let rests = c.args.gathered.rests.items in
    let all = c.args.client.senders ∷ map senders_in rests in
    let list = c.into_last-senders.result.0.items in
    let plans = g.N.PlanNaming.plan in
    let shares = subst (λ v. AllAt (HasShares (v.senders ∷ map senders_in rests)) c.join_all-senders.result.senders) c.client.view_is c.join_all-senders.ensures.shares in
    let whole = subst (λ v. AllAt (IsWhole (v.senders ∷ map senders_in rests)) c.join_all-senders.result.senders) c.client.view_is c.join_all-senders.ensures.whole in
    let many = c.join_all-senders.ensures.len ∙ ap (λ v. length v.senders) c.client.view_is ∙ c.requires.reached.reach in
    let l = c.into_last-senders.ensures in
    let w = others_whole all c.args.loose.sups.items list _ c.join_all-senders.result.senders l.all whole many in
    let size = w.1 in
    let count = c.take_all_apart-tables.ensures.count in
    each_at (λ k t. IsOfTable plans k (sent_at k list) (shares_at k list) t) (λ k t. IsOfTable plans k (sent_to k all) (shares_to k all) t) c.take_all_apart-tables.result.items c.take_all_apart-tables.ensures.tables
    (λ j t within of.
    subst (λ sent. IsOfTable plans j sent (shares_to j all) t) (others_sent all list j w.0 (omega (arith, within, size, count)))
    (subst (λ credited. IsOfTable plans j (sent_at j list) credited t) (shares_but_last all list _ c.join_all-senders.result.senders j l.all shares (omega (arith, within, size, count))) of))
