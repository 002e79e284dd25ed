use Rattle.std.proofs.Common.{◌≡◌, ◌+◌, ap, arith, length, map, refl, sym, subst, ◌∙◌}
use Rattle.std.specs.Prelude.{Contains}
use Rattle.otp_signals.specs.declared.view.Holding.{Holding}
use Rattle.otp_open.proofs.Fresh.{all_idle}
use Rattle.otp_open.specs.Opens.{AreOpened, IsIdle, root_ticket}
use Rattle.otp_run.specs.Lists.{AllAt}
use Rattle.otp_hand.specs.Hands.{TreeClientView, senders_of}
use Rattle.otp_hand.specs.Sendings.{parts_at, parts_to}
use Rattle.otp_inbox.specs.Tokens.{TakerState}
use Rattle.otp_bodies.specs.declared.letter.Message.{Message}
use Rattle.otp_tree.proofs.Complete.{opened_complete}
use Rattle.otp_tree.proofs.opening.Bare.ready.Goals as goal

pub ready_all-requires-clause-slots : goal.ready_all-requires-clause-slots
ready_all-requires-clause-slots g c =
    let slots = c.requires.slots in
    λ slot low below. subst (λ (o : Holding). Contains o.slots slot) (sym c.viewer-viewer.ensures.same) (c.named-words.ensures.slots slot low (omega (arith, slots, below)))

pub make_hands-requires-clause-idle : goal.make_hands-requires-clause-idle
make_hands-requires-clause-idle g c =
    let opened = c.in_ok-schedulers.ensures {u = tt} in
    subst (λ n. AllAt (IsIdle n) c.in_ok-schedulers.schedulers.items) (sym opened.count) (all_idle _ _ opened.opened)

pub first-client-requires-clause-slot : goal.first-client-requires-clause-slot
first-client-requires-clause-slot g c = (c.in_ok-places.ensures {u = tt}).root

pub first-client-requires-clause-given : goal.first-client-requires-clause-given
first-client-requires-clause-given g c = ap (λ (t : TakerState Message). t.given) c.named-outer.ensures.taker

pub first-client-requires-clause-taken : goal.first-client-requires-clause-taken
first-client-requires-clause-taken g c = ap (λ (t : TakerState Message). t.taken) c.named-outer.ensures.taker

pub returns-clause-places : goal.returns-clause-places
returns-clause-places g c = (c.in_ok-places.ensures {u = tt}).places

pub returns-clause-outer : goal.returns-clause-outer
returns-clause-outer g c =
    let count = c.len-tables.ensures in
    let ok = c.args.self.inboxes.ok.0 in
    let many = c.requires.as_many in
    let same : c.len-tables.result ≡ length c.args.plans.now = omega (arith, count, ok, many) in
    c.named-outer.ensures.inbox ∙ same

pub returns-clause-own : goal.returns-clause-own
returns-clause-own g c = ap length (c.in_ok-hands.ensures {u = tt}).same ∙ (c.in_ok-places.ensures {u = tt}).passes

pub returns-clause-unasked : goal.returns-clause-unasked
returns-clause-unasked g c = ap (λ (v : TreeClientView). v.owner.posts) c.first-client.ensures ∙ (c.in_ok-places.ensures {u = tt}).posts

pub returns-clause-hands : goal.returns-clause-hands
returns-clause-hands g c =
    let hands = c.in_ok-hands.hands.items in
    let queue = c.args.self.queue in
    let tables = length c.args.self.inboxes.items in
    let opened = (c.in_ok-hands.ensures {u = tt}).opened in
    let many = (c.in_ok-schedulers.ensures {u = tt}).count in
    let count = c.len-tables.ensures in
    let ok = c.args.self.inboxes.ok.0 in
    let same : c.len-tables.result ≡ tables = omega (arith, count, ok) in
    let ticket = ap (λ p. p.ticket) (c.in-Ok.ensures {u = tt}).made ∙ ap root_ticket same in
    subst (λ t. AreOpened t (length queue) hands) ticket (subst (λ n. AreOpened c.in-Ok.process.ticket n hands) many opened)

pub returns-clause-complete : goal.returns-clause-complete
returns-clause-complete g c = λ some.
    let made = c.in_ok-hands.ensures {u = tt} in
    let hands = c.in_ok-hands.hands.items in
    let seated = c.in_ok-senders.ensures {u = tt} in
    let schedulers = (c.in_ok-schedulers.ensures {u = tt}).count in
    let all = c.in_ok-places.ensures {u = tt} in
    let client = c.first-client.ensures in
    let tables = length c.args.self.inboxes.items in
    let count = c.len-tables.ensures in
    let ok = c.args.self.inboxes.ok.0 in
    let same : c.len-tables.result ≡ tables = omega (arith, count, ok) in
    opened_complete c.in-Ok.process.ticket (length c.in_ok-schedulers.schedulers.items) tables tables hands c.first-client.result c.in_ok-senders.senders c.named-outer.result.1 (omega (arith, some, schedulers)) made.opened
    refl
    (ap (λ (v : TreeClientView). v.waiter) client)
    (ap (λ (w : TakerState Message). w.inbox) c.named-outer.ensures.taker ∙ same)
    (seated.many ∙ ap (λ n. n + 1) all.count)
    seated.firsts
    (ap (λ (v : TreeClientView). length v.senders) client ∙ made.len)
    (λ k. ap (λ (v : TreeClientView). parts_at k v.senders + parts_to k (map senders_of hands)) client ∙ made.split k)
    made.reach
