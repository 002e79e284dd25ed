use Rattle.std.proofs.Common.{◌≡◌, ◌+◌, List, Option, ℕ, ap, arith, is_some, length, refl, rules, sym, ◌∙◌, subst, IsSome}
use Rattle.otp_core.specs.View.{View, state_of, stored_of}
use Rattle.otp_rules.specs.Waits.{starts_waiting}
use Rattle.otp_bodies.specs.Bodies.{BodiesView, bodies_in, bodies_sent, calls_waiting}
use Rattle.otp_sup.specs.Facts.{HasBodies, IsTable}
use Rattle.otp_bodies.specs.Offices.{OfficeView, slot_to_start}
use Rattle.otp_bodies.specs.Messages.{items_in}
use Rattle.otp_bodies.specs.Ports.{carried}
use Rattle.otp_bodies.specs.Events.{items_of}
use Rattle.otp_sup.specs.Shares.{gave, starts_of}
use Rattle.otp_sup.specs.declared.table.Table.TheInside.{Inside}
use Rattle.otp_sup.proofs.Credits.{gave_none}
use Rattle.otp_sup.proofs.Published.{counts_same}
use Rattle.otp_sup.proofs.Told.{ends_same}
use Rattle.otp_sup.proofs.Flushing.{bodies_flushed, start_leaves}
use Rattle.otp_bodies.specs.declared.bodies.Kept.{Kept}
use Rattle.otp_sup.proofs.Calls.{sent_calls}
use Rattle.otp_bodies.proofs.Telling.{told_same}
use Rattle.otp_inbox.specs.Tokens.{TakerState}
use Rattle.otp_bodies.specs.declared.letter.Message.{Message}
use Rattle.otp_bodies.specs.Flushes.{starts_flushed}
use Rattle.otp_bodies.proofs.Shared.{starts_sent_on}
use Rattle.otp_sup.proofs.Leaving.{Leaves, Left, Returns, count_returned, fits, is_none, leaves_none, leaves_one, leaves_same, left_or_not, returns_back, returns_none}
use Rattle.otp_sup.proofs.Planned.{planned}
use Rattle.otp_bodies.proofs.Putting.{flushes_core, flushes_none}
use Rattle.otp_sup.proofs.table.Table.flush_one.Given.{Over}
use Rattle.otp_sup.proofs.table.Table.flush_one.Goals as goal
use Rattle.otp_sup.proofs.table.Table.flush_one.Goals.{in-Some-Some, in_default, in_default-via-in-Some+in_default, in_default-via-in_default, in-Some, in_default-back, After-is_start_sent, Joined-slot}

-- what is known of the body that left, where one did
leaves_at : (g : Over) (c : goal.Joined-slot g) → Leaves g.row.B.Denot c.starting_slot-slot.result c.find_home-at.result c.match-slot.body c.self.inside.bodies.kept c.match-slot.bodies.kept
leaves_at g c = elim c.match-slot.branch [
  | in-Some-Some w ↦
      leaves_same c.starting_slot-slot.result c.find_home-at.result w.leave-body.result c.match-slot.body c.self.inside.bodies.kept w.leave-body.new.self c.match-slot.bodies
      (leaves_one c.starting_slot-slot.result c.find_home-at.result w.in-Some-Some.slot w.in-Some-Some.at w.leave-body.result c.self.inside.bodies.kept w.leave-body.new.self.kept
      c.find_home-at.ensures w.in-Some-Some.is-0 w.in-Some-Some.is-1 w.leave-body.ensures.kept w.leave-body.ensures.body w.leave-body.ensures.back w.leave-body.ensures.within)
      w.bodies-is w.body-is
  | in_default w ↦
      leaves_none c.starting_slot-slot.result c.find_home-at.result c.match-slot.body c.self.inside.bodies.kept c.match-slot.bodies.kept c.find_home-at.ensures
      (elim w.in_default.branch [
        | in_default-via-in-Some+in_default v ↦ λ is_slot is_at. is_none c.find_home-at.result v.in_default.is-1 is_at
        | in_default-via-in_default v ↦ λ is_slot is_at. is_none c.starting_slot-slot.result v.in_default.is-0 is_slot
      ])
      w.body-is (ap (λ (v : BodiesView). v.kept) w.bodies-is)
]

-- beside the bodies only the office changed
frame : (g : Over) (c : goal.After-is_start_sent g) → c.match-back.self-inside ≡ record c.self.inside { office = c.flush_one-flushed.new.self; bodies = c.match-back.self-inside.bodies }
frame g c =
    let Only : Inside g.row.N.Denot g.row.B.Denot → Inside g.row.N.Denot g.row.B.Denot = λ i. record c.self.inside { office = c.flush_one-flushed.new.self; bodies = i.bodies } in
    elim c.match-back.branch [ in-Some w ↦ w.self-inside-is ∙ ap Only (sym w.self-inside-is) | in_default-back w ↦ w.self-inside-is ∙ ap Only (sym w.self-inside-is) ]

-- and of the one that came back, where it did
left_at : (g : Over) (c : goal.After-is_start_sent g) → Leaves g.row.B.Denot c.starting_slot-slot.result c.find_home-at.result c.match-slot.body c.self.inside.bodies.kept c.match-slot.bodies.kept
    → Left g.row.B.Denot c.flush_one-flushed.result.0 c.starting_slot-slot.result c.find_home-at.result c.match-slot.body c.flush_one-flushed.result.1 c.self.inside.bodies.kept c.match-slot.bodies.kept c.match-back.self-inside.bodies.kept
left_at g c leaves =
    let sent = c.flush_one-flushed.ensures in
    let kept_in : Inside g.row.N.Denot g.row.B.Denot → List Kept = λ i. i.bodies.kept in
    let returns : Returns g.row.B.Denot c.starting_slot-slot.result c.find_home-at.result c.flush_one-flushed.result.1 c.match-slot.bodies.kept c.match-back.self-inside.bodies.kept = elim c.match-back.branch [
      | in-Some w ↦ returns_back _ _ _ w.in-Some.body _ _ w.in-Some.is (λ kept can. ap kept_in w.self-inside-is ∙ w.take_back.ensures kept can)
      | in_default-back w ↦ returns_none _ _ _ _ _ (is_none c.flush_one-flushed.result.1 w.in_default-back.is) (ap kept_in w.self-inside-is)
    ] in
    record {
      leaves = leaves;
      returns = returns;
      whose = sent.whose;
      refused = sent.back;
      gone = λ is some. sent.gone is (subst (λ (s : Option ℕ). IsSome s) c.starting_slot-slot.ensures some);
      empty = λ is. c.starting_slot-slot.ensures ∙ flushes_none _ _ _ _ _ _ _ (state_of c.self.inside.office.core).rows sent.flushed is;
    }

-- so the table keeps what its type says, once the taker gave the start that was sent
holds : (g : Over) (c : goal.After-is_start_sent g) → Leaves g.row.B.Denot c.starting_slot-slot.result c.find_home-at.result c.match-slot.body c.self.inside.bodies.kept c.match-slot.bodies.kept
    → (taker : TakerState Message) → taker ≡ gave (starts_of (starts_flushed c.flush_one-flushed.result.0 c.starting_slot-slot.result)) c.self.inside.taker
    → IsTable g.N.PlanNaming.plan (record { office = c.match-back.self-inside.office; taker = taker; bodies = c.match-back.self-inside.bodies.kept; counts = c.match-back.self-inside.counts; ends_told = c.match-back.self-inside.ends.items })
holds g c leaves taker gives =
    let old : OfficeView = c.self.inside.office in
    let new : OfficeView = c.flush_one-flushed.new.self in
    let sent = c.flush_one-flushed.ensures in
    let core : new.core ≡ old.core = flushes_core _ _ _ _ _ _ _ sent.flushed in
    let slot = c.starting_slot-slot.result in
    let now : List Kept = c.match-back.self-inside.bodies.kept in
    let is = left_or_not c.flush_one-flushed.result.0 slot c.find_home-at.result c.match-slot.body c.flush_one-flushed.result.1 c.self.inside.bodies.kept c.match-slot.bodies.kept now (left_at g c leaves) in
    let Has : List Kept → Type 0 = λ l. HasBodies new l in
    let Slot : Option ℕ → Type 0 = λ o. HasBodies new (bodies_sent c.flush_one-flushed.result.0 o c.self.inside.bodies.kept) in
    let Is : Inside g.row.N.Denot g.row.B.Denot → Type 0 = λ i. IsTable g.N.PlanNaming.plan (record { office = i.office; taker = taker; bodies = now; counts = i.counts; ends_told = i.ends.items }) in
    subst Is (sym (frame g c)) (record {
      plan = planned g.N.PlanNaming.plan _ _ _ _ (ap (λ (v : View). v.base) core) (ap (λ (t : TakerState Message). t.inbox) gives) c.self.invariant.plan;
      taken = ap (λ (t : TakerState Message). items_in t.taken) gives ∙ c.self.invariant.taken ∙ ap (λ (v : View). items_of v.history) (sym core);
      calls = ap (λ (l : List Kept). calls_waiting l) is
          ∙ sent_calls c.flush_one-flushed.result.0 slot c.self.inside.bodies.kept
          ∙ c.self.invariant.calls
          ∙ ap (λ (v : View). starts_waiting (state_of v).waiting) (sym core);
      bodies = subst Has (sym is) (subst Slot (sym c.starting_slot-slot.ensures) (bodies_flushed _ _ _ _ _ _ _ c.self.inside.bodies.kept c.keeps_rules.ensures sent.flushed c.self.invariant.bodies));
      counts = counts_same g.N.PlanNaming.plan _ _ old.core new.core _ (ap (λ (t : TakerState Message). t.inbox) gives) (ap (λ (v : View). v.base) core) (ap (λ (v : View). v.history) core) c.self.invariant.counts;
      told = told_same _ _ _ _ (ap stored_of core) refl c.self.invariant.told;
      ends = ends_same old.core new.core c.self.inside.taker.taken taker.taken c.self.inside.ends.items (ap (λ (v : View). v.cut) core) (ap (λ (v : View). v.history) core) (ap (λ (t : TakerState Message). t.taken) gives) c.self.invariant.ends;
      starts =
          let given = ap (λ (t : TakerState Message). t.given.starts) gives in
          let more = starts_sent_on _ _ _ _ _ _ _ c.keeps_rules.ensures sent.flushed in
          let same = ap (λ (o : Option ℕ). starts_flushed c.flush_one-flushed.result.0 o) c.starting_slot-slot.ensures in
          let before = c.self.invariant.starts in
          omega (arith, given, more, same, before);
      turns =
          let given = ap (λ (t : TakerState Message). t.given.turns) gives in
          let finds = ap (λ (t : TakerState Message). t.empty_finds) gives in
          let events = ap (λ (v : View). length v.history) core in
          let before = c.self.invariant.turns in
          omega (arith, given, finds, events, before);
    })

-- the bodies are as they were sent
sent_bodies : (g : Over) (c : goal.After-is_start_sent g) → Leaves g.row.B.Denot c.starting_slot-slot.result c.find_home-at.result c.match-slot.body c.self.inside.bodies.kept c.match-slot.bodies.kept
    → c.match-back.self-inside.bodies.kept ≡ bodies_sent c.flush_one-flushed.result.0 (slot_to_start c.self.inside.office) c.self.inside.bodies.kept
sent_bodies g c leaves =
    left_or_not c.flush_one-flushed.result.0 c.starting_slot-slot.result c.find_home-at.result c.match-slot.body c.flush_one-flushed.result.1 c.self.inside.bodies.kept c.match-slot.bodies.kept c.match-back.self-inside.bodies.kept (left_at g c leaves)
    ∙ ap (λ (o : Option ℕ). bodies_sent c.flush_one-flushed.result.0 o c.self.inside.bodies.kept) c.starting_slot-slot.ensures

-- and one body more or less is the port's
counted : (g : Over) (c : goal.After-is_start_sent g) → Leaves g.row.B.Denot c.starting_slot-slot.result c.find_home-at.result c.match-slot.body c.self.inside.bodies.kept c.match-slot.bodies.kept
    → bodies_in c.match-back.self-inside.bodies.kept + carried (g.P.Port.processes c.flush_one-flushed.new.port) ≡ bodies_in c.self.inside.bodies.kept + carried (g.P.Port.processes c.args.port.now)
counted g c leaves =
    let back = count_returned c.flush_one-flushed.result.0 c.starting_slot-slot.result c.find_home-at.result c.match-slot.body c.flush_one-flushed.result.1 c.self.inside.bodies.kept c.match-slot.bodies.kept c.match-back.self-inside.bodies.kept (left_at g c leaves) in
    let left = leaves.count in
    let with = c.flush_one-flushed.ensures.bodies in
    omega (arith, back, left, with)

pub flush_one-flushed-requires : goal.flush_one-flushed-requires
flush_one-flushed-requires g c = λ some.
    let leaves = leaves_at g (goal.at.flush_one-flushed-requires g c).Joined-slot in
    start_leaves c.self.inside.office c.self.inside.bodies.kept c.starting_slot-slot.result c.match-slot.body c.keeps_rules.ensures c.self.invariant.bodies c.starting_slot-slot.ensures leaves.found some

pub take_back-requires : goal.take_back-requires
take_back-requires g c =
    fits c.starting_slot-slot.result c.find_home-at.result c.match-slot.bodies.kept c.self.inside.bodies.kept
    ((leaves_at g (goal.at.take_back-requires g c).Joined-slot).can (c.flush_one-flushed.ensures.whose (ap (λ o. is_some o) c.in-Some.is)))

pub invariant_of-self : goal.invariant_of-self
invariant_of-self g c =
    let taker : c.match-back.self-inside.taker ≡ c.self.inside.taker = ap (λ (i : Inside g.row.N.Denot g.row.B.Denot). i.taker) (frame g (goal.at.invariant_of-self g c).After-is_start_sent) in
    holds g (goal.at.invariant_of-self g c).After-is_start_sent (leaves_at g (goal.at.invariant_of-self g c).Joined-slot) c.credit.new.taker
    (c.credit.ensures.given ∙ ap (λ (t : TakerState Message). gave (starts_of 1) t) taker ∙ ap (λ (n : ℕ). gave (starts_of n) c.self.inside.taker) (sym (c.if-is_start_sent.ensures {u = tt})))

pub invariant_of-self-else-is_start_sent : goal.invariant_of-self-else-is_start_sent
invariant_of-self-else-is_start_sent g c =
    let taker : c.match-back.self-inside.taker ≡ c.self.inside.taker = ap (λ (i : Inside g.row.N.Denot g.row.B.Denot). i.taker) (frame g (goal.at.invariant_of-self-else-is_start_sent g c).After-is_start_sent) in
    holds g (goal.at.invariant_of-self-else-is_start_sent g c).After-is_start_sent (leaves_at g (goal.at.invariant_of-self-else-is_start_sent g c).Joined-slot) c.match-back.self-inside.taker
    (taker ∙ gave_none c.self.inside.taker ∙ ap (λ (n : ℕ). gave (starts_of n) c.self.inside.taker) (sym (c.if-is_start_sent.ensures {u = tt})))

pub returns-then-is_start_sent-clause-count : goal.returns-then-is_start_sent-clause-count
returns-then-is_start_sent-clause-count g c =
    let count = counted g (goal.at.returns-then-is_start_sent-clause-count g c).After-is_start_sent (leaves_at g (goal.at.returns-then-is_start_sent-clause-count g c).Joined-slot) in
    let same : bodies_in c.args.self.now.bodies ≡ bodies_in c.self.inside.bodies.kept = search rules in
    omega (arith, count, same)

pub returns-else-is_start_sent-clause-count : goal.returns-else-is_start_sent-clause-count
returns-else-is_start_sent-clause-count g c =
    let count = counted g (goal.at.returns-else-is_start_sent-clause-count g c).After-is_start_sent (leaves_at g (goal.at.returns-else-is_start_sent-clause-count g c).Joined-slot) in
    let same : bodies_in c.args.self.now.bodies ≡ bodies_in c.self.inside.bodies.kept = search rules in
    omega (arith, count, same)

pub returns-then-is_start_sent-clause-bodies : goal.returns-then-is_start_sent-clause-bodies
returns-then-is_start_sent-clause-bodies g c =
    let is = sent_bodies g (goal.at.returns-then-is_start_sent-clause-bodies g c).After-is_start_sent (leaves_at g (goal.at.returns-then-is_start_sent-clause-bodies g c).Joined-slot) in
    search rules

pub returns-else-is_start_sent-clause-bodies : goal.returns-else-is_start_sent-clause-bodies
returns-else-is_start_sent-clause-bodies g c =
    let is = sent_bodies g (goal.at.returns-else-is_start_sent-clause-bodies g c).After-is_start_sent (leaves_at g (goal.at.returns-else-is_start_sent-clause-bodies g c).Joined-slot) in
    search rules
