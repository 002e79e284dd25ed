use Rattle.std.proofs.Common.{◌≡◌, refl, ap, sym, ◌∙◌, Bool, true, List, [], ◌∷◌, ◌++◌, Option, subst, arith}
use Rattle.otp_core.specs.Again.{starts_again}
use Rattle.otp_core.specs.View.{state_of}
use Rattle.otp_bodies.proofs.Putting.{starts_slot}
use Rattle.std.specs.Prelude.{is_some}
use Rattle.otp_signals.specs.declared.signal.Signal.TheVariants as signal
use Rattle.otp_bodies.specs.declared.office.orders.Sending.{Sending}
use Rattle.otp_bodies.specs.Offices.{OfficeView}
use Rattle.otp_bodies.specs.Flushes.{IsSent, first_end}
use Rattle.otp_rules.specs.declared.ending.SupEnd.{SupEnd}
use Rattle.otp_bodies.specs.declared.port.Launched.{Launched}
use Rattle.otp_bodies.specs.declared.port.ToldNote.{ToldNote}
use Rattle.otp_bodies.specs.Ports.{Taken, launched, taken_by, carried, told}
use Rattle.otp_bodies.proofs.Sends.{sent_first, last_post, carried_last}
use Rattle.otp_bodies.proofs.office.office.Office.flush_one.Goals as goal

pub returns-in-Ask-clause-flushed : goal.returns-in-Ask-clause-flushed
returns-in-Ask-clause-flushed g c =
    let old : OfficeView = c.args.self.now in
    let new : OfficeView = c.drop_first-in-Ask.new.self in
    let p = c.post-slot-in-Ask.ensures.posted in
    let stepped = c.drop_first-in-Ask.ensures in
    let taken : Taken = taken_by (g.P.Port.processes c.args.port.now) (g.P.Port.notes c.args.port.now) in
    let S : Sending → Type 0 = λ h. IsSent h old new taken taken in (
      sent_first old _ new c.in-Some.how taken taken (c.in-Some.ensures {u = tt}) (ap (λ (o : OfficeView). o.outbox) p.owner) (ap (λ (o : OfficeView). o.sent) p.owner) (ap (λ (o : OfficeView). o.core) p.owner) (ap (λ (o : OfficeView). o.first_slot) p.owner) stepped
          (subst S (sym c.in-Ask.is) (record { slot = c.post-slot-in-Ask.result; posted = last_post old _ new c.in-Ask.number c.post-slot-in-Ask.result signal.Shutdown p stepped; took = refl })),
      refl,
    )

pub returns-in-Kill-clause-flushed : goal.returns-in-Kill-clause-flushed
returns-in-Kill-clause-flushed g c =
    let old : OfficeView = c.args.self.now in
    let new : OfficeView = c.drop_first-in-Kill.new.self in
    let p = c.post-slot-in-Kill.ensures.posted in
    let stepped = c.drop_first-in-Kill.ensures in
    let taken : Taken = taken_by (g.P.Port.processes c.args.port.now) (g.P.Port.notes c.args.port.now) in
    let S : Sending → Type 0 = λ h. IsSent h old new taken taken in (
      sent_first old _ new c.in-Some.how taken taken (c.in-Some.ensures {u = tt}) (ap (λ (o : OfficeView). o.outbox) p.owner) (ap (λ (o : OfficeView). o.sent) p.owner) (ap (λ (o : OfficeView). o.core) p.owner) (ap (λ (o : OfficeView). o.first_slot) p.owner) stepped
          (subst S (sym c.in-Kill.is) (record { slot = c.post-slot-in-Kill.result; posted = last_post old _ new c.in-Kill.number c.post-slot-in-Kill.result signal.Kill p stepped; took = refl })),
      refl,
    )

pub returns-in_default-put-clause-flushed : goal.returns-in_default-put-clause-flushed
returns-in_default-put-clause-flushed g c =
    let old : OfficeView = c.args.self.now in
    let new : OfficeView = c.drop_first.new.self in
    let p = c.post-slot.ensures.posted in
    let stepped = c.drop_first.ensures in
    let h = c.in_default-put.ensures {u = tt} in
    let before : Taken = taken_by (g.P.Port.processes c.args.port.now) (g.P.Port.notes c.args.port.now) in
    let after : Taken = taken_by (g.P.Port.processes c.put.new.self) (g.P.Port.notes c.put.new.self) in
    let put : Bool → Bool → Launched = λ again body. launched c.in-Start.number c.post-slot.result c.in-Start.id again body in
    let is_again : Bool = starts_again (state_of old.core).follows in
    let has : is_some c.args.body ≡ true = c.requires (starts_slot old c.in-Some.how c.in-Start.id c.in-Start.number (state_of old.core).rows (c.in-Some.ensures {u = tt}) c.in-Start.is) in
    let took : after ≡ record before { processes = before.processes ++ put is_again true ∷ [] } =
    ap (λ (l : List Launched). taken_by l (g.P.Port.notes c.put.new.self))
    (h.took
    ∙ ap (λ (b : Bool). before.processes ++ put c.starts_again-again.result b ∷ []) has
    ∙ ap (λ (a : Bool). before.processes ++ put a true ∷ []) (c.starts_again-again.ensures ∙ ap (λ v. starts_again (state_of v.core).follows) c.self.view_is))
    ∙ ap (λ (l : List ToldNote). taken_by (before.processes ++ put is_again true ∷ []) l) h.notes in
    let S : Sending → Type 0 = λ w. IsSent w old new before after in (
      sent_first old _ new c.in-Some.how before after (c.in-Some.ensures {u = tt}) (ap (λ (o : OfficeView). o.outbox) p.owner) (ap (λ (o : OfficeView). o.sent) p.owner) (ap (λ (o : OfficeView). o.core) p.owner) (ap (λ (o : OfficeView). o.first_slot) p.owner) stepped
          (subst S (sym c.in-Start.is) (record { slot = c.post-slot.result; posted = last_post old _ new c.in-Start.number c.post-slot.result signal.None p stepped; took = took })),
      h.counted,
    )

pub returns-in_default-put-clause-bodies : goal.returns-in_default-put-clause-bodies
returns-in_default-put-clause-bodies g c =
    let h = c.in_default-put.ensures {u = tt} in
    let put : Launched = launched c.in-Start.number c.post-slot.result c.in-Start.id c.starts_again-again.result (is_some c.args.body) in
    let more = ap carried h.took ∙ carried_last (g.P.Port.processes c.args.port.now) put in
    omega (arith, more)

pub returns-in_default-send-clause-flushed : goal.returns-in_default-send-clause-flushed
returns-in_default-send-clause-flushed g c =
    let old : OfficeView = c.args.self.now in
    let new : OfficeView = c.drop_first-in-Tell.new.self in
    let stepped = c.drop_first-in-Tell.ensures in
    let h = c.in_default-send.ensures {u = tt} in
    let before : Taken = taken_by (g.P.Port.processes c.args.port.now) (g.P.Port.notes c.args.port.now) in
    let after : Taken = taken_by (g.P.Port.processes c.send.new.self) (g.P.Port.notes c.send.new.self) in
    let took : after ≡ record before { notes = before.notes ++ told c.in-Tell.note (first_end old.outbox) ∷ [] } =
    ap (λ (l : List Launched). taken_by l (g.P.Port.notes c.send.new.self)) h.processes
    ∙ ap (λ (l : List ToldNote). taken_by before.processes l) h.took
    ∙ ap (λ (e : Option SupEnd). taken_by before.processes (before.notes ++ told c.in-Tell.note e ∷ [])) c.first_end-end.ensures.end in
    let S : Sending → Type 0 = λ w. IsSent w old new before after in (
      sent_first old old new c.in-Some.how before after (c.in-Some.ensures {u = tt}) refl refl refl refl stepped
          (subst S (sym c.in-Tell.is) (record { owner = ap (λ (o : OfficeView). o.owner) stepped; took = took })),
      h.counted,
    )
