use Rattle.std.proofs.Common.{rules, ◌≡◌, refl, ap, ℕ, Option, ◌++◌, [], ◌∷◌, ◌∙◌, drop, subst}
use Rattle.otp_rules.specs.Needs.{needs_number}
use Rattle.otp_rules.specs.declared.event.Event.{Event}
use Rattle.otp_rules.specs.Step.{step}
use Rattle.otp_core.specs.View.{View, state_of, stored_of}
use Rattle.otp_bodies.specs.Offices.{OfficeView}
use Rattle.otp_bodies.specs.Orders.{orders_in}
use Rattle.otp_bodies.proofs.Keeps.{drawn_posts, drawn_slots, happened}
use Rattle.otp_signals.specs.declared.view.Holding.{Holding}
use Rattle.otp_bodies.specs.Events.{Happened, drawn_by}
use Rattle.otp_bodies.proofs.Shared.{sent_on}
use Rattle.otp_bodies.proofs.office.office.Office.happen.Goals as goal

pub invariant_of-self : goal.invariant_of-self
invariant_of-self g c =
    let e : Event = record { reading = c.args.reading; number = c.step_with.result; kind = c.args.kind } in
    let cleared = c.clear_effects.ensures in
    let base = c.step_with.ensures.base ∙ ap (λ (v : View). v.base) cleared in
    let cut = c.step_with.ensures.cut ∙ ap (λ (v : View). v.cut) cleared in
    let history = c.step_with.ensures.history ∙ ap (λ (v : View). v.history ++ e ∷ []) cleared in
    let effects = c.step_with.ensures.effects ∙ ap (λ (v : View). v.effects ++ (step (state_of v) e).orders) cleared in
    let before : Holding = c.self.inside.owner in
    let owner : c.step_with.new.numbers.owner.now ≡ drawn_by c.step_with.result before = search rules in
    happened _ _ e (ap (λ (o : OfficeView). o.outbox) c.self.view_is ∙ c.requires.outbox) base cut history (ap orders_in effects) refl
    (λ none. ap (λ (h : Holding). h.drawn) (owner ∙ ap (λ (n : Option ℕ). drawn_by n before) none))
    (λ n some. ap (λ (h : Holding). h.drawn) (owner ∙ ap (λ (n : Option ℕ). drawn_by n before) some))
    (ap (λ (h : Holding). h.posts) owner ∙ drawn_posts c.step_with.result before)
    (ap (λ (h : Holding). h.slots) owner ∙ drawn_slots c.step_with.result before) refl c.self.invariant

pub returns : goal.returns
returns g c =
    let e : Event = record { reading = c.args.reading; number = c.step_with.result; kind = c.args.kind } in
    let cleared = c.clear_effects.ensures in
    let base = c.step_with.ensures.base ∙ ap (λ (v : View). v.base) cleared in
    let history = c.step_with.ensures.history ∙ ap (λ (v : View). v.history ++ e ∷ []) cleared in
    let effects = c.step_with.ensures.effects ∙ ap (λ (v : View). v.effects ++ (step (state_of v) e).orders) cleared in
    let owner : c.step_with.new.numbers.owner.now ≡ drawn_by c.step_with.result c.self.inside.owner = search rules in
    let new : OfficeView = record { core = c.step_with.new.self; owner = c.step_with.new.numbers.owner.now; outbox = orders_in (drop 0 c.step_with.new.self.effects); sent = c.self.inside.sent.count; first_slot = c.self.inside.first_slot } in
    let H : OfficeView → Type 0 = λ o. Happened c.args.reading c.args.kind o new in
    subst H c.self.view_is (record {
      number = c.step_with.result;
      history = history;
      stored = c.step_with.ensures.stored ∙ ap (λ (v : View). stored_of v ++ e ∷ []) cleared;
      cut = c.step_with.ensures.cut ∙ ap (λ (v : View). v.cut) cleared;
      needed = c.step_with.ensures.number ∙ ap (λ (v : View). needs_number (state_of v) c.args.reading c.args.kind) cleared;
      rises = search rules;
      outbox = ap orders_in effects;
      base = base;
      sent = refl;
      same_sent = sent_on _ new e base history refl c.self.invariant;
      owner = owner;
      first_slot = refl;
    })
