use Rattle.std.proofs.Common.{ℕ, ◌++◌, List, [], ◌∷◌, ◌∙◌, ap, length, length-append, sym}
use Rattle.std.specs.Prelude.{unwrap_or}
use Rattle.std.specs.List.{filter_map}
use Rattle.otp_driver.specs.Members.{Member, state_in}
use Rattle.otp_core.specs.Happened.{number_after}
use Rattle.otp_rules.specs.declared.event.Effect.{Effect}
use Rattle.otp_rules.specs.declared.event.Event.{Event}
use Rattle.otp_rules.specs.Needs.{needs_number}
use Rattle.otp_costs.specs.Scene.{Scene, event_for, happened, note_of}
use Rattle.otp_costs.proofs.Scenes.{Went, asked, happened-is, last_after, went, within}
use Rattle.otp_costs.proofs.limits.stage.CrashPlayer.happen.Goals as goal

pub take_orders-requires : goal.take_orders-requires
take_orders-requires c =
    within c.args.time c.self.inside.last c.args.kind c.self.inside.supervisor c.happen.new.supervisor c.in_ok-last.last c.in_ok-last.ensures.ok c.self.invariant.taken

pub invariant_of-self-in_err-take_orders : goal.invariant_of-self-in_err-take_orders
invariant_of-self-in_err-take_orders c =
    let w : Went c.args.time c.args.kind c.self.inside.supervisor c.happen.new.supervisor c.take_orders.new.supervisor c.in_ok-last.last =
    went c.args.time c.self.inside.last c.args.kind c.self.inside.supervisor c.happen.new.supervisor c.take_orders.new.supervisor c.in_ok-last.last
    c.in_ok-last.ensures.ok c.take_orders.ensures.stays c.self.invariant.taken c.self.invariant.last c.self.invariant.numbers in
    record { taken = c.take_orders.ensures.all; given = w.given ∙ c.self.invariant.given; last = w.last_is; numbers = w.numbers }

pub invariant_of-self-2 : goal.invariant_of-self-2
invariant_of-self-2 c =
    let w : Went c.args.time c.args.kind c.self.inside.supervisor c.happen.new.supervisor c.take_orders.new.supervisor c.in_ok-last.last =
    went c.args.time c.self.inside.last c.args.kind c.self.inside.supervisor c.happen.new.supervisor c.take_orders.new.supervisor c.in_ok-last.last
    c.in_ok-last.ensures.ok c.take_orders.ensures.stays c.self.invariant.taken c.self.invariant.last c.self.invariant.numbers in
    record { taken = c.take_orders.ensures.all; given = w.given ∙ c.self.invariant.given; last = w.last_is; numbers = w.numbers }

pub returns-clause-ok : goal.returns-clause-ok
unfolding event_for
returns-clause-ok c =
    let m : Member = c.self.inside.supervisor in
    let now : Member = c.take_orders.new.supervisor in
    let orders : List Effect = c.self.inside.orders.items in
    let scene : Scene = record { state = state_in m; last = c.self.inside.last; orders = orders; notes = c.self.inside.notes.items; events = length m.history } in
    let w : Went c.args.time c.args.kind m c.happen.new.supervisor now c.in_ok-last.last =
    went c.args.time c.self.inside.last c.args.kind m c.happen.new.supervisor now c.in_ok-last.last
    c.in_ok-last.ensures.ok c.take_orders.ensures.stays c.self.invariant.taken c.self.invariant.last c.self.invariant.numbers in
    happened-is c.args.time c.args.kind scene w.event (state_in now) c.in_ok-last.last c.take_orders.new.orders.items c.take_orders.new.notes.items (length now.history)
    (w.event_is
    ∙ ap (λ (n : ℕ). record { reading = c.args.time; number = number_after n (needs_number (state_in m) c.args.time c.args.kind); kind = c.args.kind }) (sym c.self.invariant.last))
    w.state
    (w.last_is ∙ last_after m.history now.history w.event w.history ∙ ap (λ (l : ℕ). unwrap_or w.event.number l) (sym c.self.invariant.last))
    (c.in_ok-take_orders.ensures.orders ∙ ap (λ (xs : List Effect). orders ++ asked xs) w.orders)
    (c.in_ok-take_orders.ensures.notes ∙ ap (λ (xs : List Effect). c.self.inside.notes.items ++ filter_map note_of xs) w.orders)
    (ap (λ (h : List Event). length h) w.history ∙ length-append m.history (w.event ∷ []))
    ∙ ap (λ (s : Scene). happened c.args.time c.args.kind s) c.self.view_is
