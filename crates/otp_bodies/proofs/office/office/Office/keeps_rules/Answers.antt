use Rattle.std.proofs.Common.{ℕ, ◌+◌, ◌++◌, List, take, take-append-drop, ap, sym, ◌∙◌, subst, arith}
use Rattle.otp_rules.specs.declared.event.Effect.{Effect}
use Rattle.otp_rules.specs.Fit.{IsDistinct}
use Rattle.otp_rules.specs.Needs.{IsLawfulHistory}
use Rattle.otp_rules.specs.Run.{empty_state, state_after}
use Rattle.otp_rules.specs.Slots.{AreSlotted}
use Rattle.otp_rules.specs.State.{State}
use Rattle.otp_core.specs.View.{state_of}
use Rattle.otp_bodies.specs.Offices.{Begins, KeepsOffice}
use Rattle.otp_bodies.specs.Orders.{orders_along}
use Rattle.otp_bodies.proofs.Slotted.{unslotted}
use Rattle.otp_bodies.proofs.StartOrders.{starts_along}
use Rattle.otp_bodies.proofs.office.office.Office.keeps_rules.Goals as goal

pub returns : goal.returns
returns g c =
    let i = c.self.invariant in
    let core = c.self.inside.core in
    let sent = c.self.inside.sent.count in
    let all : List Effect = orders_along core in
    let begins : Begins core.base = i.begins in
    let Slotted : State → Type 0 = λ b. AreSlotted (state_after b core.history).rows in
    let slots : AreSlotted (state_of core).rows =
    subst Slotted (sym begins.is) (c.slots_are_owned.ensures.from_any (empty_state begins.flags begins.specs) core.history begins.few unslotted) in
    let next : ℕ = c.last_number.result + 1 in
    let Lawful : State → Type 0 = λ b. IsLawfulHistory b core.history in
    let Distinct : State → Type 0 = λ b. IsDistinct next (state_after b core.history) in
    let distinct : IsDistinct next (state_of core) =
    subst Distinct (sym begins.is) (c.processes_are_owned.ensures.from_empty begins.flags begins.specs core.history next (subst Lawful begins.is c.history.ensures.lawful) (c.last_number.ensures.next next (omega arith))) in
    subst KeepsOffice c.self.view_is (record {
      begins = i.begins;
      lawful = c.history.ensures.lawful;
      numbers = i.numbers;
      orders = ap (λ (l : List Effect). take sent all ++ l) i.orders ∙ take-append-drop sent all;
      starts = starts_along c.number_starts_work.ensures core.base core.history c.history.ensures.lawful.0;
      posts = i.posts;
      rate = c.kept_restarts.ensures.rate;
      slots = slots;
      apart = c.slots_tell_processes.ensures (state_of core) next slots distinct;
    })
