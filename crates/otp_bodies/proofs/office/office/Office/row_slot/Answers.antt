use Rattle.std.proofs.Common.{ℕ, ◌<◌, sym, subst}
use Rattle.otp_core.specs.View.{state_of}
use Rattle.otp_rules.specs.State.{State}
use Rattle.otp_rules.specs.Run.{empty_state, state_after}
use Rattle.otp_rules.specs.Slots.{AreSlotted}
use Rattle.otp_bodies.proofs.Slotted.{slot_of-below, unslotted}
use Rattle.otp_bodies.proofs.office.office.Office.row_slot.Goals as goal

pub returns-clause-below : goal.returns-clause-below
returns-clause-below g c =
    let begins = c.self.invariant.begins in
    let core = c.self.inside.core in
    let F : State → Type 0 = λ b. AreSlotted (state_after b core.history).rows in
    let Below : ℕ → Type 0 = λ k. k < 256 in
    subst Below (sym c.slot_of.ensures)
    (slot_of-below (state_of core).rows c.args.number
    (subst F (sym begins.is) (c.slots_are_owned.ensures.from_any (empty_state begins.flags begins.specs) core.history begins.few unslotted)))
