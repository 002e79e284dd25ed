use Rattle.std.proofs.Common.{◌∙◌, sym, arith}
use Rattle.otp_table.specs.Rows.{free_slot}
use Rattle.otp_table.proofs.Slots.{taken_on, found_free, none_left}
use Rattle.otp_table.proofs.search.free_slot.Goals as goal

pub returns-then-not-taken-slot-clause-slot : goal.returns-then-not-taken-slot-clause-slot
unfolding free_slot
returns-then-not-taken-slot-clause-slot c =
    let slot = c.loop-slot.slot in
    let within = c.loop-slot-test.true in
    let is_free = sym (c.taken_slots-taken.ensures.taken slot (omega (arith, c.requires, within))) ∙ c.if-not-taken-slot.true in
    found_free slot c.args.rows.now within is_free ∙ c.loop-slot.invariant.rest

pub loop-slot-preserved : goal.loop-slot-preserved
loop-slot-preserved c =
    let slot = c.loop-slot.slot in
    let within = c.loop-slot-test.true in
    let is_taken = sym (c.taken_slots-taken.ensures.taken slot (omega (arith, c.requires, within))) ∙ c.if-not-taken-slot.false in
    record {
      rest = taken_on slot c.args.rows.now within is_taken ∙ c.loop-slot.invariant.rest;
      within = omega (arith, within);
    }

pub returns-clause-slot : goal.returns-clause-slot
unfolding free_slot
returns-clause-slot c = none_left c.loop-slot.slot c.args.rows.now (omega (arith, c.loop-slot-test.false)) ∙ c.loop-slot.invariant.rest
