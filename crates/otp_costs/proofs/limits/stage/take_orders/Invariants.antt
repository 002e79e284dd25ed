use Rattle.std.proofs.Common.{◌≡◌, ◌≤◌, ◌-◌, ◌++◌, length}
use Rattle.std.specs.Prelude.{not, true}
use Rattle.std.specs.List.{filter, filter_map}
use Rattle.otp_rules.specs.Effects.{is_reply}
use Rattle.otp_costs.specs.Scene.{note_of}
use Rattle.otp_costs.specs.Taking.{Stays, pending}
use Rattle.otp_costs.proofs.limits.stage.take_orders.Given as goal

-- so far these were taken, and put, unless memory was refused
abbrev pub invariant-loop-order : goal.invariant-loop-order
invariant-loop-order l = record {
  within : l.supervisor.taken ≤ length l.supervisor.effects;
  stays : Stays l.fn.supervisor l.supervisor;
  notes : l.is_whole ≡ true → l.notes.items ++ filter_map note_of (pending l.supervisor) ≡ l.fn.notes.items ++ filter_map note_of (pending l.fn.supervisor);
  orders : l.is_whole ≡ true → l.orders.items ++ filter (λ order. not (is_reply order)) (pending l.supervisor) ≡ l.fn.orders.items ++ filter (λ order. not (is_reply order)) (pending l.fn.supervisor);
}

abbrev pub decreases-loop-order : goal.decreases-loop-order
decreases-loop-order l = length l.supervisor.effects - l.supervisor.taken
