use Rattle.std.proofs.Common.{◌≡◌, ◌+◌, ◌≤◌, ◌++◌, length, map}
use Rattle.std.specs.Prelude.{vec_capacity, vec_len}
use Rattle.otp_draft.specs.Plans.{seen}
use Rattle.otp.specs.Runs.{seen_in_tree}
use Rattle.otp.proofs.running.handed_on.Given as goal

abbrev pub invariant-loop-plan : goal.invariant-loop-plan
invariant-loop-plan g l =
    record {
      left : l.plan-iterator.rest.len ≡ length l.plan-iterator.rest.items;
      room : vec_len l.handed + length l.plan-iterator.rest.items ≤ vec_capacity l.handed;
      whole : map seen_in_tree l.handed.items ++ map seen l.plan-iterator.rest.items ≡ map seen l.fn.plans.items;
      count : length l.handed.items + length l.plan-iterator.rest.items ≡ length l.fn.plans.items;
    }
