use Rattle.std.proofs.Common.{◌≡◌, ◌+◌, ◌≤◌, ◌++◌, All, length, map}
use Rattle.std.specs.Prelude.{vec_capacity, vec_len}
use Rattle.otp_draft.specs.Plans.{HasAllBodies, numbered, seen}
use Rattle.otp_spec.specs.declared.limits.TheConstants.{MAX_TABLES}
use Rattle.otp_draft.proofs.plan.number_all.Given as goal

abbrev pub invariant-loop-table : goal.invariant-loop-table
invariant-loop-table g l =
    record {
      left : l.table-iterator.rest.len ≡ length l.table-iterator.rest.items;
      few : l.number + length l.table-iterator.rest.items ≤ MAX_TABLES;
      room : vec_len l.plans + length l.table-iterator.rest.items ≤ vec_capacity l.plans;
      whole : map seen l.plans.items ++ numbered l.number l.table-iterator.rest.items ≡ numbered l.fn.first l.fn.tables.items;
      count : length l.plans.items + length l.table-iterator.rest.items ≡ length l.fn.tables.items;
      bodies : All HasAllBodies l.plans.items;
    }
