use Rattle.std.proofs.Common.{◌≡◌, ℕ, ◌+◌, ◌≤◌, length}
use Rattle.std.specs.Prelude.{slice_get, vec_capacity, vec_len}
use Rattle.otp_run.specs.Lists.{AllAt}
use Rattle.otp_open.specs.Plans.{HaveBodies}
use Rattle.otp_open.specs.Readies.{AreReadyFor}
use Rattle.otp_open.proofs.opening.open_all.Given as goal

abbrev pub invariant-loop-plan : goal.invariant-loop-plan
invariant-loop-plan g l =
    record {
      left : l.plan-iterator.rest.len ≡ length l.plan-iterator.rest.items;
      left_places : l.places.rest.len ≡ length l.places.rest.items;
      plans : (k : ℕ) → slice_get l.plan-iterator.rest.items k ≡ slice_get l.fn.plans.items (l.number + k);
      count : l.number + length l.plan-iterator.rest.items ≡ length l.fn.plans.items;
      many : length l.sups.items ≡ l.number;
      room : vec_len l.sups + length l.plan-iterator.rest.items ≤ vec_capacity l.sups;
      bodies : HaveBodies l.plan-iterator.rest.items;
      ready : AreReadyFor l.number l.plan-iterator.rest.items l.places.rest.items;
      placed : AllAt (λ k sup. sup.inbox ≡ k) l.sups.items;
    }
