use Rattle.std.proofs.Common.{◌≡◌, ◌≤◌, take, drop, length}
use Rattle.std.specs.Prelude.{vec_capacity}
use Rattle.otp_hand.specs.Readings.{AreRead}
use Rattle.otp_hand.proofs.reading.read_each.Given as goal

abbrev pub invariant-loop-pass : goal.invariant-loop-pass
invariant-loop-pass l =
    record {
      many : length l.counts.items ≡ l.pass-index;
      room : length l.passes ≤ vec_capacity l.counts;
      left : drop l.pass-index l.passes ≡ drop l.pass-index l.fn.passes;
      read : AreRead l.counts.items (take l.pass-index l.fn.passes) (take l.pass-index l.passes);
    }
