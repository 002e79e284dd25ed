use Rattle.std.proofs.Common.{ℕ, ◌≡◌, reverse, vec_len}
use Rattle.std.specs.Prelude.{◌&&◌}
use Rattle.otp_rules.specs.Needs.{ends_wait, has_due}
use Rattle.otp_rules.specs.Work.{stop_first}
use Rattle.otp_machine.specs.Seen.{CanAdvance, outcome_of}
use Rattle.otp_machine.proofs.machine.Machine.stop_first.Given as goal

-- what is left to do leads where the whole leads, and starts a child where the whole does
abbrev pub invariant-loop-p : goal.invariant-loop-p
invariant-loop-p g l =
    record {
      leads : (n : ℕ) → stop_first (reverse l.self.to_stop.items) n (outcome_of l.self) ≡ stop_first (reverse l.fn.self.to_stop.items) n (outcome_of l.fn.self);
      starts : (ends_wait (reverse l.self.to_stop.items) l.self.waiting.items && has_due l.self.to_start.items)
          ≡ (ends_wait (reverse l.fn.self.to_stop.items) l.fn.self.waiting.items && has_due l.fn.self.to_start.items);
      numbers : l.numbers ≡ l.fn.numbers;
      room : CanAdvance l.self;
    }

abbrev pub decreases-loop-p : goal.decreases-loop-p
decreases-loop-p g l = vec_len l.self.to_stop
