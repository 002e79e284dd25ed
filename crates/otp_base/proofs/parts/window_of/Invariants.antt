use Rattle.std.proofs.Common.{◌≡◌, take}
use Rattle.otp_base.proofs.parts.window_of.Given as goal

-- the restarts so far
abbrev pub invariant-loop-time : goal.invariant-loop-time
invariant-loop-time l =
    record {
      intensity : l.window.intensity ≡ l.flags.intensity;
      period : l.window.period ≡ l.flags.period;
      stamps : l.window.stamps ≡ take l.time-index l.stamps;
    }
