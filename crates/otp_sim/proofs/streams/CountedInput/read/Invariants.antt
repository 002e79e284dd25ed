use Rattle.std.proofs.Common.{◌≡◌}
use Rattle.std.specs.Io.KnownBytes.{Keeps}
use Rattle.otp_sim.proofs.streams.CountedInput.read.Given as goal

-- so far each call was interrupted
abbrev pub invariant-loop : goal.invariant-loop
invariant-loop g l = record {
  kept : Keeps (g.D.Read.remaining l.initial.self.device) (g.D.Read.remaining l.self.device);
  failures : l.self.failures.count ≡ l.initial.self.failures.count;
}
