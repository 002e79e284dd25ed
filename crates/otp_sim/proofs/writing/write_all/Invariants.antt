use Rattle.std.proofs.Common.{◌≤◌, length}
use Rattle.otp_sim.proofs.Writes.{Halfway}
use Rattle.otp_sim.proofs.writing.write_all.Given as goal

-- some of the bytes are written, and these are left
abbrev pub invariant-loop-rest : goal.invariant-loop-rest
invariant-loop-rest g l = record {
  half : Halfway (g.W.Output.seen l.initial.output).bytes (g.W.Output.seen l.output).bytes l.bytes l.rest;
  kept : (g.W.Output.seen l.initial.output).failures ≤ (g.W.Output.seen l.output).failures;
}

abbrev pub decreases-loop-rest : goal.decreases-loop-rest
decreases-loop-rest g l = length l.rest
