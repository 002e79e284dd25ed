use Rattle.std.proofs.Common.{◌≡◌, length}
use Rattle.otp_sim.specs.Sim.{lines_of}
use Rattle.otp_replay.specs.Logs.{lines_taken}
use Rattle.otp_replay.proofs.reading.Reading.take_lines.Given as goal

abbrev pub invariant-loop-end : goal.invariant-loop-end
invariant-loop-end l = lines_taken (lines_of l.rest) l.self ≡ lines_taken (lines_of l.text) l.fn.self

abbrev pub decreases-loop-end : goal.decreases-loop-end
decreases-loop-end l = length l.rest
