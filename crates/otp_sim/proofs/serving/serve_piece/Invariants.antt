use Rattle.std.proofs.Common.{◌+◌, ◌≤◌, ◌++◌, length}
use Rattle.otp_sim.specs.Runs.{Ran, NoEnd, with_text}
use Rattle.otp_sim.proofs.serving.serve_piece.Given as goal

-- the lines so far are served
abbrev pub invariant-loop-end : goal.invariant-loop-end
invariant-loop-end g l = record {
  ran : Ran (with_text l.initial.ready.items (g.S.Driven.sim l.initial.driven)) (g.S.Driven.sim l.driven)
      (g.W.Output.seen l.initial.output).bytes (g.W.Output.seen l.output).bytes l.ready.items (l.initial.kept.items ++ l.piece) (l.kept.items ++ l.rest);
  kept : NoEnd l.kept.items;
  lines : (g.S.Driven.sim l.driven).lines + length l.rest ≤ (g.S.Driven.sim l.initial.driven).lines + length l.piece;
  failures : (g.W.Output.seen l.initial.output).failures ≤ (g.W.Output.seen l.output).failures;
}

abbrev pub decreases-loop-end : goal.decreases-loop-end
decreases-loop-end g l = length l.rest
