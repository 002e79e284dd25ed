use Rattle.std.proofs.Common.{◌≡◌, ◌+◌, ◌≤◌, false, None}
use Rattle.std.specs.Prelude.{if◌then◌else◌}
use Rattle.otp_sim.specs.Sim.{next_kind}
use Rattle.otp_sim.specs.Runs.{with_text}
use Rattle.otp_sim.proofs.Playing.{Playing}
use Rattle.otp_sim.proofs.Settled.{remaining}
use Rattle.otp_sim.proofs.serving.serve_line.Given as goal

-- so far it is played, and where it doesn't go on nothing is left
abbrev pub invariant-loop-is_going : goal.invariant-loop-is_going
invariant-loop-is_going g l = record {
  playing : Playing (with_text l.fn.ready.items (g.S.Driven.sim l.fn.driven)) l.line
      (g.W.Output.seen l.fn.output).bytes (g.W.Output.seen l.output).bytes l.ready.items (g.S.Driven.sim l.driven);
  over : l.is_going ≡ false → next_kind (g.S.Driven.sim l.driven) ≡ None;
  lines : (g.S.Driven.sim l.driven).lines ≤ (g.S.Driven.sim l.fn.driven).lines + 1;
  failures : (g.W.Output.seen l.fn.output).failures ≤ (g.W.Output.seen l.output).failures;
}

abbrev pub decreases-loop-is_going : goal.decreases-loop-is_going
decreases-loop-is_going g l = if l.is_going then remaining (g.S.Driven.sim l.driven) + 1 else 0
