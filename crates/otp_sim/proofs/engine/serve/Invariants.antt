use Rattle.std.proofs.Common.{◌≡◌, ◌-◌, ◌^◌, vec_len}
use Rattle.otp_sim.specs.Devices.{devices}
use Rattle.otp_sim.specs.Runs.{with_text}
use Rattle.otp_sim.proofs.Exits.{Stands}
use Rattle.otp_sim.proofs.engine.serve.Given as goal

-- the lines so far are served
abbrev pub invariant-loop-taken : goal.invariant-loop-taken
invariant-loop-taken g l = record {
  stands : Stands (with_text l.initial.ready.items (g.S.Driven.sim l.initial.driven)) (g.S.Driven.sim l.driven)
      (devices (g.R.Input.seen l.initial.input) (g.W.Output.seen l.initial.output))
      (devices (g.R.Input.seen l.input) (g.W.Output.seen l.output))
      l.ready.items l.kept.items l.taken;
  buffer : vec_len l.buffer ≡ 65536;
}

abbrev pub decreases-loop-taken : goal.decreases-loop-taken
decreases-loop-taken g l = 2 ^ 62 - l.taken
