use Rattle.std.proofs.Common.{◌≡◌, ◌++◌, drop}
use Rattle.std.specs.List.{flat_map}
use Rattle.otp_text.specs.Effects.{effect_line}
use Rattle.otp_core.specs.View.{stored_state}
use Rattle.otp_sim.specs.Devices.{Begins}
use Rattle.otp_sim.specs.Sim.{told_by}
use Rattle.otp_sim.proofs.player.print_all.Given as goal

abbrev pub invariant-loop-effect : goal.invariant-loop-effect
invariant-loop-effect l = record {
  printed : l.out.items ++ flat_map (λ order. effect_line order (told_by order (stored_state l.core).replies)) (drop l.effect-index l.effects)
      ≡ l.fn.out.items ++ flat_map (λ order. effect_line order (told_by order (stored_state l.core).replies)) l.effects;
  kept : Begins l.fn.out.items l.out.items;
}
