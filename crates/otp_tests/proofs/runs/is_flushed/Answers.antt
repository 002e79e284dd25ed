use Rattle.std.proofs.Common.{◌≡◌, List, refl, ap, ◌∙◌}
use Rattle.otp_spec.specs.declared.child.ChildSpec.{ChildSpec}
use Rattle.otp_spec.specs.declared.flags.SupFlags.{SupFlags}
use Rattle.otp_sim.specs.Sim.{Sim, happen, opened, stepped}
use Rattle.otp_tests.proofs.runs.is_flushed.Goals as goal

-- the opening is no line
opened_lines : (flags : SupFlags) (specs : List ChildSpec) → (opened flags specs).lines ≡ 0
unfolding opened happen stepped
opened_lines flags specs = refl

pub serve-ended-requires : goal.serve-ended-requires
serve-ended-requires g c =
    ap (λ (s : Sim). s.lines) c.in_ok-player.ensures ∙ opened_lines _ _
