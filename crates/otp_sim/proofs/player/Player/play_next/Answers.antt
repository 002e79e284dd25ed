use Rattle.std.proofs.Common.{◌≡◌, ◌∙◌, sym, Some, None}
use Rattle.otp_sim.specs.Sim.{Sim, next_kind}
use Rattle.otp_sim.specs.Runs.{with_text}
use Rattle.otp_sim.proofs.Settled.{goes, stays}
use Rattle.otp_sim.proofs.player.Player.play_next.Goals as goal

pub returns-in_default-clause-ok : goal.returns-in_default-clause-ok
unfolding next_kind
returns-in_default-clause-ok c =
    let before : Sim = with_text c.args.out.now.items c.args.self.now in
    let none : next_kind before ≡ None = sym c.next_kind.ensures ∙ c.in_default.is in
    sym (stays before none)

pub returns-clause-ok : goal.returns-clause-ok
unfolding next_kind
returns-clause-ok c =
    let before : Sim = with_text c.args.out.now.items c.args.self.now in
    let next : next_kind before ≡ Some c.in-Some.kind = sym c.next_kind.ensures ∙ c.in-Some.is in
    c.in_ok-happen.ensures.ok ∙ sym (goes c.in-Some.kind before next)
