use Rattle.std.proofs.Common.{◌≡◌, ◌∙◌, Bool, false, ap, sym}
use Rattle.std.specs.Prelude.{if◌then◌else◌}
use Rattle.otp_rules.specs.declared.event.Kind.TheVariants as kind
use Rattle.otp_text.specs.declared.line.Line.{Line}
use Rattle.otp_sim.specs.Sim.{Sim, happen, is_due, take_read, ticked}
use Rattle.otp_sim.specs.Runs.{with_text}
use Rattle.otp_sim.specs.PlayerInside.{sim_of_player}
use Rattle.otp_sim.proofs.player.Player.take_read.Goals as goal

pub returns-else-is_due-clause-ok : goal.returns-else-is_due-clause-ok
unfolding is_due take_read ticked
returns-else-is_due-clause-ok c =
    let before : Sim = with_text c.args.out.now.items (sim_of_player c.self.inside) in
    let now : Sim = record before { reading = c.in-At.reading } in
    let not_due : is_due now ≡ false = sym c.is_due.ensures ∙ c.if-is_due.false in
    sym (ap (λ (b : Bool). if b then happen kind.Ticked now else now) not_due)
    ∙ ap (λ (l : Line). take_read l before) (sym c.in-At.is)
    ∙ ap (λ (v : Sim). take_read c.args.line (with_text c.args.out.now.items v)) c.self.view_is
