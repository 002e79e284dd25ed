use Rattle.std.proofs.Common.{◌≡◌, Bool, Option, ℕ, ap, arith, get_or, subst, sym, true, ◌∙◌}
use Rattle.otp_bodies.specs.Bodies.{is_at_home, stray}
use Rattle.otp_bodies.specs.Loose.{IsOnlyLoose}
use Rattle.otp_bodies.specs.declared.bodies.Kept.{Kept}
use Rattle.otp_bodies.proofs.OnlyLoose.{found_home}
use Rattle.otp_bodies.proofs.loose.find_home_at.Goals as goal

pub returns-in-Some : goal.returns-in-Some
returns-in-Some c =
    let home : Kept → Bool = is_at_home c.args.slot in
    let here : home (get_or c.args.kept.now c.in-Some.at stray) ≡ true = ap home (sym (c.body_at.ensures stray)) ∙ sym c.is_at_home.ensures ∙ c.if-is_at_home.true in
    sym (found_home c.args.kept.now c.in-Some.at c.args.slot stray (omega (arith, c.if-at-kept.true)) (subst (λ (o : Option ℕ). IsOnlyLoose o c.args.kept.now) c.in-Some.is c.requires) here)
