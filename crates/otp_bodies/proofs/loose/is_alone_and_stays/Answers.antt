use Rattle.std.proofs.Common.{◌≡◌, Option, ℕ, arith, subst}
use Rattle.otp_bodies.specs.Bodies.{place_among, stray}
use Rattle.otp_bodies.specs.Loose.{IsOnlyLoose}
use Rattle.otp_bodies.specs.declared.bodies.Kept.{Kept}
use Rattle.otp_bodies.proofs.OnlyLoose.{one_settled}
use Rattle.otp_bodies.proofs.loose.is_alone_and_stays.Goals as goal

pub returns-then-at-kept : goal.returns-then-at-kept
returns-then-at-kept c = λ yes.
    let Stays : Kept → Type 0 = λ b. place_among c.args.rows.now c.args.is_any_waiting b.place ≡ b.place in
    one_settled c.args.rows.now c.args.is_any_waiting c.args.kept.now c.in-Some.at stray (omega (arith, c.if-at-kept.true))
    (subst (λ (o : Option ℕ). IsOnlyLoose o c.args.kept.now) c.in-Some.is c.requires)
    (subst Stays (c.body_at.ensures stray) (c.is_seen_to_stay.ensures yes))
