use Rattle.std.proofs.Common.{ℕ, ◌≤◌, subst}
use Rattle.otp_bodies.specs.Bodies.{count_given, BodiesView}
use Rattle.otp_bodies.proofs.bodies.Bodies.has_one_each.Goals as goal

pub returns : goal.returns
returns g c =
    let Once : BodiesView → Type 0 = λ v. (place : ℕ) → count_given place v.kept ≤ 1 in
    subst Once c.self.view_is c.self.invariant.0.once
