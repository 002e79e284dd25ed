use Rattle.std.proofs.Common.{List, sym, ◌∙◌, get_or}
use Rattle.otp_bodies.specs.declared.bodies.Kept.{Kept}
use Rattle.otp_bodies.specs.Bodies.{stray}
use Rattle.otp_bodies.proofs.Keeping.{IsFirstAt, any_at, first_at, none_passes, removed_at, without_none}
use Rattle.otp_bodies.proofs.bodies.Bodies.take_first.Goals as goal

pub returns-in-None-clause-kept : goal.returns-in-None-clause-kept
returns-in-None-clause-kept g c =
    let xs : List Kept = c.args.self.now.kept in
    λ test is. sym (without_none test xs (none_passes test xs (sym is ∙ c.in-None.is)))

pub returns-in-None-clause-body : goal.returns-in-None-clause-body
returns-in-None-clause-body g c = λ test is here. sym (none_passes test c.args.self.now.kept (sym is ∙ c.in-None.is))

pub returns-in-Some-clause-kept : goal.returns-in-Some-clause-kept
returns-in-Some-clause-kept g c =
    let xs : List Kept = c.args.self.now.kept in
    λ test is. c.take.ensures.kept ∙ removed_at test xs c.in-Some.at stray (first_at test xs c.in-Some.at stray (sym is ∙ c.in-Some.is))

pub returns-in-Some-clause-body : goal.returns-in-Some-clause-body
returns-in-Some-clause-body g c =
    let xs : List Kept = c.args.self.now.kept in
    λ test is here.
    let first : IsFirstAt test xs c.in-Some.at stray = first_at test xs c.in-Some.at stray (sym is ∙ c.in-Some.is) in
    c.take.ensures.body stray ∙ here (get_or xs c.in-Some.at stray) first.passes ∙ sym (any_at test xs c.in-Some.at stray first)
