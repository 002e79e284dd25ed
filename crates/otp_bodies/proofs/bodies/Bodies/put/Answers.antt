use Rattle.std.proofs.Common.{rules, ◌≡◌, length, List, Bool, ℕ, ap, sym, subst, map, ◌++◌, ◌∷◌, [], Some}
use Rattle.std.specs.Prelude.{is_some}
use Rattle.otp_bodies.specs.declared.bodies.Kept.{Kept}
use Rattle.otp_bodies.specs.Bodies.{IsNew, IsStored, BodiesView}
use Rattle.otp_bodies.specs.Loose.{IsOnlyLoose}
use Rattle.otp_bodies.proofs.OnlyLoose.{IsOnlyAt, put_only}
use Rattle.otp_bodies.proofs.Stored.{stored_put}
use Rattle.otp_bodies.proofs.bodies.Bodies.put.Goals as goal

pub invariant_of-self : goal.invariant_of-self
invariant_of-self g c =
    let one : Kept = record { origin = c.args.origin; place = c.args.place } in
    let Of : List Kept → Type 0 = λ l. IsStored (map is_some (c.self.inside.bodies.items ++ Some c.args.body ∷ [])) l in
    let Stored : List Bool → Type 0 = λ l. IsStored l c.push_reserved.new.self.items in
    let New : BodiesView → Type 0 = λ v. IsNew c.args.origin v.kept in
    let Only : List Kept → Type 0 = λ l. IsOnlyLoose c.only_at-self-inside.result l in
    let len : c.len.result ≡ length c.self.inside.kept.items = search rules in
    let Behind : List Kept → Type 0 = λ l. IsOnlyAt c.len.result l c.only_at-self-inside.result in
    let At : ℕ → Type 0 = λ n. IsOnlyAt n c.self.inside.kept.items c.only_at-self-inside.result in (
      subst Stored (sym (ap (λ l. map is_some l) c.push_reserved-2.ensures.items))
          (subst Of (sym c.push_reserved.ensures.items)
          (stored_put c.self.inside.kept.items c.self.inside.bodies.items c.args.origin c.args.place c.args.body c.requires.here (subst New (sym c.self.view_is) c.requires.new) c.self.invariant.0)),
      subst Only (sym c.push_reserved.ensures.items) (put_only c.only_at-self-inside.result c.self.inside.kept.items one (subst At len (subst Behind c.deref.ensures.value c.only_at-self-inside.ensures))),
    )
