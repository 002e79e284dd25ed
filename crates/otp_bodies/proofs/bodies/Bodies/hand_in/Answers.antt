use Rattle.std.proofs.Common.{◌≡◌, List, ap, sym, ◌∙◌}
use Rattle.std.specs.List.{list_any}
use Rattle.otp_bodies.specs.declared.bodies.Kept.{Kept}
use Rattle.otp_bodies.specs.Bodies.{count_given, is_from, BodiesView}
use Rattle.otp_bodies.proofs.Stored.{none_given}
use Rattle.otp_bodies.proofs.bodies.Bodies.hand_in.Goals as goal

pub returns-clause-first : goal.returns-clause-first
returns-clause-first g c =
    let same : c.deref.result.now ≡ c.args.self.now.kept = c.deref.ensures.value ∙ ap (λ (v : BodiesView). v.kept) c.self.view_is in
    none_given c.args.place c.args.self.now.kept
    (ap (λ (l : List Kept). list_any (is_from c.args.place) l) (sym same) ∙ sym c.is_any_from.ensures ∙ c.if-is_any_from.false)

pub put-requires-clause-new : goal.put-requires-clause-new
put-requires-clause-new g c =
    let same : c.deref.result.now ≡ c.args.self.now.kept = c.deref.ensures.value ∙ ap (λ (v : BodiesView). v.kept) c.self.view_is in
    ap (λ (l : List Kept). count_given c.args.place l) c.prepare.ensures.kept
    ∙ none_given c.args.place c.args.self.now.kept
    (ap (λ (l : List Kept). list_any (is_from c.args.place) l) (sym same) ∙ sym c.is_any_from.ensures ∙ c.if-is_any_from.false)
