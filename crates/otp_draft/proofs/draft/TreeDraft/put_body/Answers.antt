use Rattle.std.proofs.Common.{All, rules, subst, sym}
use Rattle.otp_draft.proofs.Growths.{IsDrawn, drawn_with}
use Rattle.otp_draft.specs.Plans.{IsNear}
use Rattle.otp_draft.proofs.draft.TreeDraft.put_body.Goals as goal

pub invariant_of-self : goal.invariant_of-self
invariant_of-self g c = rw (c.make_child_room.ensures.specs, c.make_child_room.ensures.bodies) c.self.invariant

pub returns-clause-added : goal.returns-clause-added
returns-clause-added g c = search rules

pub invariant_of-self-2 : goal.invariant_of-self-2
invariant_of-self-2 g c =
    let r = c.requires in
    let whole = returns-clause-added g c in
    let near = subst (λ t. All IsNear t.bodies) whole c.put_near.ensures.near in
    subst IsDrawn (sym whole) (drawn_with c.args.spec c.args.body c.args.self.now (subst IsDrawn c.self.view_is c.self.invariant) r.few r.plain near)
