use Rattle.std.specs.Prelude.{◌≡◌, Some, slice_get}
use Rattle.std.proofs.Common.{◌∙◌, ap, subst}
use Rattle.otp_rules.specs.declared.event.Effect.TheVariants as effect
use Rattle.otp_driver.specs.Members.{Member, state_in}
use Rattle.otp_driver.specs.Replies.{IsReplyIn}
use Rattle.otp_driver.proofs.Answered.{answered_at, kept_if_answered, last_of_reply}
use Rattle.otp_driver.proofs.driven.supervisor.Supervisor.reply.Goals as goal

pub returns-clause-last : goal.returns-clause-last
returns-clause-last c =
    subst (λ (m : Member). IsReplyIn (λ r. r.now) c.args.call (state_in m).replies c.reply.result) c.self.view_is
    (last_of_reply c.cuts_agree.ensures.runs c.runs_are_joined.ensures.lists (λ r. r.now) c.args.call c.self.inside.core c.reply.result c.reply.ensures)

pub returns-clause-kept : goal.returns-clause-kept
returns-clause-kept c at =
    let here : slice_get c.self.inside.core.effects c.self.inside.taken ≡ Some (effect.Reply c.args.call) =
    ap (λ (m : Member). slice_get m.effects m.taken) c.self.view_is ∙ at in
    kept_if_answered (λ r. r.now) c.args.call c.self.inside.core c.reply.result c.reply.ensures
    (answered_at c.self.inside.core c.self.inside.taken c.args.call c.self.invariant.answered here)
