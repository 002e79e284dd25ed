use Rattle.std.proofs.Common.{ap, sym, ◌∙◌, List, Some, get_or, map}
use Rattle.otp_rules.specs.declared.call.Reply.{Reply}
use Rattle.otp_rules.specs.declared.call.Reply.TheVariants as reply
use Rattle.otp_rules.specs.Run.{reply_of}
use Rattle.otp_machine.specs.declared.stores.answers.StoredAnswer.{StoredAnswer}
use Rattle.otp_machine.specs.AnswersInside.{answer_in}
use Rattle.otp_machine.specs.Kept.{Kept}
use Rattle.otp_machine.proofs.Replies.{within_list}
use Rattle.otp_machine.proofs.stores.answers.Answers.find.Goals as goal

pub reply_at-requires : goal.reply_at-requires
reply_at-requires c =
    within_list c.self.inside.replies.items c.deref-in-Some.result.now c.self.inside.told.items c.deref.result.now c.in-Some.place
    c.deref-in-Some.ensures.value c.deref.ensures.value c.self.invariant.places (c.in-Some.ensures {u = tt}).inside

pub returns-in-Some : goal.returns-in-Some
returns-in-Some c =
    sym (ap (λ (k : Kept). reply_of c.args.call k.answers) c.self.view_is)
    ∙ ap (λ (ts : List StoredAnswer). reply_of c.args.call (map (answer_in c.self.inside.replies.items) ts)) (sym c.deref.ensures.value)
    ∙ (c.in-Some.ensures {u = tt}).some c.self.inside.replies.items
    ∙ ap (λ (r : Reply). Some r)
    (ap (λ (rs : List Reply). get_or rs c.in-Some.place reply.Ok) (sym c.deref-in-Some.ensures.value) ∙ sym c.reply_at.ensures)
