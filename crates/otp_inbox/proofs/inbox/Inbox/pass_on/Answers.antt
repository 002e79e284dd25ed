use Rattle.std.proofs.Common.{◌≡◌, sym, ap, ◌∙◌, arith}
use Rattle.otp_inbox.specs.Rule.{taking}
use Rattle.otp_inbox.proofs.Cuts.{spares, holds, credits}
use Rattle.otp_inbox.proofs.inbox.Inbox.pass_on.Goals as goal

pub another-spare-requires-clause-rule : goal.another-spare-requires-clause-rule
another-spare-requires-clause-rule g c = spares g.T.Mail.plain _ _

pub absorb-requires-clause-rule : goal.absorb-requires-clause-rule
absorb-requires-clause-rule g c =
    let same = c.another-spare.ensures.rule.0 in
    let parts : c.replace-pass.result.me.view.client.parts ≡ c.args.sender.now.me.view.client.parts = ap (λ s. s.me.view.client.parts) c.replace-pass.ensures.value in
    let all = c.requires.parts.1 in
    holds g.T.Mail.plain _ _ _ _ (same ∙ c.requires.takes ∙ ap (λ v. taking v.taken v.given) (sym same)) (omega arith)

pub another-requires-clause-rule : goal.another-requires-clause-rule
another-requires-clause-rule g c =
    let same = c.another-spare.ensures.rule.0 in
    let held = c.absorb.ensures.rule in
    let parts : c.absorb.new.pass.me.view.client.parts ≡ c.args.sender.now.me.view.client.parts = ap (λ v. v.parts) held ∙ ap (λ s. s.me.view.client.parts) c.replace-pass.ensures.value in
    let some = c.requires.parts.0 in
    credits g.T.Mail.plain _ g.C.Credit.shares _ (ap (λ v. v.takes) held ∙ ap (λ v. v.takes) (same ∙ c.requires.takes)) (omega arith)
