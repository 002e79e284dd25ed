use Rattle.otp_inbox.proofs.inbox.Inbox.is_empty.Goals as goal

pub is_empty_as-requires-clause-rule : goal.is_empty_as-requires-clause-rule
is_empty_as-requires-clause-rule g c = λ items views d at. tt
