use Rattle.std.proofs.Common.{Option, subst, sym}
use Rattle.std.proofs.lemmas.Option.{IfSome_then}
use Rattle.otp_rules.specs.declared.event.Kind.{Kind}
use Rattle.otp_bodies.proofs.Due.{IsOwn, next_is_own}
use Rattle.otp_bodies.proofs.office.office.Office.due_kind.Goals as goal

pub returns-clause-no_item : goal.returns-clause-no_item
returns-clause-no_item g c =
    IfSome_then c.next_kind.result (subst IsOwn (sym c.next_kind.ensures) (next_is_own _ c.args.reading _)) (λ k is. is.0)

pub returns-clause-over : goal.returns-clause-over
returns-clause-over g c =
    IfSome_then c.next_kind.result (subst IsOwn (sym c.next_kind.ensures) (next_is_own _ c.args.reading _)) (λ k is opens. absurd (is.1 opens))
