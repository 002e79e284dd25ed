use Rattle.std.proofs.Common.{◌≡◌, Bool, ap, sym, true, ◌∙◌}
use Rattle.std.specs.Prelude.{◌&&◌, is_some}
use Rattle.otp_core.specs.View.{state_of}
use Rattle.otp_reason.specs.declared.note.Note.{Note}
use Rattle.otp_laws.specs.Stays.{keeps_row}
use Rattle.otp_sup.specs.Moves.{is_kept_at}
use Rattle.otp_sup.proofs.plans.is_kept_at.Goals as goal

pub returns-then-has_open_work : goal.returns-then-has_open_work
returns-then-has_open_work c =
    let s = state_of c.args.core.now in
    let works : is_some s.follows ≡ true = sym c.has_open_work.ensures ∙ c.if-has_open_work.true in
    c.keeps_row.ensures
    ∙ sym (ap (λ (b : Bool). b && keeps_row c.in-Exit.number s.rows) works)
    ∙ sym (ap (λ (x : Note). is_kept_at s x) c.in-Exit.is)
