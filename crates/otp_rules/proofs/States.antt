-- What is so of one row's state, in each of its six kinds.
use Rattle.std.specs.Prelude.{◌≡◌, ℕ, List, true}
use Rattle.std.proofs.Common.{◌∙◌, sym}
use Rattle.std.proofs.lemmas.Bool.{false≢true, eqb-true}
use Rattle.otp_table.specs.declared.row.RowState.{RowState}
use Rattle.otp_table.specs.declared.row.RowState.TheVariants.{Undefined, Starting, Up, Asked, Killed, Restarting}
use Rattle.otp_table.specs.Rows.{has_process}
use Rattle.otp_rules.specs.Fit.{is_free, is_told}

-- it has one process
pub one_process : (p q : ℕ) (state : RowState) → has_process p state ≡ true → has_process q state ≡ true → q ≡ p
one_process p q Undefined h k = absurd (false≢true h)
one_process p q (Starting x _) h k = sym (eqb-true x q k) ∙ eqb-true x p h
one_process p q (Up x) h k = sym (eqb-true x q k) ∙ eqb-true x p h
one_process p q (Asked x _) h k = sym (eqb-true x q k) ∙ eqb-true x p h
one_process p q (Killed x) h k = sym (eqb-true x q k) ∙ eqb-true x p h
one_process p q (Restarting _) h k = absurd (false≢true h)

-- who was told has the process
pub told_has : (p : ℕ) (state : RowState) → is_told p state ≡ true → has_process p state ≡ true
told_has p Undefined h = absurd (false≢true h)
told_has p (Starting _ _) h = absurd (false≢true h)
told_has p (Up _) h = absurd (false≢true h)
told_has p (Asked _ _) h = h
told_has p (Killed _) h = h
told_has p (Restarting _) h = absurd (false≢true h)

-- the row of a process that goes when it ends isn't free
pub held_goes : (ps : List ℕ) (p : ℕ) (state : RowState) → has_process p state ≡ true → is_free ps true state ≡ true → ⊥
held_goes ps p Undefined h k = false≢true h
held_goes ps p (Starting _ _) h k = false≢true k
held_goes ps p (Up _) h k = false≢true k
held_goes ps p (Asked _ _) h k = false≢true k
held_goes ps p (Killed _) h k = false≢true k
held_goes ps p (Restarting _) h k = false≢true h
