use Rattle.std.proofs.Common.{◌≡◌, ℕ, ◌+◌, Option, arith, subst}
use Rattle.std.specs.Prelude.{option_map, position}
use Rattle.otp_rules.specs.Starts.{is_due}
use Rattle.otp_machine.proofs.Later.{found_later}
use Rattle.otp_machine.proofs.decisions.starts.find_due.Goals as goal

pub returns-in-None : goal.returns-in-None
returns-in-None c =
    subst (λ (found : Option ℕ). option_map (λ (k : ℕ). c.min-from.result + k) found ≡ position (is_due c.args.due.now) c.args.rows.now) c.in-None.is
    (found_later c.args.due.now c.args.rows.now c.args.defined c.min-from.result c.first_due.result (omega (arith, c.min-from.ensures), omega (arith, c.min-from.ensures)) c.requires c.first_due.ensures)

pub returns-in-Some : goal.returns-in-Some
returns-in-Some c =
    subst (λ (found : Option ℕ). option_map (λ (k : ℕ). c.min-from.result + k) found ≡ position (is_due c.args.due.now) c.args.rows.now) c.in-Some.is
    (found_later c.args.due.now c.args.rows.now c.args.defined c.min-from.result c.first_due.result (omega (arith, c.min-from.ensures), omega (arith, c.min-from.ensures)) c.requires c.first_due.ensures)
