-- Marks that tell the numbers of openings apart. (own)
use Rattle.std.specs.Prelude.{◌≡◌, ◌%◌, ℕ, Bool, true, false, List, get_or}
use Rattle.otp_close.specs.declared.report.marks.TheConstants.{MARKS}
use Rattle.otp_close.specs.declared.report.report.TableReport.{TableReport}
use Rattle.otp_core.specs.View.{stored_state}
use Rattle.otp_rules.specs.declared.work.Phase.TheVariants.{Open}
use Rattle.otp_rules.specs.State.{State}
use Rattle.otp_run.specs.Lists.{AllAt}

-- the number's mark is set
abbrev pub IsMarked : List Bool → ℕ → Type 0
IsMarked marks number = get_or marks (number % MARKS) false ≡ true

-- each mark that was set is set still
abbrev pub StayMarked : List Bool → List Bool → Type 0
StayMarked older newer = (place : ℕ) → get_or older place false ≡ true → get_or newer place false ≡ true

-- the marks are set of each number under which the supervisor is open, or ended
pub record AreMarked (marks : List Bool) (s : State) : Type 0 where
  pub is_open : (number : ℕ) → s.phase ≡ Open number → IsMarked marks number
  pub ended : AllAt (λ _ x. IsMarked marks x.0) s.ends

-- the marks are those of all supervisors' histories
abbrev pub AreAllMarked : List Bool → List TableReport → Type 0
AreAllMarked marks tables = AllAt (λ _ (t : TableReport). AreMarked marks (stored_state t.core)) tables
