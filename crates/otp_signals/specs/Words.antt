-- Counts as one word, nine bits for each (own).
use Rattle.std.specs.Prelude.{ℕ, ◌+◌, ◌*◌, ◌/◌, ◌%◌, ◌≤◌}
use Rattle.otp_spec.specs.declared.limits.TheConstants.{MAX_CHILDREN}
use Rattle.otp_rules.specs.declared.call.CountsNow.{CountsNow}

-- no count is above the most children that a supervisor has
pub record AreFew (c : CountsNow) : Type 0 where
  pub specs : c.specs ≤ MAX_CHILDREN
  pub active : c.active ≤ MAX_CHILDREN
  pub supervisors : c.supervisors ≤ MAX_CHILDREN
  pub workers : c.workers ≤ MAX_CHILDREN

abbrev pub word_of : CountsNow → ℕ
word_of c = c.specs + 512 * c.active + 262144 * c.supervisors + 134217728 * c.workers

abbrev pub counts_in : ℕ → CountsNow
counts_in word =
    record { specs = word % 512; active = word / 512 % 512; supervisors = word / 262144 % 512; workers = word / 134217728 }
