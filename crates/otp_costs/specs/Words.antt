-- The words of a table of limits (own).
use Rattle.std.specs.Prelude.{ℕ, ◌-◌, Bool, true, false, List, [], ◌++◌, length, codes, decimal, replicate, ◌==◌, if◌then◌else◌}
use Rattle.otp_costs.specs.declared.limits.fate.Fate.{Fate}
use Rattle.otp_costs.specs.declared.limits.fate.Fate.TheVariants as fate
use Rattle.otp_costs.specs.declared.limits.steady.Steady.{Steady}
use Rattle.otp_costs.specs.declared.limits.steady.Steady.TheVariants as steady

-- a text at the left of a column, or at its right
unfoldable pub at_left : ℕ → List ℕ → List ℕ
at_left width text = text ++ replicate (width - length text) 32

unfoldable pub at_right : ℕ → List ℕ → List ℕ
at_right width text = replicate (width - length text) 32 ++ text

-- one text for a child that never ran, and another for one that runs no more
unfoldable pub gone_text : ℕ → List ℕ → List ℕ → List ℕ
gone_text count never later = if count == 0 then never else later

-- how many crashes at once are survived
unfoldable pub burst_text : Fate → List ℕ
burst_text fate.Survived = codes "any"
burst_text (fate.Ended count) = decimal count
burst_text (fate.Gone count) = gone_text count (codes "-") (codes "any")

-- how far apart crashes must be
unfoldable pub steady_text : Steady → List ℕ
steady_text steady.Always = codes "any"
steady_text (steady.Apart gap) = decimal gap ++ codes " ms"
steady_text steady.Never = codes "none"

-- how far apart crashes of a child must be that fares so
unfoldable pub interval_text : Fate → Steady → List ℕ
interval_text fate.Survived steady = steady_text steady
interval_text (fate.Ended _) steady = steady_text steady
interval_text (fate.Gone count) steady = gone_text count (codes "-") (steady_text steady)

abbrev pub is_always : Steady → Bool
is_always steady.Always = true
is_always _ = false

abbrev pub is_apart : ℕ → Steady → Bool
is_apart gap (steady.Apart other) = gap == other
is_apart gap _ = false

abbrev pub is_never : Steady → Bool
is_never steady.Never = true
is_never _ = false

-- whether crashes must be as far apart by one clock as by the other
unfoldable pub are_same : Steady → Steady → Bool
are_same steady.Always other = is_always other
are_same (steady.Apart gap) other = is_apart gap other
are_same steady.Never other = is_never other

-- how far apart crashes must be by the clock of OTP, where that differs
unfoldable pub reason_text : List ℕ
reason_text = codes " between crashes: it counts restarts in whole seconds\n"

unfoldable pub needs_text : Steady → List ℕ
needs_text seconds = codes "  OTP    needs " ++ steady_text seconds ++ reason_text

unfoldable pub clock_if : Bool → Steady → List ℕ
clock_if true seconds = []
clock_if false seconds = needs_text seconds

unfoldable pub clock_text : Steady → Steady → List ℕ
clock_text steady seconds = clock_if (are_same steady seconds) seconds
