-- No more of some moments lie in a period than there are.
use Rattle.std.specs.Prelude.{◌≡◌, ℕ, ◌≤◌, count_by, if◌then◌else◌, length}
use Rattle.std.proofs.Common.{ap, arith}
use Rattle.std.proofs.lemmas.Bool.{le-leb}
use Rattle.std.proofs.lemmas.List.Sums.{count_by-le-length}
use Rattle.otp_window.specs.Period.{in_period, is_in_period}
use Rattle.otp_window.specs.declared.Within.TheVariants.{Ok, Exceeded}
use Rattle.otp_suggest.specs.Few.{FewAreWithin}

pub few_law : FewAreWithin
few_law intensity period time stamps few =
    let small : in_period period stamps time ≤ intensity = omega (arith, few, count_by-le-length (λ s. is_in_period period time s) stamps) in
    ap (λ b. if b then Ok else Exceeded) (le-leb (in_period period stamps time) intensity small)
