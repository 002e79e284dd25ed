-- Lawful flags and specifications have no fault.
use Rattle.std.proofs.Common.{◌≡◌, ◌≤◌, ℕ, Bool, true, false, not, ◌&&◌, List, length, None, refl, arith}
use Rattle.std.specs.Prelude.{◌==◌, nat_le, nat_lt}
use Rattle.std.proofs.lemmas.Bool.Decides.{nat_tests}
use Rattle.otp_spec.specs.declared.child.ChildSpec.{ChildSpec}
use Rattle.otp_spec.specs.declared.flags.SupFlags.{SupFlags}
use Rattle.otp_spec.specs.declared.flags.Strategy.{Strategy}
use Rattle.otp_spec.specs.declared.flags.Strategy.TheVariants.{OneForOne, OneForAll, RestForOne, SimpleOneForOne}
use Rattle.otp_spec.specs.declared.limits.TheConstants.{MAX_CHILDREN, MAX_INTENSITY, MAX_PERIOD}
use Rattle.otp_spec.specs.Flags.{are_lawful_flags, is_simple}
use Rattle.otp_spec.specs.Supervisor.{IsLawful, supervisor_fault}

within : (n : ℕ) (limit : ℕ) → n ≤ limit → nat_le n limit ≡ true
within n limit most = grind (arith, nat_tests)

not_over : (n : ℕ) (limit : ℕ) → n ≤ limit → nat_lt limit n ≡ false
not_over n limit most = grind (arith, nat_tests)

counted : (strategy : Strategy) (n : ℕ) → (strategy ≡ SimpleOneForOne → n ≡ 1) → (is_simple strategy && not (n == 1)) ≡ false
counted OneForOne n one = refl
counted OneForAll n one = refl
counted RestForOne n one = refl
counted SimpleOneForOne n one = rw (one refl) refl

pub lawful-faultless : (flags : SupFlags) (specs : List ChildSpec) → IsLawful flags specs → supervisor_fault flags specs ≡ None
unfolding supervisor_fault
lawful-faultless flags specs lawful =
    rw (
      within flags.intensity MAX_INTENSITY lawful.intensity,
      within 1 flags.period lawful.some_period,
      within flags.period MAX_PERIOD lawful.period,
      counted flags.strategy (length specs) lawful.simple,
      not_over (length specs) MAX_CHILDREN lawful.limit,
    )
    lawful.faultless
