use Rattle.std.specs.Prelude.{ℕ, Option, Some, None, Result, Ok, Err}
use Rattle.otp_spec.specs.declared.fault.SpecFault.{SpecFault}
use Rattle.otp_spec.specs.declared.fault.SpecFault.TheVariants.{BadFlag, BadSpec, DuplicateId, SignificantPermanent, SignificantNever, SimpleNeedsOne, TooManyChildren}

-- the number by which a fault is printed, as E1 to E7 (own)
abbrev pub code_of : SpecFault → ℕ
code_of BadFlag = 1
code_of (BadSpec _ _) = 2
code_of (DuplicateId _) = 3
code_of (SignificantPermanent _) = 4
code_of (SignificantNever _) = 5
code_of SimpleNeedsOne = 6
code_of TooManyChildren = 7

-- what a check answers that looks for this fault: the fault, if there is one (own)
abbrev pub answer_of : Option SpecFault → Result (Unit {0}) SpecFault
answer_of None = Ok tt
answer_of (Some fault) = Err fault
