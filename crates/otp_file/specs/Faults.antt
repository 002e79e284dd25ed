-- What can be wrong in a tree file, and the number of each fault.
use Rattle.std.specs.Prelude.{ℕ, Bool, true, false, List, [], ◌∷◌, Result, Ok, Err}
use Rattle.otp_spec.specs.Faults as spec
use Rattle.otp_file.specs.declared.value.Unfit.{Unfit}
use Rattle.otp_file.specs.declared.value.Unfit.TheVariants as unfit
use Rattle.otp_file.specs.declared.fault.FlagKey.{FlagKey}
use Rattle.otp_file.specs.declared.fault.ChildKey.{ChildKey}
use Rattle.otp_file.specs.declared.fault.FaultPlace.TheVariants.{Flag, ChildKey as KeyOfChild}
use Rattle.otp_file.specs.declared.fault.TreeFault.{TreeFault}
use Rattle.otp_file.specs.declared.fault.TreeFault.TheVariants.{OutOfMemory, NotToml, UnknownKey, MissingKey, WrongKind, BadFlag, BadSpec, Unlawful, TooDeep, TooManyTables, NestedNotInfinity}

-- the number by which a fault is printed, as E0 to E7 and E10 to E16 (own)
abbrev pub code_of : TreeFault → ℕ
code_of OutOfMemory = 0
code_of (BadFlag _) = 1
code_of (BadSpec _ _) = 2
code_of (Unlawful fault) = spec.code_of fault
code_of NotToml = 10
code_of (UnknownKey _) = 11
code_of (MissingKey _ _) = 12
code_of (WrongKind _) = 13
code_of TooDeep = 14
code_of TooManyTables = 15
code_of (NestedNotInfinity _) = 16

-- the fault of a supervisor whose value at this key is unfit (own)
abbrev pub flag_fault : FlagKey → Unfit → TreeFault
flag_fault key unfit.WrongKind = WrongKind (Flag key)
flag_fault key unfit.OutOfLimits = BadFlag key

-- the fault of the child at this place whose value at this key is unfit (own)
abbrev pub child_fault : ℕ → ChildKey → Unfit → TreeFault
child_fault place key unfit.WrongKind = WrongKind (KeyOfChild place key)
child_fault place key unfit.OutOfLimits = BadSpec place key

-- the fault, if the condition holds, and then the others (own)
abbrev pub fault_if : Bool → TreeFault → List TreeFault → List TreeFault
fault_if true fault others = fault ∷ others
fault_if false fault others = others

-- the fault of a value, if it is unfit, and then the others (own)
abbrev pub fault_of : {A : Type 0} → (Unfit → TreeFault) → Result A Unfit → List TreeFault → List TreeFault
fault_of fault (Ok _) others = others
fault_of fault (Err unfit) others = fault unfit ∷ others

-- what is answered: the first fault, if there is one, and else the value (own)
abbrev pub answer_of : {A F : Type 0} → List F → A → Result A F
answer_of [] value = Ok value
answer_of (fault ∷ _) value = Err fault
