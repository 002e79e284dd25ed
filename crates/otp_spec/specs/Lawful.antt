use Rattle.std.specs.Prelude.{ℕ, Bool, true, false, not, ◌&&◌, Option, Some, None, List, [], ◌∷◌, take}
use Rattle.std.specs.List.{list_any, flat_map, enumerate_from}
use Rattle.std.specs.Str.{bytes_eq}
use Rattle.otp_reason.specs.Names.{name_bytes}
use Rattle.otp_spec.specs.declared.child.ChildSpec.{ChildSpec}
use Rattle.otp_spec.specs.declared.child.Restart.{Restart}
use Rattle.otp_spec.specs.declared.child.Restart.TheVariants.{Permanent, Transient, Temporary}
use Rattle.otp_spec.specs.declared.flags.AutoShutdown.{AutoShutdown}
use Rattle.otp_spec.specs.declared.flags.AutoShutdown.TheVariants.{Never, AnySignificant, AllSignificant}
use Rattle.otp_spec.specs.declared.fault.SpecFault.{SpecFault}
use Rattle.otp_spec.specs.declared.fault.SpecFault.TheVariants.{BadSpec, DuplicateId, SignificantPermanent, SignificantNever}
use Rattle.otp_spec.specs.declared.fault.SpecKey.TheVariants.{Id, Start, Modules}
use Rattle.otp_spec.specs.Children.{is_lawful, are_lawful_modules}

-- a child that is always restarted (Supervisor Behaviour, "Child Specification", restart)
abbrev pub is_permanent : Restart → Bool
is_permanent Permanent = true
is_permanent Transient = false
is_permanent Temporary = false

-- the value is given, and is `never` (Supervisor Behaviour, "Automatic Shutdown")
abbrev pub is_never : Option AutoShutdown → Bool
is_never None = false
is_never (Some Never) = true
is_never (Some AnySignificant) = false
is_never (Some AllSignificant) = false

-- the two have one id (Supervisor Behaviour, "Child Specification", id)
abbrev pub has_id_of : ChildSpec → ChildSpec → Bool
has_id_of spec other = bytes_eq (name_bytes other.id) (name_bytes spec.id)

-- the fault, if the condition holds, and then the others (own)
abbrev pub fault_if : Bool → SpecFault → List SpecFault → List SpecFault
fault_if true fault others = fault ∷ others
fault_if false fault others = others

-- all faults of a specification that stands at this place after these others: its keys, then what a significant
-- child may not be, then the id that an earlier one has (`supervisor`, check_childspecs; the order is own)
abbrev pub faults_at : Option AutoShutdown → ℕ → List ChildSpec → ChildSpec → List SpecFault
faults_at auto place earlier spec =
    fault_if (not (is_lawful spec.id)) (BadSpec place Id)
    (fault_if (not (is_lawful spec.start)) (BadSpec place Start)
    (fault_if (not (are_lawful_modules spec.modules)) (BadSpec place Modules)
    (fault_if (spec.significant && is_permanent spec.restart) (SignificantPermanent place)
    (fault_if (spec.significant && is_never auto) (SignificantNever place)
    (fault_if (list_any (has_id_of spec) earlier) (DuplicateId place)
    [])))))

-- all faults of the list, by place (own)
abbrev pub faults_of : List ChildSpec → Option AutoShutdown → List SpecFault
faults_of specs auto = flat_map (λ (place, spec). faults_at auto place (take place specs) spec) (enumerate_from 0 specs)

-- the first, if there is one (own)
abbrev pub first_of : List SpecFault → Option SpecFault
first_of [] = None
first_of (fault ∷ _) = Some fault

-- the fault that the check answers: the first one at the least place (own; the manual says only that a list is refused)
unfoldable pub first_fault : List ChildSpec → Option AutoShutdown → Option SpecFault
first_fault specs auto = first_of (faults_of specs auto)
