use Rattle.std.proofs.Common.{◌≡◌, ◌<◌, ◌≤◌, ◌++◌, [], ◌∷◌, ℕ, ◌+◌, Option, Some, None, List, drop, take, length, get_or, refl, ap, ◌∙◌}
use Rattle.std.specs.List.{flat_map, enumerate_from}
use Rattle.std.proofs.lemmas.List.{at_drop_more, drop_all}
use Rattle.otp_spec.specs.declared.child.ChildSpec.{ChildSpec}
use Rattle.otp_spec.specs.declared.flags.AutoShutdown.{AutoShutdown}
use Rattle.otp_spec.specs.declared.fault.SpecFault.{SpecFault}
use Rattle.otp_spec.specs.Lawful.{faults_at, faults_of, first_of, first_fault}

-- the faults of the list from this place on
abbrev pub faults_from : List ChildSpec → Option AutoShutdown → ℕ → List SpecFault
faults_from specs auto place =
    flat_map (λ (place, spec). faults_at auto place (take place specs) spec) (enumerate_from place (drop place specs))

-- they are those at this place, and then those from the next on
pub faults_from_here : (specs : List ChildSpec) (auto : Option AutoShutdown) (place : ℕ) (other : ChildSpec) →
    place < length specs →
    faults_from specs auto place ≡ faults_at auto place (take place specs) (get_or specs place other) ++ faults_from specs auto (place + 1)
faults_from_here specs auto place other within =
    let from : List ChildSpec → List SpecFault = λ rest. flat_map (λ (place, spec). faults_at auto place (take place specs) spec) (enumerate_from place rest) in
    at_drop_more from specs place other within

-- the first of a list is the first of a longer one
first_of-append : (fault : SpecFault) (faults others : List SpecFault) → first_of faults ≡ Some fault → first_of (faults ++ others) ≡ Some fault
first_of-append fault [] others found = cc
first_of-append fault (first ∷ faults) others found = found

-- a list with no first is empty
empty_of_first : (faults : List SpecFault) → first_of faults ≡ None → faults ≡ []
empty_of_first [] none = refl
empty_of_first (first ∷ faults) none = cc

-- where the places before have no fault, a first fault at this place is that of the list
pub fault_found : (specs : List ChildSpec) (auto : Option AutoShutdown) (place : ℕ) (other : ChildSpec) (fault : SpecFault) →
    place < length specs →
    faults_of specs auto ≡ faults_from specs auto place →
    first_of (faults_at auto place (take place specs) (get_or specs place other)) ≡ Some fault →
    first_fault specs auto ≡ Some fault
unfolding first_fault
fault_found specs auto place other fault within before found =
    ap first_of (before ∙ faults_from_here specs auto place other within)
    ∙ first_of-append fault (faults_at auto place (take place specs) (get_or specs place other)) (faults_from specs auto (place + 1)) found

-- a place with no fault is passed over
pub fault_passed : (specs : List ChildSpec) (auto : Option AutoShutdown) (place : ℕ) (other : ChildSpec) →
    place < length specs →
    faults_of specs auto ≡ faults_from specs auto place →
    first_of (faults_at auto place (take place specs) (get_or specs place other)) ≡ None →
    faults_of specs auto ≡ faults_from specs auto (place + 1)
fault_passed specs auto place other within before none =
    before ∙ faults_from_here specs auto place other within
    ∙ ap (λ here. here ++ faults_from specs auto (place + 1))
    (empty_of_first (faults_at auto place (take place specs) (get_or specs place other)) none)

-- a list whose places have no fault is lawful
pub no_fault_left : (specs : List ChildSpec) (auto : Option AutoShutdown) (place : ℕ) →
    length specs ≤ place →
    faults_of specs auto ≡ faults_from specs auto place →
    first_fault specs auto ≡ None
unfolding first_fault
no_fault_left specs auto place past before =
    let from : List ChildSpec → List SpecFault = λ rest. flat_map (λ (place, spec). faults_at auto place (take place specs) spec) (enumerate_from place rest) in
    ap first_of (before ∙ ap from (drop_all place specs past))
