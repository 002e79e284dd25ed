-- The children of an array, one after the other.
use Rattle.std.proofs.Common.{◌≡◌, ℕ, ◌+◌, ◌<◌, ◌≤◌, List, [], ◌∷◌, ◌++◌, map, drop, length, get_or, Ok, Err, refl, sym, ap, ◌∙◌, append_assoc, append-nil}
use Rattle.std.proofs.lemmas.List.{at_drop_more, drop_all}
use Rattle.std.specs.List.{flat_map, enumerate_from}
use Rattle.otp_spec.specs.declared.child.ChildSpec.{ChildSpec}
use Rattle.otp_file.specs.declared.fault.TreeFault.{TreeFault}
use Rattle.otp_file.specs.Children.{child_faults, children_faults, spec_of, specs_of}
use Rattle.otp_file.specs.Faults.{answer_of}
use Rattle.toml.specs.View.{view}
use Rattle.toml.specs.declared.value.Value.{Value}

-- a first fault stays the first where others follow
pub answer_of-stop : {A B F : Type 0} (faults others : List F) (a : A) (b : B) (fault : F) →
    answer_of faults a ≡ Err fault → answer_of (faults ++ others) b ≡ Err fault
answer_of-stop [] others a b fault found = cc
answer_of-stop (first ∷ faults) others a b fault found = cc

-- what follows where there is none
pub answer_of-next : {A B F : Type 0} (faults others : List F) (a b : A) (value : B) →
    answer_of faults a ≡ Ok b → answer_of (faults ++ others) value ≡ answer_of others value
answer_of-next [] others a b value found = refl
answer_of-next (first ∷ faults) others a b value found = cc

-- where a value is answered there is no fault, and the value is that one
pub answer_of-empty : {A F : Type 0} (faults : List F) (a b : A) → answer_of faults a ≡ Ok b → faults ≡ []
answer_of-empty [] a b found = refl
answer_of-empty (first ∷ faults) a b found = cc

pub answer_of-value : {A F : Type 0} (faults : List F) (a b : A) → answer_of faults a ≡ Ok b → a ≡ b
answer_of-value [] a b found = cc
answer_of-value (first ∷ faults) a b found = cc

-- the faults of the values from this place on
abbrev pub faults_from : List Value → ℕ → List TreeFault
faults_from values place = flat_map (λ (index, value). child_faults index (view value)) (enumerate_from place (drop place values))

-- the specifications of values
abbrev pub said : List Value → List ChildSpec
said values = map (λ value. spec_of (view value)) values

faults_seen : (values : List Value) (place : ℕ) →
    flat_map (λ (index, child). child_faults index child) (enumerate_from place (map view values))
    ≡ flat_map (λ (index, value). child_faults index (view value)) (enumerate_from place values)
faults_seen [] place = refl
faults_seen (value ∷ rest) place = ap (λ others. child_faults place (view value) ++ others) (faults_seen rest (place + 1))

pub faults_from_first : (values : List Value) → children_faults (map view values) ≡ faults_from values 0
faults_from_first values = faults_seen values 0

pub specs_seen : (values : List Value) → specs_of (map view values) ≡ said values
specs_seen [] = refl
specs_seen (value ∷ rest) = ap (λ others. spec_of (view value) ∷ others) (specs_seen rest)

-- they are those at this place, and then those from the next on
faults_from_here : (values : List Value) (place : ℕ) (other : Value) → place < length values →
    faults_from values place ≡ child_faults place (view (get_or values place other)) ++ faults_from values (place + 1)
faults_from_here values place other within =
    let from : List Value → List TreeFault = λ rest. flat_map (λ (index, value). child_faults index (view value)) (enumerate_from place rest) in
    at_drop_more from values place other within

-- a place with no fault is passed over
pub fault_passed : (values : List Value) (place : ℕ) (other : Value) (spec said : ChildSpec) →
    place < length values →
    children_faults (map view values) ≡ faults_from values place →
    answer_of (child_faults place (view (get_or values place other))) spec ≡ Ok said →
    children_faults (map view values) ≡ faults_from values (place + 1)
fault_passed values place other spec said within before found =
    before ∙ faults_from_here values place other within
    ∙ ap (λ here. here ++ faults_from values (place + 1))
    (answer_of-empty (child_faults place (view (get_or values place other))) spec said found)

-- the specification at this place goes from those to come to those that were read
pub spec_passed : (values : List Value) (place : ℕ) (other : Value) (read : List ChildSpec) (spec : ChildSpec) →
    place < length values →
    read ++ said (drop place values) ≡ said values →
    answer_of (child_faults place (view (get_or values place other))) (spec_of (view (get_or values place other))) ≡ Ok spec →
    (read ++ spec ∷ []) ++ said (drop (place + 1) values) ≡ said values
spec_passed values place other read spec within before found =
    let from : List Value → List ChildSpec = λ rest. read ++ said rest in
    append_assoc read (spec ∷ []) (said (drop (place + 1) values))
    ∙ ap (λ here. read ++ here ∷ said (drop (place + 1) values))
    (sym (answer_of-value (child_faults place (view (get_or values place other))) (spec_of (view (get_or values place other))) spec found))
    ∙ sym (at_drop_more from values place other within)
    ∙ before

-- past the last place all are read
pub all_read : (values : List Value) (place : ℕ) (read : List ChildSpec) →
    length values ≤ place →
    children_faults (map view values) ≡ faults_from values place →
    read ++ said (drop place values) ≡ said values →
    answer_of (children_faults (map view values)) (specs_of (map view values)) ≡ Ok read
all_read values place read past faults before =
    let from : List Value → List TreeFault = λ rest. flat_map (λ (index, value). child_faults index (view value)) (enumerate_from place rest) in
    let none : children_faults (map view values) ≡ [] = faults ∙ ap from (drop_all place values past) in
    let whole : said values ≡ read = sym before ∙ ap (λ rest. read ++ said rest) (drop_all place values past) ∙ append-nil read in
    ap (λ wrong. answer_of wrong (specs_of (map view values))) none ∙ ap Ok (specs_seen values ∙ whole)
