-- The specifications of a supervisor that may be opened have different ids.
use Rattle.std.specs.Prelude.{◌≡◌, ℕ, ◌==◌, ◌+◌, ◌≤◌, ◌++◌, ◌&&◌, ◌||◌, not, Bool, true, false, List, [], ◌∷◌, Option, None, Some, refl, if◌then◌else◌, nat_lt, length, take, count_by}
use Rattle.std.specs.List.{list_any, flat_map, enumerate_from}
use Rattle.std.specs.Str.{bytes_eq}
use Rattle.std.proofs.Common.{◌∙◌, ap, sym, subst, arith, ⊎_elim, cond, rules}
use Rattle.std.proofs.lemmas.Bool.{cases_Bool, cond_both, false≢true, ltb-false}
use Rattle.std.proofs.lemmas.List.{append-nil, append_assoc, length-append}
use Rattle.std.proofs.lemmas.List.Sums.{sum_by-append, sum_by-cons}
use Rattle.std.proofs.lemmas.Slice.Eq.{bytes_eq-Decides}
use Rattle.otp_reason.specs.declared.name.Name.{Name}
use Rattle.otp_reason.specs.Names.{name_bytes}
use Rattle.otp_spec.specs.declared.child.ChildSpec.{ChildSpec}
use Rattle.otp_spec.specs.declared.fault.SpecFault.{SpecFault}
use Rattle.otp_spec.specs.declared.fault.SpecFault.TheVariants.{BadFlag, BadSpec, DuplicateId, SignificantNever, SignificantPermanent, SimpleNeedsOne, TooManyChildren}
use Rattle.otp_spec.specs.declared.flags.AutoShutdown.{AutoShutdown}
use Rattle.otp_spec.specs.declared.flags.SupFlags.{SupFlags}
use Rattle.otp_spec.specs.declared.limits.TheConstants.{MAX_CHILDREN}
use Rattle.otp_spec.specs.Flags.{are_lawful_flags, is_simple}
use Rattle.otp_spec.specs.declared.fault.SpecKey.TheVariants.{Id, Modules, Start}
use Rattle.otp_spec.specs.Children.{are_lawful_modules, is_lawful}
use Rattle.otp_spec.specs.Lawful.{fault_if, is_never, is_permanent, faults_at, faults_of, first_fault, first_of, has_id_of}
use Rattle.otp_spec.specs.Supervisor.{supervisor_fault}
use Rattle.otp_rules.specs.Calls.{is_named}
use Rattle.otp_laws.specs.Ids.{AreSpecsApart}

-- no fault of the supervisor is none of its specifications
no_fault : (flags : SupFlags) (specs : List ChildSpec) → supervisor_fault flags specs ≡ None → first_fault specs (Some flags.auto_shutdown) ≡ None
unfolding supervisor_fault
no_fault flags specs =
    let P : Option SpecFault → Type 0 = λ fault. fault ≡ None → first_fault specs (Some flags.auto_shutdown) ≡ None in
    let last : Option SpecFault = if nat_lt MAX_CHILDREN (length specs) then Some TooManyChildren else first_fault specs (Some flags.auto_shutdown) in
    cond_both (not (are_lawful_flags flags)) (Some BadFlag) (if is_simple flags.strategy && not (length specs == 1) then Some SimpleNeedsOne else last) P
    (λ _ e. absurd (search (rules, e)))
    (λ _. cond_both (is_simple flags.strategy && not (length specs == 1)) (Some SimpleNeedsOne) last P
    (λ _ e. absurd (search (rules, e)))
    (λ _. cond_both (nat_lt MAX_CHILDREN (length specs)) (Some TooManyChildren) (first_fault specs (Some flags.auto_shutdown)) P
    (λ _ e. absurd (search (rules, e)))
    (λ _ e. e)))

-- nor are there more than MAX_CHILDREN specifications
pub few_specs : (flags : SupFlags) (specs : List ChildSpec) → supervisor_fault flags specs ≡ None → length specs ≤ MAX_CHILDREN
unfolding supervisor_fault
few_specs flags specs =
    let P : Option SpecFault → Type 0 = λ fault. fault ≡ None → length specs ≤ MAX_CHILDREN in
    let last : Option SpecFault = if nat_lt MAX_CHILDREN (length specs) then Some TooManyChildren else first_fault specs (Some flags.auto_shutdown) in
    cond_both (not (are_lawful_flags flags)) (Some BadFlag) (if is_simple flags.strategy && not (length specs == 1) then Some SimpleNeedsOne else last) P
    (λ _ e. absurd (search (rules, e)))
    (λ _. cond_both (is_simple flags.strategy && not (length specs == 1)) (Some SimpleNeedsOne) last P
    (λ _ e. absurd (search (rules, e)))
    (λ _. cond_both (nat_lt MAX_CHILDREN (length specs)) (Some TooManyChildren) (first_fault specs (Some flags.auto_shutdown)) P
    (λ _ e. absurd (search (rules, e)))
    (λ few _. ltb-false MAX_CHILDREN (length specs) few)))

no_first : (faults : List SpecFault) → first_of faults ≡ None → faults ≡ []
no_first [] h = refl
no_first (x ∷ xs) h = absurd (search (rules, h))

no_parts : (xs ys : List SpecFault) → xs ++ ys ≡ [] → (xs ≡ []) × (ys ≡ [])
no_parts [] ys h = (refl, h)
no_parts (x ∷ xs) ys h = absurd (search (rules, h))

-- no fault comes of a condition that doesn't hold
no_if : (b : Bool) (x : SpecFault) (others : List SpecFault) → fault_if b x others ≡ [] → (b ≡ false) × (others ≡ [])
no_if true x others h = absurd (search (rules, h))
no_if false x others h = (refl, h)

no_duplicate : (auto : Option AutoShutdown) (place : ℕ) (earlier : List ChildSpec) (spec : ChildSpec) → faults_at auto place earlier spec ≡ [] → list_any (has_id_of spec) earlier ≡ false
no_duplicate auto place earlier spec h =
    let last : List SpecFault = fault_if (list_any (has_id_of spec) earlier) (DuplicateId place) [] in
    let never : List SpecFault = fault_if (spec.significant && is_never auto) (SignificantNever place) last in
    let permanent : List SpecFault = fault_if (spec.significant && is_permanent spec.restart) (SignificantPermanent place) never in
    let modules : List SpecFault = fault_if (not (are_lawful_modules spec.modules)) (BadSpec place Modules) permanent in
    let start : List SpecFault = fault_if (not (is_lawful spec.start)) (BadSpec place Start) modules in
    let one : start ≡ [] = (no_if (not (is_lawful spec.id)) (BadSpec place Id) start h).1 in
    let two : modules ≡ [] = (no_if (not (is_lawful spec.start)) (BadSpec place Start) modules one).1 in
    let three : permanent ≡ [] = (no_if (not (are_lawful_modules spec.modules)) (BadSpec place Modules) permanent two).1 in
    let four : never ≡ [] = (no_if (spec.significant && is_permanent spec.restart) (SignificantPermanent place) never three).1 in
    let five : last ≡ [] = (no_if (spec.significant && is_never auto) (SignificantNever place) last four).1 in
    (no_if (list_any (has_id_of spec) earlier) (DuplicateId place) [] five).0

-- none of these has an id of the same bytes
none_named : (id : Name) (spec : ChildSpec) (earlier : List ChildSpec) → name_bytes spec.id ≡ name_bytes id → list_any (has_id_of spec) earlier ≡ false → count_by (is_named id) earlier ≡ 0
none_named id spec [] same none = refl
none_named id spec (x ∷ xs) same none =
    ⊎_elim
    (λ (here : has_id_of spec x ≡ true). absurd (false≢true (sym none ∙ ap (λ (b : Bool). b || list_any (has_id_of spec) xs) here)))
    (λ (other : has_id_of spec x ≡ false).
    let rest : list_any (has_id_of spec) xs ≡ false = sym (ap (λ (b : Bool). b || list_any (has_id_of spec) xs) other) ∙ none in
    let zero : ◌≡◌ {A = ℕ} (cond (is_named id x) 1 0) 0 = ap (λ (bytes : List ℕ). cond {A = ℕ} (bytes_eq (name_bytes x.id) bytes) 1 0) (sym same) ∙ ap (λ (b : Bool). cond b 1 0) other in
    omega (arith, zero, none_named id spec xs same rest, sum_by-cons (λ (y : ChildSpec). cond (is_named id y) 1 0) x xs))
    (cases_Bool (has_id_of spec x))

taken_whole : (before rest : List ChildSpec) → take (length before) (before ++ rest) ≡ before
taken_whole [] rest = take_none rest
  where
    take_none : (xs : List ChildSpec) → take 0 xs ≡ []
    take_none [] = refl
    take_none (x ∷ xs) = refl
taken_whole (x ∷ before) rest = ap (λ (xs : List ChildSpec). x ∷ xs) (taken_whole before rest)

from-apart : (id : Name) (auto : Option AutoShutdown) (all : List ChildSpec) (place : ℕ) (before rest : List ChildSpec) → before ++ rest ≡ all → length before ≡ place → count_by (is_named id) before ≤ 1
    → flat_map (λ (place, spec). faults_at auto place (take place all) spec) (enumerate_from place rest) ≡ [] → count_by (is_named id) all ≤ 1
from-apart id auto all place before [] is long h none =
    subst (λ (xs : List ChildSpec). count_by (is_named id) xs ≤ 1) (sym (append-nil before) ∙ is) h
from-apart id auto all place before (spec ∷ rest) is long h none =
    let parts = no_parts (faults_at auto place (take place all) spec) (flat_map (λ (place, spec). faults_at auto place (take place all) spec) (enumerate_from (place + 1) rest)) none in
    let earlier : take place all ≡ before = ap (λ (n : ℕ). take n all) (sym long) ∙ ap (λ (xs : List ChildSpec). take (length before) xs) (sym is) ∙ taken_whole before (spec ∷ rest) in
    let unique : list_any (has_id_of spec) before ≡ false = sym (ap (λ (xs : List ChildSpec). list_any (has_id_of spec) xs) earlier) ∙ no_duplicate auto place (take place all) spec parts.0 in
    let n : ChildSpec → ℕ = λ (x : ChildSpec). cond (is_named id x) 1 0 in
    let more : count_by (is_named id) (before ++ spec ∷ []) ≤ 1 =
    ⊎_elim
    (λ (holds_so : is_named id spec ≡ true).
    let one : ◌≡◌ {A = ℕ} (cond (is_named id spec) 1 0) 1 = ap (λ (b : Bool). cond b 1 0) holds_so in
    omega (arith, one, none_named id spec before ((bytes_eq-Decides (name_bytes spec.id) (name_bytes id)).0 holds_so) unique, sum_by-append n before (spec ∷ []), sum_by-cons n spec []))
    (λ (isnt : is_named id spec ≡ false).
    let zero : ◌≡◌ {A = ℕ} (cond (is_named id spec) 1 0) 0 = ap (λ (b : Bool). cond b 1 0) isnt in
    omega (arith, zero, h, sum_by-append n before (spec ∷ []), sum_by-cons n spec []))
    (cases_Bool (is_named id spec)) in
    let longer : length (before ++ spec ∷ []) ≡ place + 1 = omega (arith, long, length-append before (spec ∷ [])) in
    from-apart id auto all (place + 1) (before ++ spec ∷ []) rest (append_assoc before (spec ∷ []) rest ∙ is) longer more parts.1

pub specs_apart : (flags : SupFlags) (specs : List ChildSpec) → supervisor_fault flags specs ≡ None → AreSpecsApart specs
unfolding first_fault
specs_apart flags specs opens id =
    from-apart id (Some flags.auto_shutdown) specs 0 [] specs refl refl (omega arith) (no_first (faults_of specs (Some flags.auto_shutdown)) (no_fault flags specs opens))
