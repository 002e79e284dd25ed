-- No tree that a file says has more supervisors than there can be: the table with that number has a fault.
use Rattle.std.proofs.Common.{◌≡◌, ℕ, ◌+◌, ◌<◌, ◌≤◌, Bool, true, false, List, [], ◌∷◌, ◌++◌, Result, Ok, Err, length, map, arith, refl, ap, ◌∙◌, rules}
use Rattle.std.proofs.lemmas.Bool.{leb-false}
use Rattle.std.proofs.lemmas.List.{length-map}
use Rattle.std.specs.List.{enumerate_from, flat_map}
use Rattle.std.specs.Prelude.{IfOk, nat_le, ◌==◌}
use Rattle.otp_file.specs.Faults.{answer_of, fault_if}
use Rattle.otp_file.specs.Files.{Says}
use Rattle.otp_file.specs.Tree.{table_faults}
use Rattle.otp_file.specs.Trees.{Tree, fault_at, faults_at, table_said, tables_from, tables_of}
use Rattle.otp_file.specs.declared.fault.TreeFault.{TreeFault}
use Rattle.otp_file.specs.declared.fault.TreeFault.TheVariants.{TooDeep, TooManyTables}
use Rattle.otp_file.specs.declared.limits.TheConstants.{MAX_DEPTH}
use Rattle.otp_spec.specs.declared.limits.TheConstants.{MAX_TABLES}

none_in : {X : Type 0} (xs ys : List X) → xs ++ ys ≡ [] → (xs ≡ []) × (ys ≡ [])
none_in [] ys none = (refl, none)
none_in (x ∷ xs) ys none = search rules

module _ {X F : Type 0} (faults : ℕ → X → List F) (is_low : (number : ℕ) (x : X) → faults number x ≡ [] → number < MAX_TABLES) where
  few_from : (number : ℕ) (xs : List X) → number ≤ MAX_TABLES → flat_map (λ (n, x). faults n x) (enumerate_from number xs) ≡ [] → number + length xs ≤ MAX_TABLES
  few_from number [] low none = omega (arith, low)
  few_from number (x ∷ xs) low none =
      let both = none_in (faults number x) (flat_map (λ (n, y). faults n y) (enumerate_from (number + 1) xs)) none in
      let here = is_low number x both.0 in
      let rest = few_from (number + 1) xs (omega (arith, here)) both.1 in
      omega (arith, rest)

-- a table without a fault has a low number
is_low : (number : ℕ) (deep many : Bool) (others : List TreeFault) → nat_le MAX_TABLES number ≡ many → map (fault_at number) (fault_if deep TooDeep (fault_if many TooManyTables others)) ≡ [] → number < MAX_TABLES
is_low number true many others is none = search rules
is_low number false true others is none = search rules
is_low number false false others is none = leb-false MAX_TABLES number is

-- what is answered is there, and there is no fault
said : {A F : Type 0} (faults : List F) (value other : A) → answer_of faults value ≡ Ok other → (faults ≡ []) × (value ≡ other)
said [] value other is = (refl, search rules)
said (fault ∷ faults) value other is = search rules

pub few : (file : List ℕ) (tree : Tree) → Says file (Ok tree) → length (tables_of tree) ≤ MAX_TABLES
few file tree (document, (is, answered)) =
    let tables = tables_from MAX_DEPTH document in
    let both = said _ _ (tables_of tree) answered in
    let low = few_from (λ n placed. faults_at n placed.0 placed.1) (λ n placed none. is_low n (placed.0 == 0) (nat_le MAX_TABLES n) (table_faults placed.1) refl none) 0 tables (omega arith) both.0 in
    let many = length-map tables (λ placed. table_said placed.1) in
    let same = ap length both.1 in
    omega (arith, low, many, same)

pub few_in : (file : List ℕ) (answer : Result Tree TreeFault) → IfOk answer (λ tree. Says file (Ok tree)) → IfOk answer (λ tree. length (tables_of tree) ≤ MAX_TABLES)
few_in file (Ok tree) says = few file tree says
few_in file (Err fault) says = tt
