-- The words of a fault (own).
use Rattle.std.specs.Prelude.{◌≡◌, ◌⊎◌, ℕ, true, List, [], ◌++◌, Option, codes, decimal}
use Rattle.otp_file.specs.Faults.{code_of}
use Rattle.otp_file.specs.declared.fault.TreeFault.{TreeFault}
use Rattle.otp_file.specs.declared.fault.TreeFault.TheVariants as fault
use Rattle.otp_spec.specs.declared.fault.SpecFault.TheVariants as spec
use Rattle.otp_check.specs.Advice.{is_detailed, only_child_text, remedy_text}

-- what a fault's text begins with
abbrev pub head_text : TreeFault → List ℕ
head_text why = codes "E" ++ decimal (code_of why) ++ codes ": "

-- what is told behind the place of a fault of a whole table
abbrev pub told : List ℕ → List ℕ
told what = codes ": " ++ (what ++ [])

-- what stands behind the place of a fault: of one of a whole table what to do, which its fault says alone, but for the two ways in
-- which there is not one child under simple_one_for_one. Of a value or a key that was read, and of a text that is no document, it is
-- what was read and what is allowed
abbrev pub IsRemedied : TreeFault → List ℕ → Type 0
IsRemedied why rest =
    (is_detailed why ≡ true)
    ⊎ ((rest ≡ told (remedy_text why)) ⊎ ((why ≡ fault.Unlawful spec.SimpleNeedsOne) × (rest ≡ told only_child_text)))

-- the text of a finding: its number, its place, and what to do
abbrev pub IsSaid : TreeFault → List ℕ → Type 0
IsSaid why text = (place : List ℕ) × ((rest : List ℕ) × ((text ≡ head_text why ++ (place ++ rest)) × IsRemedied why rest))

-- what is said of a file: on which line of it, where that is known, and in which words
pub record Remarked : Type 0 where
  pub line : Option ℕ
  pub text : List ℕ
