-- Files that are checked one after the other.
use Rattle.std.proofs.Common.{◌≡◌, ◌<◌, ◌≤◌, ◌+◌, ◌∙◌, ◌⊎◌, inl, inr, ℕ, List, [], ◌∷◌, ◌++◌, true, false, refl, ap, sym, subst, take, drop, length, get_or}
use Prim.Native.Nat.{suc}
use Rattle.std.proofs.lemmas.List.{take_all, take_more, take-append-drop}
use Rattle.std.proofs.Math.Seq.{drop-cons}
use Rattle.otp_sim.specs.Devices.{Written}
use Rattle.otp_exit.specs.declared.ending.ProgramEnd.{ProgramEnd}
use Rattle.otp_exit.specs.declared.ending.ProgramEnd.TheVariants.{Done}
use Rattle.otp_exit.specs.Told.{goes_on, worse}
use Rattle.otp_cli.specs.declared.words.Checking.{Checking}
use Rattle.otp_commands.specs.Runs.{Checks, ChecksAll, ChecksEach}

-- one more, behind those that were checked
checked_more : {T : Type 0} (checking : Checking) (Holds : T → List ℕ → Type 0) (called : T → List ℕ) (names : List T) (name : T) (before so_far next : ProgramEnd) (old mid new : Written)
    → ChecksEach checking Holds called names before so_far old mid → goes_on next ≡ true → Checks checking (Holds name) (called name) next mid new
    → ChecksEach checking Holds called (names ++ name ∷ []) before (worse so_far next) old new
checked_more checking Holds called [] name before so_far next old mid new (is, same) goes done =
    (next, new, goes, subst (λ (from : Written). Checks checking (Holds name) (called name) next from new) same done, (ap (λ (ending : ProgramEnd). worse ending next) is, refl))
checked_more checking Holds called (first ∷ names) name before so_far next old mid new (ending, from, could, checked, rest) goes done =
    (ending, from, could, checked, checked_more checking Holds called names name (worse before ending) so_far next from mid new rest goes done)

-- the same of the files of a list, up to a place
pub checked_next : {T : Type 0} (checking : Checking) (Holds : T → List ℕ → Type 0) (called : T → List ℕ) (names : List T) (i : ℕ) (d : T) (so_far next : ProgramEnd) (old mid new : Written) → i < length names
    → ChecksEach checking Holds called (take i names) Done so_far old mid → goes_on next ≡ true → Checks checking (Holds (get_or names i d)) (called (get_or names i d)) next mid new
    → ChecksEach checking Holds called (take (i + 1) names) Done (worse so_far next) old new
checked_next {T} checking Holds called names i d so_far next old mid new inside before goes done =
    subst (λ (some : List T). ChecksEach checking Holds called some Done (worse so_far next) old new) (sym (take_more names i d inside))
    (checked_more checking Holds called (take i names) (get_or names i d) Done so_far next old mid new before goes done)

-- the check of the file at a place ended it
pub checked_first : {T : Type 0} (checking : Checking) (Holds : T → List ℕ → Type 0) (called : T → List ℕ) (names : List T) (i : ℕ) (d : T) (so_far ending : ProgramEnd) (old mid new : Written) → i < length names
    → ChecksEach checking Holds called (take i names) Done so_far old mid → goes_on ending ≡ false → Checks checking (Holds (get_or names i d)) (called (get_or names i d)) ending mid new
    → ChecksAll checking Holds called names ending old new
checked_first {T} checking Holds called names i d so_far ending old mid new inside before ends done = inr (
  take i names,
  get_or names i d,
  drop (suc i) names,
  so_far,
  mid,
  sym (ap (λ (rest : List T). take i names ++ rest) (sym (drop-cons names i d inside)) ∙ take-append-drop i names),
  before,
  ends,
  done,
)

-- all of them were checked
pub checked_all : {T : Type 0} (checking : Checking) (Holds : T → List ℕ → Type 0) (called : T → List ℕ) (names : List T) (i : ℕ) (ending : ProgramEnd) (old new : Written) → length names ≤ i
    → ChecksEach checking Holds called (take i names) Done ending old new → ChecksAll checking Holds called names ending old new
checked_all {T} checking Holds called names i ending old new all each =
    inl (subst (λ (some : List T). ChecksEach checking Holds called some Done ending old new) (take_all i names all) each)
