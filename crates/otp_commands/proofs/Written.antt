-- What was written of a file that was checked.
use Rattle.std.proofs.Common.{◌≡◌, ◌≤◌, ℕ, Bool, true, false, List, [], ◌∷◌, ◌⊎◌, inl, inr, ap, arith, length, refl, subst, sym}
use Rattle.otp_check.specs.Checks.{Finds, remarked}
use Rattle.otp_check.specs.declared.finding.Finding.{Finding}
use Rattle.otp_exit.specs.declared.ending.ProgramEnd.{ProgramEnd}
use Rattle.otp_exit.specs.declared.ending.ProgramEnd.TheVariants.{Done, FaultsFound}
use Rattle.otp_sim.specs.Devices.{Written}
use Rattle.otp_check.specs.Unfit.{FindsUnfit}
use Rattle.otp_check.specs.Unfit as unfit
use Rattle.otp_check.specs.declared.starts.finding.StartFinding.{StartFinding}
use Rattle.otp_cli.specs.declared.words.Checking.{Checking}
use Rattle.otp_commands.specs.Found as lint
use Rattle.otp_commands.specs.declared.lint.found.LintFinding.{LintFinding}
use Rattle.otp_commands.specs.Findings.{TellsFaults, TellsLawful, TellsRemarks}
use Rattle.otp_commands.specs.Runs.{IsChecked, IsLawfulFor, IsPlainFor, IsWritten}

-- that it is lawful, and that there is no remark on it where they are wanted
pub lawful : (checking : Checking) (name file : List ℕ) (ending : ProgramEnd) (old new : Written) → IsLawfulFor checking.has_starts file
    → IsPlainFor checking.has_remarks file → IsWritten (TellsLawful checking.is_json name) Done ending old new → IsChecked checking name ending file old new
lawful checking name file ending old new is plain (inl (well, wrote)) =
    subst (λ (e : ProgramEnd). IsChecked checking name e file old new) (sym well) (is, (plain, wrote))
lawful checking name file ending old new is plain (inr (inl (failed, counted))) =
    subst (λ (e : ProgramEnd). IsChecked checking name e file old new) (sym failed) counted
lawful checking name file ending old new is plain (inr (inr (refused, same))) =
    subst (λ (e : ProgramEnd). IsChecked checking name e file old new) (sym refused) same

-- what was found
pub faulty : (checking : Checking) (name file : List ℕ) (found : List Finding) (ending : ProgramEnd) (old new : Written) → Finds found file → (found ≡ [] → ⊥)
    → IsWritten (TellsFaults remarked checking.is_json checking.has_all name found) FaultsFound ending old new → IsChecked checking name ending file old new
faulty checking name file [] ending old new finds some written = absurd (some refl)
faulty checking name file (first ∷ others) ending old new finds some (inl (well, (text, (tells, wrote)))) =
    subst (λ (e : ProgramEnd). IsChecked checking name e file old new) (sym well)
    (inl (record { first = first; others = others; finds = finds; text = text; tells = tells; wrote = wrote }))
faulty checking name file (first ∷ others) ending old new finds some (inr (inl (failed, counted))) =
    subst (λ (e : ProgramEnd). IsChecked checking name e file old new) (sym failed) counted
faulty checking name file (first ∷ others) ending old new finds some (inr (inr (refused, same))) =
    subst (λ (e : ProgramEnd). IsChecked checking name e file old new) (sym refused) same

-- what was found of its starts
pub unfit_for : (checking : Checking) (name file : List ℕ) (found : List StartFinding) (ending : ProgramEnd) (old new : Written) → FindsUnfit found file → (found ≡ [] → ⊥)
    → IsWritten (TellsFaults unfit.remarked checking.is_json checking.has_all name found) FaultsFound ending old new → IsChecked checking name ending file old new
unfit_for checking name file [] ending old new finds some written = absurd (some refl)
unfit_for checking name file (first ∷ others) ending old new (why, has) some (inl (well, (text, (tells, wrote)))) =
    subst (λ (e : ProgramEnd). IsChecked checking name e file old new) (sym well)
    (inr (inl (record { why = why; has = has; first = first; others = others; text = text; tells = tells; wrote = wrote })))
unfit_for checking name file (first ∷ others) ending old new finds some (inr (inl (failed, counted))) =
    subst (λ (e : ProgramEnd). IsChecked checking name e file old new) (sym failed) counted
unfit_for checking name file (first ∷ others) ending old new finds some (inr (inr (refused, same))) =
    subst (λ (e : ProgramEnd). IsChecked checking name e file old new) (sym refused) same

-- the remarks on its tree
pub remarked_on : (checking : Checking) (name file : List ℕ) (found : List LintFinding) (ending : ProgramEnd) (old new : Written)
    → IsLawfulFor checking.has_starts file → checking.has_remarks ≡ true → lint.Finds found file → (found ≡ [] → ⊥)
    → IsWritten (TellsRemarks lint.remarked checking.is_json checking.has_all name found) FaultsFound ending old new → IsChecked checking name ending file old new
remarked_on checking name file [] ending old new is wanted finds some written = absurd (some refl)
remarked_on checking name file (first ∷ others) ending old new is wanted finds some (inl (well, (text, (tells, wrote)))) =
    subst (λ (e : ProgramEnd). IsChecked checking name e file old new) (sym well)
    (inr (inr (record { lawful = is; wanted = wanted; first = first; others = others; finds = finds; text = text; tells = tells; wrote = wrote })))
remarked_on checking name file (first ∷ others) ending old new is wanted finds some (inr (inl (failed, counted))) =
    subst (λ (e : ProgramEnd). IsChecked checking name e file old new) (sym failed) counted
remarked_on checking name file (first ∷ others) ending old new is wanted finds some (inr (inr (refused, same))) =
    subst (λ (e : ProgramEnd). IsChecked checking name e file old new) (sym refused) same

-- a list of no length
none_of : {T : Type 0} (xs : List T) → length xs ≡ 0 → xs ≡ []
none_of [] none = refl
none_of (x ∷ xs) none = absurd (omega (arith, none))

-- one that has some
pub some_of : {T : Type 0} (xs : List T) → 1 ≤ length xs → xs ≡ [] → ⊥
some_of [] some is = omega (arith, some)
some_of (x ∷ xs) some is = omega (arith, ap length is)

-- nothing was found, and starts are not looked at
pub lawful_when : (checking : Checking) (file : List ℕ) (found : List Finding) → Finds found file → length found ≡ 0 → checking.has_starts ≡ false
    → IsLawfulFor checking.has_starts file
lawful_when checking file found finds none without =
    subst (λ (starts : Bool). IsLawfulFor starts file) (sym without) (subst (λ (fs : List Finding). Finds fs file) (none_of found none) finds)

-- of the starts nothing was found either
pub runnable_when : (checking : Checking) (file : List ℕ) (found : List StartFinding) → FindsUnfit found file → length found ≡ 0 → checking.has_starts ≡ true
    → IsLawfulFor checking.has_starts file
runnable_when checking file found finds none with =
    subst (λ (starts : Bool). IsLawfulFor starts file) (sym with) (subst (λ (fs : List StartFinding). FindsUnfit fs file) (none_of found none) finds)

-- no remarks are wanted
pub lawful_unasked : (checking : Checking) (name file : List ℕ) (ending : ProgramEnd) (old new : Written) → IsLawfulFor checking.has_starts file → checking.has_remarks ≡ false
    → IsWritten (TellsLawful checking.is_json name) Done ending old new → IsChecked checking name ending file old new
lawful_unasked checking name file ending old new is without written =
    lawful checking name file ending old new is (subst (λ (wanted : Bool). IsPlainFor wanted file) (sym without) tt) written

-- there are none
pub lawful_plain : (checking : Checking) (name file : List ℕ) (found : List LintFinding) (ending : ProgramEnd) (old new : Written) → IsLawfulFor checking.has_starts file
    → lint.FindsAny found file → length found ≡ 0 → checking.has_remarks ≡ true
    → IsWritten (TellsLawful checking.is_json name) Done ending old new → IsChecked checking name ending file old new
lawful_plain checking name file found ending old new is any none with written =
    let plain : lint.IsPlain file = subst (λ (fs : List LintFinding). lint.FindsAny fs file) (none_of found none) any in
    lawful checking name file ending old new is (subst (λ (wanted : Bool). IsPlainFor wanted file) (sym with) plain) written
