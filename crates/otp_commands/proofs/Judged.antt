-- What came of one script more.
use Rattle.std.proofs.Common.{◌≡◌, ◌<◌, ◌+◌, ℕ, Bor, List, [], ◌∷◌, ◌++◌, subst, sym, take, length, get_or}
use Rattle.std.proofs.lemmas.List.{take_more}
use Rattle.otp_file.specs.Trees.{Tree}
use Rattle.otp_exit.specs.Told.{IsSmall}
use Rattle.otp_try.specs.Accounts.{IsAccount}
use Rattle.otp_try.specs.declared.account.account.Account.{Account}
use Rattle.otp_commands.specs.Judged.{AreJudged, IsJudgedBy, IsVerdictOf}
use Rattle.otp_commands.specs.declared.judging.Judged.{Judged}
use Rattle.otp_commands.specs.declared.judging.Verdict.{Verdict}
use Rattle.otp_commands.specs.declared.judging.Verdict.TheVariants as verdict

judged_more : (holds : List ℕ → List ℕ → Type 0) (tree : Tree) (scripts : List (Bor (List ℕ))) (all : List Judged) (script : Bor (List ℕ)) (judged : Judged)
    → AreJudged holds tree scripts all → judged.script ≡ script → IsJudgedBy (holds script.now) tree judged.verdict
    → AreJudged holds tree (scripts ++ script ∷ []) (all ++ judged ∷ [])
judged_more holds tree [] [] script judged are is by = ((is, by), tt)
judged_more holds tree [] (j ∷ js) script judged are is by = absurd are
judged_more holds tree (s ∷ ss) [] script judged are is by = absurd are
judged_more holds tree (s ∷ ss) (j ∷ js) script judged (here, rest) is by = (here, judged_more holds tree ss js script judged rest is by)

-- the same of the scripts of a list, up to a place
pub judged_next : (holds : List ℕ → List ℕ → Type 0) (tree : Tree) (scripts : List (Bor (List ℕ))) (all : List Judged) (i : ℕ) (d : Bor (List ℕ)) (judged : Judged)
    → i < length scripts → AreJudged holds tree (take i scripts) all → judged.script ≡ get_or scripts i d
    → IsJudgedBy (holds (get_or scripts i d).now) tree judged.verdict
    → AreJudged holds tree (take (i + 1) scripts) (all ++ judged ∷ [])
judged_next holds tree scripts all i d judged inside are is by =
    subst (λ (some : List (Bor (List ℕ))). AreJudged holds tree some (all ++ judged ∷ [])) (sym (take_more scripts i d inside))
    (judged_more holds tree (take i scripts) all (get_or scripts i d) judged are is by)

-- what came of a run that is kept came of its script
pub is_judged : (holds : List ℕ → Type 0) (tree : Tree) (judged : Verdict) (lines : List ℕ) (account : Account) → holds lines → IsSmall lines
    → IsAccount tree account → IsVerdictOf account judged → IsJudgedBy holds tree judged
is_judged holds tree (verdict.Played ended) lines account held small is of = (lines, account, ((held, small), (is, of)))
is_judged holds tree (verdict.Unmet line text) lines account held small is of = (lines, account, ((held, small), (is, of)))
is_judged holds tree (verdict.Unread why) lines account held small is of = tt
