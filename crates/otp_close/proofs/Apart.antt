-- Supervisors are taken apart, one after the other.
use Rattle.std.proofs.Common.{◌≡◌, ℕ, zero, suc, ◌+◌, List, [], ◌∷◌, ◌++◌, length, sym, ap, ◌∙◌, subst, arith, length-append}
use Rattle.std.specs.Prelude.{All}
use Rattle.std.proofs.lemmas.List.Elements.{All-append}
use Rattle.std.proofs.lemmas.List.Quantifiers.{all_pairs_push}
use Rattle.otp_rules.specs.Needs.{numbers_of}
use Rattle.otp_signals.specs.Lists.{AllIn, NoneInBoth}
use Rattle.otp_close.specs.declared.report.report.TableReport.{TableReport}
use Rattle.otp_close.specs.Closes.{AreApart}

all_one : {A : Type 0} (P : A → Type 0) (x : A) → P x → All P (x ∷ [])
all_one P x p zero d within = p
all_one P x p (suc k) d within = absurd (omega (arith, within))

pub all-more : {A : Type 0} (P : A → Type 0) (xs xs' : List A) (x : A) → xs' ≡ xs ++ x ∷ [] → All P xs → P x → All P xs'
all-more P xs xs' x one all p = subst (λ l. All P l) (sym one) (All-append P xs (x ∷ []) all (all_one P x p))

pub length-more : {A : Type 0} (xs xs' : List A) (x : A) → xs' ≡ xs ++ x ∷ [] → length xs' ≡ length xs + 1
length-more xs xs' x one = ap length one ∙ length-append xs (x ∷ [])

-- these numbers have all those of the supervisor
abbrev pub Seen : List ℕ → TableReport → Type 0
Seen numbers table = AllIn (numbers_of table.core.history) numbers

pub seen-more : (tables tables' : List (TableReport)) (table : TableReport) (old new : List ℕ) → tables' ≡ tables ++ table ∷ [] → AllIn old new → AllIn (numbers_of table.core.history) new → All (Seen old) tables → All (Seen new) tables'
seen-more tables tables' table old new one kept gained seen = all-more (Seen new) tables tables' table one (λ k d within n has. kept n (seen k d within n has)) gained

pub apart-more : (tables tables' : List (TableReport)) (table : TableReport) (old : List ℕ) → tables' ≡ tables ++ table ∷ [] → NoneInBoth old (numbers_of table.core.history) → All (Seen old) tables → AreApart tables → AreApart tables'
apart-more tables tables' table old one apart seen so_far =
    subst AreApart (sym one) (all_pairs_push (λ (a b : TableReport). NoneInBoth (numbers_of a.core.history) (numbers_of b.core.history)) tables table so_far (λ k d within n has. apart n (seen k d within n has)))
