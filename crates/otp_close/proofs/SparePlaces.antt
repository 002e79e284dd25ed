-- What is so of all places of a tree is so of those that had a supervisor.
use Rattle.std.proofs.Common.{◌≡◌, ℕ, zero, suc, ◌+◌, ◌<◌, ◌≤◌, List, Option, Some, None, Bool, true, false, [], ◌∷◌, ◌++◌, ap, arith, get_or, length, refl, subst, sym, take, ◌∙◌, ⊎_elim}
use Rattle.std.specs.Prelude.{All, IfSome, is_some, slice_get, sum_by}
use Rattle.std.proofs.Math.Arith.{lt_of_le-ne}
use Rattle.std.proofs.Math.Dec.{eqb}
use Rattle.std.proofs.lemmas.Bool.{eqb-false, eqb-true, false≢true}
use Rattle.std.proofs.lemmas.Bool.Decides.{leb_tells}
use Rattle.std.proofs.lemmas.List.{get_or-take, length-take-le}
use Rattle.std.proofs.lemmas.List.Elements.{All-take}
use Rattle.std.proofs.lemmas.List.Sums.{sum_by-cons}
use Rattle.std.proofs.lemmas.Option.{slice_get_within}
use Rattle.otp_core.specs.View.{View, stored_of}
use Rattle.otp_bodies.proofs.Anew.{nothing_happened}
use Rattle.otp_hand.specs.Ended.{ends_in}
use Rattle.otp_bodies.specs.Events.{items_of}
use Rattle.otp_close.specs.declared.report.report.Report.{Report}
use Rattle.otp_close.specs.declared.report.report.TableReport.{TableReport}
use Rattle.otp_rules.specs.Needs.{numbers_of}
use Rattle.otp_rules.specs.declared.event.Event.{Event}
use Rattle.otp_rules.specs.declared.event.Item.{Item}
use Rattle.otp_run.specs.Lists.{AllAt}
use Rattle.otp_signals.specs.Lists.{NoneInBoth}
use Rattle.otp_spec.specs.Supervisor.{Supervisor}
use Rattle.otp_sup.specs.Plans.{AreAllPlanned}
use Rattle.otp_close.specs.Closes.{AreApart, HasTables, IsFreeFrom}
use Rattle.otp_close.specs.Spares.{AreFirst, AreUnusedFrom, IsUnused}
use Rattle.otp_close.specs.Totals.{HasAllEnds, HasAllStarts, ends_of, starts_of, unsent_of}

-- where nothing was cut off and nothing is stored there was no event
pub no_event : (core : View) → core.cut ≡ 0 → length (stored_of core) ≡ 0 → core.history ≡ []
no_event core uncut none = nothing_happened core uncut none

-- one more that is unused, and all
pub one_more_unused : (ts : List TableReport) (from n : ℕ) (t : TableReport) → ((k : ℕ) → from ≤ k → k < n → IfSome (slice_get ts k) IsUnused) → slice_get ts n ≡ Some t → IsUnused t
    → (k : ℕ) → from ≤ k → k < n + 1 → IfSome (slice_get ts k) IsUnused
one_more_unused ts from n t so_far at unused k behind less = by (eqb k n) refl
  where
    by : (b : Bool) → eqb k n ≡ b → IfSome (slice_get ts k) IsUnused
    by true is = subst (λ (m : ℕ). IfSome (slice_get ts m) IsUnused) (sym (eqb-true k n is)) (subst (λ (o : Option TableReport). IfSome o IsUnused) (sym at) unused)
    by false is = so_far k behind (lt_of_le-ne (omega (arith, less)) (eqb-false k n is))

pub all_unused : (ts : List TableReport) (from n : ℕ) → ((k : ℕ) → from ≤ k → k < n → IfSome (slice_get ts k) IsUnused) → length ts ≤ n → AreUnusedFrom from ts
all_unused ts from n so_far long k behind = by (slice_get ts k) refl
  where
    by : (o : Option TableReport) → slice_get ts k ≡ o → IfSome o IsUnused
    by (Some t) is = let within = slice_get_within ts k t is in subst (λ (o : Option TableReport). IfSome o IsUnused) is (so_far k behind (omega (arith, within, long)))
    by None is = tt

taken_at : {A : Type 0} (P : ℕ → A → Type 0) (n : ℕ) (xs : List A) → AllAt P xs → AllAt P (take n xs)
taken_at P zero xs all k = tt
taken_at P (suc n) [] all k = tt
taken_at P (suc n) (x ∷ xs) all zero = all zero
taken_at P (suc n) (x ∷ xs) all (suc k) = taken_at (λ j. P (suc j)) n xs (λ j. all (suc j)) k

pub first_at : (P : ℕ → TableReport → Type 0) (known : ℕ) (all first : List TableReport) → AreFirst known all first → AllAt P all → AllAt P first
first_at P known all first f each = subst (AllAt P) (sym f.are) (taken_at P f.count all each)

pub first_all : (P : TableReport → Type 0) (known : ℕ) (all first : List TableReport) → AreFirst known all first → All P all → All P first
first_all P known all first f each = subst (All P) (sym f.are) (All-take P f.count all each)

pub first_apart : (known : ℕ) (all first : List TableReport) → AreFirst known all first → AreApart all → AreApart first
first_apart known all first f each = subst AreApart (sym f.are) taken
  where
    n : ℕ
    n = f.count

    taken : AreApart (take n all)
    taken i j d before within =
        let long = length-take-le n all f.few in
        let few = f.few in
        let at_j : j < n = omega (arith, within, long) in
        let at_i : i < n = omega (arith, before, at_j) in
        let Apart : TableReport → TableReport → Type 0 = λ a b. NoneInBoth (numbers_of a.core.history) (numbers_of b.core.history) in
        subst (λ a. Apart a (get_or (take n all) j d)) (sym (get_or-take n all i d at_i))
        (subst (λ b. Apart (get_or all i d) b) (sym (get_or-take n all j d at_j)) (each i j d before (omega (arith, at_j, few))))

-- nothing is the sum of what unused places have none of
none_of : (f : TableReport → ℕ) → ((t : TableReport) → IsUnused t → f t ≡ 0) → (ts : List TableReport) → AllAt (λ _ t. IsUnused t) ts → sum_by f ts ≡ 0
none_of f none [] unused = refl
none_of f none (t ∷ ts) unused =
    let all = sum_by-cons f t ts in
    let first = none t (unused 0) in
    let rest = none_of f none ts (λ k. unused (suc k)) in
    omega (arith, all, first, rest)

-- so the first ones have the same sum as all
taken_sum : (f : TableReport → ℕ) → ((t : TableReport) → IsUnused t → f t ≡ 0) → (n : ℕ) (ts : List TableReport) → AreUnusedFrom n ts → sum_by f (take n ts) ≡ sum_by f ts
taken_sum f none zero ts unused = sym (none_of f none ts (λ k. unused k (omega arith)))
taken_sum f none (suc n) [] unused = refl
taken_sum f none (suc n) (t ∷ ts) unused =
    let all = sum_by-cons f t ts in
    let some = sum_by-cons f t (take n ts) in
    let rest = taken_sum f none n ts (λ k from. unused (suc k) (omega (arith, from))) in
    omega (arith, all, some, rest)

first_sum : (f : TableReport → ℕ) → ((t : TableReport) → IsUnused t → f t ≡ 0) → (known : ℕ) (all first : List TableReport) → AreFirst known all first → sum_by f first ≡ sum_by f all
first_sum f none known all first is = ap (sum_by f) is.are ∙ taken_sum f none is.count all is.unused

unused_starts : (t : TableReport) → IsUnused t → starts_of t ≡ 0
unused_starts t u = ap (λ (l : List Event). length (numbers_of l)) u.history

unused_unsent : (t : TableReport) → IsUnused t → unsent_of t ≡ 0
unused_unsent t u = u.unsent

unused_ends : (t : TableReport) → IsUnused t → ends_of t ≡ 0
unused_ends t u = ap (λ (l : List Event). ends_in (items_of l ++ t.left.items)) u.history ∙ ap (λ (l : List Item). ends_in l) u.left

-- each place that had a plan is among the first
pub first_planned : (plans : ℕ → Option Supervisor) (known places : ℕ) (all first : List TableReport) → IsFreeFrom plans places known → AreFirst known all first → length all ≡ places → HasTables plans places (length first)
first_planned plans known places all first free f long =
    let count = ap length f.are ∙ length-take-le f.count all f.few in
    let few = f.few in
    let many = f.many in
    record {
      few = omega (arith, count, few, long);
      planned = λ k within is. ⊎_elim
          (λ h. let behind = h.1 in absurd (false≢true (sym (ap (λ (p : Option Supervisor). is_some p) (free k (omega (arith, count, many, long, behind, within)) within)) ∙ is)))
          (λ h. h.1)
          (leb_tells (length first) k);
    }

-- where all had one, there are as many as places
pub all_tables : (plans : ℕ → Option Supervisor) (places tables : ℕ) → HasTables plans places tables → AreAllPlanned plans places → tables ≡ places
all_tables plans places tables h all = ⊎_elim
    (λ m. let many = m.1 in let few = h.few in omega (arith, many, few))
    (λ l. let less = h.planned tables l.1 (all tables l.1) in absurd (omega (arith, less)))
    (leb_tells places tables)

module _ {J S : Type 0} where
  pub first_starts : (known : ℕ) (report later : Report J S) → AreFirst known report.tables.items later.tables.items → later.begun ≡ report.begun → HasAllStarts report → HasAllStarts later
  first_starts known report later f begun all =
      let starts = first_sum starts_of unused_starts known report.tables.items later.tables.items f in
      let unsent = first_sum unsent_of unused_unsent known report.tables.items later.tables.items f in
      omega (arith, all, begun, starts, unsent)

  pub first_ends : (known : ℕ) (report later : Report J S) → AreFirst known report.tables.items later.tables.items → later.ended ≡ report.ended → later.last ≡ report.last → later.heard ≡ report.heard → later.held ≡ report.held
      → HasAllEnds report → HasAllEnds later
  first_ends known report later f ended last heard held all =
      let ends = first_sum ends_of unused_ends known report.tables.items later.tables.items f in
      let left = ap (λ l. ends_in l.items) last in
      omega (arith, all, ended, ends, left, heard, held)
