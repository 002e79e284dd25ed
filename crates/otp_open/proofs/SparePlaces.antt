-- Plans with those of spare places behind them.
use Rattle.std.proofs.Common.{◌≡◌, ℕ, zero, suc, ◌+◌, ◌<◌, ◌≤◌, List, Option, Some, None, [], ◌∷◌, ◌++◌, append-nil, append_assoc, ap, arith, length, length-append, refl, subst, sym, take, ◌∙◌}
use Rattle.std.specs.Prelude.{IfSome, MatchOption, is_some, slice_get}
use Rattle.std.proofs.lemmas.Bool.{false≢true}
use Rattle.otp_run.proofs.Places.{push_at}
use Rattle.otp_run.specs.Lists.{AllAt}
use Rattle.otp_sup.specs.Plans.{AreAllPlanned, IsPlanned}
use Rattle.otp_spec.specs.Flags.{default_flags, is_simple}
use Rattle.otp_spec.specs.Lawful.{first_fault}
use Rattle.otp_spec.specs.Supervisor.{IsLawful, Supervisor}
use Rattle.otp_open.specs.Plans.{ArePlanned, HasBodies, HaveBodies, IsOpenFault, Lacks, LacksBody, first_plans, plans_of, supervisor_in}
use Rattle.otp_open.specs.Spares.{ArePadded, IsSpare}
use Rattle.otp_open.specs.declared.opening.SystemFault.{SystemFault}
use Rattle.otp_open.specs.declared.opening.SystemFault.TheVariants as fault
use Rattle.otp_open.specs.declared.plan.TablePlan.{TablePlan}

-- a place without children may be opened
pub spare_lawful : IsLawful default_flags []
unfolding first_fault
spare_lawful =
    record {
      intensity = omega arith;
      some_period = omega arith;
      period = omega arith;
      limit = omega arith;
      simple = λ is. absurd (false≢true (ap is_simple is));
      faultless = refl;
    }

module _ {J S : Type 0} where
  pub none_spare : (plans : List (TablePlan J S)) → ArePadded (length plans) plans plans
  none_spare plans = record { spares = []; are = sym (append-nil plans); each = λ k. tt; many = refl }

  pub one_spare : (places : ℕ) (plans all : List (TablePlan J S)) (plan : TablePlan J S) → IsSpare plan → ArePadded places plans all → ArePadded (places + 1) plans (all ++ plan ∷ [])
  one_spare places plans all plan is p =
      let long = length-append all (plan ∷ []) in
      let many = p.many in
      record {
        spares = p.spares ++ plan ∷ [];
        are = ap (λ l. l ++ plan ∷ []) p.are ∙ append_assoc plans p.spares (plan ∷ []);
        each = push_at (λ _ plan. IsSpare plan) p.spares plan p.each is;
        many = omega (arith, long, many);
      }

  -- what is so of all is so of the first
  front_at : (P : ℕ → TablePlan J S → Type 0) (xs ys : List (TablePlan J S)) → AllAt P (xs ++ ys) → AllAt P xs
  front_at P [] ys all k = tt
  front_at P (x ∷ xs) ys all zero = all zero
  front_at P (x ∷ xs) ys all (suc k) = front_at (λ j. P (suc j)) xs ys (λ j. all (suc j)) k

  take_front : (xs ys : List (TablePlan J S)) → take (length xs) (xs ++ ys) ≡ xs
  take_front [] ys = refl
  take_front (x ∷ xs) ys = ap (λ l. x ∷ l) (take_front xs ys)

  -- without the spare places the plans are left
  pub padded_front : (places count : ℕ) (plans all : List (TablePlan J S)) → count ≡ length plans → ArePadded places plans all → take count all ≡ plans
  padded_front places count plans all many p = ap (λ n. take n all) many ∙ ap (take (length plans)) p.are ∙ take_front plans p.spares

  pub padded_bodies : (places : ℕ) (plans all : List (TablePlan J S)) → ArePadded places plans all → HaveBodies all → HaveBodies plans
  padded_bodies places plans all p have = front_at (λ _ plan. HasBodies plan) plans p.spares (subst HaveBodies p.are have)

  -- a spare place lacks no body, so the one that does is among the plans
  front_lacks : (xs ys : List (TablePlan J S)) (k : ℕ) → AllAt (λ _ plan. IsSpare plan) ys → MatchOption (slice_get (xs ++ ys) k) ⊥ LacksBody → MatchOption (slice_get xs k) ⊥ LacksBody
  front_lacks [] ys k spare lacks = none_lack ys k spare lacks
    where
      full : (plan : TablePlan J S) → IsSpare plan → LacksBody plan → ⊥
      full plan is lacks = let none : length plan.bodies.items < 0 = subst (λ (s : Supervisor). Lacks (length plan.bodies.items) s) is lacks in omega (arith, none)

      by : (o : Option (TablePlan J S)) → IfSome o IsSpare → MatchOption o ⊥ LacksBody → ⊥
      by None is lacks = lacks
      by (Some plan) is lacks = full plan is lacks

      none_lack : (ys : List (TablePlan J S)) (k : ℕ) → AllAt (λ _ plan. IsSpare plan) ys → MatchOption (slice_get ys k) ⊥ LacksBody → ⊥
      none_lack ys k spare lacks = by (slice_get ys k) (spare k) lacks
  front_lacks (x ∷ xs) ys zero spare lacks = lacks
  front_lacks (x ∷ xs) ys (suc k) spare lacks = front_lacks xs ys k spare lacks

  pub padded_fault : (places : ℕ) (plans all : List (TablePlan J S)) (why : SystemFault) → ArePadded places plans all → IsOpenFault all why → IsOpenFault plans why
  padded_fault places plans all fault.OutOfMemory p is = tt
  padded_fault places plans all (fault.NoBody table) p is =
      front_lacks plans p.spares table p.each (subst (λ l. MatchOption (slice_get l table) ⊥ LacksBody) p.are is)

  -- the first plans are known by the name, and no other is
  pub first_planned : (n : ℕ) (all : List (TablePlan J S)) → ArePlanned (plans_of (take n all)) all
  first_planned zero all k = by (slice_get all k)
    where
      by : (o : Option (TablePlan J S)) → IfSome o (λ plan. IsPlanned None plan.supervisor)
      by (Some plan) = tt
      by None = tt
  first_planned (suc n) [] k = tt
  first_planned (suc n) (x ∷ xs) zero = refl
  first_planned (suc n) (x ∷ xs) (suc k) = first_planned n xs k

  pub none_planned : (n : ℕ) (all : List (TablePlan J S)) (k : ℕ) → n ≤ k → plans_of (take n all) k ≡ None
  none_planned zero all k less = refl
  none_planned (suc n) [] k less = refl
  none_planned (suc n) (x ∷ xs) zero less = absurd (omega (arith, less))
  none_planned (suc n) (x ∷ xs) (suc k) less = none_planned n xs k (omega (arith, less))

  -- the name has each of these plans
  pub each_planned : (names : ℕ → Option Supervisor) (plans : List (TablePlan J S)) → AllAt (λ k plan. names k ≡ Some plan.supervisor) plans → ArePlanned names plans
  each_planned names plans all k = by (slice_get plans k) (all k)
    where
      by : (o : Option (TablePlan J S)) → IfSome o (λ plan. names k ≡ Some plan.supervisor) → IfSome o (λ plan. IsPlanned (names k) plan.supervisor)
      by None is = tt
      by (Some plan) is = subst (λ (s : Option Supervisor). IsPlanned s plan.supervisor) (sym is) refl

  pub all_planned : (names : ℕ → Option Supervisor) (plans : List (TablePlan J S)) → AllAt (λ k plan. names k ≡ Some plan.supervisor) plans → AreAllPlanned names (length plans)
  all_planned names [] all k within = absurd (omega (arith, within))
  all_planned names (x ∷ xs) all zero within = ap (λ (s : Option Supervisor). is_some s) (all zero)
  all_planned names (x ∷ xs) all (suc k) within = all_planned (λ j. names (suc j)) xs (λ j. all (suc j)) k (omega (arith, within))

  -- where no place is spare the first plans are all
  pub none_left_out : (count : ℕ) (plans : List (TablePlan J S)) → count ≡ length plans → first_plans count plans ≡ plans_of plans
  none_left_out count plans many = ap (λ (l : List (TablePlan J S)). plans_of l) (padded_front (length plans) count plans plans many (none_spare plans))

  pub all_known : (plans : List (TablePlan J S)) → AreAllPlanned (plans_of plans) (length plans)
  all_known plans = all_planned (plans_of plans) plans (λ k. by (slice_get plans k))
    where
      by : (o : Option (TablePlan J S)) → IfSome o (λ plan. supervisor_in o ≡ Some plan.supervisor)
      by None = tt
      by (Some plan) = refl
