-- A tree that was drawn up, by the plans that it was opened with.
use Rattle.std.proofs.Common.{inl, inr, ⊎_elim, Some, None, Option, ◌≡◌, ℕ, zero, suc, ◌≤◌, List, [], ◌∷◌, Bool, true, false, All, Result, arith, length, map, refl, sym, ap, ◌∙◌, subst}
use Rattle.std.specs.Prelude.{◌⊎◌, slice_get, IfSome, if◌then◌else◌}
use Rattle.std.proofs.lemmas.Bool.Decides.{leb_tells}
use Rattle.otp_close.specs.Closes.{HasTables, HaveBegun, report_in}
use Rattle.otp_close.specs.declared.closing.CloseFault.{CloseFault}
use Rattle.otp_draft.specs.Plans.{HasAllBodies, Planned, numbered, seen}
use Rattle.otp_draft.specs.Trees.{Tree}
use Rattle.otp_draft.specs.Trees as draft
use Rattle.otp_draft.specs.declared.plan.DraftedTable as drawn
use Rattle.otp_open.proofs.EachOpened.{none_lacks}
use Rattle.otp_open.proofs.SparePlaces.{all_known}
use Rattle.otp_open.specs.Plans.{HaveBodies, Suffice}
use Rattle.otp_open.specs.Plans as opened
use Rattle.otp_open.specs.declared.opening.SystemFault.TheVariants as unopened
use Rattle.otp_open.specs.declared.plan.TablePlan.{TablePlan}
use Rattle.otp_close.specs.declared.report.report.Report.{Report}
use Rattle.otp_close.specs.declared.report.report.TableReport.{TableReport}
use Rattle.otp_rules.specs.Step.{opening_specs}
use Rattle.otp_run.proofs.Places.{each_at, map_at}
use Rattle.otp_run.specs.Lists.{AllAt}
use Rattle.otp_spec.specs.Flags.{is_simple}
use Rattle.otp_spec.specs.Supervisor.{Supervisor}
use Rattle.otp_spec.specs.declared.child.ChildSpec.{ChildSpec}
use Rattle.otp_sup.specs.Plans.{IsBegunBy}
use Rattle.otp_tree.specs.Adds.{IsAddFault, IsGivenBack}
use Rattle.otp_tree.specs.Closes.{IsRunOpenFault}
use Rattle.otp_tree.specs.declared.adding.AddFault.{AddFault}
use Rattle.otp_tree.specs.declared.adding.AddFault.TheVariants as add
use Rattle.otp_tree.specs.declared.adding.Unadded.{Unadded}
use Rattle.otp_tree.specs.declared.whole.RunFault.{RunFault}
use Rattle.otp_tree.specs.declared.whole.RunFault.TheVariants as run
use Rattle.otp.specs.Runs.{HasPlansBack, IsAddNoneBare, IsRunNoneBare, seen_in_tree, supervisor_in, supervisors_of}

-- so many bodies are one for each child
is_enough : (simple : Bool) (specs : List ChildSpec) (bodies : ℕ) → bodies ≡ (if simple then 0 else length specs) → length (opening_specs simple specs) ≤ bodies
is_enough true specs bodies same = omega arith
is_enough false specs bodies same = omega (arith, same)

module _ {J S : Type 0} where
  said_at : (plans : List (TablePlan J S)) (k : ℕ) → opened.plans_of plans k ≡ supervisor_in (slice_get (map seen_in_tree plans) k)
  said_at [] k = refl
  said_at (plan ∷ plans) zero = refl
  said_at (plan ∷ plans) (suc k) = said_at plans k

  -- where the plans are those of the tree, the report is of the tree
  pub have_begun : (plans : List (TablePlan J S)) (root : Tree J S) (tables : List TableReport)
      → map seen_in_tree plans ≡ numbered 0 (draft.plans_of root) → HaveBegun (opened.plans_of plans) tables → HaveBegun (supervisors_of root) tables
  have_begun plans root tables same begun =
      each_at (λ k (t : TableReport). IsBegunBy (opened.plans_of plans k) t.core.base) (λ k t. IsBegunBy (supervisors_of root k) t.core.base) tables begun
      (λ k t within is. subst (λ (p : Option Supervisor). IsBegunBy p t.core.base) (said_at plans k ∙ ap (λ (all : List (Planned J S)). supervisor_in (slice_get all k)) same) is)

  -- the same of a report that is there too where a mismatch was found
  pub have_begun_in : (plans : List (TablePlan J S)) (root : Tree J S) (closed : Result (Report J S) (CloseFault J S (Unit {0})))
      → map seen_in_tree plans ≡ numbered 0 (draft.plans_of root)
      → IfSome (report_in closed) (λ report. HaveBegun (opened.plans_of plans) report.tables.items) → IfSome (report_in closed) (λ report. HaveBegun (supervisors_of root) report.tables.items)
  have_begun_in plans root closed same =
      elim (report_in closed) as (λ there. IfSome there (λ (report : Report J S). HaveBegun (opened.plans_of plans) report.tables.items) → IfSome there (λ report. HaveBegun (supervisors_of root) report.tables.items))
      [ Some report ↦ (λ begun. have_begun plans root report.tables.items same begun) | None ↦ (λ none. tt) ]

  abbrev Enough : Planned J S → Type 0
  Enough plan = Suffice (length plan.bodies) plan.supervisor

  enough : (plans : List (drawn.DraftedTable J S)) → All HasAllBodies plans → AllAt (λ _ plan. Enough plan) (map seen plans)
  enough [] all k = tt
  enough (plan ∷ plans) all zero = is_enough (is_simple plan.supervisor.flags.strategy) plan.supervisor.specs (length plan.bodies.items) (all 0 plan (omega arith))
  enough (plan ∷ plans) all (suc k) = enough plans (λ j d within. all (suc j) d (omega (arith, within))) k

  -- plans that say the same have their bodies too
  pub have_bodies : (plans : List (TablePlan J S)) (of : List (drawn.DraftedTable J S)) → map seen_in_tree plans ≡ map seen of → All HasAllBodies of → HaveBodies plans
  have_bodies plans of same all = map_at seen_in_tree (λ _ plan. Enough plan) plans (subst (AllAt (λ _ plan. Enough plan)) (sym same) (enough of all))

  -- where each plan has its bodies, none lacks one
  pub none_bare : (plans : List (TablePlan J S)) (why : RunFault J S) → HaveBodies plans → IsRunOpenFault plans why → IsRunNoneBare why
  none_bare plans (run.Open back) all fault = none_lacks plans back.fault all fault.0
  none_bare plans (run.Close why) all fault = tt

  -- the plans that come back are those of the tree
  pub plans_back : (plans : List (TablePlan J S)) (root : Tree J S) (why : RunFault J S) → map seen_in_tree plans ≡ numbered 0 (draft.plans_of root) → IsRunOpenFault plans why → HasPlansBack root why
  plans_back plans root (run.Open back) same fault = ap (map seen_in_tree) fault.1 ∙ same
  plans_back plans root (run.Close why) same fault = tt

  -- the same of plans that are added
  pub add_none_bare : (plans : List (TablePlan J S)) (why : AddFault) → HaveBodies plans → IsAddFault plans why → IsAddNoneBare why
  add_none_bare plans (add.NoBody table) all fault = none_lacks plans (unopened.NoBody table) all fault
  add_none_bare plans (add.WrongBody table) all fault = tt
  add_none_bare plans add.OutOfMemory all fault = tt
  add_none_bare plans add.TooManyTables all fault = tt
  add_none_bare plans add.Occupied all fault = tt

  pub added_back : (plans : List (TablePlan J S)) (tree : Tree J S) (back : Unadded J S) → map seen_in_tree plans ≡ numbered 0 (draft.plans_of tree) → IsGivenBack plans back
      → (back.fault ≡ add.Occupied) ⊎ (map seen_in_tree back.plans.items ≡ numbered 0 (draft.plans_of tree))
  added_back plans tree back same (inl occupied) = inl occupied
  added_back plans tree back same (inr given) = inr (ap (map seen_in_tree) given ∙ same)

  -- a report has no fewer supervisors than the tree was opened with
  pub no_fewer : (plans : List (TablePlan J S)) (places tables : ℕ) → length plans ≤ places → HasTables (opened.plans_of plans) places tables → length plans ≤ tables
  no_fewer plans places tables few has = ⊎_elim
      (λ m. m.1)
      (λ l. let lt = l.1 in let less = has.planned tables (omega (arith, lt, few)) (all_known plans tables lt) in absurd (omega (arith, less)))
      (leb_tells (length plans) tables)
