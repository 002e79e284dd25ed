-- Each plan of a tree has its bodies.
use Rattle.std.proofs.Common.{◌≡◌, ℕ, zero, suc, ◌+◌, ◌≤◌, List, [], ◌∷◌, Bool, true, false, Some, arith, length, map, refl, subst, sym}
use Rattle.std.proofs.lemmas.List.{length-map}
use Rattle.std.specs.Option.{option_map}
use Rattle.std.specs.Prelude.{if◌then◌else◌}
use Rattle.otp_file.specs.Trees.{Table}
use Rattle.otp_job.specs.declared.body.Body.TheVariants as body
use Rattle.otp_open.specs.Plans.{HaveBodies, Suffice}
use Rattle.otp_open.specs.declared.plan.TablePlan.{TablePlan}
use Rattle.otp_rules.specs.Step.{opening_specs}
use Rattle.otp_run.proofs.Places.{each_at, map_at}
use Rattle.otp_run.specs.Lists.{AllAt}
use Rattle.otp_spec.specs.Flags.{is_simple}
use Rattle.otp_spec.specs.declared.child.ChildSpec.{ChildSpec}
use Rattle.otp_jobs.specs.Jobs.{body_of}
use Rattle.otp_file.specs.RolesFaults.{is_nested}
use Rattle.otp_file.specs.Roles.{role_at}
use Rattle.otp_jobs.specs.Plans.{PlanView, bodies_from, first_size, other_sizes, plan_of, plans_from, seen}
use Rattle.otp_jobs.specs.declared.body.Calm.{Calm}
use Rattle.otp_jobs.specs.declared.worker.WorkedJob.{WorkedJob}

-- as many as there are specifications
bodies_long : (nested : List ℕ) (next : ℕ) (sizes : List ℕ) (place : ℕ) (specs : List ChildSpec) → length (bodies_from nested next sizes place specs) ≡ length specs
bodies_long nested next sizes place [] = refl
bodies_long nested next sizes place (spec ∷ specs) =
    by (is_nested nested place) (bodies_long nested (next + first_size sizes) (other_sizes sizes) (place + 1) specs) (bodies_long nested next sizes (place + 1) specs)
  where
    by : (b : Bool) → length (bodies_from nested (next + first_size sizes) (other_sizes sizes) (place + 1) specs) ≡ length specs → length (bodies_from nested next sizes (place + 1) specs) ≡ length specs → length (if b then Some (body.Sup next) ∷ bodies_from nested (next + first_size sizes) (other_sizes sizes) (place + 1) specs else option_map body_of (role_at spec) ∷ bodies_from nested next sizes (place + 1) specs) ≡ length (spec ∷ specs)
    by true below beside = omega (arith, below)
    by false below beside = omega (arith, beside)

abbrev Enough : PlanView → Type 0
Enough v = Suffice (length v.bodies) (record { flags = v.flags; specs = v.specs })

plan_enough : (next : ℕ) (sizes : List ℕ) (table : Table) → Enough (plan_of next sizes table)
plan_enough next sizes table = by (is_simple table.flags.strategy)
  where
    by : (b : Bool) → length (opening_specs b table.specs) ≤ length (if b then [] else bodies_from table.nested next sizes 0 table.specs)
    by true = omega arith
    by false = let long = bodies_long table.nested next sizes 0 table.specs in omega (arith, long)

all_enough : (number : ℕ) (tables : List Table) → AllAt (λ _ v. Enough v) (plans_from number tables)
all_enough number [] k = tt
all_enough number (table ∷ tables) zero = plan_enough (number + 1) _ table
all_enough number (table ∷ tables) (suc k) = all_enough (number + 1) tables k

pub have_bodies : (plans : List (TablePlan WorkedJob Calm)) (tables : List Table) → map seen plans ≡ plans_from 0 tables → HaveBodies plans
have_bodies plans tables same =
    each_at (λ _ p. Enough (seen p)) (λ _ p. Suffice (length p.bodies.items) p.supervisor) plans (map_at seen (λ _ v. Enough v) plans (subst (AllAt (λ _ v. Enough v)) (sym same) (all_enough 0 tables)))
    (λ j p within enough. let long = length-map p.bodies.items Some in omega (arith, enough, long))
