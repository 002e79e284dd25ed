-- The bodies of a tree's children, by the words of their starts (own).
use Rattle.std.specs.Prelude.{ℕ, ◌+◌, suc, zero, List, [], ◌∷◌, map, length, Option, Some, None, if◌then◌else◌, slice_get}
use Rattle.std.specs.Option.{option_map}
use Rattle.otp_file.specs.Trees.{Table}
use Rattle.otp_job.specs.declared.body.Body.{Body}
use Rattle.otp_job.specs.declared.body.Body.TheVariants as body
use Rattle.otp_spec.specs.Flags.{is_simple}
use Rattle.otp_spec.specs.Supervisor.{Supervisor}
use Rattle.otp_spec.specs.declared.child.ChildSpec.{ChildSpec}
use Rattle.otp_spec.specs.declared.flags.SupFlags.{SupFlags}
use Rattle.otp_file.specs.RolesFaults.{is_nested}
use Rattle.otp_file.specs.Roles.{role_at}
use Rattle.otp_open.specs.declared.plan.TablePlan.{TablePlan}
use Rattle.otp_jobs.specs.Jobs.{body_of}
use Rattle.otp_jobs.specs.declared.body.Calm.{Calm}
use Rattle.otp_jobs.specs.declared.worker.WorkedJob.{WorkedJob}

-- so many trees are joined to one of the size so far
abbrev pub joined : ℕ → ℕ → List ℕ → List ℕ
joined size zero sizes = size ∷ sizes
joined size (suc count) [] = size ∷ []
joined size (suc count) (first ∷ sizes) = joined (size + first) count sizes

-- how many tables has each tree that begins in a list of tables, where these stand in the order of the walk: a table, and
-- the trees of its children behind it
abbrev pub tree_sizes : List Table → List ℕ
tree_sizes [] = []
tree_sizes (table ∷ tables) = joined 1 (length table.nested) (tree_sizes tables)

-- how many tables these trees have together
abbrev pub total : List ℕ → ℕ
total [] = 0
total (size ∷ sizes) = size + total sizes

-- the first of these sizes, and the others
abbrev pub first_size : List ℕ → ℕ
first_size [] = 0
first_size (size ∷ sizes) = size

abbrev pub other_sizes : List ℕ → List ℕ
other_sizes [] = []
other_sizes (size ∷ sizes) = sizes

-- the bodies of the children from a place on: those that have a tree are tables that are numbered from this one on, by the
-- sizes of their trees
abbrev pub bodies_from : List ℕ → ℕ → List ℕ → ℕ → List ChildSpec → List (Option (Body WorkedJob Calm))
bodies_from nested next sizes place [] = []
bodies_from nested next sizes place (spec ∷ specs) =
    if is_nested nested place
    then Some (body.Sup next) ∷ bodies_from nested (next + first_size sizes) (other_sizes sizes) (place + 1) specs
    else option_map body_of (role_at spec) ∷ bodies_from nested next sizes (place + 1) specs

-- what a table is opened with; under simple_one_for_one no body is handed in
pub record PlanView : Type 0 where
  pub flags : SupFlags
  pub specs : List ChildSpec
  pub bodies : List (Option (Body WorkedJob Calm))

abbrev pub plan_of : ℕ → List ℕ → Table → PlanView
plan_of next sizes table = record {
  flags = table.flags;
  specs = table.specs;
  bodies = if is_simple table.flags.strategy then [] else bodies_from table.nested next sizes 0 table.specs;
}

-- the plans of tables, the first of which has this number
abbrev pub plans_from : ℕ → List Table → List PlanView
plans_from number [] = []
plans_from number (table ∷ tables) = plan_of (number + 1) (tree_sizes tables) table ∷ plans_from (number + 1) tables

abbrev pub seen : TablePlan WorkedJob Calm → PlanView
seen plan = record { flags = plan.supervisor.flags; specs = plan.supervisor.specs; bodies = map Some plan.bodies.items }

abbrev pub supervisor_in : Option Table → Option Supervisor
supervisor_in (Some table) = Some (record { flags = table.flags; specs = table.specs })
supervisor_in None = None

-- the flags and the specifications of the table with each number
abbrev pub supervisors_of : List Table → ℕ → Option Supervisor
supervisors_of tables number = supervisor_in (slice_get tables number)
