-- Why a tree can't be run by the words of its starts (own).
use Rattle.std.specs.Prelude.{ℕ, ◌+◌, ◌==◌, Bool, true, false, not, ◌&&◌, ◌||◌, List, [], ◌∷◌, Option, Some, None, if◌then◌else◌}
use Rattle.std.specs.List.{list_any}
use Rattle.otp_file.specs.Trees.{Table}
use Rattle.otp_reason.specs.declared.name.Name.{Name}
use Rattle.otp_spec.specs.Flags.{is_simple}
use Rattle.otp_spec.specs.declared.child.ChildSpec.{ChildSpec}
use Rattle.otp_spec.specs.declared.child.ChildType.{ChildType}
use Rattle.otp_spec.specs.declared.child.ChildType.TheVariants as kind
use Rattle.otp_file.specs.Roles.{role_at}
use Rattle.otp_file.specs.declared.roles.fault.PlanFault.{PlanFault}
use Rattle.otp_file.specs.declared.roles.fault.PlanFault.TheVariants.{OutOfMemory, TooManyTables, UnknownStart, WrongBody}
use Rattle.otp_file.specs.declared.roles.flat.FlatTable.{FlatTable}
use Rattle.otp_file.specs.declared.roles.role.Role.{Role}
use Rattle.otp_file.specs.declared.roles.role.Role.TheVariants as role

-- the child at this place has a tree
abbrev pub is_nested : List ℕ → ℕ → Bool
is_nested nested place = list_any (λ n. n == place) nested

-- the start's name, where it is no word of a worked job
abbrev pub unknown : ChildSpec → Option Role → Option Name
unknown spec None = Some spec.start
unknown spec (Some _) = None

abbrev pub or_else : {A : Type 0} → Option A → Option A → Option A
or_else (Some value) other = Some value
or_else None other = other

-- the start's name of the child at a place, where it is no word of a worked job, unless the child has a tree
unfoldable pub unknown_at : List ℕ → ℕ → ChildSpec → Option Name
unknown_at nested place spec = if is_nested nested place then None else unknown spec (role_at spec)

-- the first unknown start among the children from a place on
abbrev pub unknown_from : List ℕ → ℕ → List ChildSpec → Option Name
unknown_from nested place [] = None
unknown_from nested place (spec ∷ specs) =
    or_else (unknown_at nested place spec) (unknown_from nested (place + 1) specs)

-- the first in a list of tables
abbrev pub first_unknown : List Table → Option Name
first_unknown [] = None
first_unknown (table ∷ tables) = or_else (unknown_from table.nested 0 table.specs) (first_unknown tables)

-- a job where a supervisor is wanted
abbrev pub misfits : ChildType → Option Role → Bool
misfits kind.Supervisor (Some (role.Worker _)) = true
misfits _ _ = false

-- the child at a place has a job where a supervisor is wanted, unless it has a tree
unfoldable pub misfit_at : List ℕ → ℕ → ChildSpec → Bool
misfit_at nested place spec = not (is_nested nested place) && misfits spec.kind (role_at spec)

abbrev pub misfit_from : List ℕ → ℕ → List ChildSpec → Bool
misfit_from nested place [] = false
misfit_from nested place (spec ∷ specs) =
    misfit_at nested place spec || misfit_from nested (place + 1) specs

-- under simple_one_for_one no body is made, so none is unfit
abbrev pub has_misfit : Table → Bool
has_misfit table = not (is_simple table.flags.strategy) && misfit_from table.nested 0 table.specs

abbrev pub fault_of : Option Name → Bool → Option PlanFault
fault_of (Some name) misfit = Some (UnknownStart name)
fault_of None true = Some WrongBody
fault_of None false = None

-- why a tree with these tables can't be run: a start that stands for nothing is named before a job that is unfit
abbrev pub plan_fault : List Table → Option PlanFault
plan_fault tables = fault_of (first_unknown tables) (list_any has_misfit tables)

-- a fault of the tree, and neither want of memory nor too many tables
abbrev pub IsOfPlan : PlanFault → Type 0
IsOfPlan OutOfMemory = ⊥
IsOfPlan TooManyTables = ⊥
IsOfPlan (UnknownStart _) = Unit {0}
IsOfPlan WrongBody = Unit {0}

abbrev pub table_seen : FlatTable → Table
table_seen table = record { flags = table.supervisor.flags; specs = table.supervisor.specs; nested = table.nested.items }
