-- The table of a supervisor: all that is wrong in it, and the tree that it says where nothing is.
use Rattle.std.specs.Prelude.{ℕ, Bool, not, is_some, ◌&&◌, ◌||◌, ◌==◌, nat_lt, codes, List, [], ◌∷◌, ◌++◌, length, Option, Some, None, Result, Ok, Err}
use Rattle.std.specs.List.{list_any}
use Rattle.std.specs.Result.{result_unwrap_or}
use Rattle.otp_spec.specs.declared.child.ChildSpec.{ChildSpec}
use Rattle.otp_spec.specs.declared.fault.SpecFault.{SpecFault}
use Rattle.otp_spec.specs.declared.fault.SpecFault.TheVariants.{SimpleNeedsOne, TooManyChildren}
use Rattle.otp_spec.specs.declared.flags.AutoShutdown.{AutoShutdown}
use Rattle.otp_spec.specs.declared.flags.SupFlags.{SupFlags}
use Rattle.otp_spec.specs.declared.flags.Strategy.{Strategy as StrategyValue}
use Rattle.otp_spec.specs.declared.limits.TheConstants.{MAX_CHILDREN}
use Rattle.otp_spec.specs.Flags.{default_flags, is_simple}
use Rattle.otp_spec.specs.Lawful.{first_fault}
use Rattle.otp_spec.specs.Supervisor.{Supervisor}
use Rattle.otp_file.specs.declared.value.Unfit.{Unfit}
use Rattle.otp_file.specs.declared.value.Unfit.TheVariants as unfit
use Rattle.otp_file.specs.declared.fault.FlagKey.TheVariants.{Strategy, Intensity, Period, AutoShutdown as AutoShutdownKey, Child}
use Rattle.otp_file.specs.declared.fault.FaultPlace.TheVariants.{Table}
use Rattle.otp_file.specs.declared.fault.TreeFault.{TreeFault}
use Rattle.otp_file.specs.declared.fault.TreeFault.TheVariants.{UnknownKey, Unlawful}
use Rattle.otp_file.specs.Children.{children_faults, specs_of, tree_of}
use Rattle.otp_file.specs.Faults.{answer_of, fault_if, fault_of, flag_fault}
use Rattle.otp_file.specs.Tables.{has_only, is_flag_key}
use Rattle.otp_file.specs.Values.{list_of, strategy_at, intensity_at, period_at, auto_shutdown_at}
use Rattle.toml.specs.Data.{Data, Items, Members, as_array, get_member}

-- the children are an array; there are none where the key is absent (own)
abbrev pub children_in : Option Items → Result (List Data) Unfit
children_in None = Err unfit.WrongKind
children_in (Some items) = Ok (list_of items)

abbrev pub children_at : Option Data → Result (List Data) Unfit
children_at None = Ok []
children_at (Some value) = children_in (as_array value)

-- what a key says; what stands beside it where it has a fault is never looked at (own)
abbrev pub children_of : Option Data → List Data
children_of value = result_unwrap_or (children_at value) []

abbrev pub auto_shutdown_in : Members → AutoShutdown
auto_shutdown_in table = result_unwrap_or (auto_shutdown_at (get_member (codes "auto_shutdown") table)) default_flags.auto_shutdown

-- the flags that a supervisor's table says (own)
abbrev pub flags_in : Members → SupFlags
flags_in table = record {
  strategy = result_unwrap_or (strategy_at (get_member (codes "strategy") table)) default_flags.strategy;
  intensity = result_unwrap_or (intensity_at (get_member (codes "intensity") table)) default_flags.intensity;
  period = result_unwrap_or (period_at (get_member (codes "period") table)) default_flags.period;
  auto_shutdown = auto_shutdown_in table;
}

-- all faults of the keys and of the flags (own)
abbrev pub flag_faults : Members → List TreeFault
flag_faults table =
    fault_if (not (has_only is_flag_key table)) (UnknownKey Table)
    (fault_of (flag_fault Strategy) (strategy_at (get_member (codes "strategy") table))
    (fault_of (flag_fault Intensity) (intensity_at (get_member (codes "intensity") table))
    (fault_of (flag_fault Period) (period_at (get_member (codes "period") table))
    (fault_of (flag_fault AutoShutdownKey) (auto_shutdown_at (get_member (codes "auto_shutdown") table))
    []))))

-- all faults of the value at `child` (own)
abbrev pub child_key_faults : Option Data → List TreeFault
child_key_faults value = fault_of (flag_fault Child) (children_at value) (children_faults (children_of value))

-- what the value at `child` says: its first fault, or the specifications (own)
abbrev pub child_key_said : Option Data → Result (List ChildSpec) TreeFault
child_key_said value = answer_of (child_key_faults value) (specs_of (children_of value))

-- a child has a tree of its own (own)
abbrev pub has_trees : Members → Bool
has_trees table = list_any (λ child. is_some (tree_of child)) (children_of (get_member (codes "child") table))

-- at most so many children (own), and under simple_one_for_one one, which has no tree (own)
abbrev pub count_faults : StrategyValue → ℕ → Bool → List TreeFault
count_faults strategy count nested =
    fault_if (nat_lt MAX_CHILDREN count) (Unlawful TooManyChildren)
    (fault_if (is_simple strategy && (not (count == 1) || nested)) (Unlawful SimpleNeedsOne)
    [])

-- the fault of the list of specifications (`supervisor`, check_childspecs)
abbrev pub list_faults : Option SpecFault → List TreeFault
list_faults None = []
list_faults (Some fault) = Unlawful fault ∷ []

-- the specifications that a supervisor's table says (own)
abbrev pub specs_in : Members → List ChildSpec
specs_in table = specs_of (children_of (get_member (codes "child") table))

-- all faults of a supervisor's table, in their order (own)
abbrev pub table_faults : Members → List TreeFault
table_faults table =
    flag_faults table
    ++ (child_key_faults (get_member (codes "child") table)
    ++ (count_faults (flags_in table).strategy (length (specs_in table)) (has_trees table)
    ++ list_faults (first_fault (specs_in table) (Some (flags_in table).auto_shutdown))))

-- the flags and the specifications that a supervisor's table says, or its first fault (own)
abbrev pub supervisor_of : Members → Result Supervisor TreeFault
supervisor_of table = answer_of (table_faults table) (record { flags = flags_in table; specs = specs_in table })
