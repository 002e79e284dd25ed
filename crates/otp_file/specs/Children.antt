-- The table of a child: all that is wrong in it, and the specification that it says where nothing is.
use Rattle.std.specs.Prelude.{ℕ, Bool, true, false, not, codes, List, [], ◌∷◌, ◌++◌, map, Option, Some, None, is_none, unwrap_or, Result, Err}
use Rattle.std.specs.List.{flat_map, enumerate_from}
use Rattle.std.specs.Result.{result_unwrap_or}
use Rattle.otp_reason.specs.declared.name.Name.{Name}
use Rattle.otp_reason.specs.Names.{name_of}
use Rattle.otp_spec.specs.declared.child.ChildSpec.{ChildSpec}
use Rattle.otp_spec.specs.declared.child.ChildType.{ChildType}
use Rattle.otp_spec.specs.declared.child.ChildType.TheVariants.{Worker, Supervisor}
use Rattle.otp_spec.specs.declared.child.Modules.TheVariants.{One}
use Rattle.otp_spec.specs.declared.child.Shutdown.{Shutdown as ShutdownValue}
use Rattle.otp_spec.specs.declared.child.Shutdown.TheVariants.{Infinity}
use Rattle.otp_spec.specs.Children.{default_shutdown}
use Rattle.otp_file.specs.declared.value.Unfit.{Unfit}
use Rattle.otp_file.specs.declared.value.Unfit.TheVariants as unfit
use Rattle.otp_file.specs.declared.fault.ChildKey.TheVariants.{Id, Start, Restart, Significant, Shutdown, Kind, Modules, Tree}
use Rattle.otp_file.specs.declared.fault.FaultPlace.TheVariants.{Child, ChildKey}
use Rattle.otp_file.specs.declared.fault.TreeFault.{TreeFault}
use Rattle.otp_file.specs.declared.fault.TreeFault.TheVariants.{UnknownKey, MissingKey, WrongKind, NestedNotInfinity}
use Rattle.otp_file.specs.Faults.{answer_of, child_fault, fault_if, fault_of}
use Rattle.otp_file.specs.Tables.{has_only, is_child_key}
use Rattle.otp_file.specs.Values.{default_child, name_at, tree_at, restart_at, significant_at, shutdown_at, kind_at, modules_at}
use Rattle.toml.specs.Data.{Data, Members, as_table, get_member}

-- the name at a key that a child must have (own)
abbrev pub required_name : Option Data → Result Name Unfit
required_name None = Err unfit.WrongKind
required_name (Some value) = name_at value

-- what a key says; what stands beside it where it has a fault is never looked at (own)
abbrev pub id_in : Members → Name
id_in table = result_unwrap_or (required_name (get_member (codes "id") table)) (name_of [])

abbrev pub start_in : Members → Name
start_in table = result_unwrap_or (required_name (get_member (codes "start") table)) (name_of [])

-- the tree of a child that is a supervisor with a tree of its own
abbrev pub tree_in : Members → Option Members
tree_in table = result_unwrap_or (tree_at (get_member (codes "tree") table)) None

-- a child with a tree is a supervisor where nothing else is said
abbrev pub kind_with : Option Members → ChildType
kind_with None = default_child.kind
kind_with (Some _) = Supervisor

abbrev pub kind_in : Members → ChildType
kind_in table = result_unwrap_or (kind_at (kind_with (tree_in table)) (get_member (codes "type") table)) (kind_with (tree_in table))

-- shutdown hangs on the type where it is absent
abbrev pub shutdown_in : Members → ShutdownValue
shutdown_in table = unwrap_or (result_unwrap_or (shutdown_at (get_member (codes "shutdown") table)) None) (default_shutdown (kind_in table))

-- a child that has a tree is a supervisor, and is waited for (own)
abbrev pub is_worker : ChildType → Bool
is_worker Worker = true
is_worker Supervisor = false

abbrev pub is_waited_for : ShutdownValue → Bool
is_waited_for Infinity = true
is_waited_for _ = false

abbrev pub nested_faults : ℕ → Option Members → ChildType → ShutdownValue → List TreeFault
nested_faults place None kind shutdown = []
nested_faults place (Some _) kind shutdown =
    fault_if (is_worker kind) (WrongKind (ChildKey place Kind))
    (fault_if (not (is_waited_for shutdown)) (NestedNotInfinity place)
    [])

-- all faults of the value at `tree` of a child of this type and shutdown
abbrev pub tree_key_faults : ℕ → Members → ChildType → ShutdownValue → List TreeFault
tree_key_faults place table kind shutdown =
    fault_of (child_fault place Tree) (tree_at (get_member (codes "tree") table))
    (nested_faults place (tree_in table) kind shutdown)

-- all faults of the values that a child's table need not have, in the order of the keys, its tree aside (own)
abbrev pub plain_faults : ℕ → Members → List TreeFault
plain_faults place table =
    fault_of (child_fault place Restart) (restart_at (get_member (codes "restart") table))
    (fault_of (child_fault place Significant) (significant_at (get_member (codes "significant") table))
    (fault_of (child_fault place Shutdown) (shutdown_at (get_member (codes "shutdown") table))
    (fault_of (child_fault place Kind) (kind_at (kind_with (tree_in table)) (get_member (codes "type") table))
    (fault_of (child_fault place Modules) (modules_at (get_member (codes "modules") table))
    []))))

-- the same, and then those of its tree
abbrev pub value_faults : ℕ → Members → List TreeFault
value_faults place table = plain_faults place table ++ tree_key_faults place table (kind_in table) (shutdown_in table)

-- the specification with these two names that a child's table says: modules hang on the start where they are absent (Supervisor Behaviour, "Child Specification")
abbrev pub spec_with : Name → Name → Members → ChildSpec
spec_with id start table = record {
  id = id;
  start = start;
  restart = result_unwrap_or (restart_at (get_member (codes "restart") table)) default_child.restart;
  significant = result_unwrap_or (significant_at (get_member (codes "significant") table)) default_child.significant;
  shutdown = shutdown_in table;
  kind = kind_in table;
  modules = unwrap_or (result_unwrap_or (modules_at (get_member (codes "modules") table)) None) (One start);
}

-- all faults of a child's table at this place among its siblings: a key that is not listed, then a key that is
-- missing, then the values in the order of the keys (own)
abbrev pub key_faults : ℕ → Members → List TreeFault
key_faults place table =
    fault_if (not (has_only is_child_key table)) (UnknownKey (Child place))
    (fault_if (is_none (get_member (codes "id") table)) (MissingKey place Id)
    (fault_if (is_none (get_member (codes "start") table)) (MissingKey place Start)
    (fault_of (child_fault place Id) (required_name (get_member (codes "id") table))
    (fault_of (child_fault place Start) (required_name (get_member (codes "start") table))
    (value_faults place table)))))

-- a child is a table (own)
abbrev pub table_faults : ℕ → Option Members → List TreeFault
table_faults place None = WrongKind (Child place) ∷ []
table_faults place (Some table) = key_faults place table

abbrev pub child_faults : ℕ → Data → List TreeFault
child_faults place value = table_faults place (as_table value)

abbrev pub spec_in : Members → ChildSpec
spec_in table = spec_with (id_in table) (start_in table) table

abbrev pub spec_of_table : Option Members → ChildSpec
spec_of_table None = default_child
spec_of_table (Some table) = spec_in table

abbrev pub spec_of : Data → ChildSpec
spec_of value = spec_of_table (as_table value)

-- all faults of the children, by place (own)
abbrev pub children_faults : List Data → List TreeFault
children_faults children = flat_map (λ (place, child). child_faults place child) (enumerate_from 0 children)

-- the tree of a child, if it has one (own)
abbrev pub tree_of_table : Option Members → Option Members
tree_of_table None = None
tree_of_table (Some table) = tree_in table

abbrev pub tree_of : Data → Option Members
tree_of value = tree_of_table (as_table value)

-- the specifications of the children (own)
abbrev pub specs_of : List Data → List ChildSpec
specs_of children = map spec_of children

-- what the children say: the first fault among them, or the specifications (own)
abbrev pub children_said : List Data → Result (List ChildSpec) TreeFault
children_said children = answer_of (children_faults children) (specs_of children)
