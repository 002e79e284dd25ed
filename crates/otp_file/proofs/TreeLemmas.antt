-- A supervisor's table: its faults, part by part, and what none of them is.
use Rattle.std.proofs.Common.{◌≡◌, ℕ, ◌+◌, Bool, true, false, not, ◌&&◌, ◌||◌, List, [], ◌∷◌, ◌++◌, length, codes, Option, Some, None, Result, Ok, Err, refl, ap, ◌∙◌}
use Rattle.std.proofs.lemmas.List.Folds.{list_all-append}
use Rattle.std.specs.Prelude.{nat_lt, ◌==◌, is_none}
use Rattle.std.specs.List.{list_all, flat_map, enumerate_from}
use Rattle.otp_spec.specs.declared.child.ChildSpec.{ChildSpec}
use Rattle.otp_spec.specs.declared.child.ChildType.{ChildType}
use Rattle.otp_spec.specs.declared.child.Shutdown.{Shutdown}
use Rattle.otp_spec.specs.declared.fault.SpecFault.{SpecFault}
use Rattle.otp_spec.specs.declared.fault.SpecFault.TheVariants.{SimpleNeedsOne, TooManyChildren}
use Rattle.otp_spec.specs.declared.flags.Strategy.{Strategy as StrategyValue}
use Rattle.otp_spec.specs.declared.flags.SupFlags.{SupFlags}
use Rattle.otp_spec.specs.declared.limits.TheConstants.{MAX_CHILDREN}
use Rattle.otp_spec.specs.Flags.{is_simple}
use Rattle.otp_spec.specs.Lawful.{first_fault}
use Rattle.otp_file.specs.declared.fault.ChildKey.{ChildKey}
use Rattle.otp_file.specs.declared.fault.ChildKey.TheVariants as key
use Rattle.otp_file.specs.declared.fault.FlagKey.{FlagKey}
use Rattle.otp_file.specs.declared.fault.FlagKey.TheVariants as flag
use Rattle.otp_file.specs.declared.fault.FaultPlace.TheVariants.{Table, Child}
use Rattle.otp_file.specs.declared.fault.TreeFault.{TreeFault}
use Rattle.otp_file.specs.declared.fault.TreeFault.TheVariants.{OutOfMemory, NotToml, UnknownKey, MissingKey, WrongKind, BadFlag, BadSpec, Unlawful, TooDeep, TooManyTables, NestedNotInfinity}
use Rattle.otp_spec.specs.Supervisor.{Supervisor}
use Rattle.otp_file.specs.declared.value.Unfit.{Unfit}
use Rattle.otp_file.specs.declared.value.Unfit.TheVariants as unfit
use Rattle.otp_file.specs.Children.{child_faults, is_waited_for, is_worker, kind_in, kind_with, nested_faults, plain_faults, required_name, shutdown_in, table_faults, tree_in, tree_key_faults, value_faults, children_faults}
use Rattle.otp_file.specs.Faults.{answer_of, child_fault, fault_if, fault_of, flag_fault}
use Rattle.otp_file.specs.Tree.{child_key_faults, children_at, children_of, count_faults, flag_faults, flags_in, list_faults, has_trees, specs_in, table_faults as supervisor_faults, supervisor_of}
use Rattle.otp_file.specs.Tables.{has_only, is_child_key, is_flag_key}
use Rattle.otp_file.specs.Values.{strategy_at, intensity_at, period_at, auto_shutdown_at, restart_at, significant_at, shutdown_at, kind_at, modules_at, tree_at}
use Rattle.toml.specs.Data.{Data, Members, as_table, get_member}
use Rattle.otp_file.proofs.ChildLemmas.{answer_of-stop, answer_of-next, answer_of-empty, answer_of-value}

-- a fault in what a document says
abbrev pub is_of_tree : TreeFault → Bool
is_of_tree OutOfMemory = false
is_of_tree NotToml = false
is_of_tree (UnknownKey _) = true
is_of_tree (MissingKey _ _) = true
is_of_tree (WrongKind _) = true
is_of_tree (BadFlag _) = true
is_of_tree (BadSpec _ _) = true
is_of_tree (Unlawful _) = true
is_of_tree TooDeep = true
is_of_tree TooManyTables = true
is_of_tree (NestedNotInfinity _) = true

abbrev are_of_tree : List TreeFault → Type 0
are_of_tree faults = list_all is_of_tree faults ≡ true

flag_fault-of_tree : (key : FlagKey) (u : Unfit) → is_of_tree (flag_fault key u) ≡ true
flag_fault-of_tree key unfit.WrongKind = refl
flag_fault-of_tree key unfit.OutOfLimits = refl

child_fault-of_tree : (place : ℕ) (key : ChildKey) (u : Unfit) → is_of_tree (child_fault place key u) ≡ true
child_fault-of_tree place key unfit.WrongKind = refl
child_fault-of_tree place key unfit.OutOfLimits = refl

fault_if-of_tree : (found : Bool) (fault : TreeFault) (others : List TreeFault) →
    is_of_tree fault ≡ true → are_of_tree others → are_of_tree (fault_if found fault others)
fault_if-of_tree true fault others here rest = rw (here, rest)
fault_if-of_tree false fault others here rest = rest

fault_of-of_tree : {A : Type 0} (fault : Unfit → TreeFault) (read : Result A Unfit) (others : List TreeFault) →
    ((u : Unfit) → is_of_tree (fault u) ≡ true) → are_of_tree others → are_of_tree (fault_of fault read others)
fault_of-of_tree fault (Ok _) others here rest = rest
fault_of-of_tree fault (Err u) others here rest = rw (here u, rest)

both_of_tree : (faults others : List TreeFault) → are_of_tree faults → are_of_tree others → are_of_tree (faults ++ others)
both_of_tree faults others here rest = list_all-append is_of_tree faults others ∙ rw (here, rest)

nested_faults-of_tree : (place : ℕ) (tree : Option Members) (kind : ChildType) (shutdown : Shutdown) → are_of_tree (nested_faults place tree kind shutdown)
nested_faults-of_tree place None kind shutdown = refl
nested_faults-of_tree place (Some _) kind shutdown =
    let later : List TreeFault = fault_if (not (is_waited_for shutdown)) (NestedNotInfinity place) [] in
    fault_if-of_tree (is_worker kind) (child_fault place key.Kind unfit.WrongKind) later refl
    (fault_if-of_tree (not (is_waited_for shutdown)) (NestedNotInfinity place) [] refl refl)

tree_key_faults-of_tree : (place : ℕ) (table : Members) (kind : ChildType) (shutdown : Shutdown) → are_of_tree (tree_key_faults place table kind shutdown)
tree_key_faults-of_tree place table kind shutdown =
    fault_of-of_tree (child_fault place key.Tree) (tree_at (get_member (codes "tree") table)) (nested_faults place (tree_in table) kind shutdown)
    (child_fault-of_tree place key.Tree) (nested_faults-of_tree place (tree_in table) kind shutdown)

plain_faults-of_tree : (place : ℕ) (table : Members) → are_of_tree (plain_faults place table)
plain_faults-of_tree place table =
    let after_modules : List TreeFault = [] in
    let after_kind : List TreeFault = fault_of (child_fault place key.Modules) (modules_at (get_member (codes "modules") table)) after_modules in
    let after_shutdown : List TreeFault = fault_of (child_fault place key.Kind) (kind_at (kind_with (tree_in table)) (get_member (codes "type") table)) after_kind in
    let after_significant : List TreeFault = fault_of (child_fault place key.Shutdown) (shutdown_at (get_member (codes "shutdown") table)) after_shutdown in
    let after_restart : List TreeFault = fault_of (child_fault place key.Significant) (significant_at (get_member (codes "significant") table)) after_significant in
    let from_modules : are_of_tree (fault_of (child_fault place key.Modules) (modules_at (get_member (codes "modules") table)) after_modules) =
    fault_of-of_tree (child_fault place key.Modules) (modules_at (get_member (codes "modules") table)) after_modules (child_fault-of_tree place key.Modules) refl in
    let from_kind : are_of_tree (fault_of (child_fault place key.Kind) (kind_at (kind_with (tree_in table)) (get_member (codes "type") table)) after_kind) =
    fault_of-of_tree (child_fault place key.Kind) (kind_at (kind_with (tree_in table)) (get_member (codes "type") table)) after_kind (child_fault-of_tree place key.Kind) from_modules in
    let from_shutdown : are_of_tree (fault_of (child_fault place key.Shutdown) (shutdown_at (get_member (codes "shutdown") table)) after_shutdown) =
    fault_of-of_tree (child_fault place key.Shutdown) (shutdown_at (get_member (codes "shutdown") table)) after_shutdown (child_fault-of_tree place key.Shutdown) from_kind in
    let from_significant : are_of_tree (fault_of (child_fault place key.Significant) (significant_at (get_member (codes "significant") table)) after_significant) =
    fault_of-of_tree (child_fault place key.Significant) (significant_at (get_member (codes "significant") table)) after_significant (child_fault-of_tree place key.Significant) from_shutdown in
    let from_restart : are_of_tree (fault_of (child_fault place key.Restart) (restart_at (get_member (codes "restart") table)) after_restart) =
    fault_of-of_tree (child_fault place key.Restart) (restart_at (get_member (codes "restart") table)) after_restart (child_fault-of_tree place key.Restart) from_significant in
    from_restart

value_faults-of_tree : (place : ℕ) (table : Members) → are_of_tree (value_faults place table)
value_faults-of_tree place table =
    both_of_tree (plain_faults place table) (tree_key_faults place table (kind_in table) (shutdown_in table))
    (plain_faults-of_tree place table) (tree_key_faults-of_tree place table (kind_in table) (shutdown_in table))

required_faults-of_tree : (place : ℕ) (table : Members) →
    are_of_tree (fault_of (child_fault place key.Id) (required_name (get_member (codes "id") table)) (fault_of (child_fault place key.Start) (required_name (get_member (codes "start") table)) (value_faults place table)))
required_faults-of_tree place table =
    let after_start : List TreeFault = value_faults place table in
    let after_id : List TreeFault = fault_of (child_fault place key.Start) (required_name (get_member (codes "start") table)) after_start in
    let from_start : are_of_tree (fault_of (child_fault place key.Start) (required_name (get_member (codes "start") table)) after_start) =
    fault_of-of_tree (child_fault place key.Start) (required_name (get_member (codes "start") table)) after_start (child_fault-of_tree place key.Start) (value_faults-of_tree place table) in
    let from_id : are_of_tree (fault_of (child_fault place key.Id) (required_name (get_member (codes "id") table)) after_id) =
    fault_of-of_tree (child_fault place key.Id) (required_name (get_member (codes "id") table)) after_id (child_fault-of_tree place key.Id) from_start in
    from_id

table_faults-of_tree : (place : ℕ) (table : Option Members) → are_of_tree (table_faults place table)
table_faults-of_tree place None = refl
table_faults-of_tree place (Some table) =
    let values : List TreeFault = fault_of (child_fault place key.Id) (required_name (get_member (codes "id") table)) (fault_of (child_fault place key.Start) (required_name (get_member (codes "start") table)) (value_faults place table)) in
    let no_start = is_none (get_member (codes "start") table) in
    let no_id = is_none (get_member (codes "id") table) in
    let started : List TreeFault = fault_if no_start (MissingKey place key.Start) values in
    let named : List TreeFault = fault_if no_id (MissingKey place key.Id) started in
    fault_if-of_tree (not (has_only is_child_key table)) (UnknownKey (Child place)) named refl
    (fault_if-of_tree no_id (MissingKey place key.Id) started refl
    (fault_if-of_tree no_start (MissingKey place key.Start) values refl
    (required_faults-of_tree place table)))

children_of_tree : (children : List Data) (place : ℕ) →
    are_of_tree (flat_map (λ (index, child). child_faults index child) (enumerate_from place children))
children_of_tree [] place = refl
children_of_tree (child ∷ rest) place =
    both_of_tree (child_faults place child) (flat_map (λ (index, child). child_faults index child) (enumerate_from (place + 1) rest)) (table_faults-of_tree place (as_table child)) (children_of_tree rest (place + 1))

flag_faults-of_tree : (table : Members) → are_of_tree (flag_faults table)
flag_faults-of_tree table =
    let after_autoshutdown : List TreeFault = [] in
    let after_period : List TreeFault = fault_of (flag_fault flag.AutoShutdown) (auto_shutdown_at (get_member (codes "auto_shutdown") table)) after_autoshutdown in
    let after_intensity : List TreeFault = fault_of (flag_fault flag.Period) (period_at (get_member (codes "period") table)) after_period in
    let after_strategy : List TreeFault = fault_of (flag_fault flag.Intensity) (intensity_at (get_member (codes "intensity") table)) after_intensity in
    let from_autoshutdown : are_of_tree (fault_of (flag_fault flag.AutoShutdown) (auto_shutdown_at (get_member (codes "auto_shutdown") table)) after_autoshutdown) =
    fault_of-of_tree (flag_fault flag.AutoShutdown) (auto_shutdown_at (get_member (codes "auto_shutdown") table)) after_autoshutdown (flag_fault-of_tree flag.AutoShutdown) refl in
    let from_period : are_of_tree (fault_of (flag_fault flag.Period) (period_at (get_member (codes "period") table)) after_period) =
    fault_of-of_tree (flag_fault flag.Period) (period_at (get_member (codes "period") table)) after_period (flag_fault-of_tree flag.Period) from_autoshutdown in
    let from_intensity : are_of_tree (fault_of (flag_fault flag.Intensity) (intensity_at (get_member (codes "intensity") table)) after_intensity) =
    fault_of-of_tree (flag_fault flag.Intensity) (intensity_at (get_member (codes "intensity") table)) after_intensity (flag_fault-of_tree flag.Intensity) from_period in
    let from_strategy : are_of_tree (fault_of (flag_fault flag.Strategy) (strategy_at (get_member (codes "strategy") table)) after_strategy) =
    fault_of-of_tree (flag_fault flag.Strategy) (strategy_at (get_member (codes "strategy") table)) after_strategy (flag_fault-of_tree flag.Strategy) from_intensity in
    fault_if-of_tree (not (has_only is_flag_key table)) (UnknownKey Table) (fault_of (flag_fault flag.Strategy) (strategy_at (get_member (codes "strategy") table)) after_strategy) refl from_strategy

count_faults-of_tree : (strategy : StrategyValue) (count : ℕ) (nested : Bool) → are_of_tree (count_faults strategy count nested)
count_faults-of_tree strategy count nested =
    let too_few = is_simple strategy && (not (count == 1) || nested) in
    fault_if-of_tree (nat_lt MAX_CHILDREN count) (Unlawful TooManyChildren) (fault_if too_few (Unlawful SimpleNeedsOne) []) refl
    (fault_if-of_tree too_few (Unlawful SimpleNeedsOne) [] refl refl)

list_faults-of_tree : (fault : Option SpecFault) → are_of_tree (list_faults fault)
list_faults-of_tree None = refl
list_faults-of_tree (Some fault) = refl

-- what is wrong in a table from its children on, from their number on, and in their list
abbrev list_part : Members → List TreeFault
list_part table = list_faults (first_fault (specs_in table) (Some (flags_in table).auto_shutdown))

abbrev count_part : Members → List TreeFault
count_part table = count_faults (flags_in table).strategy (length (specs_in table)) (has_trees table) ++ list_part table

abbrev children_part : Members → List TreeFault
children_part table = child_key_faults (get_member (codes "child") table) ++ count_part table

abbrev pub read_tree : SupFlags → List ChildSpec → Supervisor
read_tree flags specs = record { flags = flags; specs = specs }

abbrev said_tree : Members → Supervisor
said_tree table = read_tree (flags_in table) (specs_in table)

child_key_faults-of_tree : (value : Option Data) → are_of_tree (child_key_faults value)
child_key_faults-of_tree value =
    fault_of-of_tree (flag_fault flag.Child) (children_at value) (children_faults (children_of value))
    (flag_fault-of_tree flag.Child) (children_of_tree (children_of value) 0)

supervisor_faults-of_tree : (table : Members) → are_of_tree (supervisor_faults table)
supervisor_faults-of_tree table =
    both_of_tree (flag_faults table) (children_part table) (flag_faults-of_tree table)
    (both_of_tree (child_key_faults (get_member (codes "child") table)) (count_part table) (child_key_faults-of_tree (get_member (codes "child") table))
    (both_of_tree (count_faults (flags_in table).strategy (length (specs_in table)) (has_trees table)) (list_part table)
    (count_faults-of_tree (flags_in table).strategy (length (specs_in table)) (has_trees table))
    (list_faults-of_tree (first_fault (specs_in table) (Some (flags_in table).auto_shutdown)))))

first_of_both : (a b : Bool) → (a && b) ≡ true → a ≡ true
first_of_both true b both = refl
first_of_both false b both = cc

answered : {A : Type 0} (faults : List TreeFault) (value : A) → are_of_tree faults → answer_of faults value ≡ Err NotToml → ⊥
answered [] value within found = cc
answered (fault ∷ rest) value within found =
    let same : fault ≡ NotToml = cc in
    let inside : is_of_tree fault ≡ true = first_of_both (is_of_tree fault) (list_all is_of_tree rest) within in
    let outside : is_of_tree fault ≡ false = ap is_of_tree same in
    cc

-- no document says that it is no document
pub supervisor_of-toml : (table : Members) → supervisor_of table ≡ Err NotToml → ⊥
supervisor_of-toml table found = answered {A = Supervisor} (supervisor_faults table) (said_tree table) (supervisor_faults-of_tree table) found

-- the one value of a check that passes
abbrev pub nothing : Unit {0}
nothing = tt

-- where the flags have a fault, it is that of the table
pub flags_stop : (table : Members) (fault : TreeFault) →
    answer_of (flag_faults table) (flags_in table) ≡ Err fault → supervisor_of table ≡ Err fault
flags_stop table fault found =
    answer_of-stop {A = SupFlags} {B = Supervisor} (flag_faults table) (children_part table) (flags_in table) (said_tree table) fault found

-- where they have none, the table has the first fault of what follows
after_flags : (table : Members) (flags : SupFlags) →
    answer_of (flag_faults table) (flags_in table) ≡ Ok flags → supervisor_of table ≡ answer_of (children_part table) (said_tree table)
after_flags table flags read =
    answer_of-next {A = SupFlags} {B = Supervisor} (flag_faults table) (children_part table) (flags_in table) flags (said_tree table) read

pub children_stop : (table : Members) (flags : SupFlags) (fault : TreeFault) →
    answer_of (flag_faults table) (flags_in table) ≡ Ok flags →
    answer_of (child_key_faults (get_member (codes "child") table)) (specs_in table) ≡ Err fault →
    supervisor_of table ≡ Err fault
children_stop table flags fault read found =
    after_flags table flags read
    ∙ answer_of-stop {A = List ChildSpec} {B = Supervisor} (child_key_faults (get_member (codes "child") table)) (count_part table) (specs_in table) (said_tree table) fault found

after_children : (table : Members) (flags : SupFlags) (specs : List ChildSpec) →
    answer_of (flag_faults table) (flags_in table) ≡ Ok flags →
    answer_of (child_key_faults (get_member (codes "child") table)) (specs_in table) ≡ Ok specs →
    supervisor_of table ≡ answer_of (count_part table) (said_tree table)
after_children table flags specs read said =
    after_flags table flags read
    ∙ answer_of-next {A = List ChildSpec} {B = Supervisor} (child_key_faults (get_member (codes "child") table)) (count_part table) (specs_in table) specs (said_tree table) said

-- then what follows speaks of the flags and the specifications that were read
after_both : (table : Members) (flags : SupFlags) (specs : List ChildSpec) →
    answer_of (flag_faults table) (flags_in table) ≡ Ok flags →
    answer_of (child_key_faults (get_member (codes "child") table)) (specs_in table) ≡ Ok specs →
    supervisor_of table
    ≡ answer_of (count_faults flags.strategy (length specs) (has_trees table) ++ list_faults (first_fault specs (Some flags.auto_shutdown))) (read_tree flags specs)
after_both table flags specs read said =
    let same_flags : flags_in table ≡ flags = answer_of-value (flag_faults table) (flags_in table) flags read in
    let same_specs : specs_in table ≡ specs = answer_of-value (child_key_faults (get_member (codes "child") table)) (specs_in table) specs said in
    after_children table flags specs read said
    ∙ ap (λ (now : SupFlags). answer_of (count_faults now.strategy (length (specs_in table)) (has_trees table) ++ list_faults (first_fault (specs_in table) (Some now.auto_shutdown))) (read_tree now (specs_in table))) same_flags
    ∙ ap (λ (now : List ChildSpec). answer_of (count_faults flags.strategy (length now) (has_trees table) ++ list_faults (first_fault now (Some flags.auto_shutdown))) (read_tree flags now)) same_specs

pub count_stop : (table : Members) (flags : SupFlags) (specs : List ChildSpec) (fault : TreeFault) →
    answer_of (flag_faults table) (flags_in table) ≡ Ok flags →
    answer_of (child_key_faults (get_member (codes "child") table)) (specs_in table) ≡ Ok specs →
    answer_of (count_faults flags.strategy (length specs) (has_trees table)) nothing ≡ Err fault →
    supervisor_of table ≡ Err fault
count_stop table flags specs fault read said found =
    after_both table flags specs read said
    ∙ answer_of-stop {A = Unit {0}} {B = Supervisor} (count_faults flags.strategy (length specs) (has_trees table)) (list_faults (first_fault specs (Some flags.auto_shutdown))) nothing (read_tree flags specs) fault found

after_count : (table : Members) (flags : SupFlags) (specs : List ChildSpec) →
    answer_of (flag_faults table) (flags_in table) ≡ Ok flags →
    answer_of (child_key_faults (get_member (codes "child") table)) (specs_in table) ≡ Ok specs →
    answer_of (count_faults flags.strategy (length specs) (has_trees table)) nothing ≡ Ok nothing →
    supervisor_of table ≡ answer_of (list_faults (first_fault specs (Some flags.auto_shutdown))) (read_tree flags specs)
after_count table flags specs read said counted =
    after_both table flags specs read said
    ∙ answer_of-next {A = Unit {0}} {B = Supervisor} (count_faults flags.strategy (length specs) (has_trees table)) (list_faults (first_fault specs (Some flags.auto_shutdown))) nothing nothing (read_tree flags specs) counted

pub other_value : {A B F : Type 0} (faults : List F) (a : A) (b : B) (fault : F) → answer_of faults a ≡ Err fault → answer_of faults b ≡ Err fault
other_value [] a b fault found = cc
other_value (first ∷ _) a b fault found = cc

pub list_stop : (table : Members) (flags : SupFlags) (specs : List ChildSpec) (fault : TreeFault) →
    answer_of (flag_faults table) (flags_in table) ≡ Ok flags →
    answer_of (child_key_faults (get_member (codes "child") table)) (specs_in table) ≡ Ok specs →
    answer_of (count_faults flags.strategy (length specs) (has_trees table)) nothing ≡ Ok nothing →
    answer_of (list_faults (first_fault specs (Some flags.auto_shutdown))) nothing ≡ Err fault →
    supervisor_of table ≡ Err fault
list_stop table flags specs fault read said counted found =
    after_count table flags specs read said counted
    ∙ other_value {A = Unit {0}} {B = Supervisor} (list_faults (first_fault specs (Some flags.auto_shutdown))) nothing (read_tree flags specs) fault found

pub all_read_tree : (table : Members) (flags : SupFlags) (specs : List ChildSpec) →
    answer_of (flag_faults table) (flags_in table) ≡ Ok flags →
    answer_of (child_key_faults (get_member (codes "child") table)) (specs_in table) ≡ Ok specs →
    answer_of (count_faults flags.strategy (length specs) (has_trees table)) nothing ≡ Ok nothing →
    answer_of (list_faults (first_fault specs (Some flags.auto_shutdown))) nothing ≡ Ok nothing →
    supervisor_of table ≡ Ok (read_tree flags specs)
all_read_tree table flags specs read said counted checked =
    after_count table flags specs read said counted
    ∙ ap (λ faults. answer_of faults (read_tree flags specs))
    (answer_of-empty {A = Unit {0}} (list_faults (first_fault specs (Some flags.auto_shutdown))) nothing nothing checked)
