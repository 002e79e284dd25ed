-- What is known of the trees below a supervisor: how long a stop of them takes, and whether they end by themselves (own).
use Rattle.std.specs.Prelude.{ℕ, ◌+◌, ◌==◌, min, Bool, true, false, not, ◌&&◌, ◌||◌, List, [], ◌∷◌, Option, Some, None, drop, length, unwrap_or, if◌then◌else◌}
use Rattle.std.specs.List.{list_all, list_any}
use Rattle.std.specs.Borrow.{Bor}
use Rattle.otp_file.specs.Trees.{Table, Tree}
use Rattle.otp_spec.specs.Lawful.{is_permanent}
use Rattle.otp_spec.specs.declared.child.ChildSpec.{ChildSpec}
use Rattle.otp_spec.specs.declared.child.Restart.{Restart}
use Rattle.otp_spec.specs.declared.child.Restart.TheVariants.{Permanent, Transient, Temporary}
use Rattle.otp_spec.specs.declared.child.Shutdown.{Shutdown}
use Rattle.otp_spec.specs.declared.flags.AutoShutdown.{AutoShutdown}
use Rattle.otp_spec.specs.declared.flags.AutoShutdown.TheVariants.{Never, AnySignificant, AllSignificant}
use Rattle.otp_spec.specs.declared.flags.SupFlags.{SupFlags}
use Rattle.otp_spec.specs.declared.limits.TheConstants.{MAX_READING}
use Rattle.otp_shutdown.specs.Stops.{later}
use Rattle.otp_commands.specs.declared.lint.below.Below.{Below}
use Rattle.otp_commands.specs.declared.lint.below.LintedChild.{LintedChild}

-- the table of a tree's own supervisor
abbrev pub own_table : Tree → Table
own_table tree = record { flags = tree.flags; specs = tree.specs; nested = tree.nested }

abbrev pub table_of : Bor Tree → Table
table_of tree = own_table tree.now

-- what is known of the tree of the child at this place, if it has one: the trees are those of the children at the places
abbrev pub below_at : ℕ → List ℕ → List Below → Option Below
below_at place [] trees = None
below_at place (other ∷ others) [] = None
below_at place (other ∷ others) (tree ∷ trees) = if other == place then Some tree else below_at place others trees

-- these children, of which the first stands at this place, each with what is known of its tree
abbrev pub seen_from : List ℕ → List Below → ℕ → List ChildSpec → List LintedChild
seen_from nested trees place [] = []
seen_from nested trees place (spec ∷ specs) = record { spec = spec; tree = below_at place nested trees } ∷ seen_from nested trees (place + 1) specs

-- the children of a table
abbrev pub seen_in : Table → List Below → List LintedChild
seen_in table trees = seen_from table.nested trees 0 table.specs

-- so long takes the stop of a child by its shutdown; one without a limit counts for nothing, as `otp shutdown` adds them up
unfoldable pub own_stop : Shutdown → ℕ
own_stop shutdown = unwrap_or (later (Some 0) shutdown) 0

-- two times that follow each other. No tree comes near the greatest reading of a clock.
unfoldable pub plus : ℕ → ℕ → ℕ
plus one other = min (one + other) MAX_READING

-- so long takes the stop of a child that is stopped so, and has this tree
abbrev pub stop_by : Shutdown → Option Below → ℕ
stop_by shutdown None = own_stop shutdown
stop_by shutdown (Some tree) = tree.stop

abbrev pub stop_of : LintedChild → ℕ
stop_of child = stop_by child.spec.shutdown child.tree

-- so long takes the stop of these, one after the other
abbrev pub stop_in : List LintedChild → ℕ
stop_in [] = 0
stop_in (child ∷ children) = plus (stop_of child) (stop_in children)

-- a process with this key is started again after a crash (Supervisor Behaviour, "Child Specification", restart)
unfoldable pub is_restartable : Restart → Bool
is_restartable Permanent = true
is_restartable Transient = true
is_restartable Temporary = false

-- a supervisor that is a child ends by itself with shutdown, after which only a permanent one is started again
abbrev pub restarts_by : Restart → Option Below → Bool
restarts_by restart None = is_restartable restart
restarts_by restart (Some tree) = is_permanent restart && tree.ends

-- this child may end so that it is started again, all others being up
abbrev pub may_restart : LintedChild → Bool
may_restart child = restarts_by child.spec.restart child.tree

-- it may end by itself: a process does, a supervisor where its tree says so
abbrev pub ends_by : Option Below → Bool
ends_by None = true
ends_by (Some tree) = tree.ends

abbrev pub may_end : LintedChild → Bool
may_end child = ends_by child.tree

abbrev pub is_significant : LintedChild → Bool
is_significant child = child.spec.significant

-- a significant child that may end, and one that stands in the way of no automatic shutdown
abbrev pub is_ending : LintedChild → Bool
is_ending child = child.spec.significant && ends_by child.tree

abbrev pub is_no_hindrance : LintedChild → Bool
is_no_hindrance child = not child.spec.significant || ends_by child.tree

-- the ends of significant children may end their supervisor (Supervisor Behaviour, "Automatic Shutdown")
unfoldable pub may_shut_down : AutoShutdown → List LintedChild → Bool
may_shut_down Never children = false
may_shut_down AnySignificant children = list_any is_ending children
may_shut_down AllSignificant children = list_any is_significant children && list_all is_no_hindrance children

-- a supervisor of these children may end by itself: by a restart too many, or by its significant children
abbrev pub may_end_over : SupFlags → List LintedChild → Bool
may_end_over flags children = list_any may_restart children || may_shut_down flags.auto_shutdown children

-- what is known of the tree of a supervisor with these children
abbrev pub below_of : SupFlags → List LintedChild → Below
below_of flags children = record { stop = stop_in children; ends = may_end_over flags children }

-- what is known of the trees that tables make up, which stand in the order of the walk: each table takes for its children's trees
-- the first of those behind it
abbrev pub below_in : List Table → List Below
below_in [] = []
below_in (table ∷ tables) = below_of table.flags (seen_in table (below_in tables)) ∷ drop (length table.nested) (below_in tables)
