-- The tables of a tree file: the root, and the trees of children that are supervisors of their own.
use Rattle.std.specs.Prelude.{ℕ, ◌+◌, ◌==◌, suc, zero, nat_le, codes, List, [], ◌∷◌, map, Option, Some, None, Result}
use Rattle.std.specs.List.{enumerate_from, filter_map, flat_map}
use Rattle.otp_spec.specs.declared.child.ChildSpec.{ChildSpec}
use Rattle.otp_spec.specs.declared.flags.SupFlags.{SupFlags}
use Rattle.otp_file.specs.declared.fault.TableFault.{TableFault}
use Rattle.otp_file.specs.declared.fault.TreeFault.{TreeFault}
use Rattle.otp_file.specs.declared.fault.TreeFault.TheVariants.{TooDeep, TooManyTables}
use Rattle.otp_file.specs.declared.limits.TheConstants.{MAX_DEPTH}
use Rattle.otp_spec.specs.declared.limits.TheConstants.{MAX_TABLES}
use Rattle.otp_file.specs.Children.{tree_of}
use Rattle.otp_file.specs.Faults.{answer_of, fault_if}
use Rattle.otp_file.specs.Tree.{children_of, flags_in, specs_in, table_faults}
use Rattle.toml.specs.Data.{Data, Members, get_member}

-- what a table says: the flags, the specifications of the children, and the places of those children that have a tree,
-- in order
pub record Table : Type 0 where
  pub flags : SupFlags
  pub specs : List ChildSpec
  pub nested : List ℕ

-- a table and all below it: for each child that has a tree, in order, the table of that tree and all below it
pub record Tree : Type 0 where
  pub flags : SupFlags
  pub specs : List ChildSpec
  pub nested : List ℕ
  pub below : List Table

-- the tables of a tree by their numbers, the root's being 0
abbrev pub tables_of : Tree → List Table
tables_of t = record { flags = t.flags; specs = t.specs; nested = t.nested } ∷ t.below

-- the children that a table says (own)
abbrev pub children_in : Members → List Data
children_in table = children_of (get_member (codes "child") table)

-- the trees of children, in order
abbrev pub trees_of : List Data → List Members
trees_of children = filter_map tree_of children

-- the place of a child that has a tree
abbrev pub place_of : ℕ → Option Members → Option ℕ
place_of place None = None
place_of place (Some _) = Some place

-- the places of the children that have one
abbrev pub nested_of : List Data → List ℕ
nested_of children = filter_map (λ (place, child). place_of place (tree_of child)) (enumerate_from 0 children)

-- the tables of a tree in the order of the walk: the table itself, and then for each child in order the tables of its
-- tree. Beside each stands how many levels of tables there may be from it on; below the last level nothing is looked at.
unfoldable pub tables_from : ℕ → Members → List (ℕ × Members)
tables_from zero table = (zero, table) ∷ []
tables_from (suc levels) table = (suc levels, table) ∷ flat_map (tables_from levels) (trees_of (children_in table))

-- the tables of these trees, in order
abbrev pub tables_under : ℕ → List Members → List (ℕ × Members)
tables_under levels trees = flat_map (tables_from levels) trees

-- what a table says, its children's trees aside
abbrev pub table_said : Members → Table
table_said table = record { flags = flags_in table; specs = specs_in table; nested = nested_of (children_in table) }

-- all faults of the table of this number, in their order: it lies too deep, it is one too many, and its own (own)
abbrev pub faults_here : ℕ → ℕ → Members → List TreeFault
faults_here number levels table =
    fault_if (levels == 0) TooDeep
    (fault_if (nat_le MAX_TABLES number) TooManyTables
    (table_faults table))

-- a fault of the table of this number
abbrev pub fault_at : ℕ → TreeFault → TableFault
fault_at number fault = record { table = number; fault = fault }

abbrev pub faults_at : ℕ → ℕ → Members → List TableFault
faults_at number levels table = map (fault_at number) (faults_here number levels table)

-- all faults of tables that are numbered from this one on, in the order of the walk
abbrev pub faults_in : ℕ → List (ℕ × Members) → List TableFault
faults_in number tables = flat_map (λ (n, placed). faults_at n placed.0 placed.1) (enumerate_from number tables)

-- what these tables say
abbrev pub tables_said : List (ℕ × Members) → List Table
tables_said tables = map (λ placed. table_said placed.1) tables

-- what the tables say that are numbered from this one on, or the first fault
abbrev pub said_from : ℕ → List (ℕ × Members) → Result (List Table) TableFault
said_from number tables = answer_of (faults_in number tables) (tables_said tables)

-- what the top table of a document says: the tables by their numbers, or the first fault
abbrev pub document_said : Members → Result (List Table) TableFault
document_said document = said_from 0 (tables_from MAX_DEPTH document)
