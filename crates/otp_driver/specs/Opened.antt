-- A tree as it is opened: a supervisor for each table of the file.
use Rattle.std.specs.Prelude.{◌≡◌, ℕ, ◌+◌, List, [], ◌∷◌, ◌++◌, length, map, None, slice_get}
use Rattle.otp_file.specs.Trees.{Table, Tree, tables_of}
use Rattle.otp_driver.specs.declared.driven.link.Link.{Link}
use Rattle.otp_rules.specs.declared.event.Kind.TheVariants as kind
use Rattle.otp_driver.specs.Driven.{Driven, Occurs}
use Rattle.otp_driver.specs.Links.{first_link}
use Rattle.otp_driver.specs.Members.{Member, unopened}

-- a supervisor for each table, with its flags and specifications, of which none was opened
abbrev pub ArePlanted : List Table → List Member → Type 0
ArePlanted [] [] = Unit {0}
ArePlanted [] (m ∷ ms) = ⊥
ArePlanted (t ∷ ts) [] = ⊥
ArePlanted (t ∷ ts) (m ∷ ms) = (m ≡ unopened t.flags t.specs) × ArePlanted ts ms

-- the links of those children that have a tree, of the table of this number, in their order
abbrev pub links_under : ℕ → Table → List Link
links_under number t = map (λ place. first_link number (slice_get t.specs place)) t.nested

-- whose child each of these tables is, which are numbered from this one on. These links are awaited: the next table is that of
-- the first, and then come the tables of its own children, before the others'
abbrev pub links_from : ℕ → List Link → List Table → List Link
links_from number [] tables = []
links_from number (l ∷ ls) [] = []
links_from number (l ∷ ls) (t ∷ ts) = l ∷ links_from (number + 1) (links_under number t ++ ls) ts

-- whose child each table of a file is: the first one is the root, which is nobody's
unfoldable pub links_of : List Table → List Link
links_of tables = links_from 0 (first_link 0 None ∷ []) tables

-- these links are those of a tree whose root has this one, wherever it stands among other tables
abbrev pub AreLinks : ℕ → Link → Tree → List Link → Type 0
AreLinks number link tree links =
    (rest : List Link) (more : List Table)
    → links_from number (link ∷ rest) (tables_of tree ++ more) ≡ links ++ links_from (number + length links) rest more

-- the links of a tree were added
abbrev pub AddsLinks : Tree → Link → Driven → Driven → Type 0
AddsLinks tree link old new = (links : List Link) × (new.links ≡ old.links ++ links) × AreLinks (length old.links) link tree links

-- the clock, the process numbers and the calls are as they were
abbrev pub IsStill : Driven → Driven → Type 0
IsStill old new = (new.reading ≡ old.reading) × (new.last ≡ old.last) × (new.calls ≡ old.calls)

-- the supervisors of these tables were added, and nothing else happened
abbrev pub AddsTables : List Table → Driven → Driven → Type 0
AddsTables tables old new = (added : List Member) × (new.members ≡ old.members ++ added) × ArePlanted tables added × IsStill old new

-- the supervisor of a tree was added, and those of the tables below it
abbrev pub AddsTree : Tree → Driven → Driven → Type 0
AddsTree tree old new =
    (added : List Member) × (new.members ≡ old.members ++ unopened tree.flags tree.specs ∷ added) × ArePlanted tree.below added × IsStill old new

abbrev pub nothing : Driven
nothing = record { members = []; links = []; reading = 0; last = 0; calls = 0 }

-- the tree of a file: its supervisors, and whose child each of them is
abbrev pub IsPlanted : Tree → Driven → Type 0
IsPlanted tree t = AddsTree tree nothing t × (t.links ≡ links_of (tables_of tree))

-- its root starts under the number 0
abbrev pub Opens : Tree → Driven → Type 0
Opens tree t = (planted : Driven) × IsPlanted tree planted × Occurs 0 (kind.Opened 0) planted t
