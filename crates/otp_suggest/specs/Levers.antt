-- The supervisors on the way from a child to the root, and what another intensity of each does (own).
use Rattle.std.specs.Prelude.{◌≡◌, ℕ, ◌+◌, ◌-◌, ◌≤◌, All, Bool, true, false, List, [], ◌∷◌, ◌++◌, Option, Some, None, if◌then◌else◌, nat_eq, nat_le, slice_index_or}
use Rattle.std.specs.List.{starts_with}
use Rattle.otp_file.specs.Trees.{Tree}
use Rattle.otp_costs.specs.Costs.{verdict_of}
use Rattle.otp_costs.specs.Falls.{Bears}
use Rattle.otp_costs.specs.declared.limits.steady.Verdict.{Verdict}
use Rattle.otp_costs.specs.declared.limits.steady.Verdict.TheVariants.{Falls, Lasts}
use Rattle.otp_reason.specs.declared.name.Name.{Name}
use Rattle.otp_spec.specs.declared.child.ChildSpec.{ChildSpec}
use Rattle.otp_spec.specs.declared.child.ChildType.{ChildType}
use Rattle.otp_spec.specs.declared.child.ChildType.TheVariants.{Worker, Supervisor}
use Rattle.otp_trial.specs.Played.{IsPlanted, Seated}
use Rattle.otp_suggest.specs.Found.{child_from}
use Rattle.otp_suggest.specs.Remedies.{IsRemedy}
use Rattle.otp_suggest.specs.declared.lever.Lever.{Lever}
use Rattle.otp_suggest.specs.declared.remedy.Remedy.{Remedy}
use Rattle.otp_suggest.specs.declared.remedy.Remedy.TheVariants as remedy
use Rattle.otp_suggest.specs.declared.rooted.RootFinding.{RootFinding}
use Rattle.otp_suggest.specs.declared.rooted.RootFinding.TheVariants as finding
use Rattle.otp_suggest.specs.declared.rooted.Rooted.{Rooted}

-- a supervisor with its intensity today, and which one has the root survive so many crashes at once
pub record IsLever (tree : Tree) (at : ℕ) (id : Name) (count place : ℕ) (seat : Seated) (lever : Lever) : Type 0 where
  pub path : lever.path ≡ seat.path
  pub today : lever.today ≡ seat.base.flags.intensity
  pub remedy : IsRemedy tree at id count place seat.base.flags.intensity lever.remedy

-- it stands on the way where the path of the child's own supervisor begins with its own; it was put behind the others then
unfoldable pub PutsLever : Bool → Tree → ℕ → Name → ℕ → ℕ → Seated → List Lever → List Lever → Type 0
PutsLever false tree at id count place seat before after = after ≡ before
PutsLever true tree at id count place seat before after =
    (lever : Lever) × (IsLever tree at id count place seat lever × (after ≡ before ++ lever ∷ []))

-- those of these supervisors, of which the first stands at this place, that stand on the way to a child of the one with this path:
-- those below before those above them
abbrev pub AreLevers : Tree → ℕ → Name → ℕ → List ℕ → ℕ → List Seated → List Lever → Type 0
AreLevers tree at id count path place [] levers = levers ≡ []
AreLevers tree at id count path place (seat ∷ seats) levers =
    (others : List Lever)
    × (AreLevers tree at id count path (place + 1) seats others
    × PutsLever (starts_with nat_eq path seat.path) tree at id count place seat others levers)

-- nothing has to be changed where the root survives as it is
unfoldable pub HaveLevers : Verdict → Tree → ℕ → Name → ℕ → List Seated → List Lever → Type 0
HaveLevers Lasts tree at id count seats levers = levers ≡ []
HaveLevers Falls tree at id count seats levers =
    (seat : Seated) × ((seat ≡ slice_index_or seats at seat) × AreLevers tree at id count seat.path 0 seats levers)

-- how the root fares where this child of the supervisor at this place crashes so often at once, and what would help
pub record IsRooted (tree : Tree) (seats : List Seated) (at : ℕ) (id : Name) (count : ℕ) (rooted : Rooted) : Type 0 where
  pub root : Bears None tree at id count rooted.root
  pub levers : HaveLevers (verdict_of rooted.root) tree at id count seats rooted.levers

-- what is found of the root and a child of the supervisor at this place: a supervisor is refused
abbrev pub FindsRootKind : ChildType → Tree → List Seated → ℕ → Name → ℕ → RootFinding → Type 0
FindsRootKind Supervisor tree seats place id count found = found ≡ finding.IsSupervisor
FindsRootKind Worker tree seats place id count found =
    (rooted : Rooted) × (IsRooted tree seats place id count rooted × (found ≡ finding.Of rooted))

-- what is found of the root and the child that was found, or that there is none
abbrev pub FindsRootOf : Tree → List Seated → Option (ℕ × ChildSpec) → ℕ → RootFinding → Type 0
FindsRootOf tree seats None count found = found ≡ finding.NoChild
FindsRootOf tree seats (Some child) count found = FindsRootKind child.1.kind tree seats child.0 child.1.id count found

-- what is found of the root where the child of a tree with this name crashes so often at once
abbrev pub FindsRoot : Tree → List ℕ → ℕ → RootFinding → Type 0
FindsRoot tree name count found =
    (seats : List Seated) × (IsPlanted true tree seats × FindsRootOf tree seats (child_from 0 name seats) count found)

-- by how much the intensity of a supervisor grows where it is changed so
unfoldable pub growth : ℕ → Remedy → Option ℕ
growth today remedy.Enough = Some 0
growth today (remedy.Least intensity) = Some (intensity - today)
growth today remedy.Nowhere = None

unfoldable pub growth_of : Option Lever → Option ℕ
growth_of None = None
growth_of (Some lever) = growth lever.today lever.remedy

-- the one helps, and grows by no more than the other
unfoldable pub is_no_more : Option ℕ → Option ℕ → Bool
is_no_more None other = false
is_no_more (Some more) None = true
is_no_more (Some more) (Some other) = nat_le more other

-- the first of these that helps and grows least, if one helps
unfoldable pub better : Lever → Option Lever → Option Lever
better lever other = if is_no_more (growth_of (Some lever)) (growth_of other) then Some lever else other

abbrev pub best_of : List Lever → Option Lever
best_of [] = None
best_of (lever ∷ levers) = better lever (best_of levers)

-- the one helps and grows by no more than the other, or the other doesn't help
unfoldable pub IsNoMore : Option ℕ → Option ℕ → Type 0
IsNoMore one None = Unit {0}
IsNoMore None (Some other) = ⊥
IsNoMore (Some one) (Some other) = one ≤ other

-- of the supervisors that help none grows by less than the best; there is none only where none helps
abbrev pub BestIsLeast : Type 0
BestIsLeast = (levers : List Lever) → All (λ lever. IsNoMore (growth_of (best_of levers)) (growth_of (Some lever))) levers
