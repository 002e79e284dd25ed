-- Supervisors that are added to a tree. (own)
use Rattle.std.specs.Prelude.{◌≡◌, ℕ, ◌+◌, ◌≤◌, ⊤, List, [], ◌∷◌, All, Bool, MatchOption, Option, true, length, nat_lt, slice_get}
use Rattle.std.specs.List.{AllPass}
use Rattle.otp_bodies.specs.Bodies.{BodiesView, handed_in}
use Rattle.otp_draft.specs.Plans.{IsNear}
use Rattle.otp_job.specs.declared.body.Body.{Body}
use Rattle.otp_job.specs.declared.body.Body.TheVariants as body
use Rattle.otp_run.specs.Lists.{AllAt}
use Rattle.otp_spec.specs.Supervisor.{Supervisor}
use Rattle.otp_sup.specs.Anew.{IsOccupied, PlannedUnder}
use Rattle.otp_open.specs.declared.plan.TablePlan.{TablePlan}

-- some place is occupied
abbrev pub IsAnyOccupied : (ℕ → Option Supervisor) → Type 0
IsAnyOccupied plans = (inbox : ℕ) × IsOccupied plans inbox

module _ {J S : Type 0} where
  -- in places from this one on, one after the other, a table that had no event got the supervisor of each plan: with its flags and its
  -- specifications, and a body for each of as many of these as the plan has bodies
  abbrev pub ArePlannedFrom : (ℕ → Option Supervisor) → ℕ → List (TablePlan J S) → Type 0
  ArePlannedFrom plans first [] = ⊤
  ArePlannedFrom plans first (plan ∷ rest) = PlannedUnder plans first plan.supervisor (handed_in (length plan.bodies.items)) × ArePlannedFrom plans (first + 1) rest

  -- it is no supervisor, or one with a number below this one
  abbrev pub is_within : ℕ → Body J S → Bool
  is_within count (body.Sup number) = nat_lt number count
  is_within count (body.Worker job) = true
  is_within count (body.Bridge bridge) = true

  -- each child of it that is a supervisor has a number below this one
  abbrev pub IsWithin : ℕ → TablePlan J S → Type 0
  IsWithin count plan = AllPass (is_within count) plan.bodies.items

  -- each child of these plans that is a supervisor is one of them
  abbrev pub AreWithin : List (TablePlan J S) → Type 0
  AreWithin plans = AllAt (λ _ plan. IsWithin (length plans) plan) plans

  -- the plan at this place has a child that is a supervisor and none of them
  abbrev pub IsStrangerAt : List (TablePlan J S) → ℕ → Type 0
  IsStrangerAt plans table = MatchOption (slice_get plans table) ⊥ (λ plan. ¬ (IsWithin (length plans) plan))

  -- each child of these plans that is a supervisor has a number below 64
  abbrev pub AreNear : List (TablePlan J S) → Type 0
  AreNear plans = AllAt (λ _ (plan : TablePlan J S). All IsNear plan.bodies.items) plans

  -- the memory for the bodies of this plan
  pub record IsSpaceFor (plan : TablePlan J S) (space : BodiesView) : Type 0 where
    pub none : space.kept ≡ []
    pub room : length plan.bodies.items ≤ space.room

  -- the memory for the bodies of each plan, in their order
  abbrev pub Fit : List (TablePlan J S) → List BodiesView → Type 0
  Fit [] [] = ⊤
  Fit (plan ∷ plans) (space ∷ spaces) = IsSpaceFor plan space × Fit plans spaces
  Fit _ _ = ⊥
