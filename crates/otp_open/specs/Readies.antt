-- Places that are ready for the supervisors of a tree: all that takes memory is there. (own)
use Rattle.std.specs.Prelude.{◌≡◌, ℕ, ◌+◌, ⊤, List, [], ◌∷◌, Contains}
use Rattle.otp_core.specs.View.{new_core, state_of}
use Rattle.otp_inbox.specs.Tokens.{first_taker}
use Rattle.otp_rules.specs.Counts.{counts_of}
use Rattle.otp_rules.specs.declared.call.CountsNow.{CountsNow}
use Rattle.otp_signals.specs.Lists.{EachBetween}
use Rattle.otp_spec.specs.Supervisor.{Supervisor}
use Rattle.otp_spec.specs.declared.limits.TheConstants.{MAX_CHILDREN}
use Rattle.otp_open.specs.Adds.{IsSpaceFor}
use Rattle.otp_open.specs.Opens.{first_slot}
use Rattle.otp_open.specs.declared.plan.TablePlan.{TablePlan}
use Rattle.otp_open.specs.declared.ready.ReadyPlace.{ReadyPlace}

-- what a supervisor of this plan counts before its first event (supervisor, count_children/1)
abbrev pub first_counts : Supervisor → CountsNow
first_counts plan = counts_of (state_of (new_core plan.flags plan.specs))

module _ {N J S : Type 0} where
  -- the place with this number is ready for this plan: nothing was taken there, drawn or posted, and what is published is what
  -- the supervisor counts before its first event
  pub record IsReadyFor (number : ℕ) (plan : TablePlan J S) (place : ReadyPlace N J S) : Type 0 where
    pub inbox : place.inbox ≡ number
    pub taker : place.taker ≡ first_taker number
    pub drawn : place.seat.drawn ≡ []
    pub posts : place.seat.posts ≡ []
    pub slots : EachBetween (first_slot number) (first_slot number + MAX_CHILDREN) (Contains place.seat.slots)
    pub counts : place.counts.published ≡ first_counts plan.supervisor ∷ []
    pub space : IsSpaceFor plan place.space

  -- a place is ready for each plan, in their order, the first under this number
  abbrev pub AreReadyFor : ℕ → List (TablePlan J S) → List (ReadyPlace N J S) → Type 0
  AreReadyFor number [] [] = ⊤
  AreReadyFor number (plan ∷ plans) (place ∷ places) = IsReadyFor number plan place × AreReadyFor (number + 1) plans places
  AreReadyFor number _ _ = ⊥
