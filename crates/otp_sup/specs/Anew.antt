-- A supervisor that had no event gets another plan. (own)
use Rattle.std.specs.Prelude.{◌≡◌, ◌⊎◌, ◌↔◌, ℕ, List, [], Bool, IsTrue, Option, false}
use Rattle.otp_bodies.specs.Bodies.{settled}
use Rattle.otp_bodies.specs.declared.bodies.Kept.{Kept}
use Rattle.otp_core.specs.View.{new_core}
use Rattle.otp_signals.specs.Counts.{after_publish}
use Rattle.otp_rules.specs.Counts.{counts_of}
use Rattle.otp_spec.specs.Supervisor.{Supervisor}
use Rattle.otp_sup.specs.Facts.{KeepsRules, TableView}
use Rattle.otp_sup.specs.Plans.{never_opened}

-- the supervisor of this plan took the place of another, with these bodies: it was never opened, and what it counts was
-- published. The seat, the inbox and what was given are as before
pub record IsPlannedAnew (supervisor : Supervisor) (kept : List Kept) (old new : TableView) : Type 0 where
  pub office : new.office ≡ record old.office { core = new_core supervisor.flags supervisor.specs; outbox = [] }
  pub taker : new.taker ≡ old.taker
  pub bodies : new.bodies ≡ settled [] false kept
  pub counts : new.counts ≡ after_publish (counts_of (never_opened supervisor)) old.counts
  pub ends : new.ends_told ≡ old.ends_told

-- a table of this inbox, which kept the rules and had no event, got this plan; and it keeps them
pub record PlannedUnder (plans : ℕ → Option Supervisor) (inbox : ℕ) (supervisor : Supervisor) (kept : List Kept) : Type 0 where
  pub old : TableView
  pub new : TableView
  pub rules : KeepsRules plans old
  pub of_inbox : old.taker.inbox ≡ inbox
  pub unused : old.office.core.history ≡ []
  pub planned : IsPlannedAnew supervisor kept old new
  pub kept_rules : KeepsRules plans new

-- a table that keeps the rules is of another inbox than this one, or had an event
pub record IsOccupied (plans : ℕ → Option Supervisor) (inbox : ℕ) : Type 0 where
  pub table : TableView
  pub rules : KeepsRules plans table
  pub occupied : (¬ (table.taker.inbox ≡ inbox)) ⊎ (¬ (table.office.core.history ≡ []))

-- of a table that keeps the rules this tells whether it had no event
pub record ToldUnused (plans : ℕ → Option Supervisor) (told : Bool) : Type 0 where
  pub table : TableView
  pub rules : KeepsRules plans table
  pub unused : IsTrue told ↔ (table.office.core.history ≡ [])
