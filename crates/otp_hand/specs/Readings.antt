-- Passes, with which a hand reads the counts of supervisors (supervisor, count_children/1).
use Rattle.std.specs.Prelude.{◌≡◌, ℕ, ⊤, List, [], ◌∷◌, MatchOption, slice_get, slice_set}
use Rattle.otp_signals.specs.Counts.{IsRead, Reading}
use Rattle.otp_rules.specs.declared.call.CountsNow.{CountsNow}
use Rattle.otp_hand.specs.Hands.{HandView}

-- of these passes the one at a place read these counts, and the others are as they were
pub record IsReadAt (place : ℕ) (now : CountsNow) (old new : List Reading) : Type 0 where
  pub pass : Reading
  pub read : MatchOption (slice_get old place) ⊥ (λ p. IsRead p pass now)
  pub passes : new ≡ slice_set old place pass

-- each of these passes read the counts that stand at its place
abbrev pub AreRead : List CountsNow → List Reading → List Reading → Type 0
AreRead [] [] [] = ⊤
AreRead (now ∷ all) (p ∷ old) (q ∷ new) = IsRead p q now × AreRead all old new
AreRead _ _ _ = ⊥

module _ {J S : Type 0} where
  -- a hand read these counts of the supervisor with this number, and nothing else of it changed
  pub record HasRead (table : ℕ) (now : CountsNow) (old new : HandView J S) : Type 0 where
    pub read : IsReadAt table now old.passes new.passes
    pub same : new ≡ record old { passes = new.passes }
