-- Passes that are split off for new hands (supervisor, count_children/1).
use Rattle.std.specs.Prelude.{◌≡◌, ℕ, List, length, map}
use Rattle.otp_signals.specs.Counts.{Reading, fresh_pass}
use Rattle.otp_run.specs.Lists.{AllAt}
use Rattle.otp_hand.specs.Hands.{HandView}

-- a pass of the same word, which has read nothing yet
abbrev pub renewed : Reading → Reading
renewed p = fresh_pass p.word

module _ {J S : Type 0} where
  -- a hand has a pass beside each of these, and read nothing yet
  abbrev pub IsFresh : List Reading → HandView J S → Type 0
  IsFresh passes h = h.passes ≡ map renewed passes

  -- each of these hands has a pass for each of so many supervisors, all hands by the same words, and read nothing yet
  pub record CanRead (tables : ℕ) (hands : List (HandView J S)) : Type 0 where
    pub passes : List Reading
    pub many : length passes ≡ tables
    pub fresh : AllAt (λ _ h. IsFresh passes h) hands
