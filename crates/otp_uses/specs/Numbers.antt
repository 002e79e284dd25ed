-- Numbers that are sent and taken.
use Rattle.std.specs.Prelude.{◌≡◌, ℕ, zero, suc, ◌≤◌, List, [], ◌∷◌, ◌++◌, length, map}
use Rattle.otp_inbox.specs.Tokens.{SenderState, TakerState, first_sender}
use Rattle.otp_uses.specs.declared.mailbox.Number.{Number}

-- the numbers from 0 to below n, in order
abbrev pub numbers_below : ℕ → List ℕ
numbers_below zero = []
numbers_below (suc n) = numbers_below n ++ n ∷ []

abbrev pub value_of : Number → ℕ
value_of n = n.value

-- an inbox's first sender sent the numbers below this one, and nothing else
abbrev pub SentAll : ℕ → ℕ → SenderState ℕ → Type 0
SentAll inbox count sender = sender ≡ record (first_sender inbox) { sent = numbers_below count }

-- the taker of an inbox took at most so many numbers, which are these
pub record TookSome (inbox most : ℕ) (taker : TakerState ℕ) (came : List Number) : Type 0 where
  pub belongs : taker.inbox ≡ inbox
  pub are : map value_of came ≡ taker.taken
  pub few : length came ≤ most
