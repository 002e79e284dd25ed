-- A slot's word: a number, and the signal that was posted for it (own).
use Rattle.std.specs.Prelude.{◌≡◌, ℕ, ◌+◌, ◌*◌, ◌==◌, ◌⊎◌, cond, List, [], ◌∷◌, ◌++◌, All, Contains}
use Rattle.otp_signals.specs.declared.signal.Signal.{Signal}
use Rattle.otp_signals.specs.declared.signal.Signal.TheVariants.{None, Shutdown, Kill}

-- a signal as a number, so that a later signal for a number is the greater
abbrev pub code_of : Signal → ℕ
code_of None = 0
code_of Shutdown = 1
code_of Kill = 2

-- the word of a signal for a number: a later number's is the greater
abbrev pub word_of : ℕ → Signal → ℕ
word_of number signal = 4 * number + code_of signal

-- the signal that a word is for a number, and None where it is another number's
abbrev pub signal_of : ℕ → ℕ → Signal
signal_of word number = cond (word == word_of number Shutdown) Shutdown (cond (word == word_of number Kill) Kill None)

-- a viewer's list has one more word of the slot, exactly the one that was loaded, and the answer is its signal for the number
pub record Looked (old new : List (ℕ × ℕ)) (slot number : ℕ) (answer : Signal) : Type 0 where
  pub word : ℕ
  pub seen : new ≡ old ++ (slot, word) ∷ []
  pub answered : answer ≡ signal_of word number

-- each word that was seen at one of the slots is 0 or was posted there
abbrev pub WerePosted : List ℕ → List (ℕ × ℕ) → List (ℕ × ℕ) → Type 0
WerePosted slots posts looks = All (λ look. Contains slots look.0 → (look.1 ≡ 0) ⊎ Contains posts look) looks

-- each shutdown and kill that was seen for a number at one of the slots was posted there for it
abbrev pub SignalsWerePosted : List ℕ → List (ℕ × ℕ) → List (ℕ × ℕ) → Type 0
SignalsWerePosted slots posts looks =
    (slot number : ℕ) (signal : Signal) → Contains slots slot → Contains looks (slot, word_of number signal) → (signal ≡ None) ⊎ Contains posts (slot, word_of number signal)
