-- What is read of a line, or why it is refused (own).
use Rattle.std.specs.Prelude.{◌≡◌, ℕ, List, true, false, is_some, Option, Some, None, Result, Ok, Err}
use Rattle.otp_script.specs.declared.fault.ScriptFault.{ScriptFault}
use Rattle.otp_script.specs.declared.fault.ScriptFault.TheVariants.{TooManyWords}
use Rattle.otp_script.specs.Spaced.{word_in}

-- what follows on a value, if the line isn't refused before
infixl 10 ◌>>=◌
abbrev pub ◌>>=◌ : {A B : Type 0} → Result A ScriptFault → (A → Result B ScriptFault) → Result B ScriptFault
(Ok value) >>= f = f value
(Err why) >>= f = Err why

-- the value, or this is why there is none
abbrev pub or_fault : {A : Type 0} → ScriptFault → Option A → Result A ScriptFault
or_fault why None = Err why
or_fault why (Some value) = Ok value

-- what code answers, as the definitions say it
abbrev pub read_as : {A B : Type 0} → (A → B) → Result A ScriptFault → Result B ScriptFault
read_as f (Ok value) = Ok (f value)
read_as f (Err why) = Err why

-- no word is left of the line, or there are too many
abbrev pub IsEnded : {A : Type 0} → Result A ScriptFault → List ℕ → Type 0
IsEnded (Ok _) line = is_some (word_in line) ≡ false
IsEnded (Err why) line = (is_some (word_in line) ≡ true) × (why ≡ TooManyWords)
