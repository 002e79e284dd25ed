-- What stands above a line of a script, or behind it (own).
use Rattle.std.specs.Prelude.{ℕ, Bool, true, false, List, [], ◌++◌, codes}
use Rattle.otp_trial.specs.Story.{number_after}

-- the number of a line
unfoldable pub line_number : ℕ → List ℕ
line_number number = number_after (codes "line ") number

-- what stands above what a line does, if it has a heading
unfoldable pub heading_line : Bool → ℕ → List ℕ → List ℕ
heading_line false number line = []
heading_line true number line = line_number number ++ codes ": " ++ line ++ codes "\n"

-- that a line names a child which isn't there
unfoldable pub unknown_text : ℕ → List ℕ
unknown_text number = line_number number ++ codes ": there is no such child; which lists the root's, PATH/ which those below\n"

-- of a line that was taken: whether it names a child which isn't there
unfoldable pub known_text : ℕ → Bool → List ℕ
known_text number true = unknown_text number
known_text number false = []

-- why a line is left out
unfoldable pub left_out_text : ℕ → List ℕ → List ℕ
left_out_text number why = line_number number ++ codes ": " ++ why ++ codes "\n"

-- that it isn't as a line expects
unfoldable pub unmet_text : ℕ → List ℕ → List ℕ
unmet_text number line = line_number number ++ codes ": it is not so: " ++ line ++ codes "\n"
