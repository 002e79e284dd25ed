-- What came of a suggestion that couldn't be told.
use Rattle.std.proofs.Common.{◌≡◌, ℕ, Bool, Bor, List, Ok, refl}
use Rattle.otp_file.specs.Files.{Says}
use Rattle.otp_file.specs.Trees.{Tree}
use Rattle.otp_sim.specs.Devices.{Written}
use Rattle.otp_suggest.specs.Advised.{IsUnsuggested}
use Rattle.otp_suggest.specs.declared.asked.Asked.{Asked}
use Rattle.otp_trial.specs.declared.trial.Halt.{Halt}
use Rattle.otp_trial.specs.declared.trial.Halt.TheVariants as halt
use Rattle.otp_questions.specs.Suggested.{IsSuggested}
use Rattle.otp_questions.specs.Limited.{ending_of_halt}

-- nothing was written
pub unsaid : (is_json : Bool) (child : Bor (List ℕ)) (asked : Asked) (name file : List ℕ) (old : Written) (why : Halt) (tree : Tree) → Says file (Ok tree)
    → (why ≡ halt.HistoryFull → IsUnsuggested tree child.now) → IsSuggested is_json child asked name (ending_of_halt why) file old old
unsaid is_json child asked name file old halt.HistoryFull tree says full = (refl, (tree, (says, full refl)))
unsaid is_json child asked name file old halt.OutOfMemory tree says full = refl
