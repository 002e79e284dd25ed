-- What came of two trees whose difference couldn't be told.
use Rattle.std.proofs.Common.{ℕ, Bool, List, refl}
use Rattle.otp_sim.specs.Devices.{Written}
use Rattle.otp_trial.specs.declared.trial.Halt.{Halt}
use Rattle.otp_trial.specs.declared.trial.Halt.TheVariants as halt
use Rattle.otp_exit.specs.Devices.{HasTree}
use Rattle.otp_questions.specs.Compared.{IsCompared}
use Rattle.otp_questions.specs.Limited.{ending_of_halt}

-- nothing was written
pub halted : (is_json : Bool) (name other file other_file : List ℕ) (old : Written) (why : Halt) → HasTree file → HasTree other_file
    → IsCompared is_json name other (ending_of_halt why) file other_file old old
halted is_json name other file other_file old halt.HistoryFull one two = (refl, (one, two))
halted is_json name other file other_file old halt.OutOfMemory one two = refl
