-- What came of a trial of a tree, by how it ended.
use Rattle.std.proofs.Common.{ℕ, inl, inr, List, Option, refl}
use Rattle.std.specs.Borrow.{Bor}
use Rattle.otp_sim.specs.Devices.{Devices}
use Rattle.otp_try.specs.declared.play.TryEnd.{TryEnd}
use Rattle.otp_try.specs.declared.play.TryEnd.TheVariants as trial
use Rattle.otp_questions.specs.Tried.{IsTrial, WasTried, ending_of_try}

-- it is one of the program's
pub is_trial : (name : List ℕ) (script : Option (Bor (List ℕ))) (file : List ℕ) (old new : Devices) (end : TryEnd) → WasTried end file old new
    → IsTrial name script (ending_of_try script end) file old new
is_trial name script file old new trial.Done was = was
is_trial name script file old new (trial.LineRefused line why) was = (refl, was)
is_trial name script file old new (trial.LineMissed line why near) was = (refl, inl was)
is_trial name script file old new (trial.ExpectationFailed line) was = (refl, was)
is_trial name script file old new (trial.LeftOut line why near) was = (refl, inr was)
is_trial name script file old new trial.NothingPlayed was = was
is_trial name script file old new trial.HistoryFull was = was
is_trial name script file old new trial.InputFailed was = was
is_trial name script file old new trial.OutputFailed was = was
is_trial name script file old new trial.OutOfMemory was = inr was
