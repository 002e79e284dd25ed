-- What came of a replay of a log, by how it ended.
use Rattle.std.proofs.Common.{ℕ, inl, inr, Bool, List, Some, refl}
use Rattle.std.specs.Borrow.{Bor}
use Rattle.otp_sim.specs.Devices.{Written}
use Rattle.otp_try.specs.declared.play.TryEnd.{TryEnd}
use Rattle.otp_try.specs.declared.play.TryEnd.TheVariants as trial
use Rattle.otp_questions.specs.Replayed.{IsReplay, WasReplayed}
use Rattle.otp_questions.specs.Tried.{ending_of_try}

-- it is one of the program's
pub is_replay : (log : Bor (List ℕ)) (text : List ℕ) (is_listed : Bool) (name file : List ℕ) (old new : Written) (end : TryEnd)
    → WasReplayed end file log.now text is_listed old.bytes new.bytes → IsReplay log text is_listed name (ending_of_try (Some log) end) file old new
is_replay log text is_listed name file old new trial.Done was = was
is_replay log text is_listed name file old new (trial.LineRefused line why) was = (refl, was)
is_replay log text is_listed name file old new (trial.LineMissed line why near) was = (refl, inl was)
is_replay log text is_listed name file old new (trial.ExpectationFailed line) was = (refl, was)
is_replay log text is_listed name file old new (trial.LeftOut line why near) was = (refl, inr was)
is_replay log text is_listed name file old new trial.NothingPlayed was = was
is_replay log text is_listed name file old new trial.HistoryFull was = was
is_replay log text is_listed name file old new trial.InputFailed was = was
is_replay log text is_listed name file old new trial.OutputFailed was = was
is_replay log text is_listed name file old new trial.OutOfMemory was = inr was
