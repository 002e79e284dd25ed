-- What a note says has happened. (supervisor, the keys intensity, period and auto_shutdown)
use Rattle.std.specs.Prelude.{ℕ, Bool, true, false, Option, Some, None}
use Rattle.otp_reason.specs.declared.note.Note.{Note}
use Rattle.otp_reason.specs.declared.note.Note.TheVariants as note
use Rattle.otp_reason.specs.declared.reason.Reason.{Reason}
use Rattle.otp_rules.specs.declared.ending.Cause.{Cause}
use Rattle.otp_rules.specs.declared.ending.Cause.TheVariants as cause
use Rattle.otp_rules.specs.declared.ending.SupEnd.{SupEnd}
use Rattle.otp_system.specs.declared.happening.Happening.{Happening}
use Rattle.otp_system.specs.declared.happening.Happening.TheVariants.{Started, Restarted, Ignored, Failed, Exited, Stopped, GaveUp, ShutDown}

-- the end of a supervisor, by what shows why: its parent asked, its restarts were too many, or a significant child had ended
abbrev pub exited_by : ℕ → Reason → Cause → Happening
exited_by number reason cause.Asked = Stopped number
exited_by number reason (cause.Intensity flags _) = GaveUp number flags
exited_by number reason (cause.Significant child) = ShutDown number child
exited_by number reason (cause.InitFailed _) = Exited number reason

-- the end of a process, which is a supervisor's where such an end came with the note
abbrev pub exited : ℕ → Reason → Option SupEnd → Happening
exited number reason None = Exited number reason
exited number reason (Some end) = exited_by number reason end.cause

-- the start of a process, whose child had one before or not
abbrev pub started : ℕ → Bool → Happening
started number false = Started number
started number true = Restarted number

abbrev pub happening_of : Note → Option SupEnd → Bool → Happening
happening_of (note.Up number) end again = started number again
happening_of (note.Ignored number) end again = Ignored number
happening_of (note.Failed number reason) end again = Failed number reason
happening_of (note.Exit number reason) end again = exited number reason end
