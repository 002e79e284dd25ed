-- What is read off a supervisor's history in a report. (own)
use Rattle.std.specs.Prelude.{Option, Some, None}
use Rattle.otp_reason.specs.declared.reason.Reason.{Reason}
use Rattle.otp_rules.specs.declared.work.Phase.{Phase}
use Rattle.otp_rules.specs.declared.work.Phase.TheVariants.{Ended}
use Rattle.otp_rules.specs.Ends.{reason_of}
use Rattle.otp_rules.specs.State.{State}

abbrev pub reason_in : Phase → Option Reason
reason_in (Ended own ending) = Some (reason_of ending)
reason_in _ = None

-- the reason for which the supervisor has ended; none where it runs, or was never opened
abbrev pub last_reason : State → Option Reason
last_reason s = reason_in s.phase
