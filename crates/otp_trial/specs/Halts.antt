-- Why a trial can't go on (own).
use Rattle.otp_core.specs.declared.happening.EventFault.{EventFault}
use Rattle.otp_core.specs.declared.happening.EventFault.TheVariants as event
use Rattle.otp_trial.specs.declared.trial.Halt.{Halt}
use Rattle.otp_trial.specs.declared.trial.Halt.TheVariants.{HistoryFull, OutOfMemory}

-- why a core takes no event, as a trial says it, in which no order ever waits
abbrev pub halt_of : EventFault → Halt
halt_of event.OutOfMemory = OutOfMemory
halt_of event.OrdersWait = OutOfMemory
halt_of event.HistoryFull = HistoryFull
