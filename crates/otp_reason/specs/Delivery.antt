use Rattle.std.specs.Prelude.{Bool, true, false}
use Rattle.otp_reason.specs.declared.reason.Reason.{Reason}
use Rattle.otp_reason.specs.declared.reason.Reason.TheVariants.{Normal, Shutdown, ShutdownWith, Kill, Killed, NoProc, Error}
use Rattle.otp_reason.specs.declared.delivery.Delivery.{Delivery}
use Rattle.otp_reason.specs.declared.delivery.Delivery.TheVariants.{Ignored, Dies, Message}

-- what an exit signal does to a process that traps exits (true) or does not
-- (Erlang Reference Manual, "Processes", Receiving Exit Signals)
abbrev pub delivery_of : Reason → Bool → Delivery
delivery_of Kill _ = Dies Killed
delivery_of Normal true = Message Normal
delivery_of Normal false = Ignored
delivery_of Shutdown true = Message Shutdown
delivery_of Shutdown false = Dies Shutdown
delivery_of (ShutdownWith text) true = Message (ShutdownWith text)
delivery_of (ShutdownWith text) false = Dies (ShutdownWith text)
delivery_of Killed true = Message Killed
delivery_of Killed false = Dies Killed
delivery_of NoProc true = Message NoProc
delivery_of NoProc false = Dies NoProc
delivery_of (Error text) true = Message (Error text)
delivery_of (Error text) false = Dies (Error text)
