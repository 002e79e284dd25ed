use Rattle.std.specs.Prelude.{Bool, true, false}
use Rattle.otp_reason.specs.declared.reason.Reason.{Reason}
use Rattle.otp_reason.specs.declared.reason.Reason.TheVariants.{Normal, Shutdown, ShutdownWith, Kill, Killed, NoProc, Error}

-- an end after which a transient child is not restarted: `normal`, `shutdown` or `{shutdown, Term}`
-- (Supervisor Behaviour, "Child Specification", restart)
abbrev pub is_quiet : Reason → Bool
is_quiet Normal = true
is_quiet Shutdown = true
is_quiet (ShutdownWith _) = true
is_quiet Kill = false
is_quiet Killed = false
is_quiet NoProc = false
is_quiet (Error _) = false
