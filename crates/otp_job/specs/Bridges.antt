-- A bridge, and what it calls by its phase and the signal. (supervisor_bridge, "init" and "terminate"; polling is own)
use Rattle.std.specs.Prelude.{◌≡◌, Option, Some, None}
use Rattle.otp_reason.specs.declared.note.Started.{Started}
use Rattle.otp_reason.specs.declared.note.Started.TheVariants as start
use Rattle.otp_reason.specs.declared.reason.Reason.{Reason}
use Rattle.otp_reason.specs.declared.reason.Reason.TheVariants as reason
use Rattle.otp_signals.specs.declared.signal.Signal.{Signal}
use Rattle.otp_signals.specs.declared.signal.Signal.TheVariants as signal
use Rattle.otp_job.specs.declared.bridge.bridge.BridgePhase.{BridgePhase}
use Rattle.otp_job.specs.declared.bridge.bridge.BridgePhase.TheVariants.{New, Up, MainEnded, Terminated}

-- what contracts see of a bridge
pub record BridgeState (S : Type 0) : Type 0 where
  pub subsystem : S
  pub phase : BridgePhase

-- the phase after `init` answered
abbrev pub phase_after_init : Started → BridgePhase
phase_after_init start.Up = Up
phase_after_init start.Ignore = New
phase_after_init (start.Fail _) = New

-- the phase after `poll` answered
abbrev pub phase_after_poll : Option Reason → BridgePhase
phase_after_poll (Some _) = MainEnded
phase_after_poll None = Up

module _ {S : Type 0} where
  -- a start makes one call, of `init`, whatever the phase was
  abbrev pub Starts : (S → Started → S → Type 0) → BridgeState S → Started → BridgeState S → Type 0
  Starts inited before answer after =
      (subsystem : S) × inited before.subsystem answer subsystem × (after ≡ record { subsystem = subsystem; phase = phase_after_init answer })

  -- a turn of a bridge that is up makes one call, or, where it is killed, none; it ends with a reason, or goes on
  abbrev pub Turns : (S → Option Reason → S → Type 0) → (S → Reason → S → Type 0) → Signal → BridgeState S → Option Reason → BridgeState S → Type 0
  Turns polled terminated signal.Kill before ended after = (ended ≡ Some reason.Killed) × (after ≡ record before { phase = Terminated })
  Turns polled terminated signal.Shutdown before ended after =
      (subsystem : S) × terminated before.subsystem reason.Shutdown subsystem × (ended ≡ Some reason.Shutdown) × (after ≡ record { subsystem = subsystem; phase = Terminated })
  Turns polled terminated signal.None before ended after =
      (subsystem : S) × polled before.subsystem ended subsystem × (after ≡ record { subsystem = subsystem; phase = phase_after_poll ended })
