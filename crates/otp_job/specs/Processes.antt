-- What contracts see of a process. (own, but for what traps and signals mean)
use Rattle.std.specs.Prelude.{◌≡◌, ℕ, ⊤, Bool, true, false, Option, Some, None}
use Rattle.otp_job.specs.declared.bridge.bridge.BridgePhase.TheVariants as bridge_phase
use Rattle.otp_job.specs.declared.body.Body.{Body}
use Rattle.otp_job.specs.declared.body.Body.TheVariants as body
use Rattle.otp_job.specs.declared.process.ProcessPhase.{ProcessPhase}
use Rattle.otp_job.specs.declared.process.ProcessPhase.TheVariants as phase
use Rattle.otp_job.specs.declared.process.Ticket.{Ticket}
use Rattle.otp_signals.specs.declared.signal.Signal.{Signal}
use Rattle.otp_signals.specs.declared.signal.Signal.TheVariants as signal

pub record ProcessState (J S : Type 0) : Type 0 where
  pub ticket : Ticket
  -- none where a nested supervisor's body has gone home
  pub body : Option (Body J S)
  pub phase : ProcessPhase

-- a signal that tells a process in this phase something: a kill, or a shutdown that it wasn't told yet
abbrev pub is_news : ProcessPhase → Signal → Bool
is_news _ signal.None = false
is_news phase.Fresh signal.Shutdown = true
is_news phase.Running signal.Shutdown = true
is_news phase.Asked signal.Shutdown = false
is_news _ signal.Kill = true

module _ {J S : Type 0} where
  -- the process of this ticket, in this phase and with this body
  abbrev pub process_at : Ticket → ProcessPhase → Body J S → ProcessState J S
  process_at ticket phase body = record { ticket = ticket; body = Some body; phase = phase }

  abbrev pub fresh_process : Ticket → Body J S → ProcessState J S
  fresh_process ticket body = process_at ticket phase.Fresh body

  -- a worker or a bridge
  abbrev pub IsRunnable : Option (Body J S) → Type 0
  IsRunnable (Some (body.Worker _)) = ⊤
  IsRunnable (Some (body.Bridge _)) = ⊤
  IsRunnable (Some (body.Sup _)) = ⊥
  IsRunnable None = ⊥

  -- a worker, or a bridge whose subsystem runs
  abbrev pub IsUp : Option (Body J S) → Type 0
  IsUp (Some (body.Worker _)) = ⊤
  IsUp (Some (body.Bridge b)) = b.phase ≡ bridge_phase.Up
  IsUp (Some (body.Sup _)) = ⊥
  IsUp None = ⊥

  -- a process that has started is up; a nested supervisor's has no turns, so it stays as it was made
  abbrev pub IsSettled : ProcessPhase → Option (Body J S) → Type 0
  IsSettled phase.Fresh body = ⊤
  IsSettled phase.Running body = IsUp body
  IsSettled phase.Asked body = IsUp body

  -- the table of a nested supervisor
  abbrev pub nested_table_of : Option (Body J S) → Option ℕ
  nested_table_of (Some (body.Sup table)) = Some table
  nested_table_of (Some (body.Worker _)) = None
  nested_table_of (Some (body.Bridge _)) = None
  nested_table_of None = None
