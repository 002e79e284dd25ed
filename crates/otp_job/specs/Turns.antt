-- What one turn of a process calls, and what becomes of the process.
-- (Erlang Reference Manual, "Processes", "Receiving Exit Signals"; supervisor, the keys start and shutdown; turns are own)
use Rattle.std.specs.Prelude.{◌≡◌, ℕ, ⊤, Bool, Option, Some, None}
use Rattle.otp_reason.specs.Delivery.{delivery_of}
use Rattle.otp_reason.specs.declared.delivery.Delivery.{Delivery}
use Rattle.otp_reason.specs.declared.delivery.Delivery.TheVariants as delivery
use Rattle.otp_reason.specs.declared.note.Note.{Note}
use Rattle.otp_reason.specs.declared.note.Note.TheVariants as note
use Rattle.otp_reason.specs.declared.note.Started.{Started}
use Rattle.otp_reason.specs.declared.note.Started.TheVariants as start
use Rattle.otp_reason.specs.declared.reason.Reason.{Reason}
use Rattle.otp_reason.specs.declared.reason.Reason.TheVariants as reason
use Rattle.otp_signals.specs.declared.signal.Signal.{Signal}
use Rattle.otp_signals.specs.declared.signal.Signal.TheVariants as signal
use Rattle.otp_job.specs.Bridges.{BridgeState, Starts, Turns}
use Rattle.otp_job.specs.declared.job.Told.{Told}
use Rattle.otp_job.specs.declared.job.Told.TheVariants as told
use Rattle.otp_job.specs.declared.job.Turn.{Turn}
use Rattle.otp_job.specs.declared.job.Turn.TheVariants as turn
use Rattle.otp_job.specs.declared.body.Body.{Body}
use Rattle.otp_job.specs.declared.body.Body.TheVariants as body
use Rattle.otp_job.specs.declared.process.ProcessPhase.{ProcessPhase}
use Rattle.otp_job.specs.declared.process.ProcessPhase.TheVariants as phase
use Rattle.otp_job.specs.declared.process.Ticket.{Ticket}
use Rattle.otp_job.specs.declared.turn.After.{After}
use Rattle.otp_job.specs.declared.turn.After.TheVariants as after
use Rattle.otp_job.specs.Places.{PlaceView, place_of}
use Rattle.otp_job.specs.Processes.{process_at}

module _ {J S : Type 0} where
  -- the process has ended, and its body goes home with the note
  abbrev pub done : Ticket → Note → Body J S → After J S
  done ticket note body = after.Done (record { note = note; body = body }) ticket.number

  abbrev pub exited : Ticket → Reason → Body J S → After J S
  exited ticket reason body = done ticket (note.Exit ticket.number reason) body

  -- what follows from the answer of a start
  abbrev pub after_start : Ticket → Started → Body J S → After J S
  after_start ticket start.Up body = after.Begun (process_at ticket phase.Running body) (note.Up ticket.number)
  after_start ticket start.Ignore body = done ticket (note.Ignored ticket.number) body
  after_start ticket (start.Fail reason) body = done ticket (note.Failed ticket.number reason) body

  -- what follows from the answer of a turn
  abbrev pub after_turn : Ticket → ProcessPhase → Turn → Body J S → After J S
  after_turn ticket phase turn.Again body = after.Again (process_at ticket phase body)
  after_turn ticket phase turn.Wait body = after.Waits (process_at ticket phase body)
  after_turn ticket phase (turn.End reason) body = exited ticket reason body

  -- what follows from a bridge's turn
  abbrev pub after_bridge : Ticket → ProcessPhase → Option Reason → Body J S → After J S
  after_bridge ticket phase None body = after.Again (process_at ticket phase body)
  after_bridge ticket phase (Some reason) body = exited ticket reason body

  -- one call of `begin`, in the place of this process at this reading; the body that goes on or home is what it left
  abbrev pub StartsJob : (J → PlaceView → Started → J → Type 0) → Ticket → ℕ → J → After J S → Type 0
  StartsJob started ticket reading job after =
      (answer : Started) × (left : J) × started job (place_of ticket reading) answer left × (after ≡ after_start ticket answer (body.Worker left))

  -- one call of `turn`, in which the job is told this
  abbrev pub TellsJob : (J → Told → Turn → J → Type 0) → Ticket → ProcessPhase → Told → J → After J S → Type 0
  TellsJob turned ticket phase told job after =
      (answer : Turn) × (left : J) × turned job told answer left × (after ≡ after_turn ticket phase answer (body.Worker left))

  -- what a shutdown does by its delivery: the job dies with no call, or is told, once
  abbrev pub OnShutdown : (J → Told → Turn → J → Type 0) → Ticket → ProcessPhase → Delivery → J → After J S → Type 0
  OnShutdown turned ticket now (delivery.Dies reason) job after = after ≡ exited ticket reason (body.Worker job)
  OnShutdown turned ticket now (delivery.Message _) job after = TellsJob turned ticket phase.Asked told.Shutdown job after
  OnShutdown turned ticket now delivery.Ignored job after = TellsJob turned ticket now told.Nothing job after

  -- a later turn of a job: a kill calls nothing, and one that was told of the shutdown isn't told again
  abbrev pub TurnsJob : (J → Bool) → (J → Told → Turn → J → Type 0) → Ticket → ProcessPhase → Signal → J → After J S → Type 0
  TurnsJob traps turned ticket now signal.Kill job after = after ≡ exited ticket reason.Killed (body.Worker job)
  TurnsJob traps turned ticket now signal.None job after = TellsJob turned ticket now told.Nothing job after
  TurnsJob traps turned ticket phase.Asked signal.Shutdown job after = TellsJob turned ticket phase.Asked told.Nothing job after
  TurnsJob traps turned ticket phase.Running signal.Shutdown job after = OnShutdown turned ticket phase.Running (delivery_of reason.Shutdown (traps job)) job after
  TurnsJob traps turned ticket phase.Fresh signal.Shutdown job after = OnShutdown turned ticket phase.Fresh (delivery_of reason.Shutdown (traps job)) job after

  -- one start of a bridge
  abbrev pub StartsBridge : (S → Started → S → Type 0) → Ticket → BridgeState S → After J S → Type 0
  StartsBridge inited ticket bridge after =
      (answer : Started) × (left : BridgeState S) × Starts inited bridge answer left × (after ≡ after_start ticket answer (body.Bridge left))

  -- one turn of a bridge
  abbrev pub TurnsBridge : (S → Option Reason → S → Type 0) → (S → Reason → S → Type 0) → Ticket → ProcessPhase → Signal → BridgeState S → After J S → Type 0
  TurnsBridge polled terminated ticket phase signal bridge after =
      (ended : Option Reason) × (left : BridgeState S) × Turns polled terminated signal bridge ended left × (after ≡ after_bridge ticket phase ended (body.Bridge left))

  -- the first turn of a process that is runnable, at this reading of the clock
  abbrev pub FirstTurn : (J → PlaceView → Started → J → Type 0) → (S → Started → S → Type 0) → Ticket → ℕ → Option (Body J S) → After J S → Type 0
  FirstTurn started inited ticket reading (Some (body.Worker job)) after = StartsJob started ticket reading job after
  FirstTurn started inited ticket reading (Some (body.Bridge bridge)) after = StartsBridge inited ticket bridge after
  FirstTurn started inited ticket reading (Some (body.Sup _)) after = ⊤
  FirstTurn started inited ticket reading None after = ⊤

  -- each later turn
  abbrev pub LaterTurn : (J → Bool) → (J → Told → Turn → J → Type 0) → (S → Option Reason → S → Type 0) → (S → Reason → S → Type 0) → Ticket → ProcessPhase → Signal → Option (Body J S) → After J S → Type 0
  LaterTurn traps turned polled terminated ticket now signal (Some (body.Worker job)) after = TurnsJob traps turned ticket now signal job after
  LaterTurn traps turned polled terminated ticket now signal (Some (body.Bridge bridge)) after = TurnsBridge polled terminated ticket now signal bridge after
  LaterTurn traps turned polled terminated ticket now signal (Some (body.Sup _)) after = ⊤
  LaterTurn traps turned polled terminated ticket now signal None after = ⊤
