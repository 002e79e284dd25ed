-- A child is started, and its process answers (Supervisor Behaviour, Child Specification, start, and Starting a Supervisor).
use Rattle.std.specs.Prelude.{ℕ, ◌&&◌, Bool, Option, Some, remove, unwrap_or}
use Rattle.std.specs.Str.{bytes_eq}
use Rattle.otp_reason.specs.Names.{name_bytes}
use Rattle.otp_table.specs.declared.row.Row.{Row}
use Rattle.otp_table.specs.declared.row.RowState.{RowState}
use Rattle.otp_table.specs.declared.row.RowState.TheVariants.{Restarting, Starting, Undefined, Up}
use Rattle.otp_table.specs.Rows.{is_undefined}
use Rattle.otp_rules.specs.declared.call.CallFault.TheVariants as fault
use Rattle.otp_rules.specs.declared.call.Reply.TheVariants as reply
use Rattle.otp_rules.specs.declared.work.Due.{Due}
use Rattle.otp_rules.specs.declared.work.Sequel.{Sequel}
use Rattle.otp_rules.specs.declared.work.Sequel.TheVariants as sequel
use Rattle.otp_rules.specs.State.{Outcome, answer, closed, emit, put_last, with_rows}
use Rattle.otp_rules.specs.Places.{at_number, at_row, end_row, set_row}
use Rattle.otp_reason.specs.declared.reason.Reason.{Reason}
use Rattle.otp_rules.specs.declared.ending.Ending.TheVariants.{InitFailed}
use Rattle.otp_rules.specs.declared.event.Waiting.TheVariants as waiting
use Rattle.otp_rules.specs.Stops.{terminate}
use Rattle.otp_rules.specs.declared.event.Effect.TheVariants as effect
use Rattle.std.specs.Option.{option_eq}
use Rattle.std.specs.Ordering.{on}

-- the child to be started: it has no process
abbrev pub is_due : Due → Row → Bool
is_due due row = option_eq (on name_bytes bytes_eq) row.id due.id && is_undefined row.state

unfoldable pub start_row : Due → ℕ → ℕ → Row → Outcome → Outcome
start_row due n place row o = set_row place row (Starting n (unwrap_or due.kept n)) o

-- the child is ordered to start, under the number n
unfoldable pub start : Due → ℕ → Outcome → Outcome
start due n o = emit (effect.Start due.id n) (at_row (is_due due) o (start_row due n) o)

-- f of the number that is kept if the start fails, where the answer to a start is awaited
abbrev pub if_starting : (ℕ → Outcome → Outcome) → RowState → Outcome → Outcome
if_starting f (Starting _ k) o = f k o
if_starting f _ o = o

-- f at the row of process p, where the answer to its start is awaited; nothing changes else
unfoldable pub at_starting : ℕ → (ℕ → ℕ → Row → Outcome → Outcome) → Outcome → Outcome
at_starting p f o = at_number p (λ place row. if_starting (λ k. f k place row) row.state) o

-- process p runs: a call that started it is answered, other work goes on
unfoldable pub up_after : ℕ → Option Sequel → Outcome → Outcome
up_after p (Some (sequel.Added call)) o = answer call (reply.OkProcess p) (closed o)
up_after p (Some (sequel.Restarted call)) o = answer call (reply.OkProcess p) (closed o)
up_after p _ o = o

-- the note Up of process p
unfoldable pub take_up : ℕ → Outcome → Outcome
take_up p o = at_starting p (λ k place row x. up_after p x.state.follows (set_row place row (Up p) x)) o

-- the note Ignored of process p: the child stays without a process
unfoldable pub take_ignored : ℕ → Outcome → Outcome
take_ignored p o = at_starting p (λ k. end_row) o

-- the start failed. At the opening the supervisor ends; in a restart the next try waits (own: OTP sends itself
-- a message); a call is answered with the reason, and the child that it added is removed
unfoldable pub failed_after : Reason → ℕ → ℕ → Row → Option Sequel → Outcome → Outcome
failed_after r k place row (Some sequel.Ready) o = terminate (InitFailed row.spec.id) (set_row place row Undefined o)
failed_after r k place row (Some sequel.Nothing) o = closed (put_last (waiting.Retry k) (set_row place row (Restarting k) o))
failed_after r k place row (Some (sequel.Added call)) o =
    answer call (reply.Refused (fault.Start r)) (closed (with_rows (remove o.state.rows place) o))
failed_after r k place row (Some (sequel.Restarted call)) o =
    answer call (reply.Refused (fault.Start r)) (closed (set_row place row Undefined o))
failed_after r k place row _ o = o

-- the note Failed of process p
unfoldable pub take_failed : ℕ → Reason → Outcome → Outcome
take_failed p r o = at_starting p (λ k place row x. failed_after r k place row x.state.follows x) o
