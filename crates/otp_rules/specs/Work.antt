-- Open work goes on: children are stopped in reverse start order, then started in start order, then something follows
-- (Supervisor Behaviour, Supervision Principles, Stopping, and Restart Strategy).
use Rattle.std.specs.Prelude.{ℕ, ◌∷◌, List, None, Option, Some, [], if◌then◌else◌, is_some, position}
use Rattle.otp_table.specs.Rows.{is_awaited, row_has}
use Rattle.otp_rules.specs.declared.call.Reply.TheVariants as reply
use Rattle.otp_rules.specs.declared.work.Due.{Due}
use Rattle.otp_rules.specs.declared.work.Sequel.{Sequel}
use Rattle.otp_rules.specs.declared.work.Sequel.TheVariants as sequel
use Rattle.otp_rules.specs.State.{Outcome, answer, closed, emit, is_busy, with_work}
use Rattle.otp_rules.specs.Stops.{is_exit, tell, use_exit}
use Rattle.otp_rules.specs.declared.event.Effect.TheVariants as effect
use Rattle.std.specs.List.{list_any}
use Rattle.otp_rules.specs.Ends.{end_all}
use Rattle.otp_rules.specs.Starts.{start}

-- what follows the work, which closes
unfoldable pub follow : Option Sequel → Outcome → Outcome
follow None o = o
follow (Some sequel.Ready) o = emit effect.Ready (closed o)
follow (Some sequel.Nothing) o = closed o
follow (Some (sequel.Added call)) o = answer call reply.OkUndefined (closed o)
follow (Some (sequel.Restarted call)) o = answer call reply.OkUndefined (closed o)
follow (Some (sequel.Stopped call)) o = answer call reply.Ok (closed o)
follow (Some (sequel.End ending)) o = end_all ending o

-- the first child to start gets the number
unfoldable pub start_first : List Due → ℕ → Outcome → Outcome
start_first [] n o = follow o.state.follows o
start_first (due ∷ dues) n o = start due n (with_work o.state.to_stop dues o.state.follows o)

-- the first child to stop ends at once if its end waits; else it is told to stop
unfoldable pub stop_first : List ℕ → ℕ → Outcome → Outcome
stop_first [] n o = start_first o.state.to_start n o
stop_first (p ∷ ps) n o =
    if is_some (position (is_exit p) o.state.waiting)
    then stop_first ps n (use_exit p (position (is_exit p) o.state.waiting) (with_work ps o.state.to_start o.state.follows o))
    else tell p (with_work ps o.state.to_start o.state.follows o)

-- the open work goes on as far as it can: not while an answer of a child is awaited
unfoldable pub advance : ℕ → Outcome → Outcome
advance n o =
    if is_busy o then (if list_any (row_has is_awaited) o.state.rows then o else stop_first o.state.to_stop n o) else o
