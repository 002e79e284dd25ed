-- What an order of one supervisor of a tree is to another (own): a supervisor below the root is a child of another, so that
-- what its parent orders of it, and what it tells of itself, stays in the tree. All other orders are for the outside.
use Rattle.std.specs.Prelude.{ℕ, ◌<◌, ⊤, List, Option, Some, None, position, slice_get}
use Rattle.otp_reason.specs.declared.note.Note.TheVariants as note
use Rattle.otp_reason.specs.declared.reason.Reason.{Reason}
use Rattle.otp_rules.specs.declared.ending.Cause.{Cause}
use Rattle.otp_rules.specs.declared.ending.Cause.TheVariants as cause
use Rattle.otp_rules.specs.declared.ending.Ending.{Ending}
use Rattle.otp_rules.specs.declared.ending.Ending.TheVariants as ending
use Rattle.otp_rules.specs.declared.event.Effect.{Effect}
use Rattle.otp_rules.specs.declared.event.Effect.TheVariants as effect
use Rattle.otp_table.specs.declared.row.Row.{Row}
use Rattle.otp_driver.specs.declared.driven.link.Link.{Link}
use Rattle.otp_driver.specs.declared.route.Route.{Route}
use Rattle.otp_driver.specs.declared.route.Route.TheVariants.{Outside, Start, Stop, Tell}
use Rattle.otp_driver.specs.Links.{holds_process, nested_of, note_of_end}
use Rattle.otp_driver.specs.Members.{row_at}

-- whom an order reaches is one of so many supervisors
abbrev pub IsWithin : ℕ → Route → Type 0
IsWithin count Outside = ⊤
IsWithin count (Start below _) = below < count
IsWithin count (Stop below) = below < count
IsWithin count (Tell parent _ _) = parent < count

abbrev pub start_route : Option ℕ → ℕ → Route
start_route None number = Outside
start_route (Some below) number = Start below number

abbrev pub stop_route : Option ℕ → Route
stop_route None = Outside
stop_route (Some below) = Stop below

abbrev pub tell_up : ℕ → Option ℕ → Route
tell_up parent None = Outside
tell_up parent (Some number) = Tell parent (note.Up number) None

-- a supervisor whose children have started is up for its parent; the root has none, and tells the outside
abbrev pub ready_route : Option Link → Route
ready_route None = Outside
ready_route (Some link) = tell_up link.parent link.process

-- why it ended, without what shows it
abbrev pub ending_in : Cause → Ending
ending_in (cause.Intensity _ _) = ending.Intensity
ending_in (cause.Significant p) = ending.Significant p
ending_in cause.Asked = ending.Asked
ending_in (cause.InitFailed id) = ending.InitFailed id

abbrev pub tell_end : Link → Option ℕ → Reason → Ending → Route
tell_end link None reason ending = Outside
tell_end link (Some number) reason ending = Tell link.parent (note_of_end link.is_up number reason) (Some ending)

-- one that has ended has ended for its parent, with the same reason; before it was up its start has failed
abbrev pub end_route : Option Link → Reason → Ending → Route
end_route None reason ending = Outside
end_route (Some link) reason ending = tell_end link link.process reason ending

-- what an order is, of the supervisor at this place that has these children. A supervisor is stopped in order, also where its
-- parent orders its kill
unfoldable pub route_of : List Link → ℕ → List Row → Effect → Route
route_of links place rows (effect.Start _ number) = start_route (nested_of links place (row_at rows number)) number
route_of links place rows (effect.Ask _ number) = stop_route (position (holds_process place number) links)
route_of links place rows (effect.Kill _ number) = stop_route (position (holds_process place number) links)
route_of links place rows (effect.Reply _) = Outside
route_of links place rows effect.Ready = ready_route (slice_get links place)
route_of links place rows (effect.End end) = end_route (slice_get links place) end.reason (ending_in end.cause)
