-- The world of a run: what comes of each order that a supervisor gives (own).
use Rattle.std.specs.Prelude.{◌≡◌, ℕ, ◌++◌, ◌==◌, Bool, true, false, List, Option, Some, None, if◌then◌else◌, position, slice_get}
use Rattle.std.specs.List.{remove}
use Rattle.otp_reason.specs.declared.name.Name.{Name}
use Rattle.otp_reason.specs.declared.note.Note.TheVariants as note
use Rattle.otp_reason.specs.declared.reason.Reason.{Reason}
use Rattle.otp_reason.specs.declared.reason.Reason.TheVariants as reason
use Rattle.otp_rules.specs.declared.event.Effect.{Effect}
use Rattle.otp_rules.specs.declared.event.Effect.TheVariants as effect
use Rattle.otp_script.specs.declared.step.NextStart.{NextStart}
use Rattle.otp_driver.specs.Links.{asked, gone, holds_process, nested_of, note_of_end, up}
use Rattle.otp_driver.specs.Members.{row_at}
use Rattle.otp_driver.specs.declared.driven.link.Link.{Link}
use Rattle.otp_table.specs.declared.row.Row.{Row}
use Rattle.otp_trial.specs.Deeds.{note_of_start, told_to}
use Rattle.otp_trial.specs.Inits.{init_for, time_said, used_init}
use Rattle.otp_trial.specs.Late.{delayed, forgotten, started_late}
use Rattle.otp_trial.specs.Links.{changed_at}
use Rattle.otp_trial.specs.Plans.{delay_said, is_hung, plan_for, start_found, without_plan}
use Rattle.otp_trial.specs.declared.processes.inits.Init.{Init}
use Rattle.otp_trial.specs.declared.processes.late.Due.{Due}
use Rattle.otp_trial.specs.declared.processes.late.Due.TheVariants as due
use Rattle.otp_trial.specs.declared.processes.late.Late.{Late}
use Rattle.otp_trial.specs.declared.processes.plans.Hang.{Hang}
use Rattle.otp_trial.specs.declared.processes.plans.PlannedStart.{PlannedStart}
use Rattle.otp_trial.specs.declared.processes.world.Deed.{Deed}
use Rattle.otp_trial.specs.declared.processes.world.What.TheVariants as what

-- how the supervisors stand, what the script said beforehand and has not come, how long starts take, what comes late, what comes
-- next, and the line that is played
pub record Around : Type 0 where
  pub links : List Link
  pub starts : List PlannedStart
  pub inits : List Init
  pub hanging : List Hang
  pub late : List Late
  pub deeds : List Deed
  pub line : ℕ

-- what comes of a start: the process tells how it went; or where the child is a supervisor with a table of its own and the
-- script said nothing, that starts
unfoldable pub deed_of_start : ℕ → ℕ → Option NextStart → Option ℕ → Deed
deed_of_start place number None (Some below) = record { place = below; what = what.Start number }
deed_of_start place number None None = told_to place (note_of_start None number)
deed_of_start place number (Some start) below = told_to place (note_of_start (Some start) number)

-- what comes of it that a process is to end: it does, for this reason; a supervisor ends by its own rules, and nothing comes at once
unfoldable pub deed_of_stop : ℕ → ℕ → Reason → Option ℕ → Option Deed
deed_of_stop place number why None = Some (told_to place (note.Exit number why))
deed_of_stop place number why (Some below) = None

-- it is wanted to shut down then
unfoldable pub stopped_below : Option ℕ → List Link → List Link
stopped_below None links = links
stopped_below (Some below) links = changed_at asked below links

unfoldable pub ready_as : ℕ → Option ℕ → Option Deed
ready_as parent None = None
ready_as parent (Some number) = Some (told_to parent (note.Up number))

-- what a supervisor tells its parent that has started its children; the root has none to tell
unfoldable pub deed_of_ready : Option Link → Option Deed
deed_of_ready None = None
deed_of_ready (Some link) = ready_as link.parent link.process

unfoldable pub end_as : Link → Reason → Option ℕ → Option Deed
end_as link why None = None
end_as link why (Some number) = Some (told_to link.parent (note_of_end link.is_up number why))

-- what one tells that has ended
unfoldable pub deed_of_end : Option Link → Reason → Option Deed
deed_of_end None why = None
deed_of_end (Some link) why = end_as link why link.process

-- the process of this number, of a child of the supervisor at this place, is to end for this reason
abbrev pub Stops : ℕ → ℕ → Reason → Around → Option Deed → Around → Type 0
Stops place number why old deed new =
    (deed ≡ deed_of_stop place number why (position (holds_process place number) old.links))
    × (new ≡ record old { links = stopped_below (position (holds_process place number) old.links) old.links })

-- how long a start takes: no time where nothing is said of it
unfoldable pub time_taken : Option ℕ → ℕ
time_taken None = 0
time_taken (Some time) = time

-- how long the starts of this child take
abbrev pub time_of : ℕ → Option Name → List Init → ℕ
time_of place id inits = time_taken (time_said inits (init_for place id inits))

-- what comes of a start comes at once, if that takes no time
unfoldable pub at_once : ℕ → Deed → Option Deed
at_once time told = if time == 0 then Some told else None

-- what comes of the start of a child, one of these children of the supervisor at this place: the next thing that the script said
-- of it. It is a supervisor with a table of its own where the driver of a tree opens one
abbrev pub told_of_start : ℕ → List Row → Option Name → ℕ → Around → Deed
told_of_start place rows id number old =
    deed_of_start place number (start_found old.starts (plan_for place id old.starts)) (nested_of old.links place (row_at rows number))

-- a child is started: that comes at once, or as much later as the script said that its starts take; and what it said of this one is
-- used up
abbrev pub Starts : ℕ → ℕ → List Row → Option Name → ℕ → Around → Option Deed → Around → Type 0
Starts now place rows id number old deed new =
    (deed ≡ at_once (time_of place id old.inits) (told_of_start place rows id number old))
    × (new ≡ record old {
      starts = without_plan old.starts (plan_for place id old.starts);
      inits = used_init old.inits (init_for place id old.inits);
      late = old.late ++ started_late now place number (time_of place id old.inits) (told_of_start place rows id number old);
    })

-- a supervisor has started its children
abbrev pub Readies : ℕ → Around → Option Deed → Around → Type 0
Readies place old deed new = (deed ≡ deed_of_ready (slice_get old.links place)) × (new ≡ record old { links = changed_at up place old.links })

-- a supervisor has ended
abbrev pub Ends : ℕ → Reason → Around → Option Deed → Around → Type 0
Ends place why old deed new = (deed ≡ deed_of_end (slice_get old.links place) why) × (new ≡ record old { links = changed_at (gone None) place old.links })

-- a process is asked to shut down of which the script said, at this place, that it ends later or never: that is used up
abbrev pub PutsOff : ℕ → ℕ → ℕ → ℕ → Around → Around → Type 0
PutsOff at now place number old new =
    new ≡ record old { hanging = remove old.hanging at; late = old.late ++ delayed now place number (delay_said (slice_get old.hanging at)) }

-- a process is asked to shut down, of which the script said that or nothing
unfoldable pub AsksFor : Option ℕ → ℕ → ℕ → ℕ → Around → Option Deed → Around → Type 0
AsksFor None now place number old deed new = Stops place number reason.Shutdown old deed new
AsksFor (Some at) now place number old deed new = (deed ≡ None) × PutsOff at now place number old new

abbrev pub Asks : ℕ → ℕ → Option Name → ℕ → Around → Option Deed → Around → Type 0
Asks now place id number old deed new = AsksFor (position (is_hung place id number) old.hanging) now place number old deed new

-- a process is killed: it ends, and does nothing later
abbrev pub Kills : ℕ → ℕ → Around → Option Deed → Around → Type 0
Kills place number old deed new = Stops place number reason.Killed (record old { late = forgotten number old.late }) deed new

-- what comes of an order that the supervisor at this place gives now, which has these children
unfoldable pub Does : ℕ → ℕ → List Row → Effect → Around → Option Deed → Around → Type 0
Does now place rows (effect.Start id number) old deed new = Starts now place rows id number old deed new
Does now place rows (effect.Ask id number) old deed new = Asks now place id number old deed new
Does now place rows (effect.Kill id number) old deed new = Kills place number old deed new
Does now place rows (effect.Reply call) old deed new = (deed ≡ None) × (new ≡ old)
Does now place rows effect.Ready old deed new = Readies place old deed new
Does now place rows (effect.End end) old deed new = Ends place end.reason old deed new

-- a process of a child of the supervisor at this place does late what it was asked to: it shuts down, or has started
unfoldable pub ComesBy : Due → ℕ → ℕ → Around → Option Deed → Around → Type 0
ComesBy due.End place number old deed new = Stops place number reason.Shutdown old deed new
ComesBy (due.Start told) place number old deed new = (deed ≡ Some told) × (new ≡ old)

-- nothing comes of it where the supervisor has no process
abbrev pub Comes : Bool → Late → Around → Option Deed → Around → Type 0
Comes true late old deed new = ComesBy late.due late.place late.process old deed new
Comes false late old deed new = (deed ≡ None) × (new ≡ old)

-- the process of this number is gone: of what is planned and what comes next nothing changes
abbrev pub LosesSo : ℕ → Around → Around → Type 0
LosesSo number old new = new ≡ record old { links = new.links; late = forgotten number old.late }
