-- What processes of children do where nobody says otherwise (own).
use Rattle.std.specs.Prelude.{ℕ, Option, Some, None}
use Rattle.otp_reason.specs.declared.note.Note.{Note}
use Rattle.otp_reason.specs.declared.note.Note.TheVariants as note
use Rattle.otp_rules.specs.declared.event.Item.TheVariants as item
use Rattle.otp_rules.specs.declared.event.Kind.TheVariants as kind
use Rattle.otp_script.specs.declared.step.NextStart.{NextStart}
use Rattle.otp_script.specs.declared.step.NextStart.TheVariants as start
use Rattle.otp_trial.specs.declared.processes.world.Deed.{Deed}
use Rattle.otp_trial.specs.declared.processes.world.What.TheVariants as what

-- what a process tells whose start went so: it succeeds unless the script said otherwise
unfoldable pub note_of_start : Option NextStart → ℕ → Note
note_of_start None number = note.Up number
note_of_start (Some start.Ignore) number = note.Ignored number
note_of_start (Some (start.Fail reason)) number = note.Failed number reason

-- a note comes at the supervisor at this place
unfoldable pub told_to : ℕ → Note → Deed
told_to place told = record { place = place; what = what.Happen (kind.Took (item.Note told)) }
