-- Checkpoints of an office: its events are stored no longer, and nothing that comes depends on them. (own)
use Rattle.std.specs.Prelude.{◌<◌, [], length}
use Rattle.otp_core.specs.declared.cut.TheConstants.{MAX_EVENTS_IN_ALL}
use Rattle.otp_core.specs.View.{View}
use Rattle.otp_bodies.specs.Offices.{OfficeView}

-- no event is stored any more: the state that all of them gave is where the next one begins
abbrev pub cut_office : OfficeView → OfficeView
cut_office o = record o { core = record o.core { cut = length o.core.history; effects = [] } }

-- there were more events in all than a checkpoint counts
abbrev pub HasTooManyEvents : View → Type 0
HasTooManyEvents v = MAX_EVENTS_IN_ALL < length v.history
