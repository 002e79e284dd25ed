-- What the worked rows are made of: specifications, flags and events.
use Rattle.std.specs.Prelude.{ℕ, List, Option, None, Some, codes, false, Bool}
use Rattle.otp_reason.specs.declared.name.Name.{Name}
use Rattle.otp_reason.specs.declared.note.Note.TheVariants as note
use Rattle.otp_reason.specs.Names.{name_of}
use Rattle.otp_reason.specs.Texts.{text_of}
use Rattle.otp_reason.specs.declared.reason.Reason.{Reason}
use Rattle.otp_reason.specs.declared.reason.Reason.TheVariants as reason
use Rattle.otp_spec.specs.declared.child.ChildSpec.{ChildSpec}
use Rattle.otp_spec.specs.declared.flags.SupFlags.{SupFlags}
use Rattle.otp_spec.specs.declared.flags.Strategy.{Strategy}
use Rattle.otp_spec.specs.declared.flags.AutoShutdown.{AutoShutdown}
use Rattle.otp_spec.specs.declared.child.Restart.{Restart}
use Rattle.otp_spec.specs.declared.child.Shutdown.{Shutdown}
use Rattle.otp_spec.specs.declared.child.Shutdown.TheVariants.{Milliseconds}
use Rattle.otp_spec.specs.declared.child.ChildType.TheVariants.{Worker}
use Rattle.otp_spec.specs.declared.child.Modules.TheVariants.{One}
use Rattle.otp_rules.specs.declared.event.Event.{Event}
use Rattle.otp_rules.specs.declared.event.Item.TheVariants as item
use Rattle.otp_rules.specs.declared.event.Kind.{Kind}
use Rattle.otp_rules.specs.declared.event.Kind.TheVariants as kind

abbrev pub named : List ℕ → Restart → Bool → Shutdown → ChildSpec
named bytes restart significant shutdown = record { id = name_of bytes; start = name_of bytes; restart = restart; significant = significant; shutdown = shutdown; kind = Worker; modules = One (name_of bytes) }

abbrev pub worker : List ℕ → Restart → ChildSpec
worker bytes restart = named bytes restart false (Milliseconds 5000)

abbrev pub flags : Strategy → ℕ → AutoShutdown → SupFlags
flags strategy intensity auto = record { strategy = strategy; intensity = intensity; period = 5; auto_shutdown = auto }

-- an event at a reading, without a number and with one
abbrev pub at : ℕ → Kind → Event
at t k = record { reading = t; number = None; kind = k }

abbrev pub with : ℕ → ℕ → Kind → Event
with n t k = record { reading = t; number = Some n; kind = k }

abbrev pub up : ℕ → Kind
up p = kind.Took (item.Note (note.Up p))

abbrev pub exit : ℕ → Reason → Kind
exit p r = kind.Took (item.Note (note.Exit p r))

abbrev pub error : Reason
error = reason.Error (text_of (codes "x"))

abbrev pub a : Option Name
a = Some (name_of (codes "a"))

abbrev pub b : Option Name
b = Some (name_of (codes "b"))
