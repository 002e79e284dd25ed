-- The events of a supervisor as a core keeps them.
use Rattle.std.specs.Prelude.{ℕ, List, [], ◌∷◌}
use Rattle.otp_reason.specs.declared.note.Note.TheVariants as note
use Rattle.otp_reason.specs.declared.reason.Reason.{Reason}
use Rattle.otp_reason.specs.declared.reason.Reason.TheVariants as reason
use Rattle.otp_reason.specs.declared.text.Text.{Text}
use Rattle.otp_rules.specs.declared.call.Call.{Call}
use Rattle.otp_rules.specs.declared.event.Event.{Event}
use Rattle.otp_rules.specs.declared.event.Item.TheVariants as item
use Rattle.otp_rules.specs.declared.event.Kind.{Kind}
use Rattle.otp_rules.specs.declared.event.Kind.TheVariants as kind

-- the events in their order, those that were cut off before them, and how many more can be kept without memory (own)
pub record Events : Type 0 where
  pub past : List Event
  pub events : List Event
  pub room : ℕ

-- the term of a reason, if it has one
abbrev pub terms_of : Reason → List Text
terms_of (reason.ShutdownWith term) = term ∷ []
terms_of (reason.Error term) = term ∷ []
terms_of _ = []

-- the term of the reason that an event tells, if there is one
abbrev pub terms_in : Kind → List Text
terms_in (kind.Took (item.Note (note.Failed _ why))) = terms_of why
terms_in (kind.Took (item.Note (note.Exit _ why))) = terms_of why
terms_in _ = []

-- the call that an event takes, if it takes one
abbrev pub calls_in : Kind → List Call
calls_in (kind.Took (item.Call _ call)) = call ∷ []
calls_in _ = []
