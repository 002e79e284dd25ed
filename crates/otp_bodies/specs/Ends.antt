-- The ends of supervisors that a history was told (Supervisor Behaviour, nested supervisors).
use Rattle.std.specs.Prelude.{◌≡◌, ℕ, ◌<◌, List, [], ◌∷◌, Option, Some, None, slice_get, All, AllPairs}
use Rattle.otp_reason.specs.declared.note.Note.{Note}
use Rattle.otp_rules.specs.declared.ending.SupEnd.{SupEnd}
use Rattle.otp_rules.specs.declared.event.Event.{Event}
use Rattle.otp_rules.specs.declared.event.Item.{Item}
use Rattle.otp_rules.specs.declared.event.Item.TheVariants as item
use Rattle.otp_rules.specs.declared.event.Kind.TheVariants as kind
use Rattle.otp_rules.specs.Evidence.{IsEvidence}
use Rattle.otp_bodies.specs.declared.told.ToldEnd.{ToldEnd}
use Rattle.otp_bodies.specs.Letters.{Tells, number_of}

-- the end that came with an item, as the one that the event at this place of a history told
abbrev pub told_with : ℕ → Item → Option SupEnd → List ToldEnd
told_with event x None = []
told_with event (item.Note n) (Some end) = record { event = event; number = number_of n; end = end } ∷ []
told_with event (item.Call _ _) (Some end) = []

-- the event took the note that told this end, which is for the note's reason and shown
pub record IsToldIn (history : List Event) (x : ToldEnd) : Type 0 where
  pub event : Event
  pub note : Note
  pub at : slice_get history x.event ≡ Some event
  pub took : event.kind ≡ kind.Took (item.Note note)
  pub number : x.number ≡ number_of note
  pub tells : Tells note x.end
  pub shown : IsEvidence x.end

-- these ends were told by events of this history, each by another one, in their order
pub record AreTold (history : List Event) (ends : List ToldEnd) : Type 0 where
  pub each : All (IsToldIn history) ends
  pub rising : AllPairs (λ (a b : ToldEnd). a.event < b.event) ends
