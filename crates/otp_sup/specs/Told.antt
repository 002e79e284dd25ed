-- The ends of other supervisors that a supervisor was told are those that came with what it took. (own)
use Rattle.std.specs.Prelude.{ℕ, suc, ◌-◌, List, [], ◌∷◌, ◌++◌, is_some, nat_lt, if◌then◌else◌}
use Rattle.otp_rules.specs.declared.event.Event.{Event}
use Rattle.otp_bodies.specs.declared.letter.Message.{Message}
use Rattle.otp_bodies.specs.declared.told.ToldEnd.{ToldEnd}
use Rattle.otp_bodies.specs.Ends.{told_with}
use Rattle.otp_core.specs.View.{View}
use Rattle.otp_bodies.specs.Events.{item_of}

-- the end that a message told, if it told one, which the event at this place of a history took. Places are counted from the
-- last checkpoint on, before which there were so many events; what those took is kept no longer
abbrev pub told_at : ℕ → ℕ → Message → List ToldEnd
told_at cut place m = if nat_lt place cut then [] else told_with (place - cut) m.item m.end

-- the ends that these messages told, which the events from this place on took, one after the other
abbrev pub told_along : ℕ → ℕ → List Event → List Message → List ToldEnd
told_along cut place [] messages = []
told_along cut place (e ∷ events) [] = []
told_along cut place (e ∷ events) (m ∷ messages) =
    if is_some (item_of e.kind) then told_at cut place m ++ told_along cut (suc place) events messages else told_along cut (suc place) events (m ∷ messages)

-- all ends that messages told since the last checkpoint, which a history took
abbrev pub ends_told_in : View → List Message → List ToldEnd
ends_told_in core messages = told_along core.cut 0 core.history messages
