-- Nothing but memory was taken: a core is the same to whoever decides.
use Rattle.std.proofs.Common.{◌≡◌, ◌∙◌, false, ap, refl}
use Rattle.otp_core.specs.View.{View, stored_of}
use Rattle.otp_bodies.specs.Offices.{OfficeView}
use Rattle.otp_core.specs.Full.{is_full}
use Rattle.otp_bodies.specs.Events.{Readied}

pub readied_base : (old new : OfficeView) → Readied old new → new.core.base ≡ old.core.base
readied_base old new r = ap (λ (v : View). v.base) r.core

pub readied_history : (old new : OfficeView) → Readied old new → new.core.history ≡ old.core.history
readied_history old new r = ap (λ (v : View). v.history) r.core

pub readied_stored : (old new : OfficeView) → Readied old new → stored_of new.core ≡ stored_of old.core
readied_stored old new r = ap stored_of r.core

pub readied_cut : (old new : OfficeView) → Readied old new → new.core.cut ≡ old.core.cut
readied_cut old new r = ap (λ (v : View). v.cut) r.core

-- there is room as before
pub readied_room : (old new : OfficeView) → Readied old new → is_full old.core ≡ false → is_full new.core ≡ false
readied_room old new r room = ap is_full r.core ∙ room

-- where it was there already, nothing at all was taken
pub readied_before : (o : OfficeView) → Readied o o
readied_before o = record { core = refl; owner = refl; outbox = refl; sent = refl; first_slot = refl }
