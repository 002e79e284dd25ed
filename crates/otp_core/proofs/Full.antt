-- When a core is full.
use Rattle.std.proofs.Common.{◌≡◌, ◌<◌, length, refl, sym}
use Rattle.std.specs.Prelude.{Bool, true, false, ◌||◌}
use Rattle.std.proofs.lemmas.Bool.{false≢true, leb-false}
use Rattle.otp_spec.specs.declared.limits.TheConstants.{MAX_EVENTS}
use Rattle.otp_core.specs.Full.{has_most_events, has_most_lines, is_full}
use Rattle.otp_core.specs.View.{View, stored_of}

neither : (a b : Bool) → (a || b) ≡ false → (a ≡ false) × (b ≡ false)
neither true b h = absurd (false≢true (sym h))
neither false b h = (refl, h)

-- a core that isn't full stores fewer events than it may
pub few_stored : (v : View) → is_full v ≡ false → length (stored_of v) < MAX_EVENTS
few_stored v h = leb-false MAX_EVENTS (length (stored_of v)) (neither (has_most_events v) (has_most_lines v) h).0
