-- What a tree did of what comes by itself.
use Rattle.std.specs.Prelude.{◌≡◌, ℕ, Bool, true, false}
use Rattle.otp_driver.specs.Driven.{Driven, IsIdle, IsOutside, Step}

-- the next order of the supervisor at this place was done; or nothing, since it is for the outside
abbrev pub Turns : Bool → ℕ → Driven → Driven → Type 0
Turns true place old new = Step old new
Turns false place old new = (new ≡ old) × IsOutside old place

-- once all orders were taken a step was made; or none, since nothing is left to do
abbrev pub Idles : Bool → Driven → Driven → Type 0
Idles true old new = Step old new
Idles false old new = (new ≡ old) × IsIdle old
