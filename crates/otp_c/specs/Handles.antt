-- What a call does with a handle (own).
use Rattle.std.specs.Prelude.{◌≡◌, ℕ, Option, None, Some, is_some}
use Rattle.otp_driver.specs.declared.session.Session.{Session}
use Rattle.otp_c.specs.declared.shapes.status.TheConstants.{OTP_CLOSED}

-- an empty handle is told so
abbrev pub IsTold : Option Session → ℕ → Type 0
IsTold held status = held ≡ None → status ≡ OTP_CLOSED

-- an empty handle stays empty, and one with a tree keeps it
abbrev pub IsKept : Option Session → Option Session → Type 0
IsKept old new = is_some new ≡ is_some old

-- what a call does with the tree of a handle, where there is one
abbrev pub OnTree : Option Session → Option Session → (Session → Session → Type 0) → Type 0
OnTree old new does = (before : Session) → old ≡ Some before → (after : Session) × (new ≡ Some after) × does before after

-- a call that only reads the tree
abbrev pub Reading : (Session → Type 0) → Session → Session → Type 0
Reading Says before after = (after ≡ before) × Says before
