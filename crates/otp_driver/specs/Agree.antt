-- That a tree goes on in one way alone (own).
use Rattle.std.specs.Prelude.{◌≡◌}
use Rattle.otp_driver.specs.Driven.{Driven, Step}

-- whoever makes the next step of a tree, it is the same
abbrev pub StepsAgree : Type 0
StepsAgree = (t u v : Driven) → Step t u → Step t v → u ≡ v
