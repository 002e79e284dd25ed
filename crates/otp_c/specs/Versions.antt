-- The version that is told (own).
use Rattle.std.specs.Prelude.{ℕ, ◌+◌, ◌*◌}

-- a version as one number: eight bits each for the second and the third, so that a later one is greater
abbrev pub version_number : ℕ → ℕ → ℕ → ℕ
version_number major minor patch = major * 65536 + minor * 256 + patch
