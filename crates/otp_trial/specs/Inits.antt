-- How long the starts of children take (own).
use Rattle.std.specs.Prelude.{ℕ, ◌==◌, Bool, true, ◌&&◌, List, [], ◌∷◌, ◌++◌, Option, Some, None, option_map, position, slice_get, slice_set}
use Rattle.std.specs.Str.{bytes_eq}
use Rattle.otp_reason.specs.Names.{name_bytes}
use Rattle.otp_reason.specs.declared.name.Name.{Name}
use Rattle.otp_trial.specs.declared.processes.inits.Init.{Init}

-- it is said of this child of the supervisor at this place
abbrev pub is_init_of : ℕ → Name → Init → Bool
is_init_of place id init = init.place == place && bytes_eq (name_bytes init.id) (name_bytes id)

-- where that stands; a dynamic child has no id, and nothing is said of it
unfoldable pub init_for : ℕ → Option Name → List Init → Option ℕ
init_for place None inits = None
init_for place (Some id) inits = position (is_init_of place id) inits

-- how long a start takes, if that is said
unfoldable pub time_said : List Init → Option ℕ → Option ℕ
time_said inits None = None
time_said inits (Some at) = option_map (λ init. init.time) (slice_get inits at)

unfoldable pub used_in : ℕ → Option Init → List Init → List Init
used_in at None inits = inits
used_in at (Some init) inits = slice_set inits at (record init { is_used = true })

-- it was used, and stays for the next start
unfoldable pub used_init : List Init → Option ℕ → List Init
used_init inits None = inits
used_init inits (Some at) = used_in at (slice_get inits at) inits

-- what is said later of a child takes the place of what was said of it before
unfoldable pub with_init : Init → Option ℕ → List Init → List Init
with_init init None inits = inits ++ init ∷ []
with_init init (Some at) inits = slice_set inits at init
