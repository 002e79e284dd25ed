-- How the supervisors of a world stand: a list of links, the root's first, each with the place of its parent (own).
use Rattle.std.specs.Prelude.{ℕ, Bool, false, List, Option, Some, None, slice_get, slice_set}
use Rattle.otp_driver.specs.Links.{runs}
use Rattle.otp_driver.specs.declared.driven.link.Link.{Link}

unfoldable pub has_process_in : ℕ → Option Link → Bool
has_process_in place None = false
has_process_in place (Some link) = runs place link

-- the supervisor at this place has a process; the root always has one
unfoldable pub has_process_at : ℕ → List Link → Bool
has_process_at place links = has_process_in place (slice_get links place)

unfoldable pub is_stopping_in : Option Link → Bool
is_stopping_in None = false
is_stopping_in (Some link) = link.is_stopping

-- it is wanted to shut down
unfoldable pub is_stopping_at : ℕ → List Link → Bool
is_stopping_at place links = is_stopping_in (slice_get links place)

unfoldable pub changed_in : (Link → Link) → ℕ → Option Link → List Link → List Link
changed_in change place None links = links
changed_in change place (Some link) links = slice_set links place (change link)

-- the supervisor at this place stands so from now on
unfoldable pub changed_at : (Link → Link) → ℕ → List Link → List Link
changed_at change place links = changed_in change place (slice_get links place) links
