-- What a tree that is driven stands for, and what it keeps.
use Rattle.std.specs.Prelude.{◌≡◌, ◌≤◌, length}
use Rattle.otp_spec.specs.declared.limits.TheConstants.{MAX_READING}
use Rattle.otp_driver.specs.declared.driver.Driver.TheInside.{Inside}
use Rattle.otp_driver.specs.Driven.{Driven}
use Rattle.otp_driver.specs.Links.{HaveParents}

abbrev pub driven_of : Inside → Driven
driven_of d = record { members = d.supervisors.items; links = d.links.items; reading = d.reading; last = d.last; calls = d.calls }

pub record IsDriver (d : Inside) : Type 0 where
  pub reading : d.reading ≤ MAX_READING
  -- each supervisor has a link
  pub links : length d.links.items ≡ length d.supervisors.items
  -- the parent of each is one of them
  pub parents : HaveParents (length d.links.items) d.links.items
