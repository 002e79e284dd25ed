-- What a supervisor of a tree stands for, and what it keeps.
use Rattle.std.specs.Prelude.{◌≡◌, ◌+◌, ◌<◌, All}
use Rattle.otp_driver.specs.declared.driven.supervisor.Supervisor.TheInside.{Inside}
use Rattle.otp_driver.specs.Members.{Member}
use Rattle.otp_rules.specs.Fit.{IsDistinct}
use Rattle.otp_rules.specs.Needs.{numbers_of}
use Rattle.otp_driver.specs.Replies.{AreAnswered}

abbrev pub member_of : Inside → Member
member_of s = record { base = s.core.base; given = s.core.earlier.greatest_number; history = s.core.history; effects = s.core.effects; taken = s.taken }

pub record IsMember (s : Inside) : Type 0 where
  pub flags : s.flags ≡ s.core.base.flags
  -- before its events each process was one child's, and had no number that they give
  pub apart : IsDistinct (s.core.earlier.greatest_number + 1) s.core.base
  pub above : All (λ n. s.core.earlier.greatest_number < n) (numbers_of s.core.history)
  -- what the orders tell of was answered since the last cut
  pub answered : AreAnswered s.core
