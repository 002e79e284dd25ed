-- What a trial stands for, and what it keeps.
use Rattle.std.specs.Prelude.{◌<◌, ◌≤◌, length}
use Rattle.otp_spec.specs.declared.limits.TheConstants.{MAX_READING}
use Rattle.otp_trial.specs.declared.trial.Trial.TheInside.{Inside}
use Rattle.otp_trial.specs.Played.{Stand}

abbrev pub stand_of : Inside → Stand
stand_of t = record { seats = t.seats.items; clock = t.clock; time = t.time }

pub record IsTrial (t : Inside) : Type 0 where
  -- the root is the first
  pub root : 0 < length t.seats.items
  pub time : t.time ≤ MAX_READING
