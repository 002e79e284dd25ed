-- What a supervisor of a trial and the trial itself stand for, and what they keep.
use Rattle.std.specs.Prelude.{◌≡◌, true}
use Rattle.otp_rules.specs.Run.{empty_state}
use Rattle.otp_trial.specs.declared.seat.TriedSupervisor.TheInside.{Inside}
use Rattle.otp_trial.specs.Played.{Seated}
use Rattle.otp_trial.specs.Starts.{started_by}

abbrev pub seated_of : Inside → Seated
seated_of s = record { path = s.path.items; tells = s.tells; base = s.core.base; history = s.core.history; strain = s.strain; aways = s.aways.items }

pub record IsSeat (s : Inside) : Type 0 where
  -- it was opened with what it is to be opened with
  pub base : s.core.base ≡ empty_state s.supervisor.flags s.supervisor.specs
  -- all its starts are kept, unless memory was refused meanwhile
  pub starts : s.is_whole ≡ true → s.starts.items ≡ started_by s.core.base s.core.history
