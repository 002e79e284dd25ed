-- What a player stands for, and what it keeps.
use Rattle.std.specs.Prelude.{◌≡◌, ◌-◌, ◌≤◌, [], length}
use Rattle.otp_spec.specs.declared.limits.TheConstants.{MAX_READING}
use Rattle.otp_core.specs.declared.cut.TheConstants.{MAX_EVENTS_IN_ALL}
use Rattle.otp_rules.specs.Needs.{last_number}
use Rattle.otp_core.specs.View.{state_of}
use Rattle.otp_sim.specs.declared.player.Player.TheInside.{Inside}
use Rattle.otp_sim.specs.Sim.{Sim}

abbrev pub sim_of_player : Inside → Sim
sim_of_player p =
    record {
      state = state_of p.core;
      reading = p.reading;
      processes = last_number p.core.history;
      calls = p.calls;
      is_stopping = p.is_stopping;
      room = MAX_EVENTS_IN_ALL - length p.core.history;
      lines = p.lines;
      text = [];
      end = p.end;
    }

pub record IsPlayer (p : Inside) : Type 0 where
  pub effects : p.core.effects ≡ []
  pub reading : p.reading ≤ MAX_READING
  pub history : length p.core.history ≤ MAX_EVENTS_IN_ALL
  -- a number is given to an event at the most
  pub processes : last_number p.core.history ≤ length p.core.history
  pub calls : p.calls ≤ p.lines
