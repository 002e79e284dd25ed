-- What a checkpoint stands for.
use Rattle.std.specs.Prelude.{[], None, reverse}
use Rattle.otp_rules.specs.State.{State}
use Rattle.otp_base.specs.declared.base.Base.{Base}
use Rattle.otp_base.specs.declared.base.Counts.{Counts}

-- the state that it holds: it has no answers and no ends
abbrev pub state_in : Base → State
state_in b =
    record {
      flags = b.flags;
      specs = b.specs.items;
      rows = b.rows.items;
      stamps = b.stamps.items;
      to_stop = reverse b.to_stop.items;
      to_start = b.to_start.items;
      follows = b.follows;
      waiting = b.waiting.items;
      replies = [];
      ends = [];
      last = b.last;
      phase = b.phase;
    }

-- what is counted before the first opening
abbrev pub nothing : Counts
nothing = record { events = 0; starts = 0; restarts = 0; greatest_number = 0; greatest_call = None }
