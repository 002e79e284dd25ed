-- What a checkpoint counts, and that what happens after it is the same.
use Rattle.std.specs.Prelude.{◌+◌, ◌-◌, ◌^◌, List, length, max, min}
use Rattle.otp_rules.specs.declared.event.Event.{Event}
use Rattle.otp_rules.specs.Cuts.{greater_of, greatest_call, GoesOnFromCut}
use Rattle.otp_rules.specs.Needs.{last_number, numbers_of}
use Rattle.otp_rules.specs.Run.{state_after}
use Rattle.otp_rules.specs.State.{State}
use Rattle.otp_base.specs.declared.base.Counts.{Counts}
use Rattle.otp_core.specs.View.{View, state_of}

-- what there was before the core and since: of restarts those since the last opening that the core knows of
abbrev pub counted : View → Counts
counted v =
    record {
      events = v.earlier.events + length v.history;
      starts = v.earlier.starts + length (numbers_of v.history);
      restarts = min (length (state_of v).stamps) (2 ^ 64 - 1);
      greatest_number = max v.earlier.greatest_number (last_number v.history);
      greatest_call = greater_of v.earlier.greatest_call (greatest_call (state_of v).replies);
    }

-- whatever happens later gives the same orders from the checkpoint of this state as from the state itself, and leads to the
-- same state, but for answers, ends and restarts that no longer count
abbrev pub GoesOn : State → Type 0
GoesOn s = (later : List Event) → GoesOnFromCut s later (state_after s later)
