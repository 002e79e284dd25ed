-- What a core keeps.
use Rattle.std.specs.Prelude.{◌≡◌, ◌<◌, ◌≤◌, ◌++◌, All, Bool, true, false, ℕ, List, length}
use Rattle.std.specs.Bool.{OnTrue}
use Rattle.otp_rules.specs.declared.event.Event.{Event}
use Rattle.otp_base.specs.Lawful.{AreCounts}
use Rattle.otp_rules.specs.Evidence.{IsShowing}
use Rattle.otp_rules.specs.Rate.{IsRated}
use Rattle.otp_rules.specs.Cuts.{base_of, greater_of, greatest_call, older, told_before, Earlier}
use Rattle.otp_rules.specs.Needs.{IsLawfulHistory, last_number, numbers_of}
use Rattle.otp_rules.specs.State.{State}
use Rattle.otp_rules.specs.Run.{state_after}
use Rattle.otp_core.specs.declared.supervisor.Core.TheInside.{Inside}
use Rattle.otp_machine.specs.Seen.{HasMemory, IsSound, outcome_of}
use Rattle.otp_core.specs.View.{View}
use Rattle.otp_core.specs.declared.cut.TheConstants.{MAX_EVENTS_IN_ALL}
use Rattle.otp_spec.specs.declared.limits.TheConstants.{MAX_EVENTS}

-- the state at which the history begins
abbrev pub first_of : Inside → State
first_of a = a.origin.state

-- all events, those that were cut off too
abbrev pub events_of : Inside → List Event
events_of a = a.history.past ++ a.history.events

abbrev pub view_of : Inside → View
view_of a =
    record {
      base = first_of a;
      earlier = a.earlier;
      history = events_of a;
      cut = length a.history.past;
      effects = a.machine.orders.items;
      prepared = a.prepared;
    }

-- the answers and ends that a cut dropped
abbrev pub dropped : Inside → Earlier
dropped a = told_before (state_after (first_of a) a.history.past).replies (state_after (first_of a) a.history.past).ends

-- 1 for yes, 0 for no
abbrev pub one_if : Bool → ℕ
one_if true = 1
one_if false = 0

pub record HasRoom (a : Inside) : Type 0 where
  pub memory : HasMemory a.machine
  pub history : 0 < a.history.room

pub record IsCore (a : Inside) : Type 0 where
  -- with the answers and ends that were dropped, the state is the run of the history
  pub runs : older (dropped a) (outcome_of a.machine).state ≡ state_after (first_of a) (events_of a)
  -- the state is the run of the stored events from the checkpoint on
  pub kept : (outcome_of a.machine).state ≡ state_after (base_of (state_after (first_of a) a.history.past)) a.history.events
  pub lawful : IsLawfulHistory (first_of a) (events_of a)
  -- the numbers rise up to the last
  pub last : a.last_number ≡ last_number (events_of a)
  pub numbers : All (λ m. m ≤ a.last_number) (numbers_of (events_of a))
  -- what is counted of those that were cut off, and of all
  pub gone : a.gone_call ≡ greater_of a.earlier.greatest_call (greatest_call (dropped a).replies)
  pub stored : length a.history.events ≤ MAX_EVENTS
  pub events_cut : a.events_cut ≡ length a.history.past
  pub events : a.events_cut ≤ MAX_EVENTS_IN_ALL
  pub counts : AreCounts a.earlier
  pub starts : a.starts ≡ length (numbers_of (events_of a))
  -- the restarts at the beginning are in order and keep the rate
  pub shows : IsShowing (first_of a)
  pub rated : IsRated (first_of a)
  pub sound : IsSound a.machine
  pub room : OnTrue a.prepared (HasRoom a)
