-- Hands in two parts: their schedulers, and the rest. (own)
use Rattle.std.specs.Prelude.{◌≡◌, ◌+◌, ⊤, List, [], ◌∷◌, length, map, is_some}
use Rattle.otp_run.specs.Schedulers.{SchedulerState, out}
use Rattle.otp_close.specs.declared.parting.Rest.{Rest}
use Rattle.otp_hand.specs.Begun.{HasCredited}
use Rattle.otp_hand.specs.Ended.{HasEnded}
use Rattle.otp_hand.specs.Hands.{HandView, one_if}

module _ {J S : Type 0} where
  abbrev pub scheduler_of : HandView J S → SchedulerState
  scheduler_of h = h.scheduler

  -- the schedulers of all hands
  abbrev pub schedulers_of : List (HandView J S) → List SchedulerState
  schedulers_of hands = map scheduler_of hands

module _ {N J S : Type 0} where
  -- the hand of a scheduler and the rest
  abbrev pub hand_of : SchedulerState → Rest N J S → HandView J S
  hand_of s r = record { scheduler = s; senders = r.senders; turning = r.turning; waiting = r.waiting; resting = r.resting; unsent = r.unsent; refusals = r.refusals.count; passes = r.passes.items }

  -- the hands of all schedulers and their rests
  abbrev pub joined : List SchedulerState → List (Rest N J S) → List (HandView J S)
  joined [] rs = []
  joined (s ∷ ss) [] = []
  joined (s ∷ ss) (r ∷ rs) = hand_of s r ∷ joined ss rs

  -- a scheduler and the rest are a hand: out are the processes that the rest has, what began was credited to its senders, and
  -- the notes of what ended were sent, or are still to be sent
  pub record IsPair (s : SchedulerState) (r : Rest N J S) : Type 0 where
    pub out_is : out s ≡ one_if (is_some r.turning) + length r.waiting + length r.resting
    pub credited : HasCredited s r.senders
    pub ended : HasEnded s r.senders r.unsent

  -- each scheduler has its rest
  abbrev pub ArePaired : List SchedulerState → List (Rest N J S) → Type 0
  ArePaired [] rs = ⊤
  ArePaired (s ∷ ss) [] = ⊥
  ArePaired (s ∷ ss) (r ∷ rs) = IsPair s r × ArePaired ss rs
