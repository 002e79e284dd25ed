-- How many processes ended in a hand, and how many end notes its senders sent. (own)
use Rattle.std.specs.Prelude.{◌≡◌, ℕ, ◌+◌, ◌-◌, ◌^◌, Bool, false, List, [], ◌∷◌, Option, Some, None, length, min, sum_by}
use Rattle.otp_inbox.specs.Tokens.{SenderState, TakerState, all_sent}
use Rattle.otp_rules.specs.declared.event.Item.{Item}
use Rattle.otp_bodies.specs.declared.letter.Message.{Message}
use Rattle.otp_rules.specs.declared.event.Item.TheVariants as item
use Rattle.otp_run.specs.Schedulers.{SchedulerState, given_back, puts}
use Rattle.otp_bodies.specs.Letters.{is_end_note}
use Rattle.otp_hand.specs.Hands.{HandView, RunnerView, one_if}
use Rattle.otp_hand.specs.declared.runner.Unsent.{Unsent}

-- the note of a process's end: Ignored, Failed or Exit
abbrev pub is_end : Item → Bool
is_end (item.Note n) = is_end_note n
is_end (item.Call _ _) = false

abbrev pub end_of : Item → ℕ
end_of x = one_if (is_end x)

-- the end notes among these items
abbrev pub ends_in : List Item → ℕ
ends_in items = sum_by end_of items

-- one where a message that was sent is an end note, and none where it isn't
abbrev pub end_in : Message → ℕ
end_in m = end_of m.item

abbrev pub ends_among : List Message → ℕ
ends_among messages = sum_by end_in messages

-- the end notes that a sender sent, with those of the senders that it took in
abbrev pub end_share : SenderState Message → ℕ
end_share s = ends_among (all_sent s)

-- the end notes that several senders sent, with those of the senders that they took in
abbrev pub ends_sent : List (SenderState Message) → ℕ
ends_sent senders = sum_by end_share senders

-- no process ended meanwhile
abbrev pub NoneEnded : SchedulerState → SchedulerState → Type 0
NoneEnded old new = new.ended ≡ old.ended

module _ {J S : Type 0} where
  -- the end note that a hand still has to send
  abbrev pub ends_held : Option (Unsent J S) → ℕ
  ends_held None = 0
  ends_held (Some u) = end_of u.letter.item

  abbrev pub held_by : HandView J S → ℕ
  held_by h = ends_held h.unsent

  -- as many processes ended at the scheduler as end notes were sent, or are still to be sent
  abbrev pub HasEnded : SchedulerState → List (SenderState Message) → Option (Unsent J S) → Type 0
  HasEnded s senders unsent = s.ended ≡ ends_sent senders + ends_held unsent

  -- what a new process that is put and a note that is taken don't change: the scheduler's place among so many, by how much what it put and
  -- what began differ, and by how much what ended and the end notes that are to be sent do
  abbrev pub beside_of : RunnerView J S → List ℕ
  beside_of r =
      r.scheduler.own.index ∷ r.scheduler.count ∷ given_back r.scheduler ∷ (r.scheduler.begun - length (puts r.scheduler))
      ∷ (r.scheduler.ended - ends_held r.unsent) ∷ (ends_held r.unsent - r.scheduler.ended) ∷ []

-- so many end notes were taken by whoever opened the tree, as it is counted
abbrev pub CountsHeard : ℕ → TakerState Message → Type 0
CountsHeard heard w = heard ≡ min (ends_among w.taken) (2 ^ 64 - 1)
