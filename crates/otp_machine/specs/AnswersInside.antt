-- What the kept answers stand for.
use Rattle.std.specs.Prelude.{◌≡◌, ℕ, ◌+◌, ◌-◌, ◌^◌, ◌<◌, ◌≤◌, List, Option, All, AllPairs, IsTrue, get_or, length, map, min, vec_len, vec_capacity}
use Rattle.otp_rules.specs.declared.call.Answered.{Answered}
use Rattle.otp_rules.specs.declared.call.ChildLine.{ChildLine}
use Rattle.otp_rules.specs.declared.call.Reply.{Reply}
use Rattle.otp_rules.specs.declared.call.Reply.TheVariants as reply
use Rattle.otp_rules.specs.Counts.{lines_told}
use Rattle.otp_machine.specs.declared.stores.answers.StoredAnswer.{StoredAnswer}
use Rattle.otp_machine.specs.declared.stores.answers.Answers.TheInside.{Inside}
use Rattle.otp_machine.specs.Kept.{Kept, list_of}

-- the answer that tells of one of these replies
abbrev pub answer_in : List Reply → StoredAnswer → Answered
answer_in replies t = record { call = t.call; reply = get_or replies t.place reply.Ok }

-- the list of children that the reply at the place is
abbrev pub list_at : List Reply → ℕ → Option (List ChildLine)
list_at replies place = list_of (get_or replies place reply.Ok)

abbrev pub kept_of : Inside → Kept
kept_of a = record { answers = map (answer_in a.replies.items) a.told.items; last_list = list_at a.replies.items a.children; room = a.room }

pub record IsKept (a : Inside) : Type 0 where
  -- each answer has its reply
  pub places : All (λ t. t.place < length a.replies.items) a.told.items
  -- calls were answered in the order of their numbers
  pub rising : IsTrue a.is_rising → AllPairs (λ one later. one.call < later.call) a.told.items
  -- the lines of all lists that were told
  pub lines : a.lines ≡ min (lines_told (map (answer_in a.replies.items) a.told.items)) (2 ^ 64 - 1)
  -- the room is there
  pub told : vec_len a.told + a.room ≤ vec_capacity a.told
  pub replies : vec_len a.replies + a.room ≤ vec_capacity a.replies
