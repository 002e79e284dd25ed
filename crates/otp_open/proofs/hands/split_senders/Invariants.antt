use Rattle.std.proofs.Common.{◌≡◌, length}
use Rattle.otp_hand.specs.Begun.{starts_credited}
use Rattle.otp_hand.specs.Ended.{ends_sent}
use Rattle.otp_hand.specs.Seats.{Seated}
use Rattle.otp_hand.specs.Standings.{AreSplit}
use Rattle.otp_open.proofs.hands.split_senders.Given as goal

abbrev pub invariant-loop-place : goal.invariant-loop-place
invariant-loop-place g l = Seated l.list.items × (length l.list.items ≡ l.place) × (length l.senders ≡ length l.initial.senders) × (starts_credited l.list.items ≡ 0) × (starts_credited l.senders ≡ starts_credited l.initial.senders) × (ends_sent l.list.items ≡ 0) × (ends_sent l.senders ≡ ends_sent l.initial.senders) × AreSplit l.list.items l.initial.senders l.senders
