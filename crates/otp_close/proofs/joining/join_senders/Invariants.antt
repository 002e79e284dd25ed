use Rattle.std.proofs.Common.{◌≡◌, ◌+◌, ◌++◌, length}
use Rattle.otp_hand.specs.Begun.{starts_credited}
use Rattle.otp_hand.specs.Ended.{ends_sent}
use Rattle.otp_run.specs.Lists.{AllAt}
use Rattle.otp_close.specs.Settlings.{HasGained, HasJoined, IsJoined}
use Rattle.otp_close.proofs.joining.join_senders.Given as goal

abbrev pub invariant-loop-sender : goal.invariant-loop-sender
invariant-loop-sender g l =
    record {
      joined : AllAt (IsJoined l.initial.senders l.yielded) l.senders;
      lists : AllAt (HasJoined l.initial.senders l.yielded) l.senders;
      shares : AllAt (HasGained l.initial.senders l.yielded) l.senders;
      len : length l.senders ≡ length l.initial.senders;
      starts : starts_credited l.senders ≡ starts_credited l.initial.senders + starts_credited l.yielded;
      ends : ends_sent l.senders ≡ ends_sent l.initial.senders + ends_sent l.yielded;
      all : l.yielded ++ l.sender-iterator.rest.items ≡ l.fn.others;
    }
