use Rattle.std.proofs.Common.{◌≡◌, ◌+◌, ◌-◌, ◌^◌, ◌∷◌, ◌++◌, length, map, min}
use Rattle.std.specs.Prelude.{sum_by}
use Rattle.otp_hand.specs.Begun.{starts_credited}
use Rattle.otp_hand.specs.Ended.{ends_sent}
use Rattle.otp_run.specs.Lists.{AllAt}
use Rattle.otp_close.specs.Settlings.{HasAll, HasLists, HasShares, held_in, senders_in}
use Rattle.otp_close.proofs.joining.join_all.Given as goal

abbrev pub invariant-loop-rest : goal.invariant-loop-rest
invariant-loop-rest g l =
    record {
      has : AllAt (HasAll (l.fn.senders ∷ map senders_in l.yielded)) l.senders;
      lists : AllAt (HasLists (l.fn.senders ∷ map senders_in l.yielded)) l.senders;
      shares : AllAt (HasShares (l.fn.senders ∷ map senders_in l.yielded)) l.senders;
      len : length l.senders ≡ length l.fn.senders;
      starts : starts_credited l.senders ≡ starts_credited l.fn.senders + sum_by starts_credited (map senders_in l.yielded);
      ends : ends_sent l.senders ≡ ends_sent l.fn.senders + sum_by ends_sent (map senders_in l.yielded);
      held : l.held ≡ min (sum_by held_in l.yielded) (2 ^ 64 - 1);
      all : l.yielded ++ l.rest-iterator.rest.items ≡ l.fn.rests.items;
      left : l.rest-iterator.rest.len ≡ length l.rest-iterator.rest.items;
    }
