use Rattle.std.proofs.Common.{◌≡◌, ℕ, ◌+◌, length, map}
use Rattle.otp_run.specs.Lists.{AllAt}
use Rattle.otp_open.specs.Opens.{IsOpened, opened_for}
use Rattle.otp_hand.specs.Begun.{starts_credited}
use Rattle.otp_hand.specs.Ended.{ends_sent}
use Rattle.otp_hand.specs.Hands.{senders_of}
use Rattle.otp_hand.specs.Sendings.{parts_at, parts_to}
use Rattle.otp_open.specs.Passes.{IsFresh}
use Rattle.otp_open.proofs.hands.make_hands.Given as goal

abbrev pub invariant-loop-scheduler : goal.invariant-loop-scheduler
invariant-loop-scheduler g l =
    record {
      idle : AllAt (λ k s. IsOpened l.fn.root.ticket (length l.fn.schedulers.items) (length l.hands.items + k) s) l.scheduler-iterator.rest.items;
      many : length l.hands.items + length l.scheduler-iterator.rest.items ≡ length l.fn.schedulers.items;
      left : l.scheduler-iterator.rest.len ≡ length l.scheduler-iterator.rest.items;
      opened : AllAt (λ k h. h.scheduler ≡ opened_for l.fn.root.ticket (length l.fn.schedulers.items) k) l.hands.items;
      split : (k : ℕ) → parts_at k l.senders + parts_to k (map senders_of l.hands.items) ≡ parts_at k l.initial.senders;
      reach : AllAt (λ _ h. length (senders_of h) ≡ length l.initial.senders) l.hands.items;
      len : length l.senders ≡ length l.initial.senders;
      same : l.passes.items ≡ l.initial.passes.items;
      starts : starts_credited l.senders ≡ starts_credited l.initial.senders;
      ends : ends_sent l.senders ≡ ends_sent l.initial.senders;
      fresh : AllAt (λ _ h. IsFresh l.initial.passes.items h) l.hands.items;
    }
