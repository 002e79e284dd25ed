use Rattle.std.proofs.Common.{◌≡◌, ℕ, [], ◌+◌, length, take}
use Rattle.std.specs.Prelude.{slice_get, Contains}
use Rattle.otp_inbox.specs.Tokens.{first_sender}
use Rattle.otp_run.specs.Lists.{AllAt}
use Rattle.otp_signals.specs.Lists.{EachBetween}
use Rattle.otp_open.specs.Opens.{first_slot, slots_of}
use Rattle.otp_open.specs.Readies.{AreReadyFor}
use Rattle.otp_open.proofs.ready.ready_all.Given as goal

abbrev pub invariant-loop-number : goal.invariant-loop-number
invariant-loop-number g l =
    record {
      rest : (k : ℕ) → slice_get l.inboxes.rest.items k ≡ slice_get l.fn.inboxes.items (l.number + k);
      count : l.number + length l.inboxes.rest.items ≡ length l.fn.inboxes.items;
      left : l.inboxes.rest.len ≡ length l.inboxes.rest.items;
      many : length l.all.senders.items ≡ l.number;
      many_passes : length l.all.passes.items ≡ l.number;
      many_places : length l.all.places.items ≡ l.number;
      ready : AreReadyFor 0 (take l.number l.plans) l.all.places.items;
      seated : AllAt (λ k s. s ≡ first_sender k) l.all.senders.items;
      root : Contains l.owner.slots 0;
      slots : EachBetween (first_slot l.number) (slots_of (length l.fn.inboxes.items)) (Contains l.owner.slots);
      unposted : l.owner.posts ≡ [];
    }
