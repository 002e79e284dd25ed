use Rattle.std.proofs.Common.{◌≡◌, ◌≤◌, length}
use Rattle.std.specs.Prelude.{vec_capacity}
use Rattle.otp_close.specs.Closes.{all_senders}
use Rattle.otp_close.specs.Settlings.{AreRooms}
use Rattle.otp_close.proofs.rooms.make_rooms.Given as goal

abbrev pub invariant-loop-place : goal.invariant-loop-place
invariant-loop-place g l =
    record {
      many : length l.rooms.items ≡ l.place;
      space : length l.sups ≤ vec_capacity l.rooms;
      rooms : AreRooms (all_senders l.client l.hands) l.sups l.rooms.items;
    }
