use Rattle.std.proofs.Common.{◌≡◌, ◌+◌, ◌≤◌, length, take}
use Rattle.otp_base.proofs.parts.waits_of.Given as goal

-- what waits so far, and the room for the others
abbrev pub invariant-loop-item : goal.invariant-loop-item
invariant-loop-item l =
    record {
      items : l.waits.items ≡ take l.item-index l.items;
      room : length l.items ≤ l.waits.room + l.item-index;
    }
