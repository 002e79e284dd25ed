use Rattle.std.proofs.Common.{◌≡◌, ◌+◌, ◌≤◌, length}
use Rattle.otp_bodies.specs.Bodies.{handed_in}
use Rattle.otp_bodies.proofs.bodies.Bodies.hand_in_list.Given as goal

abbrev pub invariant-loop-body : goal.invariant-loop-body
invariant-loop-body g l =
    record {
      left : l.body-iterator.rest.len ≡ length l.body-iterator.rest.items;
      room : length l.body-iterator.rest.items ≤ l.bodies.room;
      count : l.count + length l.body-iterator.rest.items ≡ length l.fn.list.items;
      handed : l.bodies.kept ≡ handed_in l.count;
    }
