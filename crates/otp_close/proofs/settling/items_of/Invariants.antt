use Rattle.std.proofs.Common.{◌≡◌, ◌+◌, ◌≤◌, ◌++◌, length, map}
use Rattle.std.specs.Prelude.{vec_capacity, vec_len}
use Rattle.otp_close.proofs.settling.items_of.Given as goal

abbrev pub invariant-loop-letter : goal.invariant-loop-letter
invariant-loop-letter g l =
    record {
      items : l.items.items ≡ map (λ x. x.item) l.yielded;
      all : l.yielded ++ l.letter-iterator.rest.items ≡ l.fn.letters.items;
      left : l.letter-iterator.rest.len ≡ length l.letter-iterator.rest.items;
      room : vec_len l.items + length l.letter-iterator.rest.items ≤ vec_capacity l.items;
    }
