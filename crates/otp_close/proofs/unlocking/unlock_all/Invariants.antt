use Rattle.std.proofs.Common.{◌≡◌, ◌+◌, ◌≤◌, length}
use Rattle.std.specs.Prelude.{vec_capacity, vec_len}
use Rattle.otp_run.specs.Lists.{AllAt}
use Rattle.otp_close.proofs.unlocking.unlock_all.Given as goal

abbrev pub invariant-loop-sup : goal.invariant-loop-sup
invariant-loop-sup g l =
    record {
      left : l.sup-iterator.rest.len ≡ length l.sup-iterator.rest.items;
      room : vec_len l.unlocked + length l.sup-iterator.rest.items ≤ vec_capacity l.unlocked;
      many : length l.unlocked.items + length l.sup-iterator.rest.items ≡ length l.fn.sups.items;
      done : AllAt (λ k u. u.inbox ≡ k) l.unlocked.items;
      placed : AllAt (λ j sup. sup.inbox ≡ length l.unlocked.items + j) l.sup-iterator.rest.items;
    }
