use Rattle.std.proofs.Common.{◌≡◌, ◌+◌, ◌≤◌, length}
use Rattle.std.specs.Prelude.{vec_capacity, vec_len}
use Rattle.otp_run.specs.Lists.{AllAt}
use Rattle.otp_close.proofs.unlocking.lock_all.Given as goal

abbrev pub invariant-loop-sup : goal.invariant-loop-sup
invariant-loop-sup g l =
    record {
      left : l.sup-iterator.rest.len ≡ length l.sup-iterator.rest.items;
      room : vec_len l.back + length l.sup-iterator.rest.items ≤ vec_capacity l.back;
      many : length l.back.items + length l.sup-iterator.rest.items ≡ length l.fn.sups.items;
      done : AllAt (λ k sup. sup.inbox ≡ k) l.back.items;
      placed : AllAt (λ j u. u.inbox ≡ length l.back.items + j) l.sup-iterator.rest.items;
    }
