use Rattle.std.proofs.Common.{◌≡◌, ◌++◌, length}
use Rattle.otp_driver.specs.Changed.{IsHeldFrom, MayGoOnFrom, members_from}
use Rattle.otp_driver.specs.declared.changing.Unchanged.{Unchanged}
use Rattle.otp_driver.proofs.changing.members_on.Given as goal

-- the supervisors so far and the others are all; so it is of those that may go on, and of those that hold it up
abbrev pub invariant-loop-supervisor : goal.invariant-loop-supervisor
invariant-loop-supervisor l =
    record {
      all : l.list.items ++ members_from l.olds l.origins (length l.list.items) l.supervisor-iterator.rest.items ≡ members_from l.olds l.origins 0 l.fn.planted.items;
      may : MayGoOnFrom l.olds l.origins (length l.list.items) l.supervisor-iterator.rest.items → MayGoOnFrom l.olds l.origins 0 l.fn.planted.items;
      held : (u : Unchanged) → IsHeldFrom l.olds l.origins (length l.list.items) l.supervisor-iterator.rest.items u → IsHeldFrom l.olds l.origins 0 l.fn.planted.items u;
    }
