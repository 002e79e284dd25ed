use Rattle.std.proofs.Common.{◌≡◌, ◌+◌, ◌≤◌, drop, length, map}
use Rattle.std.specs.Prelude.{All, sum_by, vec_capacity, vec_len}
use Rattle.otp_inbox.specs.Lists.{AsOften, EachInOrder}
use Rattle.otp_run.specs.Lists.{AllAt}
use Rattle.otp_hand.specs.Begun.{starts_credited}
use Rattle.otp_close.specs.Totals.{starts_of, unsent_of}
use Rattle.otp_close.specs.Closes.{AreApart, HasBegun, HasTold, HaveBegun}
use Rattle.otp_bodies.specs.Messages.{items_in}
use Rattle.otp_close.specs.Leavings.{HasCome, HasUnsent, line_of, lists_at}
use Rattle.otp_close.specs.Tables.{IsOfTable, shares_at}
use Rattle.otp_hand.specs.Sendings.{sent_at}
use Rattle.otp_close.proofs.Apart.{Seen}
use Rattle.otp_close.proofs.closing.take_all_apart.Given as goal

abbrev pub invariant-loop-sup : goal.invariant-loop-sup
invariant-loop-sup g l =
    record {
      left : l.sup-iterator.rest.len ≡ length l.sup-iterator.rest.items;
      left_too : l.senders.rest.len ≡ length l.senders.rest.items;
      left_rooms : l.rooms.rest.len ≡ length l.rooms.rest.items;
      room : vec_len l.tables + length l.sup-iterator.rest.items ≤ vec_capacity l.tables;
      count : length l.tables.items + length l.sup-iterator.rest.items ≡ length l.fn.sups.items;
      plans : HaveBegun g.N.PlanNaming.plan l.tables.items;
      begins : All HasBegun l.tables.items;
      shown : All HasTold l.tables.items;
      apart : AreApart l.tables.items;
      seen : All (Seen l.owner.drawn) l.tables.items;
      unsent : All HasUnsent l.tables.items;
      starts : starts_credited l.fn.senders.items + sum_by unsent_of l.tables.items ≡ sum_by starts_of l.tables.items + starts_credited l.senders.rest.items;
      done : AllAt (λ k t. AsOften (items_in (sent_at k l.fn.senders.items)) (line_of t)) l.tables.items;
      order : AllAt (λ k t. EachInOrder (map items_in (lists_at k l.fn.senders.items)) (line_of t)) l.tables.items;
      come : AllAt (λ k t. HasCome (sent_at k l.fn.senders.items) t) l.tables.items;
      tables : AllAt (λ k t. IsOfTable g.N.PlanNaming.plan k (sent_at k l.fn.senders.items) (shares_at k l.fn.senders.items) t) l.tables.items;
      sups : drop (length l.tables.items) l.fn.sups.items ≡ l.sup-iterator.rest.items;
      senders : drop (length l.tables.items) l.fn.senders.items ≡ l.senders.rest.items;
      rooms : drop (length l.tables.items) l.fn.rooms.items ≡ l.rooms.rest.items;
    }
