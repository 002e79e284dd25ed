-- What an office stands for, and what it keeps.
use Rattle.std.specs.Prelude.{◌≡◌, ◌↔◌, ℕ, ◌+◌, ◌<◌, ◌≤◌, true, List, [], ◌++◌, Option, length, take, drop, Contains, ◌^◌}
use Rattle.otp_spec.specs.declared.limits.TheConstants.{MAX_CHILDREN}
use Rattle.otp_spec.specs.declared.child.ChildSpec.{ChildSpec}
use Rattle.otp_spec.specs.declared.flags.SupFlags.{SupFlags}
use Rattle.otp_rules.specs.declared.event.Effect.{Effect}
use Rattle.otp_rules.specs.Needs.{IsLawfulHistory, numbers_of}
use Rattle.otp_rules.specs.Run.{empty_state}
use Rattle.otp_rules.specs.State.{State}
use Rattle.otp_rules.specs.Rate.{IsRated}
use Rattle.otp_rules.specs.Slots.{AreSlotted}
use Rattle.otp_table.specs.declared.row.Row.{Row}
use Rattle.otp_table.specs.Rows.{has_process}
use Rattle.otp_core.specs.View.{View, new_core, state_of}
use Rattle.otp_signals.specs.declared.view.Holding.{Holding}
use Rattle.otp_signals.specs.Lists.{EachBetween}
use Rattle.otp_bodies.specs.Orders.{starting_slot, orders_along, starts_in}
use Rattle.otp_bodies.specs.Posts.{ArePosts, words_in, words_ordered}

-- what contracts see of an office
pub record OfficeView : Type 0 where
  pub core : View
  pub owner : Holding
  -- the orders that are still to be sent
  pub outbox : List Effect
  -- how many orders were sent
  pub sent : ℕ
  pub first_slot : ℕ

-- the orders that were sent
abbrev pub sent_of : OfficeView → List Effect
sent_of o = take o.sent (orders_along o.core)

-- what an office posted are the words of the orders that it sent, and tries of the first that is to be sent
abbrev pub HasPosted : OfficeView → Type 0
HasPosted o = ArePosts (sent_of o) o.outbox (words_in o.owner.posts)

-- the words of the orders that were sent and of the first that is to be sent
abbrev pub words_with_first : OfficeView → List ℕ
words_with_first o = words_ordered (take (o.sent + 1) (orders_along o.core))

-- the state that was never opened, for some flags and specifications
pub record Begins (base : State) : Type 0 where
  pub flags : SupFlags
  pub specs : List ChildSpec
  pub is : base ≡ empty_state flags specs
  pub few : length specs ≤ MAX_CHILDREN

pub record IsOffice (o : OfficeView) : Type 0 where
  pub begins : Begins o.core.base
  -- what was cut off is of its history
  pub cut : o.core.cut ≤ length o.core.history
  -- its numbers are those of its own seat
  pub numbers : o.owner.drawn ≡ numbers_of o.core.history
  -- behind the orders of its history that were sent come those to be sent
  pub orders : o.outbox ≡ drop o.sent (orders_along o.core)
  pub counted : o.sent ≤ length (orders_along o.core)
  -- each order that was sent posted its word, and nothing else was posted but tries of the first in the outbox
  pub posts : HasPosted o
  pub slots : EachBetween o.first_slot (o.first_slot + MAX_CHILDREN) (Contains o.owner.slots)
  pub fits : o.first_slot + MAX_CHILDREN < 2 ^ 64

-- the office of a supervisor that was never opened
abbrev pub new_office : SupFlags → List ChildSpec → Holding → ℕ → OfficeView
new_office flags specs owner first_slot = record {
  core = new_core flags specs;
  owner = owner;
  outbox = [];
  sent = 0;
  first_slot = first_slot;
}

-- the slot of the child that the first order starts, if it starts one
abbrev pub slot_to_start : OfficeView → Option ℕ
slot_to_start o = starting_slot o.outbox (state_of o.core).rows

-- the processes whose starts an office sent
abbrev pub starts_sent : OfficeView → List ℕ
starts_sent o = starts_in (sent_of o)

-- two children that have processes have one slot only where they are one child, with one process
abbrev pub AreApart : List Row → Type 0
AreApart rows =
    (a b : Row) (p q : ℕ) → Contains rows a → Contains rows b → has_process p a.state ≡ true → has_process q b.state ≡ true → (a.slot ≡ b.slot) ↔ (p ≡ q)

-- what an office keeps, as a reader wants it. Its state is what the rules give for its history from its base on
pub record KeepsOffice (o : OfficeView) : Type 0 where
  -- the base is a supervisor that was never opened, for some flags and specifications
  pub begins : Begins o.core.base
  -- an event of its history has a number exactly where it starts a child, and the numbers rise
  pub lawful : IsLawfulHistory o.core.base o.core.history
  -- its process numbers are those that its own seat drew
  pub numbers : o.owner.drawn ≡ numbers_of o.core.history
  -- the orders that were sent, followed by those to be sent, are the orders that the rules give
  pub orders : sent_of o ++ o.outbox ≡ orders_along o.core
  -- the starts among those are of the processes that its history numbers
  pub starts : starts_in (orders_along o.core) ≡ numbers_of o.core.history
  -- what its seat posted: the words of the orders that were sent, in their order, and then tries of the first that is to be sent
  pub posts : HasPosted o
  -- no period has more restarts than the intensity, but for the last one of a supervisor that ends by it
  pub rate : IsRated (state_of o.core)
  -- no two children have one slot, and each has one of those that there are
  pub slots : AreSlotted (state_of o.core).rows
  -- no two children have one process: two that have processes have two slots
  pub apart : AreApart (state_of o.core).rows
