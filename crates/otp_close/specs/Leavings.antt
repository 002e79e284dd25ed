-- What is left in the inboxes of a tree at its close. (own)
use Rattle.std.specs.Prelude.{◌≡◌, ℕ, ◌≤◌, List, [], ◌++◌, Option, Some, None, MatchOption, length, map, slice_get}
use Rattle.otp_inbox.specs.Lists.{AsOften, EachInOrder, together}
use Rattle.otp_inbox.specs.Tokens.{SenderState, TakerState, sent_lists}
use Rattle.otp_rules.specs.declared.event.Item.{Item}
use Rattle.otp_bodies.specs.declared.letter.Message.{Message}
use Rattle.otp_run.specs.Lists.{AllAt}
use Rattle.otp_bodies.specs.Messages.{items_in}
use Rattle.otp_bodies.specs.Events.{items_of}
use Rattle.otp_sup.specs.Told.{ends_told_in}
use Rattle.otp_bodies.specs.Offices.{KeepsOffice, OfficeView}
use Rattle.otp_bodies.specs.Orders.{starts_in}
use Rattle.otp_hand.specs.Sendings.{sent_to}
use Rattle.otp_close.specs.declared.report.report.TableReport.{TableReport}

-- what a supervisor took, as its history has it, and then what it left in its inbox
abbrev pub line_of : TableReport → List Item
line_of t = items_of t.core.history ++ t.left.items

-- each item stands there as often as these senders sent it to that supervisor
abbrev pub AreAccounted : List (List (SenderState Message)) → List TableReport → Type 0
AreAccounted all tables = AllAt (λ k (t : TableReport). AsOften (items_in (sent_to k all)) (line_of t)) tables

-- what is left says these items, and what was taken and then what is left are the messages that were sent, each as often
pub record IsLeft (sent taken : List Message) (items : List Item) : Type 0 where
  pub left : List Message
  pub says : items_in left ≡ items
  pub as_often : AsOften sent (taken ++ left)

-- the messages that a supervisor took and left are those that were sent to it, each as often, with the ends of others that they
-- told: its history took their items, and the ends that it was told since the last checkpoint are those that came with them
pub record HasCome (sent : List Message) (t : TableReport) : Type 0 where
  pub taken : List Message
  pub items : items_in taken ≡ items_of t.core.history
  pub told : t.ends_told.items ≡ ends_told_in t.core taken
  pub left : IsLeft sent taken t.left.items

-- what all supervisors of a tree took and left are the messages that these senders sent
abbrev pub HaveCome : List (List (SenderState Message)) → List TableReport → Type 0
HaveCome all tables = AllAt (λ k (t : TableReport). HasCome (sent_to k all) t) tables

-- what whoever opened a tree of so many supervisors took from the own inbox and left there is what was sent to it
abbrev pub IsLast : ℕ → List (List (SenderState Message)) → Option (TakerState Message) → List Item → Type 0
IsLast tables all waiter last = MatchOption waiter ⊥ (λ (w : TakerState Message). AsOften (items_in (sent_to tables all)) (items_in w.taken ++ last))

-- the list of each sender that one of these senders knows: what it sent itself, and what those sent that it took in
abbrev pub lists_in : Option (SenderState Message) → List (List Message)
lists_in None = []
lists_in (Some s) = sent_lists s

abbrev pub lists_at : ℕ → List (SenderState Message) → List (List Message)
lists_at place senders = lists_in (slice_get senders place)

-- what each sender sent to one supervisor, of several lists of senders together
abbrev pub lists_to : ℕ → List (List (SenderState Message)) → List (List Message)
lists_to place all = together (map (lists_at place) all)

-- what each of these senders sent to a supervisor stands there in the order in which it was sent
abbrev pub AreInOrder : List (List (SenderState Message)) → List TableReport → Type 0
AreInOrder all tables = AllAt (λ k (t : TableReport). EachInOrder (map items_in (lists_to k all)) (line_of t)) tables

-- what was sent to whoever opened a tree of so many supervisors stands in that inbox in the order in which it was sent
abbrev pub IsLastInOrder : ℕ → List (List (SenderState Message)) → Option (TakerState Message) → List Item → Type 0
IsLastInOrder tables all waiter last = MatchOption waiter ⊥ (λ (w : TakerState Message). EachInOrder (map items_in (lists_to tables all)) (items_in w.taken ++ last))

-- its office, as its last turn left it, kept the rules: the first orders of its history were sent, in their order, and what it posted
-- are the words of these. The others, so many, were still to be sent. So many of those start a child; an event starts one at most
pub record HasUnsent (t : TableReport) : Type 0 where
  pub office : OfficeView
  pub keeps : KeepsOffice office
  pub core : t.core ≡ office.core
  pub orders : t.unsent_orders ≡ length office.outbox
  pub starts : t.unsent ≡ length (starts_in office.outbox)
  pub few : t.unsent ≤ 1
