-- How the inboxes of a tree are emptied. (own)
use Rattle.std.specs.Prelude.{◌≡◌, ℕ, ◌+◌, ◌≤◌, List, [], ◌++◌, Option, MatchOption, IfSome, length, slice_get, min, vec_capacity}
use Rattle.otp_inbox.specs.Tokens.{SenderState, TakerState, all_parts, all_sent, plus, sent_lists}
use Rattle.otp_bodies.specs.declared.letter.Message.{Message}
use Rattle.otp_run.specs.Lists.{AllAt}
use Rattle.otp_sup.specs.Facts.{UnlockedView}
use Rattle.otp_close.specs.declared.parting.Rest.{Rest}
use Rattle.otp_close.specs.declared.rooms.LeftRoom.{LeftRoom}
use Rattle.otp_close.specs.declared.unlocking.Loose.{Loose}
use Rattle.otp_hand.specs.Ended.{ends_held}
use Rattle.otp_hand.specs.Hands.{TreeClientView}
use Rattle.otp_hand.specs.Sendings.{parts_at, parts_to, sent_at, sent_to}
use Rattle.otp_close.specs.Leavings.{lists_at, lists_to}
use Rattle.otp_close.specs.Tables.{shares_at, shares_to}

-- a sender has what the old one at its place has and what another one there has
abbrev pub IsJoined : List (SenderState Message) → List (SenderState Message) → ℕ → SenderState Message → Type 0
IsJoined old other k s = MatchOption (slice_get old k) ⊥ (λ (o : SenderState Message). (all_sent s ≡ all_sent o ++ sent_at k other) × (s.parts ≡ min (o.parts + parts_at k other) all_parts))

-- a sender knows the lists that the old one at its place knew, and those that another one there knows
abbrev pub HasJoined : List (SenderState Message) → List (SenderState Message) → ℕ → SenderState Message → Type 0
HasJoined old other k s = MatchOption (slice_get old k) ⊥ (λ (o : SenderState Message). sent_lists s ≡ sent_lists o ++ lists_at k other)

-- a sender was credited with what the old one at its place was, and with what another one there was
abbrev pub HasGained : List (SenderState Message) → List (SenderState Message) → ℕ → SenderState Message → Type 0
HasGained old other k s = MatchOption (slice_get old k) ⊥ (λ (o : SenderState Message). s.shares ≡ plus o.shares (shares_at k other))

-- a sender was credited with what all senders of its place were
abbrev pub HasShares : List (List (SenderState Message)) → ℕ → SenderState Message → Type 0
HasShares all k s = s.shares ≡ shares_to k all

-- a sender knows the lists of all senders of its place
abbrev pub HasLists : List (List (SenderState Message)) → ℕ → SenderState Message → Type 0
HasLists all k s = sent_lists s ≡ lists_to k all

-- a sender has what all senders of its place have
abbrev pub HasAll : List (List (SenderState Message)) → ℕ → SenderState Message → Type 0
HasAll all k s = (all_sent s ≡ sent_to k all) × (s.parts ≡ min (parts_to k all) all_parts)

-- a sender knows what all sent to its supervisor, and has the whole right to send
abbrev pub IsWhole : List (List (SenderState Message)) → ℕ → SenderState Message → Type 0
IsWhole all k s = (all_sent s ≡ sent_to k all) × (s.parts ≡ all_parts)

module _ {N J S : Type 0} where
  abbrev pub senders_in : Rest N J S → List (SenderState Message)
  senders_in r = r.senders

  -- the end note that was still to be sent
  abbrev pub held_in : Rest N J S → ℕ
  held_in r = ends_held r.unsent

module _ {B : Type 0} where
  -- room for what is left where so many items were sent and so many taken
  pub record IsRoom (sent taken : ℕ) (r : LeftRoom B) : Type 0 where
    pub no_letters : r.letters.items ≡ []
    pub no_items : r.items.items ≡ []
    pub letters : sent ≤ vec_capacity r.letters + taken
    pub items : sent ≤ vec_capacity r.items + taken

  -- a supervisor takes from its own inbox, and there is room for what is left in it
  abbrev pub IsRoomAt : List (List (SenderState Message)) → ℕ → UnlockedView → LeftRoom B → Type 0
  IsRoomAt all k u r = (u.table.taker.inbox ≡ u.inbox) × IsRoom (length (sent_to k all)) (length u.table.taker.taken) r

  -- each supervisor takes from its own inbox, and there is room for what is left in it
  abbrev pub AreRooms : List (List (SenderState Message)) → List UnlockedView → List (LeftRoom B) → Type 0
  AreRooms all sups rooms = AllAt (λ k r. MatchOption (slice_get sups k) ⊥ (λ u. IsRoomAt all k u r)) rooms

  -- room for what is left in the inbox of whoever opened the tree
  abbrev pub IsLastRoom : List (List (SenderState Message)) → ℕ → Option (TakerState Message) → LeftRoom B → Type 0
  IsLastRoom all tables waiter r = MatchOption waiter ⊥ (λ (w : TakerState Message). IsRoom (length (sent_to tables all)) (length w.taken) r)

  -- all is there to empty the inbox of a supervisor
  pub record IsReady (u : UnlockedView) (s : SenderState Message) (r : LeftRoom B) : Type 0 where
    pub takes : u.table.taker.inbox ≡ u.inbox
    pub sends : s.inbox ≡ u.inbox
    pub whole : s.parts ≡ all_parts
    pub room : IsRoom (length (all_sent s)) (length u.table.taker.taken) r

  -- all is there to empty the inbox of each supervisor
  abbrev pub AreReady : List UnlockedView → List (SenderState Message) → List (LeftRoom B) → Type 0
  AreReady sups senders rooms = (k : ℕ) → IfSome (slice_get sups k) (λ u. MatchOption (slice_get senders k) ⊥ (λ s. MatchOption (slice_get rooms k) ⊥ (λ r. IsReady u s r)))

-- supervisors at the places of their inboxes, the inbox of whoever opened the tree behind them
abbrev pub ArePlaced : List UnlockedView → ℕ → Type 0
ArePlaced sups outer = AllAt (λ k (u : UnlockedView). u.inbox ≡ k) sups × (outer ≡ length sups)

-- a tree whose supervisors are out of their locks, with room for all that is left
pub record IsLoose {N J S : Type 0} (client : TreeClientView) (all : List (List (SenderState Message))) (l : Loose N J S) : Type 0 where
  pub placed : ArePlaced l.sups.items l.outer
  pub many_rooms : length l.rooms.items ≡ length l.sups.items
  pub rooms : AreRooms all l.sups.items l.rooms.items
  pub last : IsLastRoom all (length l.sups.items) client.waiter l.last
  pub no_tables : l.tables.items ≡ []
  pub room : length l.sups.items ≤ vec_capacity l.tables
  pub none_back : l.back.items ≡ []
  pub room_back : length l.sups.items ≤ vec_capacity l.back
