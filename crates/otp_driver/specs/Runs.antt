-- What a tree that is driven hands out for what it is told (own): one list of orders, whoever drives it and however fast.
use Rattle.std.specs.Prelude.{◌≡◌, ℕ, List, [], ◌∷◌}
use Rattle.otp_reason.specs.declared.note.Note.{Note}
use Rattle.otp_rules.specs.declared.call.Call.{Call}
use Rattle.otp_rules.specs.declared.event.Item.TheVariants as item
use Rattle.otp_rules.specs.declared.event.Kind.TheVariants as kind
use Rattle.otp_file.specs.Trees.{Tree}
use Rattle.otp_driver.specs.Members.{state_in}
use Rattle.otp_driver.specs.Changed.{Changes}
use Rattle.otp_driver.specs.declared.order.Order.{Order}
use Rattle.otp_driver.specs.Orders.{what_of}
use Rattle.otp_driver.specs.Driven.{at_reading, Called, Driven, GoesOn, IsAsked, IsIdle, IsOutside, Occurs, Takes}

-- what whoever drives a tree does: the next order is asked for, and taken; a note is told of a child of the supervisor at a place,
-- at a reading of the clock; this supervisor is called; the root is wanted to shut down; the clock is read; it goes on under this tree
-- file
pub data Input : Type 0 where
  TakesNext : Input
  Tells : ℕ → ℕ → Note → Input
  Calls : ℕ → ℕ → Call → Input
  Stops : ℕ → Input
  Reads : ℕ → Input
  Renews : Tree → Input

-- what comes of it: an order, as it is told; nothing, since nothing is left to do; the number of a call; or it was heard
pub data Output : Type 0 where
  Ordered : Order → Output
  AllDone : Output
  Numbered : ℕ → Output
  Heard : Output

-- the tree goes on by itself until an order for the outside is next, which is taken; what is told is what that order says
pub record HandsOut (order : Order) (old new : Driven) : Type 0 where
  pub mid : Driven
  pub goes_on : GoesOn old mid
  pub outside : IsOutside mid order.supervisor
  pub says : order.what ≡ what_of (state_in outside.next.member).rows outside.order
  pub takes : Takes order.supervisor mid new

-- it goes on until nothing is left to do
abbrev pub Rests : Driven → Driven → Type 0
Rests old new = GoesOn old new × IsIdle new

-- this comes of the input, and the tree is then the new one. An input that is refused leaves the tree as it was, and is none here
abbrev pub Comes : Input → Output → Driven → Driven → Type 0
Comes TakesNext (Ordered order) old new = HandsOut order old new
Comes TakesNext AllDone old new = Rests old new
Comes (Tells reading place x) Heard old new = Occurs place (kind.Took (item.Note x)) (at_reading reading old) new
Comes (Calls reading place call) (Numbered number) old new = Called number place call (at_reading reading old) new
Comes (Stops reading) Heard old new = IsAsked (at_reading reading old) new
Comes (Reads reading) Heard old new = new ≡ at_reading reading old
Comes (Renews tree) Heard old new = Changes tree old new
Comes _ _ old new = ⊥

-- these come of these inputs, one after another
abbrev pub Runs : List Input → List Output → Driven → Driven → Type 0
Runs [] [] old new = new ≡ old
Runs [] (o ∷ os) old new = ⊥
Runs (i ∷ is) [] old new = ⊥
Runs (i ∷ is) (o ∷ os) old new = (mid : Driven) × Comes i o old mid × Runs is os mid new

-- from one tree, of the same inputs at the same readings comes the same
abbrev pub RunsAgree : Type 0
RunsAgree = (is : List Input) (os ps : List Output) (t u v : Driven) → Runs is os t u → Runs is ps t v → (os ≡ ps) × (u ≡ v)
