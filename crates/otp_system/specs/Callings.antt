-- Calls of the supervisors of a tree (supervisor, the exported functions), and why one is not sent. (own)
use Rattle.std.specs.Prelude.{◌≡◌, ◌⊎◌, ℕ, is_some, ◌<◌, ◌++◌, ◌∷◌, [], length, Bool, true, false, Option, Some, None, slice_get, slice_set}
use Rattle.otp_inbox.specs.Tokens.{SenderState}
use Rattle.otp_job.specs.declared.body.Body.{Body}
use Rattle.otp_job.specs.declared.body.Body.TheVariants as body
use Rattle.otp_rules.specs.declared.call.Call.{Call}
use Rattle.otp_rules.specs.declared.call.Call.TheVariants as call
use Rattle.otp_bodies.specs.declared.letter.Message.{Message}
use Rattle.otp_bodies.specs.Messages.{plain_message}
use Rattle.otp_rules.specs.declared.event.Item.TheVariants as item
use Rattle.otp_signals.specs.Holdings.{after_draw}
use Rattle.otp_spec.specs.declared.child.ChildType.{ChildType}
use Rattle.otp_spec.specs.declared.child.ChildType.TheVariants as kind
use Rattle.otp_spec.specs.declared.child.Shutdown.{Shutdown}
use Rattle.otp_spec.specs.declared.child.Shutdown.TheVariants as shutdown
use Rattle.otp_spec.specs.Supervisor.{Supervisor}
use Rattle.otp_system.specs.declared.calling.CallRefusal.{CallRefusal}
use Rattle.otp_system.specs.declared.calling.CallRefusal.TheVariants as refusal
use Rattle.otp_hand.specs.Hands.{TreeClientView}

abbrev pub is_infinity : Shutdown → Bool
is_infinity shutdown.Infinity = true
is_infinity _ = false

module _ {J S : Type 0} where
  -- a body that a child of this type may run
  abbrev pub is_of_type : ChildType → Body J S → Bool
  is_of_type kind.Worker (body.Worker _) = true
  is_of_type kind.Worker (body.Bridge _) = true
  is_of_type kind.Worker (body.Sup _) = false
  is_of_type kind.Supervisor (body.Worker _) = false
  is_of_type kind.Supervisor (body.Bridge _) = true
  is_of_type kind.Supervisor (body.Sup _) = true

  -- a body that a child may run where the call names no type: no supervisor's
  abbrev pub is_no_table : Body J S → Bool
  is_no_table (body.Worker _) = true
  is_no_table (body.Bridge _) = true
  is_no_table (body.Sup _) = false

  -- a call that starts a new child comes with a body that the child may run, and no other comes with one
  abbrev pub fits_call : Call → Option (Body J S) → Bool
  fits_call (call.StartChild spec) (Some b) = is_of_type spec.kind b
  fits_call call.StartDynamic (Some b) = is_no_table b
  fits_call _ (Some b) = false
  fits_call (call.StartChild spec) None = false
  fits_call call.StartDynamic None = false
  fits_call _ None = true

  -- it is the number of a supervisor
  abbrev pub is_nested : Option (Body J S) → Bool
  is_nested None = false
  is_nested (Some (body.Worker _)) = false
  is_nested (Some (body.Bridge _)) = false
  is_nested (Some (body.Sup _)) = true

  -- a child that is a supervisor of its own has as much time to shut down as it wants (supervisor, child specification, shutdown)
  abbrev pub has_time : Call → Option (Body J S) → Bool
  has_time (call.StartChild spec) (Some (body.Sup _)) = is_infinity spec.shutdown
  has_time _ _ = true

-- the call was the last that was sent to this supervisor, under the number that was drawn last, and nothing else of the client changed
pub record Called (table number : ℕ) (x : Call) (old new : TreeClientView) : Type 0 where
  pub drawn : new.owner ≡ after_draw number old.owner
  pub there : table < length old.senders
  pub sent : (s : SenderState Message) → slice_get old.senders table ≡ Some s → new.senders ≡ slice_set old.senders table (record s { sent = s.sent ++ plain_message (item.Call number x) ∷ [] })
  pub waiter : new.waiter ≡ old.waiter

-- a number was drawn, and nothing else changed
pub record HasSpent (old new : TreeClientView) : Type 0 where
  pub number : ℕ
  pub spent : new ≡ record old { owner = after_draw number old.owner }

-- the client sends to this supervisor
abbrev pub Reaches : ℕ → ℕ → TreeClientView → Type 0
Reaches tables table client = (table < tables) × (table < length client.senders)

-- the same, of one that had a plan when the tree got its name: that one is there
abbrev pub IsThere : (ℕ → Option Supervisor) → ℕ → ℕ → TreeClientView → Type 0
IsThere plans tables table client = Reaches tables table client × (is_some (plans table) ≡ true)

-- why a call that has a supervisor and a body that fits was not sent, and what it left behind
abbrev pub IsUnsendable : CallRefusal → TreeClientView → TreeClientView → Type 0
IsUnsendable refusal.NoSupervisor old new = ⊥
IsUnsendable refusal.WrongBody old new = ⊥
IsUnsendable refusal.NotInfinity old new = ⊥
IsUnsendable refusal.Exhausted old new = (old.owner.quota ≡ 0) × (new ≡ old)
IsUnsendable refusal.OutOfMemory old new = (0 < old.owner.quota) × HasSpent old new

module _ {J S : Type 0} where
  -- why any call was not sent: the first of these that is so. A supervisor's number may be that of none that was added
  abbrev pub IsNotSent : CallRefusal → (ℕ → Option Supervisor) → ℕ → ℕ → Call → Option (Body J S) → TreeClientView → TreeClientView → Type 0
  IsNotSent refusal.NoSupervisor plans tables table x body old new = ¬ (IsThere plans tables table old) × (new ≡ old)
  IsNotSent refusal.WrongBody plans tables table x body old new = Reaches tables table old × ((fits_call x body ≡ false) ⊎ (is_nested body ≡ true)) × (new ≡ old)
  IsNotSent refusal.NotInfinity plans tables table x body old new = Reaches tables table old × (fits_call x body ≡ true) × (has_time x body ≡ false) × (new ≡ old)
  IsNotSent cause plans tables table x body old new = Reaches tables table old × (fits_call x body ≡ true) × (has_time x body ≡ true) × IsUnsendable cause old new
