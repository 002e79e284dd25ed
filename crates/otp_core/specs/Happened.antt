-- One event of a core, with the room and the memory for it (own).
use Rattle.std.specs.Prelude.{◌≡◌, ◌≤◌, ◌⊎◌, ◌==◌, ◌++◌, ◌∷◌, [], ◌+◌, ℕ, All, Bool, Option, None, Some, false, true, length, unwrap_or, if◌then◌else◌}
use Rattle.otp_rules.specs.Needs.{needs_number}
use Rattle.otp_rules.specs.declared.event.Kind.{Kind}
use Rattle.otp_rules.specs.declared.event.Event.{Event}
use Rattle.otp_rules.specs.Step.{step}
use Rattle.otp_core.specs.declared.cut.TheConstants.{MAX_EVENTS_IN_ALL}
use Rattle.otp_core.specs.declared.happening.EventFault.{EventFault}
use Rattle.otp_core.specs.declared.happening.EventFault.TheVariants.{HistoryFull, OrdersWait, OutOfMemory}
use Rattle.otp_core.specs.Full.{cut_after, is_full}
use Rattle.otp_core.specs.Replies.{IsKept}
use Rattle.otp_core.specs.View.{View, state_of, stored_of}

-- how many events are cut off before the next one under this limit: none more while orders are still to be cleared
abbrev pub cut_before : ℕ → View → ℕ
cut_before limit v = if length v.effects == 0 then cut_after limit v else v.cut

-- the event stands last in the history, and its orders behind those that were there
pub record Happened (limit : ℕ) (event : Event) (old new : View) : Type 0 where
  pub base : new.base ≡ old.base
  pub earlier : new.earlier ≡ old.earlier
  pub cut : new.cut ≡ cut_before limit old
  pub history : new.history ≡ old.history ++ event ∷ []
  -- of what a cut left it is the last that is stored
  pub stored : stored_of new ≡ stored_of (record old { cut = new.cut }) ++ event ∷ []
  -- so the state is that of the step
  pub state : state_of new ≡ (step (state_of old) event).state
  pub effects : new.effects ≡ old.effects ++ (step (state_of old) event).orders
  pub prepared : new.prepared ≡ false
  -- the answers that its orders tell of are kept
  pub answers : All (IsKept new) (step (state_of old) event).orders

-- a number that is counted: the next after the last one, where one is drawn
abbrev pub number_after : ℕ → Bool → Option ℕ
number_after last draws = if draws then Some (last + 1) else None

-- an event of this kind happened, whose number is counted; and which one is the last then
pub record HappenedAfter (limit last reading : ℕ) (k : Kind) (old new : View) (after : ℕ) : Type 0 where
  pub number : Option ℕ
  pub number_is : number ≡ number_after last (needs_number (state_of old) reading k)
  pub after_is : after ≡ unwrap_or number last
  pub happened : Happened limit (record { reading = reading; number = number; kind = k }) old new

-- no room could be made: the core is full and orders are still to be cleared, or there were as many events as there may be in all
abbrev pub HasNoRoom : View → EventFault → Type 0
HasNoRoom v why =
    ((why ≡ OrdersWait) × ¬ (v.effects ≡ []) × (is_full v ≡ true)) ⊎ ((why ≡ HistoryFull) × (MAX_EVENTS_IN_ALL ≤ length v.history))

-- why an event doesn't happen: memory was refused, or there is no room
abbrev pub IsEventFault : View → EventFault → Type 0
IsEventFault v why = (why ≡ OutOfMemory) ⊎ HasNoRoom v why
