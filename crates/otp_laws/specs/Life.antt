-- From a child's start to the note of its end, over whole histories (Supervisor Behaviour, Restart Strategy and Stopping:
-- a child is started again only when it has ended).
use Rattle.std.specs.List.{list_any}
use Rattle.std.specs.Prelude.{◌≤◌, length, false, ◌≡◌, ◌++◌, ℕ, true, None, List, [], ◌∷◌, Option, Some, Contains}
use Rattle.otp_reason.specs.declared.name.Name.{Name}
use Rattle.otp_reason.specs.Names.{name_bytes}
use Rattle.otp_spec.specs.declared.child.ChildSpec.{ChildSpec}
use Rattle.otp_spec.specs.declared.flags.SupFlags.{SupFlags}
use Rattle.otp_spec.specs.declared.limits.TheConstants.{MAX_CHILDREN}
use Rattle.otp_spec.specs.Supervisor.{supervisor_fault}
use Rattle.otp_table.specs.declared.row.Row.{Row}
use Rattle.otp_table.specs.Rows.{has_id, has_process}
use Rattle.otp_rules.specs.declared.ending.SupEnd.{SupEnd}
use Rattle.otp_rules.specs.declared.event.Effect.TheVariants as effect
use Rattle.otp_rules.specs.declared.event.Event.{Event}
use Rattle.otp_rules.specs.State.{State, is_over}
use Rattle.otp_rules.specs.Step.{step}
use Rattle.otp_rules.specs.Run.{empty_state, state_after}
use Rattle.otp_rules.specs.Needs.{IsLawfulHistory}
use Rattle.otp_rules.specs.Fit.{IsLawfulFrom}
use Rattle.otp_rules.specs.Homes.{is_ended}
use Rattle.otp_rules.specs.InOrder.{IsInOrder}
use Rattle.otp_rules.specs.Lives.{IsHeldIn, TakesEnd}
use Rattle.otp_rules.specs.Slots.{AreSlotted}
use Rattle.otp_laws.specs.Ids.{AreNamedApart, AreSpecsApart}

-- one of these events takes the note of this process's end
abbrev pub EndIsTaken : List Event → ℕ → Type 0
EndIsTaken events p = (e : Event) × Contains events e × TakesEnd e.kind p

-- the event starts this process, of the child in this slot
abbrev pub StartsIn : State → Event → ℕ → ℕ → Type 0
StartsIn s e slot p = (e.number ≡ Some p) × IsHeldIn (step s e).state.rows slot p

-- a child with this id has this process
abbrev pub IsHeldAs : List Row → Name → ℕ → Type 0
IsHeldAs rows id p = (row : Row) × Contains rows row × (has_id id row ≡ true) × (has_process p row.state ≡ true)

-- the event starts this process, of the child with this id
abbrev pub StartsAs : State → Event → Name → ℕ → Type 0
StartsAs s e id p = (e.number ≡ Some p) × IsHeldAs (step s e).state.rows id p

-- no end waits of a process whose number is m at least, and still to come
abbrev pub IsUnended : ℕ → State → Type 0
IsUnended m s = (p : ℕ) → m ≤ p → list_any (is_ended p) s.waiting ≡ false

-- in a lawful history, after a start of a child no other start in the child's slot comes before the note of its end was
-- taken; from each state that is in order, where no end waits of what is still to come, and each slot is one child's
abbrev pub RowsStartAnewFrom : Type 0
RowsStartAnewFrom =
    (m : ℕ) (s : State) (events between : List Event) (e f : Event) (slot p q : ℕ) → IsInOrder m s → IsUnended m s → length s.specs ≤ MAX_CHILDREN → AreSlotted s.rows
    → IsLawfulFrom m s (events ++ e ∷ between ++ f ∷ []) → StartsIn (state_after s events) e slot p → StartsIn (state_after s (events ++ e ∷ between)) f slot q
    → EndIsTaken (between ++ f ∷ []) p

-- it is so from the state that was never opened on
abbrev pub RowsStartAnew : Type 0
RowsStartAnew =
    (flags : SupFlags) (specs : List ChildSpec) (events between : List Event) (e f : Event) (slot p q : ℕ) → supervisor_fault flags specs ≡ None
    → IsLawfulHistory (empty_state flags specs) (events ++ e ∷ between ++ f ∷ [])
    → StartsIn (state_after (empty_state flags specs) events) e slot p → StartsIn (state_after (empty_state flags specs) (events ++ e ∷ between)) f slot q
    → EndIsTaken (between ++ f ∷ []) p

-- nor does one of a child with its id, if ids differ
abbrev pub IdsStartAnewFrom : Type 0
IdsStartAnewFrom =
    (m : ℕ) (s : State) (events between : List Event) (e f : Event) (id : Name) (p q : ℕ) → IsInOrder m s → IsUnended m s → length s.specs ≤ MAX_CHILDREN → AreSlotted s.rows → AreSpecsApart s.specs → AreNamedApart s.rows
    → IsLawfulFrom m s (events ++ e ∷ between ++ f ∷ []) → StartsAs (state_after s events) e id p → StartsAs (state_after s (events ++ e ∷ between)) f id q
    → EndIsTaken (between ++ f ∷ []) p

abbrev pub IdsStartAnew : Type 0
IdsStartAnew =
    (flags : SupFlags) (specs : List ChildSpec) (events between : List Event) (e f : Event) (id : Name) (p q : ℕ) → supervisor_fault flags specs ≡ None
    → IsLawfulHistory (empty_state flags specs) (events ++ e ∷ between ++ f ∷ [])
    → StartsAs (state_after (empty_state flags specs) events) e id p → StartsAs (state_after (empty_state flags specs) (events ++ e ∷ between)) f id q
    → EndIsTaken (between ++ f ∷ []) p

-- as the orders tell it: after an order to start a child the next for its id, the same bytes, comes only so
abbrev pub OrdersStartAnew : Type 0
OrdersStartAnew =
    (flags : SupFlags) (specs : List ChildSpec) (events between : List Event) (e f : Event) (id other : Name) (p q : ℕ) → supervisor_fault flags specs ≡ None
    → IsLawfulHistory (empty_state flags specs) (events ++ e ∷ between ++ f ∷ []) → name_bytes other ≡ name_bytes id
    → Contains (step (state_after (empty_state flags specs) events) e).orders (effect.Start (Some id) p)
    → Contains (step (state_after (empty_state flags specs) (events ++ e ∷ between)) f).orders (effect.Start (Some other) q)
    → EndIsTaken (between ++ f ∷ []) p

-- nor does the end of the supervisor
abbrev pub EndsAfterAllFrom : Type 0
EndsAfterAllFrom =
    (m : ℕ) (s : State) (events between : List Event) (e : Event) (slot p : ℕ) → IsInOrder m s → IsUnended m s → IsLawfulFrom m s (events ++ e ∷ between) → StartsIn (state_after s events) e slot p
    → is_over (state_after s (events ++ e ∷ between)).phase ≡ true → EndIsTaken between p

abbrev pub EndsAfterAll : Type 0
EndsAfterAll =
    (flags : SupFlags) (specs : List ChildSpec) (events between : List Event) (e : Event) (slot p : ℕ)
    → IsLawfulHistory (empty_state flags specs) (events ++ e ∷ between) → StartsIn (state_after (empty_state flags specs) events) e slot p
    → is_over (state_after (empty_state flags specs) (events ++ e ∷ between)).phase ≡ true → EndIsTaken between p

-- as the orders tell it: nor is an End ordered
abbrev pub OrdersEndAfterAll : Type 0
OrdersEndAfterAll =
    (flags : SupFlags) (specs : List ChildSpec) (events between : List Event) (e f : Event) (slot p : ℕ) (end : SupEnd)
    → IsLawfulHistory (empty_state flags specs) (events ++ e ∷ between ++ f ∷ []) → StartsIn (state_after (empty_state flags specs) events) e slot p
    → Contains (step (state_after (empty_state flags specs) (events ++ e ∷ between)) f).orders (effect.End end) → EndIsTaken (between ++ f ∷ []) p

-- from order to order: no End is ordered between an order to start a child and the note of its end
abbrev pub OrdersEndAfterStarts : Type 0
OrdersEndAfterStarts =
    (flags : SupFlags) (specs : List ChildSpec) (events between : List Event) (e f : Event) (id : Option Name) (p : ℕ) (end : SupEnd)
    → IsLawfulHistory (empty_state flags specs) (events ++ e ∷ between ++ f ∷ [])
    → Contains (step (state_after (empty_state flags specs) events) e).orders (effect.Start id p)
    → Contains (step (state_after (empty_state flags specs) (events ++ e ∷ between)) f).orders (effect.End end) → EndIsTaken (between ++ f ∷ []) p
