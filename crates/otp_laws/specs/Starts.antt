-- What orders to start say, and the order of the end (own: the manual says which child is started, and not how it is told).
use Rattle.std.specs.Prelude.{◌≡◌, ◌++◌, ℕ, true, List, [], ◌∷◌, Some, All, Contains}
use Rattle.otp_spec.specs.declared.child.ChildSpec.{ChildSpec}
use Rattle.otp_spec.specs.declared.flags.SupFlags.{SupFlags}
use Rattle.otp_table.specs.declared.row.Row.{Row}
use Rattle.otp_table.specs.Rows.{has_process}
use Rattle.otp_rules.specs.declared.event.Effect.{Effect}
use Rattle.otp_rules.specs.declared.event.Effect.TheVariants as effect
use Rattle.otp_rules.specs.declared.event.Event.{Event}
use Rattle.otp_rules.specs.declared.work.Phase.{Phase}
use Rattle.otp_rules.specs.State.{State, is_over}
use Rattle.otp_rules.specs.Step.{step}
use Rattle.otp_rules.specs.Run.{empty_state, state_after}
use Rattle.otp_rules.specs.Needs.{IsLawfulHistory}
use Rattle.otp_rules.specs.Progress.{Progress, id_bytes}
use Rattle.otp_rules.specs.Fit.{IsLawfulFrom}
use Rattle.otp_laws.specs.Basis.{IsBasis}

-- an order to start gives the event's number to the child with the order's id, which has it after the event
abbrev pub StartsItsChild : State → Event → Effect → Type 0
StartsItsChild s e (effect.Start id p) = (e.number ≡ Some p) × (row : Row) × Contains (step s e).state.rows row × (has_process p row.state ≡ true) × (id_bytes row.id ≡ id_bytes id)
StartsItsChild s e _ = Unit {0}

-- so does each order of a lawful history from a basis
abbrev pub StartsOfChildrenFrom : Type 0
StartsOfChildrenFrom =
    (m : ℕ) (s : State) (g : Progress) (events : List Event) (e : Event) → IsBasis m s g → IsLawfulFrom m s (events ++ e ∷ [])
    → All (StartsItsChild (state_after s events) e) (step (state_after s events) e).orders

-- it is so from the state that was never opened on
abbrev pub StartsOfChildren : Type 0
StartsOfChildren =
    (flags : SupFlags) (specs : List ChildSpec) (events : List Event) (e : Event) → IsLawfulHistory (empty_state flags specs) (events ++ e ∷ [])
    → All (StartsItsChild (state_after (empty_state flags specs) events) e) (step (state_after (empty_state flags specs) events) e).orders

-- an End is that of a supervisor that has ended
abbrev pub EndsIf : Phase → Effect → Type 0
EndsIf phase (effect.End _) = is_over phase ≡ true
EndsIf phase _ = Unit {0}

-- after an event that orders an End the supervisor has ended, whatever happened before
abbrev pub EndOrdersEnd : Type 0
EndOrdersEnd = (s : State) (e : Event) → All (EndsIf (step s e).state.phase) (step s e).orders
