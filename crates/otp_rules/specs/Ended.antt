-- The ends of a supervisor's openings: those kept are those that its orders told (own). By them a parent's evidence of an
-- end is matched with the history of the supervisor that ended.
use Rattle.std.specs.Prelude.{◌≡◌, ℕ, List, [], ◌∷◌, ◌++◌, Option, Some, None, map, if◌then◌else◌}
use Rattle.std.specs.List.{filter_map}
use Rattle.otp_spec.specs.declared.child.ChildSpec.{ChildSpec}
use Rattle.otp_spec.specs.declared.flags.SupFlags.{SupFlags}
use Rattle.otp_rules.specs.declared.ending.SupEnd.{SupEnd}
use Rattle.otp_rules.specs.declared.event.Effect.{Effect}
use Rattle.otp_rules.specs.declared.event.Effect.TheVariants as effect
use Rattle.otp_rules.specs.declared.event.Event.{Event}
use Rattle.otp_rules.specs.declared.event.Kind.{Kind}
use Rattle.otp_rules.specs.declared.event.Kind.TheVariants as kind
use Rattle.otp_rules.specs.State.{State, is_over, own_number}
use Rattle.otp_rules.specs.Step.{step}
use Rattle.otp_rules.specs.Run.{empty_state, orders_of, state_after}

-- the end that an order carries
abbrev pub end_in : Effect → Option SupEnd
end_in (effect.End end) = Some end
end_in _ = None

-- the number of the opening that an event belongs to: the event's own, where it opens the supervisor, else the one before
abbrev pub opening_number : State → ℕ → Kind → ℕ
opening_number s own (kind.Opened new) = if is_over s.phase then new else own
opening_number s own _ = own

-- the ends that orders carry, under the number of an opening
abbrev pub ends_under : ℕ → List Effect → List (ℕ × SupEnd)
ends_under own orders = map (λ end. (own, end)) (filter_map end_in orders)

-- the ends that the orders of these events carry, in their order, each under the number of its opening
abbrev pub ends_of : State → ℕ → List Event → List (ℕ × SupEnd)
ends_of s own [] = []
ends_of s own (e ∷ es) = ends_under (opening_number s own e.kind) (step s e).orders ++ ends_of (step s e).state (opening_number s own e.kind) es

-- whatever happens from any state on, those join the ends that were kept
abbrev pub EndsKept : Type 0
EndsKept = (s : State) (events : List Event) → (state_after s events).ends ≡ s.ends ++ ends_of s (own_number s.phase) events

-- from the first event on, they are all
abbrev pub EndsKeptFromEmpty : Type 0
EndsKeptFromEmpty = (flags : SupFlags) (specs : List ChildSpec) (events : List Event) → (state_after (empty_state flags specs) events).ends ≡ ends_of (empty_state flags specs) 0 events

-- without the numbers: the ends that the orders carry
abbrev pub EndsCarried : Type 0
EndsCarried =
    (flags : SupFlags) (specs : List ChildSpec) (events : List Event)
    → map (λ (x : ℕ × SupEnd). x.1) (state_after (empty_state flags specs) events).ends ≡ filter_map end_in (orders_of (empty_state flags specs) events)
