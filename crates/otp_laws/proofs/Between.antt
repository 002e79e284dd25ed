-- After an order to start a child the next one for its id comes only after the note of its process's end was taken.
use Rattle.std.specs.Prelude.{◌≡◌, ◌++◌, ℕ, true, List, [], ◌∷◌, Option, None, Some, All, Contains, refl}
use Rattle.std.proofs.Common.{◌∙◌, ap, sym, subst, rules}
use Rattle.std.proofs.lemmas.List.{append_assoc}
use Rattle.std.proofs.lemmas.Slice.Eq.{bytes_eq-Decides}
use Rattle.otp_reason.specs.declared.name.Name.{Name}
use Rattle.otp_reason.specs.Names.{name_bytes}
use Rattle.otp_spec.specs.declared.child.ChildSpec.{ChildSpec}
use Rattle.otp_spec.specs.declared.flags.SupFlags.{SupFlags}
use Rattle.otp_table.specs.declared.row.Row.{Row}
use Rattle.otp_table.specs.Rows.{has_id}
use Rattle.otp_rules.specs.declared.event.Effect.{Effect}
use Rattle.otp_rules.specs.declared.event.Effect.TheVariants as effect
use Rattle.otp_rules.specs.declared.event.Event.{Event}
use Rattle.otp_rules.specs.State.{State}
use Rattle.otp_rules.specs.Step.{step}
use Rattle.otp_rules.specs.Run.{empty_state, state_after}
use Rattle.otp_rules.specs.Needs.{IsLawfulHistory}
use Rattle.otp_rules.specs.Progress.{id_bytes}
use Rattle.otp_laws.specs.Life.{OrdersStartAnew, StartsAs}
use Rattle.otp_laws.specs.Starts.{StartsItsChild}
use Rattle.otp_laws.proofs.Basis.{lawful_from_0, split_lawful}
use Rattle.otp_laws.proofs.Life.{ids_start_anew_law, in_two}
use Rattle.otp_laws.proofs.Starts.{starts_of_children_law}

-- a child of an id of these bytes has this id
passes : (id : Name) (x : Option Name) (row : Row) → row.id ≡ x → id_bytes x ≡ Some (name_bytes id) → has_id id row ≡ true
passes id None row is h = absurd (search (rules, h))
passes id (Some name) row is h =
    let same : name_bytes name ≡ name_bytes id = (let e : ◌≡◌ {A = Option (List ℕ)} (Some (name_bytes name)) (Some (name_bytes id)) = h in cc) in
    ap (λ (y : Option Name). has_id id (record row { id = y })) is ∙ (bytes_eq-Decides (name_bytes name) (name_bytes id)).1 same

-- of all orders this one
pub of_all : (P : Effect → Type 0) (xs : List Effect) (x : Effect) → All P xs → Contains xs x → P x
of_all P xs x all c = subst P c.2 (all c.0 x c.1)

-- an order to start is one of a child with its id
starts-as : (flags : SupFlags) (specs : List ChildSpec) (events : List Event) (e : Event) (id other : Name) (p : ℕ) → IsLawfulHistory (empty_state flags specs) (events ++ e ∷ []) → name_bytes other ≡ name_bytes id
    → Contains (step (state_after (empty_state flags specs) events) e).orders (effect.Start (Some other) p) → StartsAs (state_after (empty_state flags specs) events) e id p
starts-as flags specs events e id other p lawful same ordered =
    let a : State = state_after (empty_state flags specs) events in
    let h : StartsItsChild a e (effect.Start (Some other) p) = of_all (StartsItsChild a e) (step a e).orders (effect.Start (Some other) p) (starts_of_children_law flags specs events e lawful) ordered in
    (h.0, (h.1, h.2, passes id h.1.id h.1 refl (h.4 ∙ ap (λ (bytes : List ℕ). Some bytes) same), h.3))

-- the history is lawful up to the first of the two events
pub first_lawful : (base : State) (events between : List Event) (e f : Event) → IsLawfulHistory base (events ++ e ∷ between ++ f ∷ []) → IsLawfulHistory base (events ++ e ∷ [])
first_lawful base events between e f lawful =
    let whole : IsLawfulHistory base (events ++ e ∷ (between ++ f ∷ [])) = subst (λ (l : List Event). IsLawfulHistory base l) (in_two events between e f) lawful in
    (split_lawful 0 base (events ++ e ∷ []) (between ++ f ∷ [])
    (lawful_from_0 base ((events ++ e ∷ []) ++ (between ++ f ∷ [])) (subst (λ (l : List Event). IsLawfulHistory base l) (sym (append_assoc events (e ∷ []) (between ++ f ∷ []))) whole))).0.0

pub orders_start_anew_law : OrdersStartAnew
orders_start_anew_law flags specs events between e f id other p q opens lawful same first second =
    let start : IsLawfulHistory (empty_state flags specs) (events ++ e ∷ []) = first_lawful (empty_state flags specs) events between e f lawful in
    ids_start_anew_law flags specs events between e f id p q opens lawful (starts-as flags specs events e id id p start refl first) (starts-as flags specs (events ++ e ∷ between) f id other q lawful same second)
