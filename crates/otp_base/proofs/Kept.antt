-- A supervisor in order stays so, under other flags and specifications.
use Rattle.std.proofs.Common.{◌≡◌, ◌&&◌, ◌||◌, ◌==◌, ℕ, Bool, true, false, not, List, [], Option, None, Some, arith, length, map, refl, subst, sym, ◌∙◌}
use Rattle.std.specs.Prelude.{if◌then◌else◌, is_none}
use Rattle.std.proofs.lemmas.Bool.{and_parts, eqb-true, false≢true}
use Rattle.std.proofs.lemmas.List.{nil_from_length}
use Rattle.std.proofs.lemmas.Option.{none-some}
use Rattle.otp_spec.specs.declared.child.ChildSpec.{ChildSpec}
use Rattle.otp_spec.specs.declared.fault.SpecFault.{SpecFault}
use Rattle.otp_spec.specs.declared.flags.SupFlags.{SupFlags}
use Rattle.otp_spec.specs.Flags.{is_simple}
use Rattle.otp_spec.specs.Supervisor.{supervisor_fault}
use Rattle.otp_table.specs.declared.row.Row.{Row}
use Rattle.otp_table.specs.declared.row.RowState.{RowState}
use Rattle.otp_table.specs.declared.row.RowState.TheVariants.{Undefined}
use Rattle.otp_table.specs.Rows.{has_process, is_awaited, row_has}
use Rattle.otp_rules.specs.declared.work.Phase.{Phase}
use Rattle.otp_rules.specs.declared.work.Phase.TheVariants.{Unopened, Open, Ended}
use Rattle.otp_rules.specs.declared.work.Sequel.{Sequel}
use Rattle.otp_rules.specs.Fit.{rows_in, IsLimited}
use Rattle.otp_rules.specs.InOrder.{IsInOrder}
use Rattle.otp_rules.specs.State.{State, is_over}
use Rattle.otp_base.specs.declared.change.fault.ChangeFault.{ChangeFault}
use Rattle.otp_base.specs.declared.change.fault.ChangeFault.TheVariants as fault
use Rattle.otp_base.specs.Change.{MayChange, changed, is_quiet, is_turned, phase_after, plan_fault, plan_in, shared, spec_fault}
use Rattle.otp_base.specs.Seats.{rows_of, seated, standing}
use Rattle.otp_base.proofs.Counted.{by_state, children_stay}

no_fault : {A : Type 0} (b : Bool) (why : A) (rest : Option A) → (if not b then Some why else rest) ≡ None → (b ≡ true) × (rest ≡ None)
no_fault true why rest h = (refl, h)
no_fault false why rest h = absurd (none-some why (sym h))

no_spec_fault : (found : Option SpecFault) (rest : Option ChangeFault) → spec_fault found rest ≡ None → (found ≡ None) × (rest ≡ None)
no_spec_fault None rest h = (refl, h)
no_spec_fault (Some why) rest h = absurd (none-some (fault.Spec why) (sym h))

-- a supervisor without such a fault is quiet, and the plan is lawful
pub no_plan_fault : (flags : SupFlags) (specs : List ChildSpec) (s : State) → plan_fault flags specs s ≡ None → (is_quiet s ≡ true) × (supervisor_fault flags specs ≡ None)
unfolding plan_fault
no_plan_fault flags specs s h =
    let turned : Option ChangeFault = if is_turned s.flags.strategy flags.strategy s.rows then Some fault.Turned else None in
    let quiet = no_fault (is_quiet s) fault.Busy (spec_fault (supervisor_fault flags specs) turned) h in
    (quiet.0, (no_spec_fault (supervisor_fault flags specs) turned quiet.1).0)

no_work : (follows : Option Sequel) → is_none follows ≡ true → follows ≡ None
no_work None h = refl
no_work (Some _) h = absurd (false≢true h)

none_in : {A : Type 0} (xs : List A) → (length xs == 0) ≡ true → xs ≡ []
none_in xs h = nil_from_length xs (eqb-true (length xs) 0 h)

-- what is quiet has no open work, nothing waits, and it has no children where it doesn't run
pub record Rests (s : State) : Type 0 where
  pub follows : s.follows ≡ None
  pub stops : s.to_stop ≡ []
  pub starts : s.to_start ≡ []
  pub waiting : s.waiting ≡ []
  pub bare : (not (is_over s.phase) || (length s.rows == 0)) ≡ true

pub rests : (s : State) → is_quiet s ≡ true → Rests s
rests s h =
    let four = and_parts (is_none s.follows && (length s.to_stop == 0) && (length s.to_start == 0) && (length s.waiting == 0)) (not (is_over s.phase) || (length s.rows == 0)) h in
    let three = and_parts (is_none s.follows && (length s.to_stop == 0) && (length s.to_start == 0)) (length s.waiting == 0) four.0 in
    let two = and_parts (is_none s.follows && (length s.to_stop == 0)) (length s.to_start == 0) three.0 in
    let one = and_parts (is_none s.follows) (length s.to_stop == 0) two.0 in
    record {
      follows = no_work s.follows one.0;
      stops = none_in s.to_stop one.1;
      starts = none_in s.to_start two.1;
      waiting = none_in s.waiting three.1;
      bare = four.1;
    }

none_by : (b : Bool) (specs : List ChildSpec) → (if b then map (shared specs) [] else rows_of (seated (standing []) []).seats) ≡ []
none_by true specs = refl
none_by false specs = refl

none_at : (b : Bool) (specs : List ChildSpec) (rows : List Row) → rows ≡ [] → (if b then map (shared specs) rows else rows_of (seated (standing rows) []).seats) ≡ []
none_at b specs rows none = subst (λ (xs : List Row). (if b then map (shared specs) xs else rows_of (seated (standing xs) []).seats) ≡ []) (sym none) (none_by b specs)

bare : (phase : Phase) (b : Bool) (specs : List ChildSpec) (rows : List Row) → (not (is_over phase) || (length rows == 0)) ≡ true → is_over (phase_after phase) ≡ true
    → (if b then map (shared specs) rows else rows_of (seated (standing rows) (plan_in phase specs)).seats) ≡ []
bare Unopened b specs rows h over = none_at b specs rows (none_in rows h)
bare (Open _) b specs rows h over = absurd (false≢true over)
bare (Ended _ _) b specs rows h over = none_at b specs rows (none_in rows h)

pub order_stays : (flags : SupFlags) (specs : List ChildSpec) (s : State) (next : ℕ) → MayChange flags specs s → IsInOrder next s → IsInOrder next (changed flags specs s)
order_stays flags specs s next may h =
    let rest : Rests s = rests s (no_plan_fault flags specs s may.planned).0 in
    let same : (t : RowState → Bool) → t Undefined ≡ false → rows_in t (changed flags specs s).rows ≡ rows_in t s.rows = λ t none. children_stay flags specs s (row_has t) may (by_state t none) in
    let few : rows_in is_awaited s.rows ≡ 0 = subst (λ (f : Option Sequel). IsLimited f (rows_in is_awaited s.rows)) rest.follows h.0.0 in (
      (same is_awaited refl ∙ few, (λ q. omega arith), (λ _. (refl, refl)), (λ _. refl), (λ _. refl), (λ _. refl)),
      ((λ q. omega (arith, same (has_process q) refl, h.1.0 q)), (λ q above. same (has_process q) refl ∙ h.1.1 q above)),
      (λ end. absurd (false≢true end)),
      (λ over. bare s.phase (is_simple flags.strategy) specs s.rows rest.bare over),
      (λ stop. absurd (false≢true stop)),
    )
