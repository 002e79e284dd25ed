-- A core goes on from a changed checkpoint, where one went on from the checkpoint before.
use Rattle.std.proofs.Common.{◌≡◌, ◌-◌, ◌*◌, ◌≤◌, ◌&&◌, ℕ, All, Bool, true, false, List, [], ap, arith, drop, get_or, length, length-drop, map, nat_le, refl, subst, sym, ◌∙◌, None}
use Rattle.std.specs.Prelude.{if◌then◌else◌}
use Rattle.std.specs.List.{filter}
use Rattle.std.specs.List.Sorted.{IsNonDecreasing}
use Rattle.std.proofs.lemmas.Bool.{le-ltb}
use Rattle.std.proofs.lemmas.List.{length-map}
use Rattle.std.proofs.lemmas.List.Elements.{All-drop, All-filter}
use Rattle.std.proofs.lemmas.List.Kept.{IsNonDecreasingBy-filter}
use Rattle.std.proofs.lemmas.List.Sorted.{IsNonDecreasingBy-drop}
use Rattle.otp_spec.specs.declared.child.ChildSpec.{ChildSpec}
use Rattle.otp_spec.specs.declared.flags.SupFlags.{SupFlags}
use Rattle.otp_spec.specs.declared.limits.TheConstants.{MAX_CHILDREN, MAX_READING}
use Rattle.otp_spec.specs.Flags.{is_simple}
use Rattle.otp_spec.specs.Supervisor.{supervisor_fault, IsLawful as IsLawfulPlan}
use Rattle.otp_window.specs.Period.{is_in_period}
use Rattle.otp_table.specs.declared.row.Row.{Row}
use Rattle.otp_rules.specs.declared.work.Phase.{Phase}
use Rattle.otp_rules.specs.declared.work.Phase.TheVariants.{Unopened, Open, Ended}
use Rattle.otp_rules.specs.State.{State, is_over}
use Rattle.otp_base.specs.declared.base.Base.{Base}
use Rattle.otp_base.specs.declared.base.Counts.{Counts}
use Rattle.otp_base.specs.Lawful.{ends_by_intensity, is_crowded, AreCounts, AreRestarts, IsLawful}
use Rattle.otp_base.specs.States.{state_in}
use Rattle.otp_base.specs.declared.change.seat.Seat.{Seat}
use Rattle.otp_base.specs.Change.{changed, phase_after, shared, stamps_after}
use Rattle.otp_base.specs.Seats.{rows_of, seated, standing}
use Rattle.otp_base.proofs.Fitted.{rows_length}
use Rattle.otp_base.proofs.Seating.{each_seat}

-- what a core asks of a checkpoint, but for its counts
record IsLawfulState (s : State) : Type 0 where
  plan : IsLawfulPlan s.flags s.specs
  faultless : supervisor_fault s.flags s.specs ≡ None
  few : length s.rows ≤ MAX_CHILDREN
  last : s.last ≤ MAX_READING
  restarts : AreRestarts s.flags s.stamps s.last s.follows s.phase

not_ended : (phase : Phase) → ends_by_intensity None (phase_after phase) ≡ false
not_ended Unopened = refl
not_ended (Open _) = refl
not_ended (Ended _ _) = refl

pub few_kept : (count : ℕ) (times : List ℕ) → length (drop (length times - count) times) ≤ count
few_kept count times = omega (arith, length-drop (length times - count) times)

not_crowded : (intensity period : ℕ) (stamps : List ℕ) → length stamps ≤ intensity → is_crowded intensity period stamps ≡ false
not_crowded intensity period stamps few =
    ap (λ (b : Bool). b && nat_le (get_or stamps (length stamps - 1) 0 - get_or stamps 0 0) (1000 * period)) (le-ltb intensity (length stamps) few)

are_restarts : (flags : SupFlags) (last : ℕ) (stamps : List ℕ) (phase : Phase) → IsNonDecreasing stamps → All (λ t. t ≤ last) stamps
    → AreRestarts flags (stamps_after flags last stamps) last None (phase_after phase)
are_restarts flags last stamps phase ordered latest =
    let test : ℕ → Bool = is_in_period flags.period last in
    let times : List ℕ = filter test stamps in
    let few : length (stamps_after flags last stamps) ≤ flags.intensity = few_kept flags.intensity times in
    record {
      ordered = IsNonDecreasingBy-drop (λ (t : ℕ). t) (length times - flags.intensity) times (IsNonDecreasingBy-filter (λ (t : ℕ). t) test stamps ordered);
      latest = All-drop (λ (t : ℕ). t ≤ last) (length times - flags.intensity) times (All-filter test (λ (t : ℕ). t ≤ last) stamps latest);
      few = omega (arith, few);
      rate = not_crowded flags.intensity flags.period (stamps_after flags last stamps) few ∙ sym (not_ended phase);
    }

pub plan_length : (over : Bool) (specs : List ChildSpec) → length (if over then [] else specs) ≤ length specs
plan_length true specs = omega arith
plan_length false specs = omega arith

few_rows : (b over : Bool) (rows : List Row) (specs : List ChildSpec) → length rows ≤ MAX_CHILDREN → length specs ≤ MAX_CHILDREN
    → length (if b then map (shared specs) rows else rows_of (seated (standing rows) (if over then [] else specs)).seats) ≤ MAX_CHILDREN
few_rows true over rows specs few limit = omega (arith, few, length-map rows (shared specs))
few_rows false over rows specs few limit =
    let plan : List ChildSpec = if over then [] else specs in
    let seats : List Seat = (seated (standing rows) plan).seats in
    omega (arith, limit, rows_length seats, each_seat plan (standing rows), plan_length over specs)

lawful_state : (flags : SupFlags) (specs : List ChildSpec) (b : Base) → IsLawfulPlan flags specs → supervisor_fault flags specs ≡ None → IsLawful b
    → IsLawfulState (changed flags specs (state_in b))
lawful_state flags specs b plan faultless lawful =
    record {
      plan = plan;
      faultless = faultless;
      few = few_rows (is_simple flags.strategy) (is_over b.phase) b.rows.items specs lawful.few plan.limit;
      last = lawful.last;
      restarts = are_restarts flags b.last b.stamps.items b.phase lawful.restarts.ordered lawful.restarts.latest;
    }

pub resumes : (flags : SupFlags) (specs : List ChildSpec) (b new : Base) → state_in new ≡ changed flags specs (state_in b) → new.counts ≡ b.counts
    → IsLawfulPlan flags specs → supervisor_fault flags specs ≡ None → IsLawful b → IsLawful new
resumes flags specs b new same counts plan faultless lawful =
    let s : IsLawfulState (state_in new) = subst (λ (x : State). IsLawfulState x) (sym same) (lawful_state flags specs b plan faultless lawful) in
    record {
      plan = s.plan;
      faultless = s.faultless;
      few = s.few;
      last = s.last;
      restarts = s.restarts;
      counts = subst (λ (x : Counts). AreCounts x) (sym counts) lawful.counts;
    }
