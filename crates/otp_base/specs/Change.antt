-- A supervisor that runs gets other flags and other specifications (supervisor, code_change/3, but for what is own).
use Rattle.std.specs.Prelude.{◌≡◌, ◌-◌, ℕ, Bool, true, false, not, ◌&&◌, ◌||◌, ◌==◌, List, [], ◌∷◌, Option, None, Some, drop, is_none, length, map, if◌then◌else◌}
use Rattle.std.specs.List.{filter, list_any}
use Rattle.otp_spec.specs.declared.child.ChildSpec.{ChildSpec}
use Rattle.otp_spec.specs.declared.fault.SpecFault.{SpecFault}
use Rattle.otp_spec.specs.declared.flags.SupFlags.{SupFlags}
use Rattle.otp_spec.specs.declared.flags.Strategy.{Strategy}
use Rattle.otp_spec.specs.Flags.{is_simple}
use Rattle.otp_spec.specs.Supervisor.{supervisor_fault}
use Rattle.otp_window.specs.Period.{is_in_period}
use Rattle.otp_table.specs.declared.row.Row.{Row}
use Rattle.otp_table.specs.Rows.{is_undefined}
use Rattle.otp_rules.specs.declared.work.Phase.{Phase}
use Rattle.otp_rules.specs.declared.work.Phase.TheVariants.{Unopened, Open}
use Rattle.otp_rules.specs.State.{State, is_over}
use Rattle.otp_base.specs.declared.change.fault.ChangeFault.{ChangeFault}
use Rattle.otp_base.specs.declared.change.fault.ChangeFault.TheVariants as fault
use Rattle.otp_base.specs.Seats.{respecified, rows_of, seated, standing}

-- no work is open and nothing waits, and one that doesn't run has no children (own: OTP changes between two messages, and
-- what is under way goes on)
abbrev pub is_quiet : State → Bool
is_quiet s =
    is_none s.follows && (length s.to_stop == 0) && (length s.to_start == 0) && (length s.waiting == 0)
    && (not (is_over s.phase) || (length s.rows == 0))

abbrev pub differ : Bool → Bool → Bool
differ true other = not other
differ false other = other

-- there are children, and they are dynamic under one strategy alone (own)
abbrev pub is_turned : Strategy → Strategy → List Row → Bool
is_turned old new rows = differ (is_simple old) (is_simple new) && not (length rows == 0)

-- the specifications for which there are children: none where the supervisor doesn't run
abbrev pub plan_in : Phase → List ChildSpec → List ChildSpec
plan_in phase specs = if is_over phase then [] else specs

-- under simple_one_for_one all children share the specification
abbrev pub shared : List ChildSpec → Row → Row
shared [] row = row
shared (spec ∷ _) row = respecified spec row

-- the children, in the order of the specifications; dynamic ones in their own
abbrev pub rows_after : Strategy → List ChildSpec → State → List Row
rows_after strategy specs s =
    if is_simple strategy then map (shared specs) s.rows
    else rows_of (seated (standing s.rows) (plan_in s.phase specs)).seats

-- the children that vanish
abbrev pub gone_after : Strategy → List ChildSpec → State → List Row
gone_after strategy specs s =
    if is_simple strategy then [] else (seated (standing s.rows) (plan_in s.phase specs)).left

-- the child has a process, or a retry of its start waits
abbrev pub is_defined : Row → Bool
is_defined row = not (is_undefined row.state)

-- one that vanishes is so (own: OTP keeps it under its old specification)
abbrev pub loses : Strategy → List ChildSpec → State → Bool
loses strategy specs s = list_any is_defined (gone_after strategy specs s)

-- the last of these numbers, so many at most
abbrev pub last_few : ℕ → List ℕ → List ℕ
last_few count times = drop (length times - count) times

-- the restarts that count: those of the period that ends with the last event, and no more than the intensity, so that no
-- change ends the supervisor (own: OTP keeps all, and the next restart looks at them)
abbrev pub stamps_after : SupFlags → ℕ → List ℕ → List ℕ
stamps_after flags last stamps = last_few flags.intensity (filter (is_in_period flags.period last) stamps)

-- one that has ended is as one that was never opened
abbrev pub phase_after : Phase → Phase
phase_after (Open own) = Open own
phase_after _ = Unopened

-- the supervisor under other flags and specifications
abbrev pub changed : SupFlags → List ChildSpec → State → State
changed flags specs s =
    record {
      flags = flags;
      specs = specs;
      rows = rows_after flags.strategy specs s;
      stamps = stamps_after flags s.last s.stamps;
      to_stop = [];
      to_start = [];
      follows = None;
      waiting = [];
      replies = s.replies;
      ends = s.ends;
      last = s.last;
      phase = phase_after s.phase;
    }

-- the first of these faults, if there is one: the supervisor isn't quiet; the flags or specifications are unlawful; children
-- would turn dynamic, or dynamic ones others
abbrev pub spec_fault : Option SpecFault → Option ChangeFault → Option ChangeFault
spec_fault None others = others
spec_fault (Some why) others = Some (fault.Spec why)

unfoldable pub plan_fault : SupFlags → List ChildSpec → State → Option ChangeFault
plan_fault flags specs s =
    if not (is_quiet s) then Some fault.Busy
    else spec_fault (supervisor_fault flags specs)
    (if is_turned s.flags.strategy flags.strategy s.rows then Some fault.Turned else None)

-- the change may be made
pub record MayChange (flags : SupFlags) (specs : List ChildSpec) (s : State) : Type 0 where
  pub planned : plan_fault flags specs s ≡ None
  pub kept : loses flags.strategy specs s ≡ false

-- why there are no such children: one that vanishes has a process, or memory was refused
abbrev pub IsRowsFault : Bool → ChangeFault → Type 0
IsRowsFault lost fault.Running = lost ≡ true
IsRowsFault lost fault.OutOfMemory = Unit {0}
IsRowsFault lost _ = ⊥

-- what a refusal says: the first fault; where there is none of those above, that a child that vanishes has a process, or that
-- memory was refused
abbrev pub IsRefusal : SupFlags → List ChildSpec → State → ChangeFault → Type 0
IsRefusal flags specs s fault.Running = (plan_fault flags specs s ≡ None) × (loses flags.strategy specs s ≡ true)
IsRefusal flags specs s fault.OutOfMemory = plan_fault flags specs s ≡ None
IsRefusal flags specs s why = plan_fault flags specs s ≡ Some why
