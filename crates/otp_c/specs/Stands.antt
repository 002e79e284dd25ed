-- What the structs of a supervisor and of a child as they stand say (own).
use Rattle.std.specs.Prelude.{◌≡◌, ℕ, ◌-◌, ◌*◌, ◌^◌, List, Option, Some, None, count_by, is_some, length, min, nat_le, position, slice_get}
use Rattle.otp_driver.specs.declared.driven.link.Link.{Link}
use Rattle.otp_driver.specs.Links.{is_link_of}
use Rattle.otp_driver.specs.Members.{Member, state_in}
use Rattle.otp_driver.specs.declared.session.Session.{Session}
use Rattle.otp_rules.specs.Counts.{counts_of}
use Rattle.otp_rules.specs.Ends.{last_stamps}
use Rattle.otp_rules.specs.declared.ending.Ending.{Ending}
use Rattle.otp_rules.specs.declared.work.Phase.{Phase}
use Rattle.otp_rules.specs.declared.work.Phase.TheVariants.{Ended}
use Rattle.otp_spec.specs.declared.child.ChildSpec.{ChildSpec}
use Rattle.otp_table.specs.declared.row.Row.{Row}
use Rattle.otp_table.specs.declared.row.RowState.{RowState}
use Rattle.otp_table.specs.declared.row.RowState.TheVariants as row
use Rattle.otp_c.specs.declared.shapes.status.TheConstants.{OTP_NONE, OTP_NO_SUPERVISOR, OTP_OK}
use Rattle.otp_c.specs.declared.shapes.structs.CChild.{CChild}
use Rattle.otp_c.specs.declared.shapes.structs.CName.{CName}
use Rattle.otp_c.specs.declared.shapes.structs.CSupervisor.{CSupervisor}
use Rattle.otp_c.specs.Orders.{ShowsName, ShowsSome}
use Rattle.otp_c.specs.Shown.{ShowsSpec}
use Rattle.otp_c.specs.Words.{auto_shutdown_number, cause_number, child_state_number, flag_number, phase_number, strategy_number}

-- the number, or 0 where there is none
abbrev pub or_zero : Option ℕ → ℕ
or_zero None = 0
or_zero (Some number) = number

-- why the supervisor ended last, by its own phase and by what it told its parent; 0 where it never ended
abbrev pub ended_by : Option Ending → ℕ
ended_by None = 0
ended_by (Some ending) = cause_number ending

abbrev pub last_cause : Phase → Option Ending → ℕ
last_cause (Ended _ ending) told = cause_number ending
last_cause _ told = ended_by told

-- the id that it has as its parent's child
abbrev pub ShowsChild : Option ChildSpec → CName → Type 0
ShowsChild None field = field.len ≡ 0
ShowsChild (Some spec) field = ShowsName spec.id field

-- how many of these restarts lie within so many seconds before the reading
abbrev pub recent : ℕ → ℕ → List ℕ → ℕ
recent reading period stamps = count_by (nat_le (reading - min (period * 1000) (2 ^ 64 - 1))) stamps

-- a supervisor; a tree has 64 at the most
pub record ShowsSupervisor (m : Member) (link : Link) (reading : ℕ) (out : CSupervisor) : Type 0 where
  pub intensity : out.intensity ≡ m.base.flags.intensity
  pub period : out.period ≡ m.base.flags.period
  pub process : out.process ≡ or_zero link.process
  pub specs : out.specs ≡ (counts_of (state_in m)).specs
  pub active : out.active ≡ (counts_of (state_in m)).active
  pub supervisors : out.supervisors ≡ (counts_of (state_in m)).supervisors
  pub workers : out.workers ≡ (counts_of (state_in m)).workers
  pub restarts : out.restarts ≡ min (length (state_in m).stamps) (2 ^ 64 - 1)
  pub in_period : out.in_period ≡ recent reading m.base.flags.period (last_stamps (state_in m).flags.intensity (state_in m).stamps)
  pub starts : out.starts ≡ link.starts
  pub rows : out.rows ≡ length (state_in m).rows
  pub parent : out.parent ≡ min link.parent 1000000
  pub strategy : out.strategy ≡ strategy_number m.base.flags.strategy
  pub auto_shutdown : out.auto_shutdown ≡ auto_shutdown_number m.base.flags.auto_shutdown
  pub phase : out.phase ≡ phase_number (state_in m).phase
  pub has_process : out.has_process ≡ flag_number (is_some link.process)
  pub is_stopping : out.is_stopping ≡ flag_number link.is_stopping
  pub has_open_work : out.has_open_work ≡ flag_number (is_some (state_in m).follows)
  pub cause : out.cause ≡ last_cause (state_in m).phase link.ended
  pub id : ShowsChild link.child out.id

-- the number of a child's process, or the waiting retry's; and its deadline
abbrev pub number_in : RowState → ℕ
number_in row.Undefined = 0
number_in (row.Starting number _) = number
number_in (row.Up number) = number
number_in (row.Asked number _) = number
number_in (row.Killed number) = number
number_in (row.Restarting number) = number

abbrev pub deadline_in : RowState → Option ℕ
deadline_in (row.Asked _ deadline) = deadline
deadline_in _ = None

-- the number of a child's own table, or 0
abbrev pub nested_number : Option ℕ → ℕ
nested_number None = 0
nested_number (Some place) = min place 1000000

pub record ShowsRow (links : List Link) (place : ℕ) (r : Row) (out : CChild) : Type 0 where
  pub number : out.number ≡ number_in r.state
  pub deadline : out.deadline ≡ or_zero (deadline_in r.state)
  pub state : out.state ≡ child_state_number r.state
  pub has_deadline : out.has_deadline ≡ flag_number (is_some (deadline_in r.state))
  pub nested : out.nested ≡ nested_number (position (is_link_of place r) links)
  pub spec : ShowsSpec r.spec out.spec
  pub id : ShowsSome r.id out.id

-- what a call about a supervisor answers: there is none of this number, or it is said
abbrev pub SaysSupervisor : Option Member → Option Link → ℕ → ℕ → CSupervisor → CSupervisor → Type 0
SaysSupervisor (Some m) (Some link) reading status old new = (status ≡ OTP_OK) × ShowsSupervisor m link reading new
SaysSupervisor _ _ reading status old new = (status ≡ OTP_NO_SUPERVISOR) × (new ≡ old)

abbrev pub SaysRow : List Link → ℕ → Option Row → ℕ → CChild → CChild → Type 0
SaysRow links place None status old new = (status ≡ OTP_NONE) × (new ≡ old)
SaysRow links place (Some r) status old new = (status ≡ OTP_OK) × ShowsRow links place r new

abbrev pub SaysChild : List Link → ℕ → ℕ → Option Member → ℕ → CChild → CChild → Type 0
SaysChild links place index None status old new = (status ≡ OTP_NO_SUPERVISOR) × (new ≡ old)
SaysChild links place index (Some m) status old new = SaysRow links place (slice_get (state_in m).rows index) status old new

-- what a call about a session's supervisor answers, and one about a child
abbrev pub LooksAt : ℕ → ℕ → CSupervisor → CSupervisor → Session → Type 0
LooksAt place status old new session =
    SaysSupervisor (slice_get session.driver.members place) (slice_get session.driver.links place) session.driver.reading status old new

abbrev pub LooksAtChild : ℕ → ℕ → ℕ → CChild → CChild → Session → Type 0
LooksAtChild place index status old new session =
    SaysChild session.driver.links place index (slice_get session.driver.members place) status old new
