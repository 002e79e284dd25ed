-- The calls of a supervisor, with no work open (supervisor, the exported functions).
use Rattle.std.specs.Prelude.{ℕ, ◌++◌, ◌∷◌, Bool, None, Option, Some, [], if◌then◌else◌, length, nat_le, remove, slice_get}
use Rattle.std.specs.Str.{bytes_eq}
use Rattle.otp_reason.specs.declared.name.Name.{Name}
use Rattle.otp_reason.specs.Names.{name_bytes}
use Rattle.otp_spec.specs.declared.child.ChildSpec.{ChildSpec}
use Rattle.otp_spec.specs.declared.limits.TheConstants.{MAX_CHILDREN}
use Rattle.otp_spec.specs.declared.fault.SpecFault.{SpecFault}
use Rattle.otp_spec.specs.Lawful.{first_fault}
use Rattle.otp_table.specs.declared.row.Row.{Row}
use Rattle.otp_table.specs.declared.row.RowState.{RowState}
use Rattle.otp_table.specs.declared.row.RowState.TheVariants.{Asked, Killed, Restarting, Starting, Undefined, Up}
use Rattle.otp_table.specs.Rows.{free_slot, has_id, has_number, row_has}
use Rattle.otp_rules.specs.declared.call.Call.{Call}
use Rattle.otp_rules.specs.declared.call.Call.TheVariants as call
use Rattle.otp_rules.specs.declared.call.CallFault.{CallFault}
use Rattle.otp_rules.specs.declared.call.CallFault.TheVariants as fault
use Rattle.otp_rules.specs.declared.call.Reply.TheVariants as reply
use Rattle.otp_rules.specs.declared.work.Sequel.TheVariants as sequel
use Rattle.otp_spec.specs.Flags.{is_simple}
use Rattle.otp_rules.specs.State.{Outcome, answer, with_rows, with_work}
use Rattle.otp_rules.specs.Places.{at_row, set_row}
use Rattle.otp_rules.specs.Counts.{counts_of, which_of}

-- the call is refused, and nothing else changes
abbrev pub refuse : ℕ → CallFault → Outcome → Outcome
refuse c why o = answer c (reply.Refused why) o

-- a row without a process, in this slot: of a child or, without an id, of a dynamic one
abbrev pub new_row : ℕ → Option Name → ChildSpec → Row
new_row slot id spec = record { slot = slot; id = id; spec = spec; state = Undefined }

-- the row is added last, to be started (supervisor, start_child/2); there are at most MAX_CHILDREN, and it gets the least
-- slot that none of them has (own)
unfoldable pub add_child : ℕ → Option Name → ChildSpec → Outcome → Outcome
add_child c id spec o =
    if nat_le MAX_CHILDREN (length o.state.rows) then refuse c fault.TooManyChildren o
    else
    with_work [] (record { id = id; kept = None } ∷ []) (Some (sequel.Added c))
    (with_rows (o.state.rows ++ new_row (free_slot o.state.rows) id spec ∷ []) o)

-- Why a call is refused at the child that it names, by the child's state; None: it is carried out
-- (supervisor, start_child/2, restart_child/2, delete_child/2, terminate_child/2). A child that waits for its next restart
-- is there already (own).
abbrev pub fault_at : Call → RowState → Option CallFault
fault_at (call.StartChild _) (Up p) = Some (fault.AlreadyStarted p)
fault_at (call.StartChild _) _ = Some fault.AlreadyPresent
fault_at (call.RestartChild _) Undefined = None
fault_at (call.RestartChild _) (Restarting _) = Some fault.Restarting
fault_at (call.RestartChild _) _ = Some fault.Running
fault_at (call.DeleteChild _) Undefined = None
fault_at (call.DeleteChild _) (Restarting _) = Some fault.Restarting
fault_at (call.DeleteChild _) _ = Some fault.Running
fault_at (call.TerminateChild _) _ = None
fault_at (call.TerminateProcess _) Undefined = Some fault.NotFound
fault_at (call.TerminateProcess _) _ = None
fault_at (call.GetChildspec _) _ = None
-- these name no child, and are asked of none
fault_at call.StartDynamic _ = None
fault_at call.WhichChildren _ = None
fault_at call.CountChildren _ = None

-- the process is to be stopped, and then the call is answered
unfoldable pub stop_process : ℕ → ℕ → Outcome → Outcome
stop_process c p o = with_work (p ∷ []) [] (Some (sequel.Stopped c)) o

-- a child with a process is stopped; at one without, the call is answered, and this is how it leaves the supervisor
abbrev pub stop_child : ℕ → RowState → Outcome → Outcome → Outcome
stop_child c (Starting p _) gone o = stop_process c p o
stop_child c (Up p) gone o = stop_process c p o
stop_child c (Asked p _) gone o = stop_process c p o
stop_child c (Killed p) gone o = stop_process c p o
stop_child c _ gone o = answer c reply.Ok gone

-- what a call does at the child that it names
abbrev pub carry_out : ℕ → Call → ℕ → Row → Outcome → Outcome
carry_out c (call.RestartChild id) place row o = with_work [] (record { id = Some id; kept = None } ∷ []) (Some (sequel.Restarted c)) o
carry_out c (call.DeleteChild _) place row o = answer c reply.Ok (with_rows (remove o.state.rows place) o)
carry_out c (call.TerminateChild _) place row o = stop_child c row.state (set_row place row Undefined o) o
carry_out c (call.TerminateProcess _) place row o = stop_child c row.state (with_rows (remove o.state.rows place) o) o
carry_out c (call.GetChildspec _) place row o = answer c (reply.Spec row.spec) o
-- refused at each child that is there
carry_out c (call.StartChild _) place row o = o
-- these name no child, and are asked of none
carry_out c call.StartDynamic place row o = o
carry_out c call.WhichChildren place row o = o
carry_out c call.CountChildren place row o = o

-- refused where there is a fault, else this is done
abbrev pub unless_refused : ℕ → Option CallFault → Outcome → Outcome → Outcome
unless_refused c None done o = done
unless_refused c (Some why) done o = refuse c why o

-- the call at the row of the child that it names
unfoldable pub call_at : ℕ → Call → ℕ → Row → Outcome → Outcome
call_at c x place row o = unless_refused c (fault_at x row.state) (carry_out c x place row o) o

unfoldable pub start_lawful : ℕ → ChildSpec → Outcome → Outcome
start_lawful c spec o = at_row (has_id spec.id) (add_child c (Some spec.id) spec o) (call_at c (call.StartChild spec)) o

unfoldable pub start_checked : ℕ → ChildSpec → Option SpecFault → Outcome → Outcome
start_checked c spec None o = start_lawful c spec o
start_checked c spec (Some why) o = refuse c (fault.BadSpec why) o

-- start_child with a specification
unfoldable pub start_child : ℕ → ChildSpec → Outcome → Outcome
start_child c spec o =
    if is_simple o.state.flags.strategy then refuse c fault.SimpleOneForOne o
    else start_checked c spec (first_fault (spec ∷ []) (Some o.state.flags.auto_shutdown)) o

unfoldable pub start_shared : ℕ → Option ChildSpec → Outcome → Outcome
start_shared c None o = refuse c fault.NotSimple o
start_shared c (Some spec) o = add_child c None spec o

-- start_child under simple_one_for_one (Supervisor Behaviour, Simplified one_for_one Supervisors)
unfoldable pub start_dynamic : ℕ → Outcome → Outcome
start_dynamic c o =
    if is_simple o.state.flags.strategy then start_shared c (slice_get o.state.specs 0) o
    else refuse c fault.NotSimple o

-- the call at the child with this id; a child can't be named so under simple_one_for_one
unfoldable pub call_child : ℕ → Name → Call → Outcome → Outcome
call_child c id x o =
    if is_simple o.state.flags.strategy then refuse c fault.SimpleOneForOne o
    else at_row (has_id id) (refuse c fault.NotFound o) (call_at c x) o

-- terminate_child by number, of a dynamic child
unfoldable pub terminate_process : ℕ → ℕ → Outcome → Outcome
terminate_process c p o =
    if is_simple o.state.flags.strategy
    then at_row (row_has (has_number p)) (refuse c fault.NotFound o) (call_at c (call.TerminateProcess p)) o
    else refuse c fault.NotFound o

-- the specification has this id: the same bytes
abbrev pub is_named : Name → ChildSpec → Bool
is_named id spec = bytes_eq (name_bytes spec.id) (name_bytes id)

unfoldable pub get_shared : ℕ → Name → Option ChildSpec → Outcome → Outcome
get_shared c id None o = refuse c fault.NotFound o
get_shared c id (Some spec) o = if is_named id spec then answer c (reply.Spec spec) o else refuse c fault.NotFound o

-- get_childspec: of a child, or under simple_one_for_one of the specification that all share
unfoldable pub get_childspec : ℕ → Name → Outcome → Outcome
get_childspec c id o =
    if is_simple o.state.flags.strategy then get_shared c id (slice_get o.state.specs 0) o
    else at_row (has_id id) (refuse c fault.NotFound o) (call_at c (call.GetChildspec id)) o

-- a call, with no work open
unfoldable pub take_call : ℕ → Call → Outcome → Outcome
take_call c (call.StartChild spec) o = start_child c spec o
take_call c call.StartDynamic o = start_dynamic c o
take_call c (call.RestartChild id) o = call_child c id (call.RestartChild id) o
take_call c (call.DeleteChild id) o = call_child c id (call.DeleteChild id) o
take_call c (call.TerminateChild id) o = call_child c id (call.TerminateChild id) o
take_call c (call.TerminateProcess p) o = terminate_process c p o
take_call c call.WhichChildren o = answer c (reply.Which (which_of o.state.rows)) o
take_call c call.CountChildren o = answer c (reply.Count (counts_of o.state)) o
take_call c (call.GetChildspec id) o = get_childspec c id o
