-- Under simple_one_for_one a child that has no process is gone, or restarted at once (Supervisor Behaviour, Simplified
-- one_for_one Supervisors; supervisor, terminate_child/2).
use Rattle.std.specs.Prelude.{◌≡◌, true, false, List, Contains}
use Rattle.otp_spec.specs.declared.child.ChildSpec.{ChildSpec}
use Rattle.otp_spec.specs.declared.flags.SupFlags.{SupFlags}
use Rattle.otp_spec.specs.Flags.{is_simple}
use Rattle.otp_table.specs.declared.row.Row.{Row}
use Rattle.otp_table.specs.Rows.{is_undefined}
use Rattle.otp_rules.specs.declared.event.Event.{Event}
use Rattle.otp_rules.specs.Run.{empty_state, state_after}
use Rattle.otp_rules.specs.Progress.{is_end}

-- between two events of every list no dynamic child is undefined, but while the supervisor ends
abbrev pub SimpleHasNoneUndefined : Type 0
SimpleHasNoneUndefined =
    (flags : SupFlags) (specs : List ChildSpec) (events : List Event) → is_simple flags.strategy ≡ true → is_end (state_after (empty_state flags specs) events).follows ≡ false
    → (row : Row) → Contains (state_after (empty_state flags specs) events).rows row → is_undefined row.state ≡ false
