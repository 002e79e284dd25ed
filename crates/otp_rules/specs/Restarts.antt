-- Which children a restart affects (Supervisor Behaviour, Restart Strategy, and Child Specification, restart).
use Rattle.std.specs.Prelude.{ℕ, ◌+◌, Bool, true, false, not, ◌&&◌, List, ◌++◌, Option, Some, None, map, filter, reverse, slice_range}
use Rattle.std.specs.List.{list_any, filter_map}
use Rattle.otp_reason.specs.declared.reason.Reason.{Reason}
use Rattle.otp_reason.specs.Quiet.{is_quiet}
use Rattle.otp_spec.specs.declared.flags.Strategy.{Strategy}
use Rattle.otp_spec.specs.declared.flags.Strategy.TheVariants.{OneForOne, OneForAll, RestForOne, SimpleOneForOne}
use Rattle.otp_spec.specs.declared.flags.AutoShutdown.{AutoShutdown}
use Rattle.otp_spec.specs.declared.flags.AutoShutdown.TheVariants.{Never, AnySignificant, AllSignificant}
use Rattle.otp_spec.specs.declared.child.Restart.{Restart}
use Rattle.otp_spec.specs.declared.child.Restart.TheVariants.{Permanent, Transient, Temporary}
use Rattle.otp_table.specs.declared.row.Row.{Row}
use Rattle.otp_table.specs.Rows.{up_number, is_left}
use Rattle.otp_rules.specs.declared.work.Due.{Due}
use Rattle.otp_rules.specs.Places.{is_temporary}

-- a child of this type that ended so is restarted (Supervisor Behaviour, Child Specification, restart)
abbrev pub is_restarted : Restart → Reason → Bool
is_restarted Permanent r = true
is_restarted Transient r = not (is_quiet r)
is_restarted Temporary r = false

-- the first place that a restart of the child at a place affects
abbrev pub affected_from : Strategy → ℕ → ℕ
affected_from OneForOne place = place
affected_from OneForAll place = 0
affected_from RestForOne place = place
affected_from SimpleOneForOne place = place

-- the place after the last one that it affects, of so many
abbrev pub affected_to : Strategy → ℕ → ℕ → ℕ
affected_to OneForOne place count = place + 1
affected_to OneForAll place count = count
affected_to RestForOne place count = count
affected_to SimpleOneForOne place count = place + 1

-- the process numbers of the children that run, in start order
abbrev pub running : List Row → List ℕ
running rows = filter_map (λ row. up_number row.state) rows

-- the stop list of rows: the processes of the children that run, in reverse start order
abbrev pub stop_list : List Row → List ℕ
stop_list rows = reverse (running rows)

-- the children that are started again, in start order; a temporary one never is
abbrev pub dues : Option ℕ → List Row → List Due
dues kept rows = map (λ row. record { id = row.id; kept = kept }) (filter (λ row. not (is_temporary row.spec.restart)) rows)

-- the children that are started again from one place to another, where the child at a place between keeps the number k
abbrev pub restart_list : ℕ → ℕ → ℕ → ℕ → List Row → List Due
restart_list from to place k rows =
    dues None (slice_range rows from place) ++ dues (Some k) (slice_range rows place (place + 1)) ++ dues None (slice_range rows (place + 1) to)

-- a significant child that ended by itself ends the supervisor (Supervisor Behaviour, Automatic Shutdown);
-- the rows are those after its end
abbrev pub ends_by_significance : AutoShutdown → Row → List Row → Bool
ends_by_significance Never row rows = false
ends_by_significance AnySignificant row rows = row.spec.significant
ends_by_significance AllSignificant row rows = row.spec.significant && not (list_any is_left rows)
