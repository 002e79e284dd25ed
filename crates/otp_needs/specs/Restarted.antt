-- The work that a restart opens (own).
use Rattle.std.specs.Prelude.{ℕ, ◌≡◌, ◌+◌, Bool, true, false, ◌&&◌, not, List, [], ◌∷◌, ◌++◌, Option, None, Some, drop, remove, slice_get, slice_range, slice_set, take}
use Rattle.std.specs.List.{list_any}
use Rattle.otp_table.specs.declared.row.Row.{Row}
use Rattle.otp_table.specs.Rows.{calm_rows, is_awaited, row_has, with_state}
use Rattle.otp_table.specs.declared.row.RowState.TheVariants.{Undefined}
use Rattle.otp_rules.specs.declared.event.Waiting.{Waiting}
use Rattle.otp_spec.specs.declared.child.ChildSpec.{ChildSpec}
use Rattle.otp_rules.specs.declared.work.Sequel.{Sequel}
use Rattle.otp_rules.specs.declared.work.Sequel.TheVariants as sequel
use Rattle.otp_rules.specs.State.{Outcome, is_busy}
use Rattle.otp_rules.specs.Needs.{ends_wait, has_due}
use Rattle.otp_rules.specs.Places.{is_temporary}
use Rattle.otp_rules.specs.Restarts.{restart_list, running, stop_list}

-- the restart of the children from one place to another goes on to a start at once
abbrev pub restart_goes_on : ℕ → ℕ → ℕ → ℕ → List Row → List Waiting → Bool
restart_goes_on from to place kept rows items =
    not (list_any (row_has is_awaited) (take from rows ++ calm_rows (slice_range rows from to) ++ drop to rows))
    && (ends_wait (stop_list (slice_range rows from to)) items && has_due (restart_list from to place kept rows))

-- the children from one place to another, beside the one at the place, have ended, and one of them all lasts
abbrev pub others_have_ended : ℕ → ℕ → ℕ → List Row → List Waiting → Bool
others_have_ended from place to rows items =
    not (list_any (row_has is_awaited) (remove rows place))
    && (ends_wait (running (slice_range rows from place) ++ running (slice_range rows (place + 1) to)) items
    && list_any (λ row. not (is_temporary row.spec.restart)) (slice_range rows from to))

-- so it is told of a restart whether it goes on to a start, however its row is kept
abbrev pub SaysRestart : Bool → ℕ → ℕ → ℕ → List Row → List Waiting → Type 0
SaysRestart answer from place to rows items =
    (kept : ℕ) (row : Row) → slice_get rows place ≡ Some row → answer ≡ restart_goes_on from to place kept (slice_set rows place (with_state Undefined row)) items

-- the open work goes on to a start where the child at the place is not awaited
abbrev pub goes_on_beside : ℕ → Outcome → Bool
goes_on_beside place o =
    is_busy o && (not (list_any (row_has is_awaited) (remove o.state.rows place)) && (ends_wait o.state.to_stop o.state.waiting && has_due o.state.to_start))

-- the work that goes on once a child runs
abbrev pub outlives_up : Option Sequel → Bool
outlives_up None = true
outlives_up (Some sequel.Ready) = true
outlives_up (Some sequel.Nothing) = true
outlives_up (Some (sequel.Added _)) = false
outlives_up (Some (sequel.Restarted _)) = false
outlives_up (Some (sequel.Stopped _)) = true
outlives_up (Some (sequel.End _)) = true

-- the work that goes on though a child did not start
abbrev pub outlives_failure : Option Sequel → Bool
outlives_failure None = true
outlives_failure (Some sequel.Ready) = false
outlives_failure (Some sequel.Nothing) = false
outlives_failure (Some (sequel.Added _)) = false
outlives_failure (Some (sequel.Restarted _)) = false
outlives_failure (Some (sequel.Stopped _)) = true
outlives_failure (Some (sequel.End _)) = true

-- a specification is there; only proofs speak of it, which compare what an opening starts with what it has
abbrev pub has_spec : List ChildSpec → Bool
has_spec [] = false
has_spec (spec ∷ specs) = true
