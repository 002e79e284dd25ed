-- The walk over open work, and what a decision to end begins with: what each step keeps, the walk keeps.
use Rattle.std.specs.Prelude.{◌≡◌, ◌⊎◌, ℕ, Bool, true, false, List, [], ◌∷◌, ◌++◌, Some, if◌then◌else◌, length, nat_lt, position, is_some, reverse}
use Rattle.std.specs.List.{list_any}
use Rattle.std.proofs.Common.{inl, inr}
use Rattle.otp_window.specs.Period.{in_period}
use Rattle.otp_table.specs.declared.row.Row.{Row}
use Rattle.otp_table.specs.declared.row.RowState.TheVariants.{Undefined}
use Rattle.otp_table.specs.Rows.{is_awaited, row_has}
use Rattle.otp_rules.specs.declared.ending.Ending.{Ending}
use Rattle.otp_rules.specs.declared.ending.Ending.TheVariants as ending
use Rattle.otp_rules.specs.declared.work.Sequel.TheVariants as sequel
use Rattle.otp_spec.specs.Flags.{is_simple}
use Rattle.otp_rules.specs.State.{Outcome, is_busy, with_stamps, with_work}
use Rattle.otp_rules.specs.Restarts.{affected_from, affected_to, running}
use Rattle.otp_rules.specs.Places.{set_row}
use Rattle.otp_rules.specs.Deaths.{restart_rows, restart_or_end, restart}
use Rattle.otp_rules.specs.Stops.{calm_all, is_exit, tell, use_exit, stop_each, terminate_ordered, terminate_together, terminate}
use Rattle.otp_rules.specs.Work.{start_first, stop_first, advance}
use Rattle.otp_rules.proofs.Decisions.{by_test}

-- the end of the process waits
abbrev pub end_waits : ℕ → Outcome → Bool
end_waits p o = is_some (position (is_exit p) o.state.waiting)

-- the end that waits is used
abbrev pub used : ℕ → Outcome → Outcome
used p o = use_exit p (position (is_exit p) o.state.waiting) o

-- so many processes are still to be stopped
abbrev pub with_stops : List ℕ → Outcome → Outcome
with_stops ps o = with_work ps o.state.to_start o.state.follows o

-- children end at once if their ends wait, and are told to stop else
pub stop_each-by : (P : Outcome → Type 0) → ((p : ℕ) (o : Outcome) → end_waits p o ≡ true → P o → P (used p o))
    → ((p : ℕ) (o : Outcome) → end_waits p o ≡ false → P o → P (tell p o)) → (ps : List ℕ) (o : Outcome) → P o → P (stop_each ps o)
unfolding stop_each
stop_each-by P uses tells [] o h = h
stop_each-by P uses tells (p ∷ ps) o h =
    by_test P (end_waits p o) (stop_each ps (used p o)) (stop_each ps (tell p o))
    (λ waits. stop_each-by P uses tells ps (used p o) (uses p o waits h))
    (λ none. stop_each-by P uses tells ps (tell p o) (tells p o none h))

-- the supervisor ends: children are told together, or are still to be stopped one after another
pub terminate-by : (P : Outcome → Type 0) (e : Ending) (o : Outcome)
    → (let opened : Outcome = calm_all (with_work [] [] (Some (sequel.End e)) o) in is_simple o.state.flags.strategy ≡ true → P (stop_each (running o.state.rows) opened))
    → (is_simple o.state.flags.strategy ≡ false → P (calm_all (with_work (reverse (running o.state.rows)) [] (Some (sequel.End e)) o)))
    → P (terminate e o)
unfolding terminate terminate_together terminate_ordered
terminate-by P e o together ordered = by_test P (is_simple o.state.flags.strategy) (terminate_together e o) (terminate_ordered e o) together ordered

-- the restart at a place is counted, and its row is down
abbrev pub counted_restart : ℕ → Row → Outcome → Outcome
counted_restart place row o = with_stamps (o.state.stamps ++ o.state.last ∷ []) (set_row place row Undefined o)

-- one restart too many ends the supervisor; else a range of rows is restarted
pub restart-by : (P : Outcome → Type 0) (k place : ℕ) (row : Row) (o : Outcome)
    → (nat_lt o.state.flags.intensity (in_period o.state.flags.period (o.state.stamps ++ o.state.last ∷ []) o.state.last) ≡ true → P (terminate ending.Intensity (counted_restart place row o)))
    → (nat_lt o.state.flags.intensity (in_period o.state.flags.period (o.state.stamps ++ o.state.last ∷ []) o.state.last) ≡ false
    → P (restart_rows (affected_from o.state.flags.strategy place) (affected_to o.state.flags.strategy place (length (counted_restart place row o).state.rows)) place k (counted_restart place row o)))
    → P (restart k place row o)
unfolding restart restart_or_end
restart-by P k place row o ends restarts =
    let counted : Outcome = counted_restart place row o in
    by_test P (nat_lt o.state.flags.intensity (in_period o.state.flags.period (o.state.stamps ++ o.state.last ∷ []) o.state.last)) (terminate ending.Intensity counted)
    (restart_rows (affected_from o.state.flags.strategy place) (affected_to o.state.flags.strategy place (length counted.state.rows)) place k counted) ends restarts

-- the first child to stop ends at once if its end waits, and is told to stop else. S: what holds with so many still to stop
pub stop_first-by : (S : List ℕ → Outcome → Type 0) (P : Outcome → Type 0) (n : ℕ) → ((o : Outcome) → S [] o → P (start_first o.state.to_start n o))
    → ((p : ℕ) (ps : List ℕ) (o : Outcome) → end_waits p o ≡ true → S (p ∷ ps) o → S ps (used p (with_stops ps o)))
    → ((p : ℕ) (ps : List ℕ) (o : Outcome) → end_waits p o ≡ false → S (p ∷ ps) o → P (tell p (with_stops ps o))) → (ps : List ℕ) (o : Outcome) → S ps o → P (stop_first ps n o)
unfolding stop_first
stop_first-by S P n starts uses tells [] o h = starts o h
stop_first-by S P n starts uses tells (p ∷ ps) o h =
    by_test P (end_waits p o) (stop_first ps n (used p (with_stops ps o))) (tell p (with_stops ps o))
    (λ waits. stop_first-by S P n starts uses tells ps (used p (with_stops ps o)) (uses p ps o waits h))
    (λ none. tells p ps o none h)

-- no work is open, or an answer is awaited
abbrev pub Rests : Outcome → Type 0
Rests o = (is_busy o ≡ false) ⊎ (list_any (row_has is_awaited) o.state.rows ≡ true)

-- else open work goes on
pub advance-by : (P : Outcome → Type 0) (n : ℕ) (o : Outcome) → (Rests o → P o) → (is_busy o ≡ true → list_any (row_has is_awaited) o.state.rows ≡ false → P (stop_first o.state.to_stop n o)) → P (advance n o)
unfolding advance
advance-by P n o rests goes =
    let go : Outcome = stop_first o.state.to_stop n o in
    by_test P (is_busy o) (if list_any (row_has is_awaited) o.state.rows then o else go) o
    (λ busy. by_test P (list_any (row_has is_awaited) o.state.rows) o go (λ any. rests (inr any)) (λ none. goes busy none))
    (λ idle. rests (inl idle))
