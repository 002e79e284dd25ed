-- A supervisor that has ended has no rows.
use Rattle.std.specs.Prelude.{◌≡◌, ◌⊎◌, ℕ, Bool, true, false, List, [], ◌∷◌, Option, None, Some, refl, position, is_some, slice_get, unwrap_or, map}
use Rattle.std.proofs.Common.{◌∙◌, ap, sym, inl, inr, ⊎_elim}
use Rattle.std.proofs.lemmas.Bool.{false≢true}
use Rattle.otp_table.specs.declared.row.Row.{Row}
use Rattle.otp_table.specs.declared.row.RowState.TheVariants.{Undefined}
use Rattle.otp_rules.specs.declared.call.Reply.{Reply}
use Rattle.otp_rules.specs.declared.ending.Ending.TheVariants as ending
use Rattle.otp_rules.specs.declared.event.Event.{Event}
use Rattle.otp_rules.specs.declared.event.Kind.{Kind}
use Rattle.otp_rules.specs.declared.work.Sequel.{Sequel}
use Rattle.otp_rules.specs.State.{closed, Outcome, State, answer, is_busy, is_over, with_work}
use Rattle.otp_rules.specs.Places.{end_row, set_row}
use Rattle.otp_rules.specs.Stops.{is_exit, terminate}
use Rattle.otp_rules.specs.Starts.{is_due, start, start_row}
use Rattle.otp_rules.specs.Ends.{end_all, refuse_all}
use Rattle.otp_rules.specs.Work.{advance}
use Rattle.otp_rules.specs.Deaths.{restart}
use Rattle.otp_rules.specs.Step.{decide, killed, late_number, open_rows, stamped, step, step_on, tick}
use Rattle.otp_rules.specs.Run.{empty_state, state_after}
use Rattle.otp_rules.specs.Fit.{IsSound}
use Rattle.otp_rules.specs.InOrder.{IsBare}
use Rattle.otp_rules.specs.Lives.{EndedHasNoRows, EndedHasNoRowsFrom}
use Rattle.otp_rules.proofs.GoesOn.{GoesOn, advance-on}
use Rattle.otp_rules.proofs.Walks.{with_stops}
use Rattle.otp_rules.proofs.Decisions.{StandsAt, Survives, at_row-survives, decide-survives}
use Rattle.otp_rules.proofs.Counting.{end_row-alike, tell-alike, use_exit-alike}
use Rattle.otp_rules.proofs.Sound.{advance-sound, empty-sound, sound-survives}
use Rattle.otp_rules.proofs.WhileOpen.{open_rows-busy}
use Rattle.otp_rules.proofs.WhileOpen.{restart-busy, terminate-follows}

-- it has no rows where it has ended, and the lists of the open work are sound
abbrev pub IsSoundBare : Outcome → Type 0
IsSoundBare o = IsSound o.state × IsBare o.state

no_row : (place : ℕ) (row : Row) (o : Outcome) → StandsAt place row o → o.state.rows ≡ [] → ⊥
no_row place row o at none = let e : ◌≡◌ {A = Option Row} None (Some row) = sym (ap (λ (l : List Row). slice_get l place) none) ∙ at in cc

-- work is open only while the supervisor runs
busy_bare : (s : State) → IsSound s → is_some s.follows ≡ true → IsBare s
busy_bare s sound busy over = absurd (false≢true (sym (sound.3 over) ∙ busy))

-- a row stands there, so the supervisor runs
row_bare : (place : ℕ) (row : Row) (o new : Outcome) → StandsAt place row o → is_over new.state.phase ≡ is_over o.state.phase → IsBare o.state → IsBare new.state
row_bare place row o new at same h over = absurd (no_row place row o at (h (sym same ∙ over)))

answer-bare : (c : ℕ) (r : Reply) (o : Outcome) → IsBare o.state → IsBare (answer c r o).state
unfolding answer
answer-bare c r o h = h

tick-bare : (o : Outcome) → IsBare o.state → IsBare (tick o).state
unfolding tick
tick-bare o h over = ap (λ (l : List Row). map (λ row. killed row (late_number o.state.last row.state)) l) (h over)

end_row-over : (place : ℕ) (row : Row) (o : Outcome) → is_over (end_row place row o).state.phase ≡ is_over o.state.phase
end_row-over place row o = ap is_over (end_row-alike place row o).1

bare-survives : (k : Kind) (b : Bool) → Survives k b IsSoundBare
bare-survives k b =
    let s : Survives k b (λ o. IsSound o.state) = sound-survives k b in
    record {
      answered = λ c r o h. (s.answered c r o h.0, answer-bare c r o h.1);
      taken = λ x xs o idle runs is h. (s.taken x xs o idle runs is h.0, h.1);
      call_waits = λ c x o h. (s.call_waits c x o h.0, h.1);
      exit_waits = λ p r o noted h. (s.exit_waits p r o noted h.0, h.1);
      up = λ p place row q kept o at is same noted h. (s.up p place row q kept o at is same noted h.0, λ over. absurd (no_row place row o at (h.1 over)));
      up_closed = λ p place row q kept c o at is same follows h. (s.up_closed p place row q kept c o at is same follows h.0, λ over. absurd (no_row place row o at (h.1 over)));
      ignored = λ p place row q kept o at is same noted h. (s.ignored p place row q kept o at is same noted h.0, row_bare place row o (end_row place row o) at (end_row-over place row o) h.1);
      opening_failed = λ place row q kept o runs at is follows h.
          let down : Outcome = set_row place row Undefined o in
          let sound = s.opening_failed place row q kept o runs at is follows h.0 in
          (sound, busy_bare (terminate (ending.InitFailed row.spec.id) down).state sound (ap (λ (f : Option Sequel). is_some f) (terminate-follows (ending.InitFailed row.spec.id) down)));
      restart_failed = λ place row q kept o at is follows h. (s.restart_failed place row q kept o at is follows h.0, λ over. absurd (no_row place row o at (h.1 over)));
      added_failed = λ place row q kept c o at is follows h. (s.added_failed place row q kept c o at is follows h.0, λ over. absurd (no_row place row o at (h.1 over)));
      restarted_failed = λ place row q kept c o at is follows h. (s.restarted_failed place row q kept c o at is follows h.0, λ over. absurd (no_row place row o at (h.1 over)));
      stopped = λ p r place row o at told noted h. (s.stopped p r place row o at told noted h.0, row_bare place row o (end_row place row o) at (end_row-over place row o) h.1);
      died = λ p place row o idle runs at is h. (s.died p place row o idle runs at is h.0, row_bare place row o (end_row place row o) at (end_row-over place row o) h.1);
      restarts = λ p place row o idle runs at is h.
          let sound = s.restarts p place row o idle runs at is h.0 in
          (sound, busy_bare (restart p place row o).state sound (restart-busy p place row o));
      ends = λ e o other idle runs h.
          let sound = s.ends e o other idle runs h.0 in
          (sound, busy_bare (terminate e o).state sound (ap (λ (f : Option Sequel). is_some f) (terminate-follows e o)));
      ticks = λ o is h. (s.ticks o is h.0, tick-bare o h.1);
      opens = λ own o is link over h.
          let sound = s.opens own o is link over h.0 in
          (sound, busy_bare (open_rows own o).state sound (open_rows-busy own o));
      adds = λ c id spec o idle runs named h. let sound = s.adds c id spec o idle runs named h.0 in (sound, λ over. absurd (false≢true (sym runs ∙ over)));
      starts_again = λ c id place row o idle runs at has is h. (s.starts_again c id place row o idle runs at has is h.0, h.1);
      removed = λ place row o idle runs at down h. (s.removed place row o idle runs at down h.0, λ over. absurd (false≢true (sym runs ∙ over)));
      given_up = λ place row o idle runs at down h. (s.given_up place row o idle runs at down h.0, λ over. absurd (false≢true (sym runs ∙ over)));
      stops_child = λ c p place row o idle runs at up h. (s.stops_child c p place row o idle runs at up h.0, h.1);
    }

-- work that goes on stays open, or ends with no rows, or leaves the supervisor running
abbrev GoesBare : Outcome → Type 0
GoesBare o = (is_some o.state.follows ≡ true) ⊎ IsBare o.state

-- the work is open, and the supervisor runs
abbrev RunsOn : Outcome → Type 0
RunsOn o = (is_some o.state.follows ≡ true) × (is_over o.state.phase ≡ false)

going-bare : (n : ℕ) → GoesOn n (λ _. RunsOn) GoesBare
unfolding start start_row answer end_all refuse_all
going-bare n =
    let runs : (o : Outcome) → RunsOn o → GoesBare (closed o) = λ o h. inr (λ over. absurd (false≢true (sym h.1 ∙ over))) in
    record {
      uses = λ p rest o _ h. let used = use_exit-alike p (position (is_exit p) o.state.waiting) (with_stops rest o) in (ap (λ (f : Option Sequel). is_some f) used.4 ∙ h.0, ap is_over used.1 ∙ h.1);
      tells = λ p rest o _ h. inl (ap (λ (f : Option Sequel). is_some f) (tell-alike p (with_stops rest o)).4 ∙ h.0);
      starts = λ due dues o _ h. let left : Outcome = with_work o.state.to_stop dues o.state.follows o in inl (at_row-survives (λ (x : Outcome). is_some x.state.follows ≡ true) (is_due due) left (start_row due n) left h.0 h.0 (λ i row at has. h.0));
      closes = λ f o _ _ h. runs o h;
      answers = λ c r f o _ _ h. runs o h;
      ready = λ o _ h. runs o h;
      ends = λ e o _ h. inr (λ over. refl);
    }

-- a sound state whose work is open runs
busy_runs : (s : State) (b : Bool) → is_over s.phase ≡ b → IsSound s → is_some s.follows ≡ true → b ≡ false
busy_runs s true over sound busy = absurd (false≢true (sym (sound.3 over) ∙ busy))
busy_runs s false over sound busy = refl

advance-goes_bare : (n : ℕ) (o : Outcome) → IsSoundBare o → GoesBare (advance n o)
advance-goes_bare n o h =
    advance-on n (λ _. RunsOn) GoesBare (going-bare n) o (λ _. inr h.1) (λ busy _. (busy, busy_runs o.state (is_over o.state.phase) refl h.0 busy))

advance-bare : (n : ℕ) (o : Outcome) → IsSoundBare o → IsSoundBare (advance n o)
advance-bare n o h =
    let sound : IsSound (advance n o).state = advance-sound n o h.0 in
    (sound, ⊎_elim (λ busy. busy_bare (advance n o).state sound busy) (λ bare. bare) (advance-goes_bare n o h))

-- each event keeps it
pub step-bare : (s : State) (e : Event) → IsSound s → IsBare s → IsSoundBare (step s e)
unfolding step step_on
step-bare s e sound bare =
    let start : Outcome = record { state = stamped e.reading s; orders = [] } in
    advance-bare (unwrap_or e.number 0) (decide e.kind start) (decide-survives e.kind IsSoundBare start (bare-survives e.kind (is_busy start)) (sound, bare))

run-bare : (s : State) (es : List Event) → IsSound s → IsBare s → IsSound (state_after s es) × IsBare (state_after s es)
run-bare s [] sound bare = (sound, bare)
run-bare s (e ∷ es) sound bare = let next = step-bare s e sound bare in run-bare (step s e).state es next.0 next.1

pub ended_has_no_rows_from_law : EndedHasNoRowsFrom
ended_has_no_rows_from_law s events sound bare = (run-bare s events sound bare).1

pub ended_has_no_rows_law : EndedHasNoRows
ended_has_no_rows_law flags specs events = ended_has_no_rows_from_law (empty_state flags specs) events (empty-sound flags specs) (λ over. refl)
