-- While a child is stopped for a call, no start is awaited, and none is to come.
use Rattle.std.specs.Prelude.{◌≡◌, ℕ, ◌+◌, ◌++◌, Bool, true, false, [], ◌∷◌, Option, None, Some, refl, position, is_some, slice_set, unwrap_or}
use Rattle.std.proofs.Common.{◌∙◌, ap, sym, arith, cond}
use Rattle.std.proofs.lemmas.Bool.{false≢true}
use Rattle.otp_table.specs.declared.row.Row.{Row}
use Rattle.otp_table.specs.declared.row.RowState.{RowState}
use Rattle.otp_table.specs.declared.row.RowState.TheVariants.{Undefined}
use Rattle.otp_table.specs.Rows.{with_state}
use Rattle.otp_rules.specs.declared.call.Reply.{Reply}
use Rattle.otp_rules.specs.declared.ending.Ending.{Ending}
use Rattle.otp_rules.specs.declared.ending.Ending.TheVariants as ending
use Rattle.otp_rules.specs.declared.event.Event.{Event}
use Rattle.otp_rules.specs.declared.event.Kind.{Kind}
use Rattle.otp_rules.specs.declared.work.Sequel.{Sequel}
use Rattle.otp_rules.specs.declared.work.Sequel.TheVariants as sequel
use Rattle.otp_rules.specs.declared.work.Due.{Due}
use Rattle.otp_rules.specs.State.{Outcome, State, answer, is_busy, with_stamps, with_waiting, with_work}
use Rattle.otp_rules.specs.Places.{end_row, end_process, set_row}
use Rattle.otp_rules.specs.Stops.{is_exit, without, told, tell_row, tell, use_exit, terminate}
use Rattle.otp_rules.specs.Starts.{is_due, start_row, start}
use Rattle.otp_rules.specs.Ends.{end_all, refuse_all}
use Rattle.otp_rules.specs.Deaths.{restart_rows, restart}
use Rattle.otp_rules.specs.Step.{open_rows, open_with, tick, decide, stamped, step, step_on}
use Rattle.otp_rules.specs.Fit.{rows_in, IsSound}
use Rattle.otp_rules.specs.InOrder.{is_begun, is_stop, IsCalm}
use Rattle.otp_rules.proofs.GoesOn.{GoesOn, advance-on}
use Rattle.otp_rules.proofs.Walks.{restart-by, with_stops}
use Rattle.otp_rules.proofs.Decisions.{StandsAt, Survives, at_number-survives, at_row-survives, decide-survives}
use Rattle.otp_rules.proofs.Counting.{Alike, end_row-alike, rows_in-end, rows_in-set, tick_count}
use Rattle.otp_rules.proofs.Finishing.{begun_awaited, not_starting, told-begun}
use Rattle.otp_rules.proofs.Sound.{advance-sound, awaits_nothing, sound-survives}
use Rattle.otp_rules.proofs.WhileOpen.{terminate-follows}

-- it is calm, and the lists of the open work are sound
abbrev pub IsSoundCalm : Outcome → Type 0
IsSoundCalm o = IsSound o.state × IsCalm o.state

other_follows : (f g : Option Sequel) → f ≡ g → is_stop g ≡ false → is_stop f ≡ true → ⊥
other_follows f g same isnt h = false≢true (sym isnt ∙ sym (ap is_stop same) ∙ h)

idle_follows : (f : Option Sequel) → is_some f ≡ false → is_stop f ≡ true → ⊥
idle_follows None idle h = false≢true h
idle_follows (Some f) idle h = false≢true (sym idle)

end-calm : (place : ℕ) (row : Row) (o : Outcome) → StandsAt place row o → IsCalm o.state → IsCalm (end_row place row o).state
end-calm place row o at h e =
    let same : Alike (end_row place row o) o = end_row-alike place row o in
    let was = h (sym (ap is_stop same.4) ∙ e) in
    let begun : rows_in is_begun (end_row place row o).state.rows + cond (is_begun row.state) 1 0 ≡ rows_in is_begun o.state.rows = rows_in-end is_begun refl place row o at in
    (omega (arith, begun, was.0), same.3 ∙ was.1)

answer-calm : (c : ℕ) (r : Reply) (o : Outcome) → IsCalm o.state → IsCalm (answer c r o).state
unfolding answer
answer-calm c r o h = h

tick-calm : (o : Outcome) → rows_in is_begun (tick o).state.rows ≡ rows_in is_begun o.state.rows → IsCalm o.state → IsCalm (tick o).state
unfolding tick
tick-calm o begun h e = let was = h e in (omega (arith, begun, was.0), was.1)

open-calm : (own : ℕ) (o : Outcome) → IsCalm (open_rows own o).state
unfolding open_rows open_with
open-calm own o e = absurd (false≢true e)

terminate-calm : (e : Ending) (o : Outcome) → IsCalm (terminate e o).state
terminate-calm e o h = absurd (other_follows (terminate e o).state.follows (Some (sequel.End e)) (terminate-follows e o) refl h)

restart-calm : (k place : ℕ) (row : Row) (o : Outcome) → IsCalm (restart k place row o).state
unfolding restart_rows
restart-calm k place row o =
    let counted : Outcome = with_stamps (o.state.stamps ++ o.state.last ∷ []) (set_row place row Undefined o) in
    restart-by (λ (x : Outcome). IsCalm x.state) k place row o
    (λ _. terminate-calm ending.Intensity counted)
    (λ _ e. absurd (false≢true e))

calm-survives : (k : Kind) (b : Bool) → Survives k b IsSoundCalm
calm-survives k b =
    let s : Survives k b (λ o. IsSound o.state) = sound-survives k b in
    record {
      answered = λ c r o h. (s.answered c r o h.0, answer-calm c r o h.1);
      taken = λ x xs o idle runs is h. (s.taken x xs o idle runs is h.0, h.1);
      call_waits = λ c x o h. (s.call_waits c x o h.0, h.1);
      exit_waits = λ p r o noted h. (s.exit_waits p r o noted h.0, h.1);
      up = λ p place row q kept o at is same noted h. (s.up p place row q kept o at is same noted h.0, λ e. absurd (not_starting place row q kept o at is (h.1 e).0));
      up_closed = λ p place row q kept c o at is same follows h. (s.up_closed p place row q kept c o at is same follows h.0, λ e. absurd (false≢true e));
      ignored = λ p place row q kept o at is same noted h. (s.ignored p place row q kept o at is same noted h.0, end-calm place row o at h.1);
      opening_failed = λ place row q kept o runs at is follows h. (s.opening_failed place row q kept o runs at is follows h.0, terminate-calm (ending.InitFailed row.spec.id) (set_row place row Undefined o));
      restart_failed = λ place row q kept o at is follows h. (s.restart_failed place row q kept o at is follows h.0, λ e. absurd (false≢true e));
      added_failed = λ place row q kept c o at is follows h. (s.added_failed place row q kept c o at is follows h.0, λ e. absurd (false≢true e));
      restarted_failed = λ place row q kept c o at is follows h. (s.restarted_failed place row q kept c o at is follows h.0, λ e. absurd (false≢true e));
      stopped = λ p r place row o at told noted h. (s.stopped p r place row o at told noted h.0, end-calm place row o at h.1);
      died = λ p place row o idle runs at is h. (s.died p place row o idle runs at is h.0, end-calm place row o at h.1);
      restarts = λ p place row o idle runs at is h. (s.restarts p place row o idle runs at is h.0, restart-calm p place row o);
      ends = λ e o other idle runs h. (s.ends e o other idle runs h.0, terminate-calm e o);
      ticks = λ o is h. (s.ticks o is h.0, tick-calm o (tick_count is_begun (λ p d. refl) o) h.1);
      opens = λ own o is link over h. (s.opens own o is link over h.0, open-calm own o);
      adds = λ c id spec o idle runs named h. (s.adds c id spec o idle runs named h.0, λ e. absurd (false≢true e));
      starts_again = λ c id place row o idle runs at has is h. (s.starts_again c id place row o idle runs at has is h.0, λ e. absurd (false≢true e));
      removed = λ place row o idle runs at down h. (s.removed place row o idle runs at down h.0, λ e. absurd (idle_follows o.state.follows idle.1 e));
      given_up = λ place row o idle runs at down h. (s.given_up place row o idle runs at down h.0, λ e. absurd (idle_follows o.state.follows idle.1 e));
      stops_child = λ c p place row o idle runs at up h.
          (s.stops_child c p place row o idle runs at up h.0, λ e. (omega (arith, awaits_nothing b o idle h.0, begun_awaited o.state.rows), refl));
    }

pub decided-calm : (k : Kind) (o : Outcome) → IsSound o.state → IsCalm o.state → IsSoundCalm (decide k o)
decided-calm k o sound h = decide-survives k IsSoundCalm o (calm-survives k (is_busy o)) (sound, h)

use_exit-calm : (p : ℕ) (place : Option ℕ) (o : Outcome) → IsCalm o.state → IsCalm (use_exit p place o).state
unfolding use_exit end_process
use_exit-calm p place o h =
    let left : Outcome = with_waiting (without o.state.waiting place) o in
    at_number-survives (λ (x : Outcome). IsCalm x.state) p end_row left h (λ i row at has. end-calm i row left at h)

tell-calm : (p : ℕ) (o : Outcome) → IsCalm o.state → IsCalm (tell p o).state
unfolding tell tell_row
tell-calm p o h =
    at_number-survives (λ (x : Outcome). IsCalm x.state) p (tell_row p) o h
    (λ i row at has e.
    let was = h e in
    let now : RowState = told o.state.last p row.spec.shutdown in
    let new : rows_in is_begun (slice_set o.state.rows i (with_state now row)) + cond (is_begun row.state) 1 0 ≡ rows_in is_begun o.state.rows + cond (is_begun now) 1 0 = rows_in-set is_begun i row now o.state.rows at in
    let none : ◌≡◌ {A = ℕ} (cond (is_begun now) 1 0) 0 = ap (λ (b : Bool). cond b 1 0) (told-begun o.state.last p row.spec.shutdown) in
    (omega (arith, new, none, was.0), was.1))

start-follows : (due : Due) (n : ℕ) (o : Outcome) → (start due n o).state.follows ≡ o.state.follows
unfolding start start_row
start-follows due n o = at_row-survives (λ (x : Outcome). x.state.follows ≡ o.state.follows) (is_due due) o (start_row due n) o refl refl (λ i row at has. refl)

going-calm : (n : ℕ) → GoesOn n (λ _ x. IsCalm x.state) (λ x. IsCalm x.state)
unfolding answer end_all refuse_all
going-calm n =
    record {
      uses = λ p rest o _ h. use_exit-calm p (position (is_exit p) o.state.waiting) (with_stops rest o) h;
      tells = λ p rest o _ h. tell-calm p (with_stops rest o) h;
      starts = λ due dues o is h e. absurd (let no : due ∷ dues ≡ [] = sym is ∙ (h (sym (ap is_stop (start-follows due n (with_work o.state.to_stop dues o.state.follows o))) ∙ e)).1 in cc);
      closes = λ f o _ _ h e. absurd (false≢true e);
      answers = λ c r f o _ _ h e. absurd (false≢true e);
      ready = λ o _ h e. absurd (false≢true e);
      ends = λ x o _ h e. absurd (false≢true e);
    }

pub step-calm : (s : State) (e : Event) → IsSound s → IsCalm s → IsSoundCalm (step s e)
unfolding step step_on
step-calm s e sound h =
    let start : Outcome = record { state = stamped e.reading s; orders = [] } in
    let d : IsSoundCalm (decide e.kind start) = decided-calm e.kind start sound h in
    (advance-sound (unwrap_or e.number 0) (decide e.kind start) d.0, advance-on (unwrap_or e.number 0) (λ _ x. IsCalm x.state) (λ x. IsCalm x.state) (going-calm (unwrap_or e.number 0)) (decide e.kind start) (λ _. d.1) (λ _ _. d.1))
