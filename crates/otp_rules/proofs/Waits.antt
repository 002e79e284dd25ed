-- What becomes of the start calls that wait.
use Rattle.std.specs.Prelude.{◌≡◌, ◌⊎◌, ℕ, ◌<◌, ◌++◌, ◌&&◌, not, Bool, true, false, List, [], ◌∷◌, Option, None, Some, refl, if◌then◌else◌, position, length, remove, unwrap_or, drop, slice_get}
use Rattle.std.specs.List.{cons_option}
use Rattle.std.proofs.Common.{◌∙◌, ap, sym, inl, inr, arith, ⊎_elim, rules, get_or, append-nil}
use Rattle.std.proofs.lemmas.Bool.{false≢true, cond_both}
use Rattle.std.proofs.lemmas.List.Elements.{filter_map-append}
use Rattle.std.proofs.lemmas.List.Quantifiers.{position-Some}
use Rattle.otp_reason.specs.declared.note.Note.{Note}
use Rattle.otp_reason.specs.declared.note.Note.TheVariants as note
use Rattle.otp_table.specs.declared.row.Row.{Row}
use Rattle.otp_table.specs.declared.row.RowState.TheVariants.{Undefined}
use Rattle.otp_rules.specs.declared.call.Call.{Call}
use Rattle.otp_rules.specs.declared.call.Reply.{Reply}
use Rattle.otp_rules.specs.declared.call.Reply.TheVariants as reply
use Rattle.otp_rules.specs.declared.ending.Ending.{Ending}
use Rattle.otp_rules.specs.declared.ending.Ending.TheVariants as ending
use Rattle.otp_rules.specs.declared.event.Item.{Item}
use Rattle.otp_rules.specs.declared.event.Item.TheVariants as item
use Rattle.otp_rules.specs.declared.event.Kind.{Kind}
use Rattle.otp_rules.specs.declared.event.Kind.TheVariants as kind
use Rattle.otp_rules.specs.declared.event.Waiting.{Waiting}
use Rattle.otp_rules.specs.declared.event.Waiting.TheVariants as waiting
use Rattle.otp_rules.specs.declared.work.Sequel.TheVariants as sequel
use Rattle.otp_rules.specs.State.{Outcome, State, answer, is_busy, is_over, put_last, with_stamps, with_waiting, with_work}
use Rattle.otp_rules.specs.Places.{end_row, set_row}
use Rattle.otp_rules.specs.Restarts.{running}
use Rattle.otp_rules.specs.Stops.{calm_all, is_exit, without, tell_row, tell, use_exit, stop_each, terminate}
use Rattle.otp_rules.specs.Starts.{is_due, start_row, start}
use Rattle.otp_rules.specs.Ends.{refuse_all, end_all}
use Rattle.otp_rules.specs.Work.{advance}
use Rattle.otp_rules.specs.Deaths.{restart_rows, restart}
use Rattle.otp_rules.specs.Calls.{take_call}
use Rattle.otp_rules.specs.Step.{ask, open_rows, open_with, resume, take_item, tick, decide, stamped, step, step_on}
use Rattle.otp_rules.specs.Homes.{Brings}
use Rattle.otp_rules.specs.Waits.{StartsWait, start_in, start_waiting, starts_left, starts_waiting}
use Rattle.otp_rules.proofs.GoesOn.{GoesOn, advance-on}
use Rattle.otp_rules.proofs.Walks.{restart-by, stop_each-by, terminate-by, with_stops}
use Rattle.otp_rules.proofs.Decisions.{SurvivesEvent, at_row-survives, at_number-survives, decide-survives_event, same_work, take_waiting-survives}
use Rattle.otp_rules.proofs.Counting.{end_row-quiet, use_exit-quiet}
use Prim.Native.Nat.{zero, suc}

-- one that is no start call waits besides
put-same : (ws : List Waiting) (x : Waiting) → start_waiting x ≡ None → starts_waiting (ws ++ x ∷ []) ≡ starts_waiting ws
put-same ws x none =
    filter_map-append start_waiting ws (x ∷ [])
    ∙ ap (λ (c : Option ℕ). starts_waiting ws ++ cons_option c []) none
    ∙ append-nil (starts_waiting ws)

remove-same : (ws : List Waiting) (i : ℕ) (d : Waiting) → i < length ws → start_waiting (get_or ws i d) ≡ None → starts_waiting (remove ws i) ≡ starts_waiting ws
remove-same [] i d within none = absurd (omega (arith, within))
remove-same (w ∷ ws) zero d within none = sym (ap (λ (c : Option ℕ). cons_option c (starts_waiting ws)) none)
remove-same (w ∷ ws) (suc i) d within none = ap (λ (cs : List ℕ). cons_option (start_waiting w) cs) (remove-same ws i d (omega (arith, within)) none)

exit_is_none : (p : ℕ) (w : Waiting) → is_exit p w ≡ true → start_waiting w ≡ None
exit_is_none p (waiting.Item (item.Note x)) h = refl
exit_is_none p (waiting.Item (item.Call c x)) h = absurd (false≢true h)
exit_is_none p (waiting.Retry k) h = refl

-- an end that waits is used: no start call goes
without-same : (p : ℕ) (ws : List Waiting) → starts_waiting (without ws (position (is_exit p) ws)) ≡ starts_waiting ws
without-same p ws = by_place (position (is_exit p) ws) refl
  where
    by_place : (place : Option ℕ) → position (is_exit p) ws ≡ place → starts_waiting (without ws place) ≡ starts_waiting ws
    by_place None found = refl
    by_place (Some i) found =
        let d : Waiting = waiting.Retry 0 in
        let at = position-Some (is_exit p) ws i d found in
        remove-same ws i d at.0 (exit_is_none p (get_or ws i d) at.1)

-- the same start calls wait
abbrev pub Same : Outcome → Outcome → Type 0
Same old o = starts_waiting o.state.waiting ≡ starts_waiting old.state.waiting

tell-same : (p : ℕ) (o : Outcome) → Same o (tell p o)
unfolding tell tell_row
tell-same p o = at_number-survives (Same o) p (tell_row p) o refl (λ i row at has. refl)

use_exit-same : (p : ℕ) (o left : Outcome) → left.state.waiting ≡ o.state.waiting → Same o (use_exit p (position (is_exit p) o.state.waiting) left)
use_exit-same p o left same =
    let place : Option ℕ = position (is_exit p) o.state.waiting in
    ap (λ (ws : List Waiting). starts_waiting ws) ((use_exit-quiet p place left).0 ∙ ap (λ (ws : List Waiting). without ws place) same) ∙ without-same p o.state.waiting

stop_each-same : (ps : List ℕ) (o : Outcome) → Same o (stop_each ps o)
stop_each-same ps o = stop_each-by (Same o) (λ p x _ h. use_exit-same p x x refl ∙ h) (λ p x _ h. tell-same p x ∙ h) ps o refl

terminate-same : (e : Ending) (o : Outcome) → Same o (terminate e o)
terminate-same e o =
    terminate-by (Same o) e o
    (λ _. stop_each-same (running o.state.rows) (calm_all (with_work [] [] (Some (sequel.End e)) o)))
    (λ _. refl)

restart-same : (p place : ℕ) (row : Row) (o : Outcome) → Same o (restart p place row o)
unfolding restart_rows
restart-same p place row o =
    let counted : Outcome = with_stamps (o.state.stamps ++ o.state.last ∷ []) (set_row place row Undefined o) in
    restart-by (Same o) p place row o
    (λ _. terminate-same ending.Intensity counted)
    (λ _. refl)

answer-same : (c : ℕ) (r : Reply) (o : Outcome) → Same o (answer c r o)
unfolding answer
answer-same c r o = refl

tick-same : (o : Outcome) → Same o (tick o)
unfolding tick
tick-same o = refl

open-same : (own : ℕ) (o : Outcome) → Same o (open_rows own o)
unfolding open_rows open_with
open-same own o = refl

end-same : (place : ℕ) (row : Row) (o : Outcome) → Same o (end_row place row o)
end-same place row o = ap (λ (ws : List Waiting). starts_waiting ws) (end_row-quiet place row o).0

-- what is taken leaves the same start calls as here, and no start call is put
same-survives : (k : Kind) (G : Item → Type 0) (old here : Outcome) → ((w : Waiting) (ws : List Waiting) → k ≡ kind.Resumed → old.state.waiting ≡ w ∷ ws → starts_waiting ws ≡ starts_waiting here.state.waiting) → ((i : Item) → G i → is_busy old ≡ true → start_in i ≡ None) → SurvivesEvent k G old (Same here)
same-survives k G old here next none =
    record {
      answered = λ c r o quiet h. answer-same c r o ∙ h;
      taken = λ w ws resumed idle runs is h. next w ws resumed is;
      call_waits = λ c call o u busy g h. put-same o.state.waiting (waiting.Item (item.Call c call)) (none (item.Call c call) g (sym (same_work old o u) ∙ busy)) ∙ h;
      exit_waits = λ p r place row o u at has g h. put-same o.state.waiting (waiting.Item (item.Note (note.Exit p r))) refl ∙ h;
      up = λ p place row q kept o u at is same g h. h;
      up_closed = λ p place row q kept c o u at is same follows g h. h;
      ignored = λ p place row q kept o u at is same g h. end-same place row o ∙ h;
      opening_failed = λ place row q kept o u runs at is follows g h. terminate-same (ending.InitFailed row.spec.id) (set_row place row Undefined o) ∙ h;
      restart_failed = λ place row q kept o u at is follows g h. put-same o.state.waiting (waiting.Retry kept) refl ∙ h;
      added_failed = λ place row q kept c o u at is follows g h. h;
      restarted_failed = λ place row q kept c o u at is follows g h. h;
      stopped = λ p r place row o u at told g h. end-same place row o ∙ h;
      died = λ p place row o u idle runs at is g h. end-same place row o ∙ h;
      restarts = λ p place row o u idle runs at is h. restart-same p place row o ∙ h;
      ends = λ e o u other_end idle runs h. terminate-same e o ∙ h;
      ticks = λ is h. tick-same old ∙ h;
      opens = λ own is over h. open-same own old ∙ h;
      adds = λ c id spec o u idle runs named few got h. h;
      starts_again = λ c id place row o u idle runs at has is noted found h. h;
      removed = λ place row o u idle runs at down h. h;
      given_up = λ place row o u idle runs at down h. h;
      stops_child = λ c p place row o u idle runs at up has got h. h;
    }

-- what the event decides
decided-same : (k : Kind) (old : Outcome) → (k ≡ kind.Resumed → ⊥) → ((i : Item) → Brings k old.state.waiting i → is_busy old ≡ true → start_in i ≡ None) → Same old (decide k old)
decided-same k old other none = decide-survives_event k (Brings k old.state.waiting) old (Same old) (same-survives k (Brings k old.state.waiting) old old (λ w ws resumed is. absurd (other resumed)) none) (λ i b idle. b) refl

busy_call : (c : ℕ) (x : Call) (o : Outcome) → is_over o.state.phase ≡ false → is_busy o ≡ true → decide (kind.Took (item.Call c x)) o ≡ put_last (waiting.Item (item.Call c x)) o
unfolding decide take_item ask
busy_call c x o runs busy =
    ap (λ (b : Bool). if b then answer c reply.NoProc o else if is_busy o then put_last (waiting.Item (item.Call c x)) o else take_call c x o) runs
    ∙ ap (λ (b : Bool). if b then put_last (waiting.Item (item.Call c x)) o else take_call c x o) busy

over_call : (c : ℕ) (x : Call) (o : Outcome) → is_over o.state.phase ≡ true → decide (kind.Took (item.Call c x)) o ≡ answer c reply.NoProc o
unfolding decide take_item ask
over_call c x o over = ap (λ (b : Bool). if b then answer c reply.NoProc o else if is_busy o then put_last (waiting.Item (item.Call c x)) o else take_call c x o) over

-- a note lets no start call wait
note-left : (x : Note) (old : Outcome) → starts_waiting (decide (kind.Took (item.Note x)) old).state.waiting ≡ starts_left (kind.Took (item.Note x)) old.state
note-left x old =
    let same : Same old (decide (kind.Took (item.Note x)) old) =
    decided-same (kind.Took (item.Note x)) old (λ resumed. absurd (search (rules, resumed))) (λ i b busy. ap (λ (j : Item). start_in j) (sym b)) in
    cond_both (is_busy old && not (is_over old.state.phase)) (starts_waiting (old.state.waiting ++ waiting.Item (item.Note x) ∷ [])) (starts_waiting old.state.waiting)
    (λ (cs : List ℕ). starts_waiting (decide (kind.Took (item.Note x)) old).state.waiting ≡ cs)
    (λ _. same ∙ sym (put-same old.state.waiting (waiting.Item (item.Note x)) refl))
    (λ _. same)

call-left : (c : ℕ) (x : Call) (old : Outcome) (busy over : Bool) → is_busy old ≡ busy → is_over old.state.phase ≡ over
    → starts_waiting (decide (kind.Took (item.Call c x)) old).state.waiting ≡ (if busy && not over then starts_waiting (old.state.waiting ++ waiting.Item (item.Call c x) ∷ []) else starts_waiting old.state.waiting)
call-left c x old true true is_open is_past = ap (λ (o : Outcome). starts_waiting o.state.waiting) (over_call c x old is_past) ∙ answer-same c reply.NoProc old
call-left c x old true false is_open is_past = ap (λ (o : Outcome). starts_waiting o.state.waiting) (busy_call c x old is_past is_open)
call-left c x old false over is_open is_past =
    decided-same (kind.Took (item.Call c x)) old (λ resumed. absurd (search (rules, resumed))) (λ i b busy. absurd (false≢true (sym is_open ∙ busy)))

-- the first that waits is taken
resume-left : (ws : List Waiting) (old : Outcome) → old.state.waiting ≡ ws → is_busy old ≡ false → is_over old.state.phase ≡ false → starts_waiting (resume ws old).state.waiting ≡ starts_waiting (drop 1 ws)
unfolding resume
resume-left [] old is idle runs = ap (λ (l : List Waiting). starts_waiting l) is
resume-left (w ∷ ws) old is idle runs =
    let left : Outcome = with_waiting ws old in
    let rest : (x : Waiting) (xs : List Waiting) → old.state.waiting ≡ x ∷ xs → starts_waiting xs ≡ starts_waiting ws = λ x xs same. ap (λ (l : List Waiting). starts_waiting (drop 1 l)) (sym same ∙ is) in
    take_waiting-survives kind.Resumed (λ (i : Item). Unit {0}) old (Same left)
    (same-survives kind.Resumed (λ (i : Item). Unit {0}) old left (λ x xs _ same. rest x xs same) (λ i g busy. absurd (false≢true (sym idle ∙ busy))))
    w left refl (λ i b. tt) refl (ap (λ (l : List Waiting). slice_get l 0) is) (idle, idle) runs refl

idle_resume : (o : Outcome) → is_busy o ≡ false → is_over o.state.phase ≡ false → decide kind.Resumed o ≡ resume o.state.waiting o
unfolding decide
idle_resume o idle runs =
    ap (λ (b : Bool). if b then o else if is_over o.state.phase then o else resume o.state.waiting o) idle
    ∙ ap (λ (b : Bool). if b then o else resume o.state.waiting o) runs

no_resume : (o : Outcome) → is_busy o ≡ true ⊎ is_over o.state.phase ≡ true → decide kind.Resumed o ≡ o
unfolding decide
no_resume o (inl busy) = ap (λ (b : Bool). if b then o else if is_over o.state.phase then o else resume o.state.waiting o) busy
no_resume o (inr over) =
    ap (λ (b : Bool). if is_busy o then o else if b then o else resume o.state.waiting o) over
    ∙ cond_both (is_busy o) o o (λ (x : Outcome). x ≡ o) (λ _. refl) (λ _. refl)

resumed-left : (old : Outcome) (busy over : Bool) → is_busy old ≡ busy → is_over old.state.phase ≡ over
    → starts_waiting (decide kind.Resumed old).state.waiting ≡ (if not busy && not over then starts_waiting (drop 1 old.state.waiting) else starts_waiting old.state.waiting)
resumed-left old true over is_open is_past = ap (λ (o : Outcome). starts_waiting o.state.waiting) (no_resume old (inl is_open))
resumed-left old false true is_open is_past = ap (λ (o : Outcome). starts_waiting o.state.waiting) (no_resume old (inr is_past))
resumed-left old false false is_open is_past =
    ap (λ (o : Outcome). starts_waiting o.state.waiting) (idle_resume old is_open is_past) ∙ resume-left old.state.waiting old refl is_open is_past

decide-left : (k : Kind) (old : Outcome) → starts_waiting (decide k old).state.waiting ≡ starts_left k old.state
decide-left (kind.Opened own) old = decided-same (kind.Opened own) old (λ resumed. absurd (search (rules, resumed))) (λ i b busy. absurd b)
decide-left (kind.Took (item.Note x)) old = note-left x old
decide-left (kind.Took (item.Call c x)) old = call-left c x old (is_busy old) (is_over old.state.phase) refl refl
decide-left kind.Resumed old = resumed-left old (is_busy old) (is_over old.state.phase) refl refl
decide-left kind.Ticked old = decided-same kind.Ticked old (λ resumed. absurd (search (rules, resumed))) (λ i b busy. absurd b)
decide-left kind.Stopped old = decided-same kind.Stopped old (λ resumed. absurd (search (rules, resumed))) (λ i b busy. absurd b)

-- work that goes on lets them wait, or ends the supervisor
abbrev Left : Outcome → Outcome → Type 0
Left o new = Same o new ⊎ ((new.state.waiting ≡ []) × (is_over new.state.phase ≡ true))

going-left : (n : ℕ) (old : Outcome) → GoesOn n (λ _. Same old) (Left old)
unfolding start start_row answer end_all refuse_all
going-left n old =
    record {
      uses = λ p rest o _ h. use_exit-same p o (with_stops rest o) refl ∙ h;
      tells = λ p rest o _ h. inl (tell-same p (with_stops rest o) ∙ h);
      starts = λ due dues o _ h. let left : Outcome = with_work o.state.to_stop dues o.state.follows o in inl (at_row-survives (Same old) (is_due due) left (start_row due n) left h h (λ i row at has. h));
      closes = λ f o _ _ h. inl h;
      answers = λ c r f o _ _ h. inl h;
      ready = λ o _ h. inl h;
      ends = λ e o _ h. inr (refl, refl);
    }

advance-left : (n : ℕ) (o : Outcome) → Left o (advance n o)
advance-left n o = advance-on n (λ _. Same o) (Left o) (going-left n o) o (λ _. inl refl) (λ _ _. refl)

stamped-left : (k : Kind) (reading : ℕ) (s : State) → starts_left k (stamped reading s) ≡ starts_left k s
stamped-left (kind.Opened own) reading s = refl
stamped-left (kind.Took i) reading s = refl
stamped-left kind.Resumed reading s = refl
stamped-left kind.Ticked reading s = refl
stamped-left kind.Stopped reading s = refl

pub starts_wait_law : StartsWait
unfolding step step_on
starts_wait_law s e =
    let start : Outcome = record { state = stamped e.reading s; orders = [] } in
    ⊎_elim (λ same. inl (same ∙ decide-left e.kind start ∙ stamped-left e.kind e.reading s)) (λ over. inr over) (advance-left (unwrap_or e.number 0) (decide e.kind start))
