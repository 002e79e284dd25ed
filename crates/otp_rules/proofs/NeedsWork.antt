-- An event starts a child exactly where its work goes on to a start: what it decides on orders no start, and the open
-- work orders one where nothing is awaited, all that is to stop has ended and a child is left.
use Rattle.std.specs.Prelude.{◌≡◌, ℕ, Bool, true, false, not, ◌&&◌, ◌||◌, List, [], ◌∷◌, ◌++◌, Option, None, Some, refl, if◌then◌else◌, position, length, remove, nat_lt}
use Rattle.std.specs.List.{list_any, filter_map, cons_option}
use Rattle.std.proofs.Common.{◌∙◌, ap, sym, ⊎_elim}
use Rattle.std.proofs.lemmas.List.Folds.{list_any-append}
use Rattle.otp_reason.specs.declared.name.Name.{Name}
use Rattle.otp_spec.specs.declared.child.Shutdown.{Shutdown}
use Rattle.otp_spec.specs.declared.child.Shutdown.TheVariants.{BrutalKill, Milliseconds, Infinity}
use Rattle.otp_table.specs.declared.row.Row.{Row}
use Rattle.otp_table.specs.declared.row.RowState.TheVariants.{Undefined}
use Rattle.otp_table.specs.Rows.{is_awaited, row_has}
use Rattle.otp_rules.specs.declared.call.Reply.{Reply}
use Rattle.otp_rules.specs.declared.ending.Ending.{Ending}
use Rattle.otp_rules.specs.declared.ending.Ending.TheVariants as ending
use Rattle.otp_rules.specs.declared.event.Effect.{Effect}
use Rattle.otp_rules.specs.declared.event.Effect.TheVariants as effect
use Rattle.otp_rules.specs.declared.event.Item.{Item}
use Rattle.otp_rules.specs.declared.event.Item.TheVariants as item
use Rattle.otp_rules.specs.declared.event.Kind.{Kind}
use Rattle.otp_rules.specs.declared.event.Waiting.{Waiting}
use Rattle.otp_rules.specs.declared.event.Waiting.TheVariants as waiting
use Rattle.otp_rules.specs.declared.work.Due.{Due}
use Rattle.otp_rules.specs.declared.work.Sequel.{Sequel}
use Rattle.otp_rules.specs.declared.work.Sequel.TheVariants as sequel
use Rattle.otp_rules.specs.State.{Outcome, answer, closed, emit, is_busy, with_rows, with_work}
use Rattle.otp_rules.specs.Places.{at_row, end_row, end_process, is_removed, set_row}
use Rattle.otp_rules.specs.Restarts.{affected_from, affected_to, running}
use Rattle.otp_rules.specs.Stops.{calm_all, is_exit, stop_order, without, tell_row, tell, use_exit, stop_each, terminate}
use Rattle.otp_rules.specs.Ends.{refusal, refuse_all, end_all}
use Rattle.otp_rules.specs.Starts.{is_due, start_row, start}
use Rattle.otp_rules.specs.Work.{advance}
use Rattle.otp_rules.specs.Deaths.{restart_rows, restart_or_end, restart}
use Rattle.otp_rules.specs.Step.{kill_order, late_number, open_with, open_rows, tick, decide, stamped, step_on, step}
use Rattle.otp_rules.specs.Needs.{NumberStartsWork, ends_wait, has_due, is_start, needs_number, work_starts}
use Rattle.std.proofs.lemmas.List.{append-nil}
use Rattle.otp_rules.proofs.GoesOn.{GoesOn, IsLast, stop_first-on}
use Rattle.otp_rules.proofs.Counting.{use_exit-alike, use_exit-quiet}
use Rattle.otp_rules.proofs.Bits.{or_false}
use Rattle.otp_rules.proofs.Walks.{advance-by, stop_each-by, terminate-by, used, with_stops}
use Rattle.otp_rules.proofs.Earlier.{decide-appended}
use Rattle.otp_rules.proofs.Decisions.{Survives, at_number-survives, at_row-survives, decide-survives}
use Rattle.otp_window.specs.Period.{in_period}

-- whether a start was ordered
abbrev Starts : Bool → Outcome → Type 0
Starts b o = list_any is_start o.orders ≡ b

-- more orders after some that start nothing
starts_after : (xs ys : List Effect) (b : Bool) → list_any is_start xs ≡ false → list_any is_start ys ≡ b → list_any is_start (xs ++ ys) ≡ b
starts_after xs ys b quiet h = list_any-append is_start xs ys ∙ ap (λ (a : Bool). a || list_any is_start ys) quiet ∙ h

starts_pushed : (xs : List Effect) (x : Effect) (b : Bool) → list_any is_start xs ≡ false → is_start x ≡ b → list_any is_start (xs ++ x ∷ []) ≡ b
starts_pushed xs x b quiet h = starts_after xs (x ∷ []) b quiet (or_false (is_start x) ∙ h)

answer-quiet : (c : ℕ) (r : Reply) (o : Outcome) → Starts false o → Starts false (answer c r o)
unfolding answer
answer-quiet c r o h = starts_pushed o.orders (effect.Reply c) false h refl

stop_order-quiet : (id : Option Name) (p : ℕ) (s : Shutdown) → is_start (stop_order id p s) ≡ false
stop_order-quiet id p BrutalKill = refl
stop_order-quiet id p (Milliseconds _) = refl
stop_order-quiet id p Infinity = refl

tell-quiet : (p : ℕ) (o : Outcome) → Starts false o → Starts false (tell p o)
unfolding tell tell_row
tell-quiet p o h =
    at_number-survives (λ x. Starts false x) p (tell_row p) o h
    (λ place row at is. starts_pushed o.orders (stop_order row.id p row.spec.shutdown) false h (stop_order-quiet row.id p row.spec.shutdown))

end_of-quiet : (place : ℕ) (row : Row) (b : Bool) (o : Outcome) → Starts false o → Starts false (if b then with_rows (remove o.state.rows place) o else set_row place row Undefined o)
end_of-quiet place row true o h = h
end_of-quiet place row false o h = h

end_row-quiet : (place : ℕ) (row : Row) (o : Outcome) → Starts false o → Starts false (end_row place row o)
unfolding end_row
end_row-quiet place row o h = end_of-quiet place row (is_removed row) o h

used-quiet : (p : ℕ) (place : Option ℕ) (o : Outcome) → Starts false o → Starts false (use_exit p place o)
unfolding use_exit end_process
used-quiet p place o h = at_number-survives (λ x. Starts false x) p end_row _ h (λ at row stands is. end_row-quiet at row _ h)

quiet_refusal_item : (x : Item) (ws : List Waiting) → list_any is_start (filter_map refusal ws) ≡ false → list_any is_start (filter_map refusal (waiting.Item x ∷ ws)) ≡ false
quiet_refusal_item (item.Note x) ws h = h
quiet_refusal_item (item.Call c x) ws h = h

quiet_refusals : (ws : List Waiting) → list_any is_start (filter_map refusal ws) ≡ false
quiet_refusals [] = refl
quiet_refusals (waiting.Item x ∷ ws) = quiet_refusal_item x ws (quiet_refusals ws)
quiet_refusals (waiting.Retry k ∷ ws) = quiet_refusals ws

end_all-quiet : (e : Ending) (o : Outcome) → Starts false o → Starts false (end_all e o)
unfolding end_all refuse_all
end_all-quiet e o h = starts_pushed (o.orders ++ filter_map refusal o.state.waiting) _ false (starts_after o.orders (filter_map refusal o.state.waiting) false h (quiet_refusals o.state.waiting)) refl

started-quiet : (due : Due) (n : ℕ) (o : Outcome) → Starts false o → Starts false (at_row (is_due due) o (start_row due n) o)
unfolding start_row
started-quiet due n o h = at_row-survives (λ x. Starts false x) (is_due due) o (start_row due n) o h h (λ place row at is. h)

-- the work starts a child where those still to be stopped have ended, and a child is left to start
abbrev StartsIf : Bool → List ℕ → Outcome → Type 0
StartsIf b ps o = Starts false o × ((ends_wait ps o.state.waiting && has_due o.state.to_start) ≡ b)

going-starts : (n : ℕ) (b : Bool) → GoesOn n (StartsIf b) (Starts b)
unfolding start
going-starts n b =
    let ended : (f : Sequel) (o : Outcome) → IsLast f o → StartsIf b [] o → b ≡ false = λ f o last h. sym h.1 ∙ ap (λ (ds : List Due). has_due ds) last.1 in
    let quiet : (x : Outcome) → b ≡ false → Starts false x → Starts b x = λ x none h. h ∙ sym none in
    record {
      uses = λ p rest o waits h.
          let left : Outcome = with_stops rest o in
          let place : Option ℕ = position (is_exit p) o.state.waiting in (
            used-quiet p place left h.0,
            ap (λ (ws : List Waiting). ends_wait rest ws && has_due (used p left).state.to_start) (use_exit-quiet p place left).0
                ∙ ap (λ (ds : List Due). ends_wait rest (without o.state.waiting place) && has_due ds) (use_exit-alike p place left).3
                ∙ ap (λ (x : Bool). (x && ends_wait rest (without o.state.waiting place)) && has_due o.state.to_start) (sym waits)
                ∙ h.1,
          );
      tells = λ p rest o none h.
          quiet (tell p (with_stops rest o)) (sym h.1 ∙ ap (λ (x : Bool). (x && ends_wait rest (without o.state.waiting (position (is_exit p) o.state.waiting))) && has_due o.state.to_start) none) (tell-quiet p (with_stops rest o) h.0);
      starts = λ due dues o is h.
          let left : Outcome = with_work o.state.to_stop dues o.state.follows o in
          starts_pushed (at_row (is_due due) left (start_row due n) left).orders (effect.Start due.id n) true (started-quiet due n left h.0) refl ∙ sym (ap (λ (ds : List Due). has_due ds) is) ∙ h.1;
      closes = λ f o last _ h. quiet (closed o) (ended f o last h) h.0;
      answers = λ c r f o last _ h. quiet (answer c r (closed o)) (ended f o last h) (answer-quiet c r (closed o) h.0);
      ready = λ o last h. quiet (emit effect.Ready (closed o)) (ended sequel.Ready o last h) (starts_pushed o.orders effect.Ready false h.0 refl);
      ends = λ e o last h. quiet (end_all e o) (ended (sequel.End e) o last h) (end_all-quiet e o h.0);
    }

advance-starts : (n : ℕ) (o : Outcome) → Starts false o → Starts (work_starts o) (advance n o)
unfolding work_starts
advance-starts n o h =
    let test : Bool = ends_wait o.state.to_stop o.state.waiting && has_due o.state.to_start in
    let awaits : Bool = list_any (row_has is_awaited) o.state.rows in
    advance-by (Starts (is_busy o && (not awaits && test))) n o
    (λ rests. h ∙ sym (⊎_elim (λ idle. ap (λ (x : Bool). x && (not awaits && test)) idle) (λ any. ap (λ (x : Bool). is_busy o && (not x && test)) any ∙ and_false (is_busy o)) rests))
    (λ busy none.
    stop_first-on n (StartsIf test) (Starts test) (going-starts n test) o.state.to_stop o busy (h, refl)
    ∙ sym (ap (λ (x : Bool). x && (not awaits && test)) busy ∙ ap (λ (x : Bool). not x && test) none))
  where
    and_false : (b : Bool) → (b && false) ≡ false
    and_false true = refl
    and_false false = refl

stop_each-quiet : (ps : List ℕ) (o : Outcome) → Starts false o → Starts false (stop_each ps o)
stop_each-quiet = stop_each-by (Starts false) (λ p o _ h. used-quiet p (position (is_exit p) o.state.waiting) o h) (λ p o _ h. tell-quiet p o h)

terminate-quiet : (e : Ending) (o : Outcome) → Starts false o → Starts false (terminate e o)
terminate-quiet e o h = terminate-by (Starts false) e o (λ _. stop_each-quiet (running o.state.rows) (calm_all (with_work [] [] (Some (sequel.End e)) o)) h) (λ _. h)

restart_or_end-quiet : (place k : ℕ) (o : Outcome) → Starts false o → Starts false (restart_or_end place k o)
unfolding restart_or_end restart_rows
restart_or_end-quiet place k o h =
    let from : ℕ = affected_from o.state.flags.strategy place in
    let to : ℕ = affected_to o.state.flags.strategy place (length o.state.rows) in
    elim (nat_lt o.state.flags.intensity (in_period o.state.flags.period o.state.stamps o.state.last)) as (λ b. Starts false (if b then terminate ending.Intensity o else restart_rows from to place k o)) [
      | true ↦ terminate-quiet ending.Intensity o h
      | false ↦ h
    ]

restart-quiet : (k place : ℕ) (row : Row) (o : Outcome) → Starts false o → Starts false (restart k place row o)
unfolding restart
restart-quiet k place row o h = restart_or_end-quiet place k _ h

quiet_kills : (now : ℕ) (rows : List Row) → list_any is_start (filter_map (λ row. kill_order row (late_number now row.state)) rows) ≡ false
quiet_kills now [] = refl
quiet_kills now (row ∷ rows) =
    let kills : List Effect = filter_map (λ row. kill_order row (late_number now row.state)) rows in
    let rest : list_any is_start kills ≡ false = quiet_kills now rows in
    elim (late_number now row.state) as (λ late. list_any is_start (cons_option (kill_order row late) kills) ≡ false) [ None ↦ rest | Some p ↦ rest ]

-- what an event decides on orders no start
pub decide-quiet : (k : Kind) (b : Bool) → Survives k b (λ o. Starts false o)
unfolding open_rows open_with tick
decide-quiet k b =
    record {
      answered = λ c r o h. answer-quiet c r o h;
      taken = λ x xs o idle runs at h. h;
      call_waits = λ c x o h. h;
      exit_waits = λ p r o noted h. h;
      up = λ p place row q kept o at is same noted h. h;
      up_closed = λ p place row q kept c o at is same follows h. h;
      ignored = λ p place row q kept o at is same noted h. end_row-quiet place row o h;
      opening_failed = λ place row q kept o runs at is follows h. terminate-quiet (ending.InitFailed row.spec.id) (set_row place row Undefined o) h;
      restart_failed = λ place row q kept o at is follows h. h;
      added_failed = λ place row q kept c o at is follows h. h;
      restarted_failed = λ place row q kept c o at is follows h. h;
      stopped = λ p r place row o at is noted h. end_row-quiet place row o h;
      died = λ p place row o idle runs at is h. end_row-quiet place row o h;
      restarts = λ p place row o idle runs at is h. restart-quiet p place row o h;
      ends = λ e o other idle runs h. terminate-quiet e o h;
      ticks = λ o is h. starts_after o.orders _ false h (quiet_kills o.state.last o.state.rows);
      opens = λ own o is busy over h. h;
      adds = λ c id spec o idle runs named h. h;
      starts_again = λ c id place row o idle runs at is undefined h. h;
      removed = λ place row o idle runs at is h. h;
      given_up = λ place row o idle runs at is h. h;
      stops_child = λ c p place row o idle runs at is h. h;
    }

pub number_starts_work_law : NumberStartsWork
unfolding needs_number step step_on work_starts
number_starts_work_law reading k o =
    let before : Outcome = record { state = stamped reading o.state; orders = [] } in
    advance-starts 0 (decide k before) (decide-survives k (λ o. Starts false o) before (decide-quiet k (is_busy before)) refl)
    ∙ sym (ap work_starts (decide-appended o.orders k before))
    ∙ ap (λ (xs : List Effect). work_starts (decide k (record { state = stamped reading o.state; orders = xs }))) (append-nil o.orders)
