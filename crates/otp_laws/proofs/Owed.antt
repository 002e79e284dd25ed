-- A child that ends is started again: the work that its end opens goes on until its start is ordered.
use Rattle.std.specs.Prelude.{All, ◌≡◌, ◌⊎◌, ℕ, ◌+◌, ◌-◌, ◌<◌, ◌++◌, not, Bool, true, false, List, [], ◌∷◌, Option, None, Some, Contains, refl, is_some, length, map, slice_get, slice_range, slice_set, drop, take, position, unwrap_or, if◌then◌else◌, nat_le}
use Rattle.std.proofs.Common.{◌∙◌, ap, sym, subst, inl, inr, arith, ⊎_elim, cond, rules, get_or, suc, zero}
use Rattle.std.proofs.lemmas.Bool.{eq-eqb, eqb-true, false≢true}
use Rattle.std.proofs.lemmas.List.Elements.{All-contains, All-nil, All-push, Contains-append_left, Contains-append_right, Contains-push}
use Rattle.otp_reason.specs.declared.name.Name.{Name}
use Rattle.otp_reason.specs.declared.note.Note.TheVariants as note
use Rattle.otp_reason.specs.declared.reason.Reason.{Reason}
use Rattle.otp_spec.specs.declared.child.Restart.{Restart}
use Rattle.otp_spec.specs.declared.child.Restart.TheVariants.{Permanent, Transient, Temporary}
use Rattle.otp_table.specs.declared.row.Row.{Row}
use Rattle.otp_table.specs.declared.row.RowState.{RowState}
use Rattle.otp_table.specs.declared.row.RowState.TheVariants.{Undefined, Starting, Up, Asked, Killed, Restarting}
use Rattle.otp_table.specs.Rows.{awaits_retry, row_has, with_state, free_slot, has_id}
use Rattle.otp_rules.specs.declared.ending.Ending.{Ending}
use Rattle.otp_rules.specs.declared.ending.Ending.TheVariants as ending
use Rattle.otp_rules.specs.declared.event.Effect.{Effect}
use Rattle.otp_rules.specs.declared.event.Effect.TheVariants as effect
use Rattle.otp_rules.specs.declared.event.Event.{Event}
use Rattle.otp_rules.specs.declared.event.Item.{Item}
use Rattle.otp_rules.specs.declared.event.Item.TheVariants as item
use Rattle.otp_rules.specs.declared.event.Kind.{Kind}
use Rattle.otp_rules.specs.declared.event.Kind.TheVariants as kind
use Rattle.otp_rules.specs.declared.event.Waiting.{Waiting}
use Rattle.otp_rules.specs.declared.event.Waiting.TheVariants as waiting
use Rattle.otp_rules.specs.declared.work.Due.{Due}
use Rattle.otp_rules.specs.declared.work.Phase.{Phase}
use Rattle.otp_rules.specs.declared.work.Sequel.{Sequel}
use Rattle.otp_rules.specs.declared.work.Sequel.TheVariants as sequel
use Rattle.otp_rules.specs.State.{Outcome, State, answer, is_busy, is_over, put_last, with_waiting, with_work, with_rows}
use Rattle.otp_rules.specs.Places.{at_row, end_row, is_temporary, set_row, at_found, at_place}
use Rattle.otp_rules.specs.Restarts.{affected_from, affected_to, dues, ends_by_significance, is_restarted, restart_list, running}
use Rattle.otp_rules.specs.Stops.{calm_all, is_exit, tell, terminate, use_exit}
use Rattle.otp_rules.specs.Starts.{is_due, start, start_row}
use Rattle.otp_rules.specs.Work.{advance}
use Rattle.otp_rules.specs.Deaths.{after_end, death, exit_in, restart, restart_rows, retry, take_exit}
use Rattle.otp_rules.specs.Step.{decide, resume, stamped, step, step_on, take_item, take_note, take_waiting, tick, ask}
use Rattle.otp_rules.specs.Run.{orders_of, state_after}
use Rattle.otp_rules.specs.Homes.{Brings}
use Rattle.otp_rules.specs.Progress.{taken, ComesBackAfter, WaitsRetry}
use Rattle.otp_rules.proofs.GoesOn.{GoesOn, advance-on}
use Rattle.otp_rules.proofs.Walks.{advance-by, counted_restart, restart-by, stop_each-by, terminate-by, with_stops}
use Rattle.otp_rules.proofs.Decisions.{IsUnmoved, SurvivesEvent, at_row-survives, by_test, decide-survives_event, end_row-same, AtPassing, first_passes}
use Rattle.otp_rules.proofs.Counting.{end_row-alike, no_row, tell-alike, use_exit-alike, use_exit-quiet}
use Rattle.otp_rules.proofs.Opened.{one_slice}
use Rattle.otp_rules.proofs.InTurn.{follow-orders}
use Rattle.otp_rules.proofs.WhileOpen.{terminate-follows}
use Rattle.otp_rules.specs.Calls.{add_child, call_at, call_child, carry_out, fault_at, new_row, refuse, start_checked, start_child, start_dynamic, start_lawful, start_shared, take_call, unless_refused}
use Rattle.std.proofs.lemmas.List.Quantifiers.{position-Some}
use Rattle.std.proofs.lemmas.Option.{slice_get-get_or}
use Rattle.otp_rules.specs.declared.call.CallFault.{CallFault}
use Rattle.otp_rules.specs.declared.call.Call.{Call}
use Rattle.otp_rules.specs.declared.call.Answered.{Answered}
use Rattle.otp_spec.specs.declared.child.ChildSpec.{ChildSpec}
use Rattle.otp_spec.specs.declared.fault.SpecFault.{SpecFault}
use Rattle.otp_spec.specs.declared.limits.TheConstants.{MAX_CHILDREN}
use Rattle.otp_spec.specs.Lawful.{first_fault}
use Rattle.otp_spec.specs.Flags.{is_simple}
use Rattle.otp_rules.specs.declared.call.Reply.TheVariants as reply
use Rattle.otp_rules.specs.declared.call.CallFault.TheVariants as fault
use Rattle.otp_rules.specs.declared.call.Call.TheVariants as call
use Rattle.otp_laws.proofs.Heeded.{brings-idle}
use Rattle.otp_laws.proofs.Starts.{NotStart, replies, tell-silent}
use Rattle.otp_rules.specs.Ends.{end_all, refuse_all}
use Rattle.otp_rules.specs.Work.{follow}
use Rattle.otp_laws.proofs.Significant.{not_back, Ends, at_first, at_first_row, step-ends}
use Rattle.otp_laws.specs.Owed.{EndsStay, due_of_id, is_too_many, EndsRestart, FailsIn, FailsRestart, IsEndOf, IsNextTryOf, IsOwed, IsRestartedBy, OwedStays, OwedUntilStarted, StartsIn, StartsOrOwes, TriesRestart, CallsStart, IsCallOf, IsOwedBy, IsRefused, StartsOrOwesBy}

-- what is owed in an outcome

abbrev OwesBy : Sequel → Option Name → Outcome → Type 0
OwesBy f id o = IsOwedBy f id o.state

abbrev Owes : Option Name → Outcome → Type 0
Owes = OwesBy sequel.Nothing

abbrev Begins : Sequel → Option Name → ℕ → Outcome → Type 0
Begins f id n o = Contains o.orders (effect.Start id n) ⊎ IsOwedBy f id o.state

-- the work and the phase are the same
alike-owes : (f : Sequel) (id : Option Name) (new old : Outcome) → new.state.phase ≡ old.state.phase → new.state.to_start ≡ old.state.to_start → new.state.follows ≡ old.state.follows → OwesBy f id old → OwesBy f id new
alike-owes f id new old phase starts follows h =
    record {
      runs = ap (λ (x : Phase). is_over x) phase ∙ h.runs;
      work = follows ∙ h.work;
      kept = h.kept;
      due = subst (λ (l : List Due). Contains l (due_of_id id h.kept)) (sym starts) h.due;
    }

-- nobody is owed anything by an empty list
none-due : (f : Sequel) (id : Option Name) (o : Outcome) → o.state.to_start ≡ [] → OwesBy f id o → ⊥
none-due f id o none h =
    let c : Contains [] (due_of_id id h.kept) = subst (λ (l : List Due). Contains l (due_of_id id h.kept)) none h.due in
    omega (arith, c.1)

-- the first of a list, or one of the others
first_or_later : (x : Due) (xs : List Due) (y : Due) → Contains (x ∷ xs) y → (x ≡ y) ⊎ Contains xs y
first_or_later x xs y h = at h.0 h.1 h.2
  where
    at : (k : ℕ) → k < length (x ∷ xs) → get_or (x ∷ xs) k y ≡ y → (x ≡ y) ⊎ Contains xs y
    at zero less e = inl e
    at (suc k) less e = inr (k, omega (arith, less), e)

-- the work goes on

start-begins : (f : Sequel) (id : Option Name) (due : Due) (n : ℕ) (left : Outcome) → (due.id ≡ id) ⊎ OwesBy f id left → Begins f id n (start due n left)
unfolding start start_row
start-begins f id due n left h =
    let found : Outcome = at_row (is_due due) left (start_row due n) left in
    ⊎_elim (λ (same : due.id ≡ id). inl (subst (λ (x : Option Name). Contains (start due n left).orders (effect.Start x n)) same (Contains-push found.orders (effect.Start due.id n))))
    (λ (owes : OwesBy f id left). inr (at_row-survives (OwesBy f id) (is_due due) left (start_row due n) left owes owes (λ i row at has. alike-owes f id (start_row due n i row left) left refl refl refl owes))) h

going-owed : (f : Sequel) (id : Option Name) (n : ℕ) → GoesOn n (λ _. OwesBy f id) (Begins f id n)
going-owed f id n =
    record {
      uses = λ p rest o _ h.
          let mid : Outcome = with_stops rest o in
          let like = use_exit-alike p (position (is_exit p) o.state.waiting) mid in
          alike-owes f id (use_exit p (position (is_exit p) o.state.waiting) mid) mid like.1 like.3 like.4 (alike-owes f id mid o refl refl refl h);
      tells = λ p rest o _ h.
          let mid : Outcome = with_stops rest o in
          let like = tell-alike p mid in
          inr (alike-owes f id (tell p mid) mid like.1 like.3 like.4 (alike-owes f id mid o refl refl refl h));
      starts = λ due dues o is h.
          let left : Outcome = with_work o.state.to_stop dues o.state.follows o in
          let here : Contains (due ∷ dues) (due_of_id id h.kept) = subst (λ (l : List Due). Contains l (due_of_id id h.kept)) is h.due in
          start-begins f id due n left
          (⊎_elim (λ (same : due ≡ due_of_id id h.kept). inl (ap (λ (x : Due). x.id) same))
          (λ (later : Contains dues (due_of_id id h.kept)). inr (record { runs = h.runs; work = h.work; kept = h.kept; due = later }))
          (first_or_later due dues (due_of_id id h.kept) here));
      closes = λ x o last other h. absurd (none-due f id o last.1 h);
      answers = λ c r x o last other h. absurd (none-due f id o last.1 h);
      ready = λ o last h. absurd (none-due f id o last.1 h);
      ends = λ e o last h. absurd (none-due f id o last.1 h);
    }

advance-owed : (f : Sequel) (id : Option Name) (n : ℕ) (o : Outcome) → OwesBy f id o → Begins f id n (advance n o)
advance-owed f id n o h = advance-on n (λ _. OwesBy f id) (Begins f id n) (going-owed f id n) o (λ _. inr h) (λ _ _. h)

-- the supervisor when the event is taken
abbrev begun : State → Event → Outcome
begun s e = record { state = stamped e.reading s; orders = [] }

step-owed : (f : Sequel) (s : State) (e : Event) (id : Option Name) → OwesBy f id (decide e.kind (begun s e)) → StartsOrOwesBy f id s e
unfolding step step_on
step-owed f s e id h = advance-owed f id (unwrap_or e.number 0) (decide e.kind (begun s e)) h

-- a restart opens work that owes the child its start

one_due : (kept : Option ℕ) (row : Row) → is_temporary row.spec.restart ≡ false → dues kept (row ∷ []) ≡ due_of_id row.id kept ∷ []
one_due kept row h = ap (λ (b : Bool). map (λ (x : Row). due_of_id x.id kept) (cond (not b) (row ∷ []) [])) h

restart_list-has : (from to place k : ℕ) (rows : List Row) (row : Row) → slice_get rows place ≡ Some row → is_temporary row.spec.restart ≡ false → Contains (restart_list from to place k rows) (due_of_id row.id (Some k))
restart_list-has from to place k rows row at stays =
    let due : Due = due_of_id row.id (Some k) in
    let before : List Due = dues None (slice_range rows from place) in
    let after : List Due = dues None (slice_range rows (place + 1) to) in
    let here : dues (Some k) (slice_range rows place (place + 1)) ≡ due ∷ [] = ap (λ (l : List Row). dues (Some k) l) (one_slice rows place row at) ∙ one_due (Some k) row stays in
    let mine : Contains (dues (Some k) (slice_range rows place (place + 1))) due = subst (λ (l : List Due). Contains l due) (sym here) (Contains-push [] due) in
    Contains-append_left (before ++ dues (Some k) (slice_range rows place (place + 1))) after due (Contains-append_right before (dues (Some k) (slice_range rows place (place + 1))) due mine)

restart_rows-owes : (from to place k : ℕ) (row : Row) (o : Outcome) → slice_get o.state.rows place ≡ Some row → is_temporary row.spec.restart ≡ false → is_over o.state.phase ≡ false → Owes row.id (restart_rows from to place k o)
unfolding restart_rows
restart_rows-owes from to place k row o at stays runs = record { runs = runs; work = refl; kept = Some k; due = restart_list-has from to place k o.state.rows row at stays }

-- the outcome is what a restart makes of it: the start is owed, or the supervisor ends
abbrev Answers : Row → State → Event → Outcome → Type 0
Answers row s e o = (is_too_many s e ≡ false → Owes row.id o) × (is_too_many s e ≡ true → Ends ending.Intensity o)

restart-answers : (k place : ℕ) (row : Row) (s : State) (e : Event) (ws : List Waiting) → slice_get s.rows place ≡ Some row → is_temporary row.spec.restart ≡ false → is_over s.phase ≡ false → Answers row s e (restart k place row (with_waiting ws (begun s e)))
restart-answers k place row s e ws at stays runs =
    let o : Outcome = with_waiting ws (begun s e) in
    let counted : Outcome = counted_restart place row o in
    let down : Row = with_state Undefined row in
    let there : slice_get counted.state.rows place ≡ Some down = slice_set-there s.rows place row down at in
    restart-by (Answers row s e) k place row o
    (λ many. (λ few. absurd (false≢true (sym few ∙ many)), λ _. terminate-follows ending.Intensity counted))
    (λ few. (λ _. restart_rows-owes (affected_from s.flags.strategy place) (affected_to s.flags.strategy place (length counted.state.rows)) place k down counted there stays runs, λ many. absurd (false≢true (sym few ∙ many))))
  where
    slice_set-there : (rows : List Row) (i : ℕ) (old new : Row) → slice_get rows i ≡ Some old → slice_get (slice_set rows i new) i ≡ Some new
    slice_set-there [] i old new h = let none : ◌≡◌ {A = Option Row} None (Some old) = h in cc
    slice_set-there (x ∷ rows) zero old new h = refl
    slice_set-there (x ∷ rows) (suc i) old new h = slice_set-there rows i old new h

-- the supervisor after the event
answered : (row : Row) (s : State) (e : Event) → Answers row s e (decide e.kind (begun s e)) → IsRestartedBy row s e
answered row s e h = (λ few. step-owed sequel.Nothing s e row.id (h.0 few), λ many. step-ends s e ending.Intensity (h.1 many))

-- an end

back : (restart : Restart) (r : Reason) → ComesBackAfter r restart → (is_restarted restart r ≡ true) × (is_temporary restart ≡ false)
back Permanent r h = (refl, refl)
back Transient r h = (ap not h, refl)
back Temporary r h = absurd h

death-answers : (p : ℕ) (r : Reason) (place : ℕ) (row : Row) (s : State) (e : Event) (ws : List Waiting) → slice_get s.rows place ≡ Some row → ComesBackAfter r row.spec.restart → is_over s.phase ≡ false → Answers row s e (death p r place row (with_waiting ws (begun s e)))
unfolding death
death-answers p r place row s e ws at comes runs =
    let o : Outcome = with_waiting ws (begun s e) in
    by_test (Answers row s e) (is_restarted row.spec.restart r) (restart p place row o) (after_end p row (end_row place row o))
    (λ _. restart-answers p place row s e ws at (back row.spec.restart r comes).1 runs)
    (λ stays. absurd (false≢true (sym stays ∙ (back row.spec.restart r comes).0)))

exit-answers : (p : ℕ) (r : Reason) (row : Row) (s : State) (e : Event) (ws : List Waiting) → IsEndOf s e.kind p r row → ComesBackAfter r row.spec.restart → Answers row s e (take_exit p r (with_waiting ws (begun s e)))
unfolding take_exit exit_in
exit-answers p r row s e ws h comes =
    let o : Outcome = with_waiting ws (begun s e) in
    at_first (Answers row s e) p (λ i x. exit_in p r i x x.state) h.place row o h.first
    (subst (λ (state : RowState). Answers row s e (exit_in p r h.place row state o)) (sym h.up)
    (by_test (Answers row s e) (is_busy o) (put_last (waiting.Item (item.Note (note.Exit p r))) o) (death p r h.place row o) (λ busy. absurd (false≢true (sym h.idle ∙ busy)))
    (λ _. death-answers p r h.place row s e ws h.first.at comes h.runs)))

note-answers : (p : ℕ) (r : Reason) (row : Row) (s : State) (e : Event) (ws : List Waiting) → IsEndOf s e.kind p r row → ComesBackAfter r row.spec.restart → Answers row s e (take_item (item.Note (note.Exit p r)) (with_waiting ws (begun s e)))
unfolding take_item take_note
note-answers p r row s e ws h comes =
    let o : Outcome = with_waiting ws (begun s e) in
    by_test (Answers row s e) (is_over o.state.phase) o (take_note (note.Exit p r) o) (λ over. absurd (false≢true (sym h.runs ∙ over))) (λ _. exit-answers p r row s e ws h comes)

pub ends_restart_law : EndsRestart
ends_restart_law s e p r row h comes =
    answered row s e (brings-idle (Answers row s e) e.kind (item.Note (note.Exit p r)) (begun s e) h.brings h.idle h.runs (λ ws. note-answers p r row s e ws h comes))

-- an end after which the child stays as it is

abbrev Quiet : State → Outcome → Type 0
Quiet s o = All NotStart o.orders × (o.state.stamps ≡ s.stamps)

-- and nobody is to be started
abbrev Calm : State → Outcome → Type 0
Calm s o = Quiet s o × (o.state.to_start ≡ [])

used-calm : (s : State) (p : ℕ) (o : Outcome) → Calm s o → Calm s (use_exit p (position (is_exit p) o.state.waiting) o)
used-calm s p o h =
    let place : Option ℕ = position (is_exit p) o.state.waiting in
    let like = use_exit-alike p place o in
    ((subst (λ (xs : List Effect). All NotStart xs) (sym (use_exit-quiet p place o).1) h.0.0, like.5 ∙ h.0.1), like.3 ∙ h.1)

tell-calm : (s : State) (p : ℕ) (o : Outcome) → Calm s o → Calm s (tell p o)
tell-calm s p o h = let like = tell-alike p o in ((tell-silent p o h.0.0, like.5 ∙ h.0.1), like.3 ∙ h.1)

going-calm : (s : State) (n : ℕ) → GoesOn n (λ _. Calm s) (Quiet s)
unfolding answer end_all refuse_all follow
going-calm s n =
    record {
      uses = λ p rest o _ h. used-calm s p (with_stops rest o) h;
      tells = λ p rest o _ h. (tell-calm s p (with_stops rest o) h).0;
      starts = λ due dues o is h. absurd (let e1 : ◌≡◌ {A = List Due} [] (due ∷ dues) = sym h.1 ∙ is in search (rules, e1));
      closes = λ f o last other h. h.0;
      answers = λ c r f o last other h. (All-push NotStart o.orders (effect.Reply c) h.0.0 tt, h.0.1);
      ready = λ o last h. (All-push NotStart o.orders effect.Ready h.0.0 tt, h.0.1);
      ends = λ x o last h. (follow-orders NotStart replies (Some (sequel.End x)) o h.0.0, h.0.1);
    }

terminate-calm : (s : State) (x : Ending) (o : Outcome) → Quiet s o → Calm s (terminate x o)
terminate-calm s x o h =
    terminate-by (Calm s) x o
    (λ _. stop_each-by (Calm s) (λ p y _ k. used-calm s p y k) (λ p y _ k. tell-calm s p y k) (running o.state.rows) (calm_all (with_work [] [] (Some (sequel.End x)) o)) (h, refl)) (λ _. (h, refl))

-- what is decided: nothing is opened that starts anybody
abbrev Decides : State → Outcome → Type 0
Decides s o = Quiet s o × (is_busy o ≡ true → o.state.to_start ≡ [])

death-decides : (p : ℕ) (r : Reason) (place : ℕ) (row : Row) (s : State) (e : Event) (ws : List Waiting) → is_some s.follows ≡ false → (ComesBackAfter r row.spec.restart → ⊥) → Decides s (death p r place row (with_waiting ws (begun s e)))
unfolding death after_end
death-decides p r place row s e ws idle stays =
    let o : Outcome = with_waiting ws (begun s e) in
    let gone : Outcome = end_row place row o in
    let same = end_row-same place row o in
    let quiet : Quiet s gone = (subst (λ (xs : List Effect). All NotStart xs) (sym same.0) (All-nil NotStart), (end_row-alike place row o).5) in
    by_test (Decides s) (is_restarted row.spec.restart r) (restart p place row o) (after_end p row gone)
    (λ back. absurd (false≢true (sym (not_back row.spec.restart r stays) ∙ back)))
    (λ _. by_test (Decides s) (ends_by_significance gone.state.flags.auto_shutdown row gone.state.rows) (terminate (ending.Significant p) gone) gone
    (λ _. let calm : Calm s (terminate (ending.Significant p) gone) = terminate-calm s (ending.Significant p) gone quiet in (calm.0, λ _. calm.1))
    (λ _. (quiet, λ busy. absurd (false≢true (sym idle ∙ sym same.1 ∙ busy)))))

exit-decides : (p : ℕ) (r : Reason) (row : Row) (s : State) (e : Event) (ws : List Waiting) → IsEndOf s e.kind p r row → (ComesBackAfter r row.spec.restart → ⊥) → Decides s (take_exit p r (with_waiting ws (begun s e)))
unfolding take_exit exit_in
exit-decides p r row s e ws h stays =
    let o : Outcome = with_waiting ws (begun s e) in
    at_first (Decides s) p (λ i x. exit_in p r i x x.state) h.place row o h.first
    (subst (λ (state : RowState). Decides s (exit_in p r h.place row state o)) (sym h.up)
    (by_test (Decides s) (is_busy o) (put_last (waiting.Item (item.Note (note.Exit p r))) o) (death p r h.place row o) (λ busy. absurd (false≢true (sym h.idle ∙ busy)))
    (λ _. death-decides p r h.place row s e ws h.idle stays)))

note-decides : (p : ℕ) (r : Reason) (row : Row) (s : State) (e : Event) (ws : List Waiting) → IsEndOf s e.kind p r row → (ComesBackAfter r row.spec.restart → ⊥) → Decides s (take_item (item.Note (note.Exit p r)) (with_waiting ws (begun s e)))
unfolding take_item take_note
note-decides p r row s e ws h stays =
    let o : Outcome = with_waiting ws (begun s e) in
    by_test (Decides s) (is_over o.state.phase) o (take_note (note.Exit p r) o) (λ over. absurd (false≢true (sym h.runs ∙ over))) (λ _. exit-decides p r row s e ws h stays)

step-quiet : (s : State) (e : Event) → Decides s (decide e.kind (begun s e)) → Quiet s (step s e)
unfolding step step_on
step-quiet s e h = advance-on (unwrap_or e.number 0) (λ _. Calm s) (Quiet s) (going-calm s (unwrap_or e.number 0)) (decide e.kind (begun s e)) (λ _. h.0) (λ busy _. (h.0, h.1 busy))

pub ends_stay_law : EndsStay
ends_stay_law s e p r row h stays =
    let quiet : Quiet s (step s e) = step-quiet s e (brings-idle (Decides s) e.kind (item.Note (note.Exit p r)) (begun s e) h.brings h.idle h.runs (λ ws. note-decides p r row s e ws h stays)) in
    record { none = λ id n starts. All-contains NotStart (step s e).orders (effect.Start id n) quiet.0 starts; stamps = quiet.1 }

-- the next try

retry-answers : (n : ℕ) (row : Row) (s : State) (e : Event) (ws : List Waiting) → IsNextTryOf s e.kind n row → is_temporary row.spec.restart ≡ false → Answers row s e (retry n (with_waiting ws (begun s e)))
unfolding retry
retry-answers n row s e ws h stays =
    let o : Outcome = with_waiting ws (begun s e) in
    at_first_row (Answers row s e) (WaitsRetry n) (row_has (awaits_retry n)) o (restart n) h.place row o
    (λ x waits. subst (λ (state : RowState). awaits_retry n state ≡ true) (sym waits) (eq-eqb n n refl))
    (λ x has. waits_of n x.state has)
    h.first (restart-answers n h.place row s e ws h.first.at stays h.runs)
  where
    waits_of : (k : ℕ) (state : RowState) → awaits_retry k state ≡ true → state ≡ Restarting k
    waits_of k Undefined w = absurd (false≢true w)
    waits_of k (Starting _ _) w = absurd (false≢true w)
    waits_of k (Up _) w = absurd (false≢true w)
    waits_of k (Asked _ _) w = absurd (false≢true w)
    waits_of k (Killed _) w = absurd (false≢true w)
    waits_of k (Restarting m) w = ap (λ (x : ℕ). Restarting x) (eqb-true m k w)

takes-retry : (P : Outcome → Type 0) (k : Kind) (n : ℕ) (o : Outcome) → taken k o.state.waiting ≡ Some (waiting.Retry n) → is_busy o ≡ false → is_over o.state.phase ≡ false → ((ws : List Waiting) → P (retry n (with_waiting ws o))) → P (decide k o)
unfolding decide resume take_waiting
takes-retry P (kind.Opened own) n o took idle runs h = let none : ◌≡◌ {A = Option Waiting} None (Some (waiting.Retry n)) = took in cc
takes-retry P (kind.Took j) n o took idle runs h = let other : ◌≡◌ {A = Option Waiting} (Some (waiting.Item j)) (Some (waiting.Retry n)) = took in cc
takes-retry P kind.Resumed n o took idle runs h =
    by_test P (is_busy o) o (if is_over o.state.phase then o else resume o.state.waiting o) (λ busy. absurd (false≢true (sym idle ∙ busy)))
    (λ _. by_test P (is_over o.state.phase) o (resume o.state.waiting o) (λ over. absurd (false≢true (sym runs ∙ over))) (λ _. first o.state.waiting took))
  where
    first : (ws : List Waiting) → slice_get ws 0 ≡ Some (waiting.Retry n) → P (resume ws o)
    first [] f = let none : ◌≡◌ {A = Option Waiting} None (Some (waiting.Retry n)) = f in cc
    first (w ∷ ws) f = let same : waiting.Retry n ≡ w = (let e : ◌≡◌ {A = Option Waiting} (Some w) (Some (waiting.Retry n)) = f in cc) in subst (λ (y : Waiting). P (take_waiting y (with_waiting ws o))) same (h ws)
takes-retry P kind.Ticked n o took idle runs h = let none : ◌≡◌ {A = Option Waiting} None (Some (waiting.Retry n)) = took in cc
takes-retry P kind.Stopped n o took idle runs h = let none : ◌≡◌ {A = Option Waiting} None (Some (waiting.Retry n)) = took in cc

pub tries_restart_law : TriesRestart
tries_restart_law s e n row h stays =
    answered row s e (takes-retry (Answers row s e) e.kind n (begun s e) h.takes h.idle h.runs (λ ws. retry-answers n row s e ws h stays))

-- who is owed a start stays so

-- a start of the open restart has failed, and the work is closed
record Fails (s : State) (e : Event) (o : Outcome) : Type 0 where
  p : ℕ
  r : Reason
  takes : e.kind ≡ kind.Took (item.Note (note.Failed p r))
  place : ℕ
  row : Row
  kept : ℕ
  at : slice_get s.rows place ≡ Some row
  starting : row.state ≡ Starting p kept
  closes : o.state.follows ≡ None
  waits : Contains o.state.waiting (waiting.Retry kept)

abbrev Stays : Option Name → State → Event → Outcome → Type 0
Stays id s e o = Owes id o ⊎ Fails s e o

-- what the event brings is what it takes, as work is open
abbrev Took : Event → Item → Type 0
Took e i = e.kind ≡ kind.Took i

unmoved-owes : (id : Option Name) (s : State) (e : Event) (o : Outcome) → IsOwed id s → IsUnmoved (begun s e) o → Owes id o
unmoved-owes id s e o h unmoved =
    let same : Outcome = with_waiting o.state.waiting (begun s e) in
    alike-owes sequel.Nothing id o same (ap (λ (x : Outcome). x.state.phase) unmoved) (ap (λ (x : Outcome). x.state.to_start) unmoved) (ap (λ (x : Outcome). x.state.follows) unmoved) (record { runs = h.runs; work = h.work; kept = h.kept; due = h.due })

-- work that restarts children is no other work
other-work : (id : Option Name) (f : Option Sequel) (o : Outcome) → o.state.follows ≡ f → Owes id o → f ≡ Some sequel.Nothing
other-work id f o is h = sym is ∙ h.work

stays-survives : (id : Option Name) (s : State) (e : Event) → IsOwed id s → SurvivesEvent e.kind (Took e) (begun s e) (Stays id s e)
unfolding answer tick
stays-survives id s e h =
    let old : Outcome = begun s e in
    let busy : is_busy old ≡ true = ap (λ (f : Option Sequel). is_some f) h.work in
    let owes : (o : Outcome) → IsUnmoved old o → Owes id o = λ o u. unmoved-owes id s e o h u in
    record {
      answered = λ c r o quiet x. ⊎_elim (λ (k : Owes id o). inl (alike-owes sequel.Nothing id (answer c r o) o refl refl refl k)) (λ (k : Fails s e o). inr (record { p = k.p; r = k.r; takes = k.takes; place = k.place; row = k.row; kept = k.kept; at = k.at; starting = k.starting; closes = k.closes; waits = k.waits })) x;
      taken = λ w ws resumed idle runs is x. absurd (false≢true (sym idle.0 ∙ busy));
      call_waits = λ c call o u is g x. inl (alike-owes sequel.Nothing id (put_last (waiting.Item (item.Call c call)) o) o refl refl refl (owes o u));
      exit_waits = λ p r place row o u at has g x. inl (alike-owes sequel.Nothing id (put_last (waiting.Item (item.Note (note.Exit p r))) o) o refl refl refl (owes o u));
      up = λ p place row q kept o u at is same g x. inl (alike-owes sequel.Nothing id (set_row place row (Up p) o) o refl refl refl (owes o u));
      up_closed = λ p place row q kept c o u at is same follows g x. absurd (⊎_elim (λ (f : o.state.follows ≡ Some (sequel.Added c)). (let e1 = other-work id (Some (sequel.Added c)) o f (owes o u) in search (rules, e1))) (λ (f : o.state.follows ≡ Some (sequel.Restarted c)). (let e1 = other-work id (Some (sequel.Restarted c)) o f (owes o u) in search (rules, e1))) follows);
      ignored = λ p place row q kept o u at is same g x. (let like = end_row-alike place row o in inl (alike-owes sequel.Nothing id (end_row place row o) o like.1 like.3 like.4 (owes o u)));
      opening_failed = λ place row q kept o u runs at is follows g x. absurd (let e1 = other-work id (Some sequel.Ready) o follows (owes o u) in search (rules, e1));
      restart_failed = λ place row q kept o u at is follows g x. inr (record { p = q; r = g.0; takes = g.1; place = place; row = row; kept = kept; at = sym (ap (λ (x : Outcome). slice_get x.state.rows place) u) ∙ at; starting = is; closes = refl; waits = Contains-push o.state.waiting (waiting.Retry kept) });
      added_failed = λ place row q kept c o u at is follows g x. absurd (let e1 = other-work id (Some (sequel.Added c)) o follows (owes o u) in search (rules, e1));
      restarted_failed = λ place row q kept c o u at is follows g x. absurd (let e1 = other-work id (Some (sequel.Restarted c)) o follows (owes o u) in search (rules, e1));
      stopped = λ p r place row o u at told g x. (let like = end_row-alike place row o in inl (alike-owes sequel.Nothing id (end_row place row o) o like.1 like.3 like.4 (owes o u)));
      died = λ p place row o u idle runs at is g x. absurd (false≢true (sym idle.0 ∙ busy));
      restarts = λ p place row o u idle runs at is x. absurd (false≢true (sym idle.0 ∙ busy));
      ends = λ x o why other idle runs y. absurd (false≢true (sym idle.0 ∙ busy));
      ticks = λ is x. inl (record { runs = h.runs; work = h.work; kept = h.kept; due = h.due });
      opens = λ own is over x. absurd (false≢true (sym h.runs ∙ over));
      adds = λ c i spec o u idle runs named few got x. absurd (false≢true (sym idle.0 ∙ busy));
      starts_again = λ c i place row o u idle runs at has is noted found x. absurd (false≢true (sym idle.0 ∙ busy));
      removed = λ place row o u idle runs at down x. absurd (false≢true (sym idle.0 ∙ busy));
      given_up = λ place row o u idle runs at down x. absurd (false≢true (sym idle.0 ∙ busy));
      stops_child = λ c p place row o u idle runs at up has got x. absurd (false≢true (sym idle.0 ∙ busy));
    }

brings-took : (k : Kind) (b : Bool) (ws : List Waiting) (i : Item) → b ≡ true → Brings k ws i → (k ≡ kind.Resumed → b ≡ false) → k ≡ kind.Took i
brings-took (kind.Opened _) b ws i busy brings idle = absurd brings
brings-took (kind.Took j) b ws i busy brings idle = ap (λ (x : Item). kind.Took x) brings
brings-took kind.Resumed b ws i busy brings idle = absurd (false≢true (sym (idle refl) ∙ busy))
brings-took kind.Ticked b ws i busy brings idle = absurd brings
brings-took kind.Stopped b ws i busy brings idle = absurd brings

decide-stays : (id : Option Name) (s : State) (e : Event) → IsOwed id s → Stays id s e (decide e.kind (begun s e))
decide-stays id s e h =
    let busy : is_busy (begun s e) ≡ true = ap (λ (f : Option Sequel). is_some f) h.work in
    decide-survives_event e.kind (Took e) (begun s e) (Stays id s e) (stays-survives id s e h)
    (λ i brings idle. brings-took e.kind (is_busy (begun s e)) s.waiting i busy brings idle)
    (inl (record { runs = h.runs; work = h.work; kept = h.kept; due = h.due }))

-- a work that is closed doesn't go on
advance-closed : (P : Outcome → Type 0) (n : ℕ) (o : Outcome) → o.state.follows ≡ None → P o → P (advance n o)
advance-closed P n o none x = advance-by P n o (λ _. x) (λ busy _. absurd (false≢true (sym (ap (λ (f : Option Sequel). is_some f) none) ∙ busy)))

pub owed_stays_law : OwedStays
unfolding step step_on
owed_stays_law s e id h =
    ⊎_elim (λ (owes : Owes id (decide e.kind (begun s e))). inl (step-owed sequel.Nothing s e id owes))
    (λ (fails : Fails s e (decide e.kind (begun s e))).
    let f : Fails s e (advance (unwrap_or e.number 0) (decide e.kind (begun s e))) = advance-closed (Fails s e) (unwrap_or e.number 0) (decide e.kind (begun s e)) fails.closes fails in
    inr (record { p = f.p; r = f.r; takes = f.takes; restarts = h.work; place = f.place; row = f.row; kept = f.kept; at = f.at; starting = f.starting; closes = f.closes; waits = f.waits }))
    (decide-stays id s e h)

-- along a history

pub owed_until_started_law : OwedUntilStarted
owed_until_started_law s [] id h = inr (inl h)
owed_until_started_law s (e ∷ events) id h =
    let next : State = (step s e).state in
    let given : List Effect = (step s e).orders in
    let n : ℕ = unwrap_or e.number 0 in
    ⊎_elim
    (λ (now : StartsOrOwes id s e).
    ⊎_elim (λ (starts : Contains given (effect.Start id n)). inl (n, Contains-append_left given (orders_of next events) (effect.Start id n) starts))
    (λ (owed : IsOwed id next).
    ⊎_elim (λ (later : StartsIn id next events). inl (later.0, Contains-append_right given (orders_of next events) (effect.Start id later.0) later.1))
    (λ (rest : IsOwed id (state_after next events) ⊎ FailsIn next events).
    inr (⊎_elim (λ (still : IsOwed id (state_after next events)). inl still)
    (λ (fails : FailsIn next events). inr (record { before = e ∷ fails.before; e = fails.e; later = fails.later; are = ap (λ (l : List Event). e ∷ l) fails.are; fails = fails.fails })) rest))
    (owed_until_started_law next events id owed)) now)
    (λ (fails : FailsRestart s e). inr (inr (record { before = []; e = e; later = events; are = refl; fails = fails })))
    (owed_stays_law s e id h)

-- a call that asks for a start

-- what is made of the first row that passes, or what stands where none does
at_row-either : (P : Outcome → Type 0) (test : Row → Bool) (missing : Outcome) (f : ℕ → Row → Outcome → Outcome) (o : Outcome) → P missing → AtPassing P test f o → P (at_row test missing f o)
unfolding at_row at_found at_place
at_row-either P test missing f o none h = found (position test o.state.rows) refl
  where
    at : (i : ℕ) (row : Option Row) → position test o.state.rows ≡ Some i → slice_get o.state.rows i ≡ row → P (at_place f i row o)
    at i None is absent = absurd (no_row test o.state.rows i is absent)
    at i (Some row) is there = h i row there (first_passes test i row o is there)

    found : (x : Option ℕ) → position test o.state.rows ≡ x → P (at_found missing f x o)
    found None is = none
    found (Some i) is = at i (slice_get o.state.rows i) is refl

-- the call is refused, and opens nothing
record Refuses (s : State) (c : ℕ) (o : Outcome) : Type 0 where
  why : CallFault
  idle : is_busy o ≡ false
  gives : o.state.replies ≡ s.replies ++ record { call = c; reply = reply.Refused why } ∷ []

abbrev Opens : Sequel → Option Name → State → ℕ → Outcome → Type 0
Opens f id s c o = Refuses s c o ⊎ OwesBy f id o

-- the supervisor when the call is taken: no work is open
abbrev Ready : State → Outcome → Type 0
Ready s o = (is_busy o ≡ false) × (is_over o.state.phase ≡ false) × (o.state.replies ≡ s.replies)

refuse-opens : (f : Sequel) (id : Option Name) (s : State) (c : ℕ) (why : CallFault) (o : Outcome) → Ready s o → Opens f id s c (refuse c why o)
unfolding answer
refuse-opens f id s c why o h = inl (record { why = why; idle = h.0; gives = ap (λ (l : List Answered). l ++ record { call = c; reply = reply.Refused why } ∷ []) h.2 })

add_child-opens : (id : Option Name) (s : State) (c : ℕ) (spec : ChildSpec) (o : Outcome) → Ready s o → Opens (sequel.Added c) id s c (add_child c id spec o)
unfolding add_child
add_child-opens id s c spec o h =
    let new : Outcome = with_work [] (due_of_id id None ∷ []) (Some (sequel.Added c)) (with_rows (o.state.rows ++ new_row (free_slot o.state.rows) id spec ∷ []) o) in
    by_test (Opens (sequel.Added c) id s c) (nat_le MAX_CHILDREN (length o.state.rows)) (refuse c fault.TooManyChildren o) new
    (λ _. refuse-opens (sequel.Added c) id s c fault.TooManyChildren o h)
    (λ _. inr (record { runs = h.1; work = refl; kept = None; due = Contains-push [] (due_of_id id None) }))

-- start_child is refused at a child that is there
there-opens : (s : State) (c : ℕ) (spec : ChildSpec) (place : ℕ) (row : Row) (o : Outcome) → Ready s o → Opens (sequel.Added c) (Some spec.id) s c (call_at c (call.StartChild spec) place row o)
unfolding call_at
there-opens s c spec place row o h = by row.state
  where
    by : (state : RowState) → Opens (sequel.Added c) (Some spec.id) s c (unless_refused c (fault_at (call.StartChild spec) state) (carry_out c (call.StartChild spec) place row o) o)
    by Undefined = refuse-opens (sequel.Added c) (Some spec.id) s c fault.AlreadyPresent o h
    by (Starting _ _) = refuse-opens (sequel.Added c) (Some spec.id) s c fault.AlreadyPresent o h
    by (Up p) = refuse-opens (sequel.Added c) (Some spec.id) s c (fault.AlreadyStarted p) o h
    by (Asked _ _) = refuse-opens (sequel.Added c) (Some spec.id) s c fault.AlreadyPresent o h
    by (Killed _) = refuse-opens (sequel.Added c) (Some spec.id) s c fault.AlreadyPresent o h
    by (Restarting _) = refuse-opens (sequel.Added c) (Some spec.id) s c fault.AlreadyPresent o h

start_child-opens : (s : State) (c : ℕ) (spec : ChildSpec) (o : Outcome) → Ready s o → Opens (sequel.Added c) (Some spec.id) s c (start_child c spec o)
unfolding start_child start_checked start_lawful
start_child-opens s c spec o h =
    by_test P (is_simple o.state.flags.strategy) (refuse c fault.SimpleOneForOne o) (start_checked c spec (first_fault (spec ∷ []) (Some o.state.flags.auto_shutdown)) o)
    (λ _. refuse-opens (sequel.Added c) (Some spec.id) s c fault.SimpleOneForOne o h) (λ _. checked (first_fault (spec ∷ []) (Some o.state.flags.auto_shutdown)))
  where
    P : Outcome → Type 0
    P = Opens (sequel.Added c) (Some spec.id) s c

    checked : (x : Option SpecFault) → P (start_checked c spec x o)
    checked None = at_row-either P (has_id spec.id) (add_child c (Some spec.id) spec o) (call_at c (call.StartChild spec)) o (add_child-opens (Some spec.id) s c spec o h) (λ place row at has. there-opens s c spec place row o h)
    checked (Some why) = refuse-opens (sequel.Added c) (Some spec.id) s c (fault.BadSpec why) o h

start_dynamic-opens : (s : State) (c : ℕ) (o : Outcome) → Ready s o → Opens (sequel.Added c) None s c (start_dynamic c o)
unfolding start_dynamic start_shared
start_dynamic-opens s c o h =
    by_test P (is_simple o.state.flags.strategy) (start_shared c (slice_get o.state.specs 0) o) (refuse c fault.NotSimple o) (λ _. shared (slice_get o.state.specs 0))
    (λ _. refuse-opens (sequel.Added c) None s c fault.NotSimple o h)
  where
    P : Outcome → Type 0
    P = Opens (sequel.Added c) None s c

    shared : (x : Option ChildSpec) → P (start_shared c x o)
    shared None = refuse-opens (sequel.Added c) None s c fault.NotSimple o h
    shared (Some spec) = add_child-opens None s c spec o h

restart-opens : (s : State) (c : ℕ) (id : Name) (o : Outcome) → Ready s o → Opens (sequel.Restarted c) (Some id) s c (call_child c id (call.RestartChild id) o)
unfolding call_child call_at
restart-opens s c id o h =
    by_test P (is_simple o.state.flags.strategy) (refuse c fault.SimpleOneForOne o) (at_row (has_id id) (refuse c fault.NotFound o) (call_at c (call.RestartChild id)) o)
    (λ _. refuse-opens (sequel.Restarted c) (Some id) s c fault.SimpleOneForOne o h)
    (λ _. at_row-either P (has_id id) (refuse c fault.NotFound o) (call_at c (call.RestartChild id)) o (refuse-opens (sequel.Restarted c) (Some id) s c fault.NotFound o h) (λ place row at has. by place row row.state))
  where
    P : Outcome → Type 0
    P = Opens (sequel.Restarted c) (Some id) s c

    by : (place : ℕ) (row : Row) (state : RowState) → P (unless_refused c (fault_at (call.RestartChild id) state) (carry_out c (call.RestartChild id) place row o) o)
    by place row Undefined = inr (record { runs = h.1; work = refl; kept = None; due = Contains-push [] (due_of_id (Some id) None) })
    by place row (Starting _ _) = refuse-opens (sequel.Restarted c) (Some id) s c fault.Running o h
    by place row (Up _) = refuse-opens (sequel.Restarted c) (Some id) s c fault.Running o h
    by place row (Asked _ _) = refuse-opens (sequel.Restarted c) (Some id) s c fault.Running o h
    by place row (Killed _) = refuse-opens (sequel.Restarted c) (Some id) s c fault.Running o h
    by place row (Restarting _) = refuse-opens (sequel.Restarted c) (Some id) s c fault.Restarting o h

-- the call is carried out at once
asks-opens : (P : Outcome → Type 0) (s : State) (e : Event) (c : ℕ) (x : Call) → IsCallOf s e.kind c x → ((ws : List Waiting) → P (take_call c x (with_waiting ws (begun s e)))) → P (decide e.kind (begun s e))
unfolding take_item ask
asks-opens P s e c x h carried =
    brings-idle P e.kind (item.Call c x) (begun s e) h.brings h.idle h.runs
    (λ ws.
    let o : Outcome = with_waiting ws (begun s e) in
    by_test P (is_over o.state.phase) (answer c reply.NoProc o) (if is_busy o then put_last (waiting.Item (item.Call c x)) o else take_call c x o) (λ over. absurd (false≢true (sym h.runs ∙ over)))
    (λ _. by_test P (is_busy o) (put_last (waiting.Item (item.Call c x)) o) (take_call c x o) (λ busy. absurd (false≢true (sym h.idle ∙ busy))) (λ _. carried ws)))

step-opens : (f : Sequel) (id : Option Name) (s : State) (e : Event) (c : ℕ) → Opens f id s c (decide e.kind (begun s e)) → IsRefused s e c ⊎ StartsOrOwesBy f id s e
unfolding step step_on
step-opens f id s e c h =
    ⊎_elim
    (λ (refuses : Refuses s c (decide e.kind (begun s e))).
    let n : ℕ = unwrap_or e.number 0 in
    let o : Outcome = decide e.kind (begun s e) in
    let x : Refuses s c (advance n o) = advance-by (Refuses s c) n o (λ _. refuses) (λ busy _. absurd (false≢true (sym refuses.idle ∙ busy))) in
    inl (x.why, x.gives)) (λ (owes : OwesBy f id (decide e.kind (begun s e))). inr (step-owed f s e id owes)) h

pub calls_start_law : CallsStart
unfolding take_call
calls_start_law =
    record {
      child = λ s e c spec h. step-opens (sequel.Added c) (Some spec.id) s e c
          (asks-opens (Opens (sequel.Added c) (Some spec.id) s c) s e c (call.StartChild spec) h (λ ws. start_child-opens s c spec (with_waiting ws (begun s e)) (h.idle, h.runs, refl)));
      dynamic = λ s e c h. step-opens (sequel.Added c) None s e c
          (asks-opens (Opens (sequel.Added c) None s c) s e c call.StartDynamic h (λ ws. start_dynamic-opens s c (with_waiting ws (begun s e)) (h.idle, h.runs, refl)));
      again = λ s e c id h. step-opens (sequel.Restarted c) (Some id) s e c
          (asks-opens (Opens (sequel.Restarted c) (Some id) s c) s e c (call.RestartChild id) h (λ ws. restart-opens s c id (with_waiting ws (begun s e)) (h.idle, h.runs, refl)));
    }
