-- A significant child's end ends the supervisor.
use Rattle.std.specs.Prelude.{◌≡◌, ℕ, ◌+◌, ◌<◌, ◌&&◌, ◌||◌, not, Bool, true, false, List, [], ◌∷◌, Option, Some, refl, position, slice_get, slice_set, nat_lt, remove, unwrap_or, count_by}
use Rattle.std.specs.List.{list_any}
use Rattle.std.proofs.Common.{◌∙◌, ap, sym, subst, inl, inr, arith, ⊎_elim, cond, rules}
use Rattle.std.proofs.lemmas.Bool.{and_from, cases_Bool, eq-eqb, eqb-true, false≢true, ltb-false, ltb-true}
use Rattle.std.proofs.lemmas.List.Quantifiers.{position-Some}
use Rattle.std.proofs.lemmas.List.Sums.{sum_by-cons}
use Rattle.std.proofs.lemmas.Option.{get_or_from_slice_get}
use Rattle.otp_reason.specs.declared.note.Note.TheVariants as note
use Rattle.otp_reason.specs.declared.reason.Reason.{Reason}
use Rattle.otp_reason.specs.Quiet.{is_quiet}
use Rattle.otp_spec.specs.declared.child.Restart.{Restart}
use Rattle.otp_spec.specs.declared.child.Restart.TheVariants.{Permanent, Transient, Temporary}
use Rattle.otp_spec.specs.declared.flags.AutoShutdown.{AutoShutdown}
use Rattle.otp_spec.specs.declared.flags.AutoShutdown.TheVariants.{Never, AnySignificant, AllSignificant}
use Rattle.otp_spec.specs.declared.flags.SupFlags.{SupFlags}
use Rattle.otp_table.specs.declared.row.Row.{Row}
use Rattle.otp_table.specs.declared.row.RowState.{RowState}
use Rattle.otp_table.specs.declared.row.RowState.TheVariants.{Undefined, Starting, Up, Asked, Killed, Restarting}
use Rattle.otp_table.specs.Rows.{has_process, is_left, is_undefined, row_has, with_state}
use Rattle.otp_rules.specs.declared.ending.Ending.{Ending}
use Rattle.otp_rules.specs.declared.ending.Ending.TheVariants as ending
use Rattle.otp_rules.specs.declared.event.Event.{Event}
use Rattle.otp_rules.specs.declared.event.Item.TheVariants as item
use Rattle.otp_rules.specs.declared.event.Kind.{Kind}
use Rattle.otp_rules.specs.declared.event.Waiting.TheVariants as waiting
use Rattle.otp_rules.specs.declared.work.Phase.TheVariants.{Ended}
use Rattle.otp_rules.specs.declared.work.Sequel.{Sequel}
use Rattle.otp_rules.specs.declared.work.Sequel.TheVariants as sequel
use Rattle.otp_rules.specs.State.{Outcome, State, answer, is_busy, is_over, own_number, put_last, with_rows, with_waiting, with_work}
use Rattle.otp_rules.specs.Places.{at_number, at_row, end_row, is_removed, set_row}
use Rattle.otp_rules.specs.Restarts.{ends_by_significance, is_restarted}
use Rattle.otp_rules.specs.Stops.{is_exit, terminate}
use Rattle.otp_rules.specs.Starts.{is_due, start, start_row}
use Rattle.otp_rules.specs.Ends.{end_all, refuse_all}
use Rattle.otp_rules.specs.Deaths.{after_end, death, exit_in, restart, take_exit}
use Rattle.otp_rules.specs.Step.{decide, stamped, step, step_on, take_item, take_note}
use Rattle.otp_rules.specs.Progress.{is_end, process_number, ComesBackAfter, HasProcess, IsFirstRow}
use Rattle.otp_rules.specs.Taken.{EndsBySignificance}
use Rattle.otp_rules.proofs.GoesOn.{GoesOn, advance-on}
use Rattle.otp_rules.proofs.Walks.{with_stops}
use Rattle.otp_rules.proofs.Decisions.{StandsAt, at_row-survives, by_test, end_row-same, first_passes}
use Rattle.otp_rules.proofs.Counting.{at_row-first, remove_count, set_count, tell-alike, use_exit-alike}
use Rattle.otp_rules.proofs.WhileOpen.{terminate-follows}
use Rattle.otp_laws.proofs.Heeded.{brings-idle, none_some, same_some}
use Rattle.otp_laws.specs.Musts.{IsEnding, IsSignificantEnd, SignificantEndsEnd}

-- an end that is open goes on to the end of the supervisor

abbrev pub Ends : Ending → Outcome → Type 0
Ends x o = o.state.follows ≡ Some (sequel.End x)

same_end : (x y : Ending) → ◌≡◌ {A = Option Sequel} (Some (sequel.End x)) (Some (sequel.End y)) → x ≡ y
same_end x y h = cc

going-ends : (x : Ending) (n : ℕ) → GoesOn n (λ _. Ends x) (λ o. IsEnding o.state x)
unfolding start start_row answer end_all refuse_all
going-ends x n =
    record {
      uses = λ p rest o _ h. (use_exit-alike p (position (is_exit p) o.state.waiting) (with_stops rest o)).4 ∙ h;
      tells = λ p rest o _ h. inl ((tell-alike p (with_stops rest o)).4 ∙ h);
      starts = λ due dues o _ h.
          let left : Outcome = with_work o.state.to_stop dues o.state.follows o in
          inl (at_row-survives (Ends x) (is_due due) left (start_row due n) left h h (λ i row at has. h));
      closes = λ f o last other h. absurd (false≢true (sym other ∙ ap is_end (sym last.0 ∙ h)));
      answers = λ c r f o last other h. absurd (false≢true (sym other ∙ ap is_end (sym last.0 ∙ h)));
      ready = λ o last h. absurd (search (rules, sym last.0 ∙ h));
      ends = λ e o last h. inr (own_number o.state.phase, ap (λ (y : Ending). Ended (own_number o.state.phase) y) (same_end e x (sym last.0 ∙ h)));
    }

pub step-ends : (s : State) (e : Event) (x : Ending) → Ends x (decide e.kind (record { state = stamped e.reading s; orders = [] })) → IsEnding (step s e).state x
unfolding step step_on
step-ends s e x h =
    advance-on (unwrap_or e.number 0) (λ _. Ends x) (λ o. IsEnding o.state x) (going-ends x (unwrap_or e.number 0)) (decide e.kind (record { state = stamped e.reading s; orders = [] })) (λ _. inl h) (λ _ _. h)

-- the row that is found

has_of : (p : ℕ) (state : RowState) → has_process p state ≡ true → process_number state ≡ Some p
has_of p Undefined h = absurd (false≢true h)
has_of p (Starting q _) h = ap (λ (n : ℕ). Some n) (eqb-true q p h)
has_of p (Up q) h = ap (λ (n : ℕ). Some n) (eqb-true q p h)
has_of p (Asked q _) h = ap (λ (n : ℕ). Some n) (eqb-true q p h)
has_of p (Killed q) h = ap (λ (n : ℕ). Some n) (eqb-true q p h)
has_of p (Restarting _) h = absurd (false≢true h)

passes : (p : ℕ) (state : RowState) → process_number state ≡ Some p → has_process p state ≡ true
passes p Undefined h = absurd (none_some p h)
passes p (Starting q _) h = eq-eqb q p (same_some q p h)
passes p (Up q) h = eq-eqb q p (same_some q p h)
passes p (Asked q _) h = eq-eqb q p (same_some q p h)
passes p (Killed q) h = eq-eqb q p (same_some q p h)
passes p (Restarting _) h = absurd (none_some p h)

-- what is done at a row that passes a test is done at the first for which this holds
pub at_first_row : (P : Outcome → Type 0) (Holds : Row → Type 0) (test : Row → Bool) (missing : Outcome) (f : ℕ → Row → Outcome → Outcome) (place : ℕ) (row : Row) (o : Outcome)
    → ((r : Row) → Holds r → test r ≡ true) → ((r : Row) → test r ≡ true → Holds r) → IsFirstRow Holds o.state.rows place row → P (f place row o) → P (at_row test missing f o)
at_first_row P Holds test missing f place row o passes_it holds_it first h =
    let rows : List Row = o.state.rows in
    let has : test row ≡ true = passes_it row first.holds in
    let one : ◌≡◌ {A = ℕ} (cond (test row) 1 0) 1 = ap (λ (b : Bool). cond b 1 0) has in
    let some : 0 < count_by test rows = (let e : count_by test (remove rows place) + cond (test row) 1 0 ≡ count_by test rows = remove_count test rows place row first.at in omega (arith, one, e)) in
    at_row-first P test missing f o some
    (λ i other found at.
    let before : (i < place → ⊥) = λ less. first.first i other less at (holds_it other (first_passes test i other o found at)) in
    let after : (place < i → ⊥) = λ less. false≢true (sym ((position-Some test rows i row found).2 place less) ∙ ap (λ (r : Row). test r) (get_or_from_slice_get rows place row row first.at) ∙ has) in
    let same : i ≡ place = equal i place before after in
    let here : ◌≡◌ {A = Option Row} (Some other) (Some row) = sym at ∙ ap (λ (n : ℕ). slice_get rows n) same ∙ first.at in
    let it : other ≡ row = cc in
    subst (λ (n : ℕ). P (f n other o)) (sym same) (subst (λ (r : Row). P (f place r o)) (sym it) h))
  where
    equal : (x y : ℕ) → (x < y → ⊥) → (y < x → ⊥) → x ≡ y
    equal x y h k =
        ⊎_elim (λ (less : nat_lt x y ≡ true). absurd (h (ltb-true x y less)))
        (λ (isnt : nat_lt x y ≡ false). ⊎_elim (λ (more : nat_lt y x ≡ true). absurd (k (ltb-true y x more))) (λ (none : nat_lt y x ≡ false). omega (arith, ltb-false x y isnt, ltb-false y x none)) (cases_Bool (nat_lt y x))) (cases_Bool (nat_lt x y))

-- what is done at the row of a process is done at the first that has it
pub at_first : (P : Outcome → Type 0) (p : ℕ) (f : ℕ → Row → Outcome → Outcome) (place : ℕ) (row : Row) (o : Outcome) → IsFirstRow (HasProcess p) o.state.rows place row → P (f place row o) → P (at_number p f o)
unfolding at_number
at_first P p f place row o first h = at_first_row P (HasProcess p) (row_has (has_process p)) o f place row o (λ r has. passes p r.state has) (λ r has. has_of p r.state has) first h

-- what the rules ask

pub not_back : (restart : Restart) (r : Reason) → (ComesBackAfter r restart → ⊥) → is_restarted restart r ≡ false
not_back Permanent r h = absurd (h tt)
not_back Transient r h = ⊎_elim (λ (quiet : is_quiet r ≡ true). ap not quiet) (λ (loud : is_quiet r ≡ false). absurd (h loud)) (cases_Bool (is_quiet r))
not_back Temporary r h = refl

none_left : (rows : List Row) → count_by is_left rows ≡ 0 → list_any is_left rows ≡ false
none_left [] h = refl
none_left (row ∷ rows) h =
    ⊎_elim
    (λ (holds_so : is_left row ≡ true). absurd (let one : ◌≡◌ {A = ℕ} (cond (is_left row) 1 0) 1 = ap (λ (b : Bool). cond b 1 0) holds_so in omega (arith, one, h, sum_by-cons (λ (r : Row). cond (is_left r) 1 0) row rows)))
    (λ (isnt : is_left row ≡ false).
    let zero : ◌≡◌ {A = ℕ} (cond (is_left row) 1 0) 0 = ap (λ (b : Bool). cond b 1 0) isnt in
    ap (λ (b : Bool). b || list_any is_left rows) isnt ∙ none_left rows (omega (arith, zero, h, sum_by-cons (λ (r : Row). cond (is_left r) 1 0) row rows)))
    (cases_Bool (is_left row))

end-left : (place : ℕ) (row : Row) (o : Outcome) → StandsAt place row o → count_by is_left (end_row place row o).state.rows + cond (is_left row) 1 0 ≡ count_by is_left o.state.rows
unfolding end_row
end-left place row o at =
    by_test (λ (x : Outcome). count_by is_left x.state.rows + cond (is_left row) 1 0 ≡ count_by is_left o.state.rows) (is_removed row) (with_rows (remove o.state.rows place) o) (set_row place row Undefined o)
    (λ _. remove_count is_left o.state.rows place row at)
    (λ _.
    let e : count_by is_left (slice_set o.state.rows place (with_state Undefined row)) + cond (is_left row) 1 0 ≡ count_by is_left o.state.rows + cond (is_left (with_state Undefined row)) 1 0 = set_count is_left o.state.rows place row (with_state Undefined row) at in
    let zero : ◌≡◌ {A = ℕ} (cond (is_left (with_state Undefined row)) 1 0) 0 = ap (λ (b : Bool). cond b 1 0) (down row.spec.significant) in
    omega (arith, e, zero))
  where
    down : (b : Bool) → (b && not true) ≡ false
    down true = refl
    down false = refl

ends_so : (auto : AutoShutdown) (p place : ℕ) (row : Row) (o : Outcome) → StandsAt place row o → row.state ≡ Up p → EndsBySignificance auto row o.state.rows → ends_by_significance auto row (end_row place row o).state.rows ≡ true
ends_so Never p place row o at up h = absurd h
ends_so AnySignificant p place row o at up h = h
ends_so AllSignificant p place row o at up h =
    let left : is_left row ≡ true = and_from row.spec.significant (not (is_undefined row.state)) h.0 (ap (λ (s : RowState). not (is_undefined s)) up) in
    let one : ◌≡◌ {A = ℕ} (cond (is_left row) 1 0) 1 = ap (λ (b : Bool). cond b 1 0) left in
    and_from row.spec.significant (not (list_any is_left (end_row place row o).state.rows)) h.0 (ap not (none_left (end_row place row o).state.rows (omega (arith, one, h.1, end-left place row o at))))

death-ends : (p : ℕ) (r : Reason) (place : ℕ) (row : Row) (o : Outcome) → StandsAt place row o → row.state ≡ Up p → (ComesBackAfter r row.spec.restart → ⊥) → EndsBySignificance o.state.flags.auto_shutdown row o.state.rows → Ends (ending.Significant p) (death p r place row o)
unfolding death after_end
death-ends p r place row o at up stays ends =
    let x : Ending = ending.Significant p in
    let gone : Outcome = end_row place row o in
    let so : ends_by_significance gone.state.flags.auto_shutdown row gone.state.rows ≡ true =
    ap (λ (f : SupFlags). ends_by_significance f.auto_shutdown row gone.state.rows) (end_row-same place row o).3 ∙ ends_so o.state.flags.auto_shutdown p place row o at up ends in
    by_test (Ends x) (is_restarted row.spec.restart r) (restart p place row o) (after_end p row gone)
    (λ back. absurd (false≢true (sym (not_back row.spec.restart r stays) ∙ back)))
    (λ _. by_test (Ends x) (ends_by_significance gone.state.flags.auto_shutdown row gone.state.rows) (terminate x gone) gone (λ _. terminate-follows x gone) (λ isnt. absurd (false≢true (sym isnt ∙ so))))

exit-ends : (s : State) (k : Kind) (p : ℕ) (o : Outcome) → (h : IsSignificantEnd s k p) → o.state.rows ≡ s.rows → o.state.flags ≡ s.flags → is_busy o ≡ false → Ends (ending.Significant p) (take_exit p h.r o)
unfolding take_exit exit_in
exit-ends s k p o h same flags idle =
    let x : Ending = ending.Significant p in
    let place : ℕ = h.place in
    let row : Row = h.row in
    let first : IsFirstRow (HasProcess p) o.state.rows place row = subst (λ (rows : List Row). IsFirstRow (HasProcess p) rows place row) (sym same) h.first in
    let ends : EndsBySignificance o.state.flags.auto_shutdown row o.state.rows =
    subst (λ (rows : List Row). EndsBySignificance o.state.flags.auto_shutdown row rows) (sym same) (subst (λ (f : SupFlags). EndsBySignificance f.auto_shutdown row s.rows) (sym flags) h.ends) in
    at_first (Ends x) p (λ i r. exit_in p h.r i r r.state) place row o first
    (subst (λ (state : RowState). Ends x (exit_in p h.r place row state o)) (sym h.up)
    (by_test (Ends x) (is_busy o) (put_last (waiting.Item (item.Note (note.Exit p h.r))) o) (death p h.r place row o) (λ busy. absurd (false≢true (sym idle ∙ busy)))
    (λ _. death-ends p h.r place row o first.at h.up h.stays ends)))

note-ends : (s : State) (k : Kind) (p : ℕ) (o : Outcome) → (h : IsSignificantEnd s k p) → o.state.rows ≡ s.rows → o.state.flags ≡ s.flags → is_busy o ≡ false → is_over o.state.phase ≡ false → Ends (ending.Significant p) (take_item (item.Note (note.Exit p h.r)) o)
unfolding take_item take_note
note-ends s k p o h same flags idle runs =
    by_test (Ends (ending.Significant p)) (is_over o.state.phase) o (take_note (note.Exit p h.r) o) (λ over. absurd (false≢true (sym runs ∙ over))) (λ _. exit-ends s k p o h same flags idle)

pub significant_ends_end_law : SignificantEndsEnd
significant_ends_end_law s e p h =
    let start : Outcome = record { state = stamped e.reading s; orders = [] } in
    step-ends s e (ending.Significant p)
    (brings-idle (Ends (ending.Significant p)) e.kind (item.Note (note.Exit p h.r)) start h.brings h.idle h.runs (λ ws. note-ends s e.kind p (with_waiting ws start) h refl refl h.idle h.runs))
