-- Under simple_one_for_one no child stays undefined, but while the supervisor ends.
use Rattle.std.specs.Prelude.{◌≡◌, ◌⊎◌, ℕ, ◌+◌, ◌≤◌, ◌<◌, ◌||◌, not, Bool, true, false, List, [], ◌∷◌, Option, None, Some, refl, position, is_some, slice_get, slice_set, remove, unwrap_or, count_by}
use Rattle.std.specs.List.{list_any}
use Rattle.std.specs.Option.{option_eq}
use Rattle.std.specs.Ordering.{on}
use Rattle.std.specs.Str.{bytes_eq}
use Rattle.std.proofs.Common.{◌∙◌, ap, sym, subst, inl, inr, arith, ⊎_elim, cond, rules}
use Rattle.std.proofs.lemmas.Bool.{and_from, and_parts, cases_Bool, false≢true}
use Rattle.std.proofs.lemmas.List.Sums.{sum_by-cons}
use Rattle.otp_reason.specs.declared.name.Name.{Name}
use Rattle.otp_reason.specs.Names.{name_bytes}
use Rattle.otp_spec.specs.declared.child.ChildSpec.{ChildSpec}
use Rattle.otp_spec.specs.declared.child.Shutdown.{Shutdown}
use Rattle.otp_spec.specs.declared.child.Shutdown.TheVariants.{BrutalKill, Infinity, Milliseconds}
use Rattle.otp_spec.specs.declared.flags.SupFlags.{SupFlags}
use Rattle.otp_spec.specs.Flags.{is_simple}
use Rattle.otp_table.specs.declared.row.Row.{Row}
use Rattle.otp_table.specs.declared.row.RowState.{RowState}
use Rattle.otp_table.specs.declared.row.RowState.TheVariants.{Undefined, Starting, Asked, Killed}
use Rattle.otp_table.specs.Rows.{free_slot, is_awaited, is_restarting, is_undefined, row_has, with_state}
use Rattle.otp_rules.specs.declared.call.Call.{Call}
use Rattle.otp_rules.specs.declared.call.Call.TheVariants as call
use Rattle.otp_rules.specs.declared.event.Event.{Event}
use Rattle.otp_rules.specs.declared.event.Item.{Item}
use Rattle.otp_rules.specs.declared.work.Due.{Due}
use Rattle.otp_rules.specs.declared.work.Sequel.{Sequel}
use Rattle.otp_rules.specs.declared.work.Sequel.TheVariants as sequel
use Rattle.otp_rules.specs.State.{Outcome, State, answer, is_busy, with_rows, with_waiting, with_work}
use Rattle.otp_rules.specs.Places.{end_process, end_row, is_removed, is_temporary, set_row}
use Rattle.otp_rules.specs.Restarts.{dues}
use Rattle.otp_rules.specs.Stops.{is_exit, tell, tell_row, told, use_exit, without}
use Rattle.otp_rules.specs.Starts.{is_due, start, start_row}
use Rattle.otp_rules.specs.Ends.{end_all, refuse_all}
use Rattle.otp_rules.specs.Work.{advance, follow, start_first, stop_first}
use Rattle.otp_rules.specs.Calls.{new_row}
use Rattle.otp_rules.specs.Step.{decide, open_rows, open_with, opening_specs, rows_from, stamped, step, step_on}
use Rattle.otp_rules.specs.Run.{empty_state, state_after}
use Rattle.otp_rules.specs.Homes.{Brings, is_start_call}
use Rattle.otp_rules.specs.Fit.{rows_in, IsSound}
use Rattle.otp_rules.specs.Progress.{is_end, AsksForChild}
use Rattle.otp_rules.proofs.Walks.{advance-by, stop_first-by, with_stops}
use Rattle.otp_rules.proofs.Decisions.{BringsStart, IsUnmoved, StandsAt, at_number-survives, at_row-survives, by_test, decide-survives, decide-survives_event}
use Rattle.otp_rules.proofs.Counting.{at_row-found, remove_count, rows_in-cons, rows_in-set, set_count, tell-alike, use_exit-alike}
use Rattle.otp_rules.proofs.Keeps.{step_keeps_plan_law}
use Rattle.otp_rules.proofs.Lasting.{contains_counts}
use Rattle.otp_rules.proofs.Sound.{advance-sound, empty-sound, sound-survives}
use Rattle.otp_laws.specs.Simple.{SimpleHasNoneUndefined}
use Rattle.otp_laws.proofs.Heeded.{zero_or_some}
use Rattle.otp_laws.proofs.Still.{Few, IsStill, advance-few, few-survives}
use Rattle.otp_laws.proofs.Dynamic.{FineAt, Holds, IsDefined, IsDue, differs, fine-decided, goes, is_again, is_restart, named, no_id, no_row, other, remove-counts, restarting, set-counts, undefined}

-- the work goes on

-- after the event: children are defined, or the supervisor is ending
record Done (tmp : Bool) (rows : List Row) (starts : List Due) (follows : Option Sequel) : Type 0 where
  again : is_again follows ≡ false
  never : tmp ≡ true → is_end follows ≡ false → (restarting rows ≤ 0) × (is_restart follows ≡ false)
  goal : (is_end follows ≡ true) ⊎ IsDefined rows starts

abbrev DoneAt : Bool → Outcome → Type 0
DoneAt tmp o = Done tmp o.state.rows o.state.to_start o.state.follows

-- an end that is open stays so, until all children are gone
done-end : (tmp : Bool) (o : Outcome) → is_end o.state.follows ≡ true → DoneAt tmp o
done-end tmp o ends = record { again = end_again o.state.follows ends; never = λ _ other. absurd (false≢true (sym other ∙ ends)); goal = inl ends }
  where
    end_again : (f : Option Sequel) → is_end f ≡ true → is_again f ≡ false
    end_again None h = absurd (false≢true h)
    end_again (Some sequel.Ready) h = absurd (false≢true h)
    end_again (Some sequel.Nothing) h = absurd (false≢true h)
    end_again (Some (sequel.Added _)) h = absurd (false≢true h)
    end_again (Some (sequel.Restarted _)) h = absurd (false≢true h)
    end_again (Some (sequel.Stopped _)) h = absurd (false≢true h)
    end_again (Some (sequel.End _)) h = refl

follow-end : (tmp : Bool) (f : Option Sequel) (o : Outcome) → is_end f ≡ true → DoneAt tmp (follow f o)
unfolding follow end_all refuse_all
follow-end tmp None o h = absurd (false≢true h)
follow-end tmp (Some sequel.Ready) o h = absurd (false≢true h)
follow-end tmp (Some sequel.Nothing) o h = absurd (false≢true h)
follow-end tmp (Some (sequel.Added _)) o h = absurd (false≢true h)
follow-end tmp (Some (sequel.Restarted _)) o h = absurd (false≢true h)
follow-end tmp (Some (sequel.Stopped _)) o h = absurd (false≢true h)
follow-end tmp (Some (sequel.End e)) o h = record { again = refl; never = λ _ _. (omega arith, refl); goal = inr (omega arith, refl) }

started-follows : (due : Due) (n : ℕ) (o : Outcome) → (start due n o).state.follows ≡ o.state.follows
unfolding start start_row
started-follows due n o = at_row-survives (λ (x : Outcome). x.state.follows ≡ o.state.follows) (is_due due) o (start_row due n) o refl refl (λ i row at has. refl)

start_first-end : (tmp : Bool) (dues : List Due) (n : ℕ) (o : Outcome) → is_end o.state.follows ≡ true → DoneAt tmp (start_first dues n o)
unfolding start_first
start_first-end tmp [] n o h = follow-end tmp o.state.follows o h
start_first-end tmp (due ∷ dues) n o h =
    let left : Outcome = with_work o.state.to_stop dues o.state.follows o in
    done-end tmp (start due n left) (ap is_end (started-follows due n left) ∙ h)

stop_first-end : (tmp : Bool) (ps : List ℕ) (n : ℕ) (o : Outcome) → is_end o.state.follows ≡ true → DoneAt tmp (stop_first ps n o)
stop_first-end tmp ps n o h =
    stop_first-by (λ qs x. is_end x.state.follows ≡ true) (DoneAt tmp) n (λ x k. start_first-end tmp x.state.to_start n x k)
    (λ p rest x waits k. ap is_end (use_exit-alike p (position (is_exit p) x.state.waiting) (with_stops rest x)).4 ∙ k)
    (λ p rest x none k. done-end tmp (tell p (with_stops rest x)) (ap is_end (tell-alike p (with_stops rest x)).4 ∙ k)) ps o h

-- where all are defined
record Kept (tmp : Bool) (rows : List Row) : Type 0 where
  nameless : count_by named rows ≤ 0
  defined : undefined rows ≤ 0
  never : tmp ≡ true → restarting rows ≤ 0

abbrev KeptAt : Bool → Outcome → Type 0
KeptAt tmp o = Kept tmp o.state.rows

kept-end : (tmp : Bool) (place : ℕ) (row : Row) (o : Outcome) → StandsAt place row o → KeptAt tmp o → KeptAt tmp (end_row place row o)
unfolding end_row
kept-end tmp place row o at h =
    by_test (KeptAt tmp) (is_removed row) (with_rows (remove o.state.rows place) o) (set_row place row Undefined o)
    (λ _.
    record {
      nameless = (let e : count_by named (remove o.state.rows place) + cond (named row) 1 0 ≡ count_by named o.state.rows = remove_count named o.state.rows place row at in let n = h.nameless in omega (arith, e, n));
      defined = (let e = remove-counts is_undefined place row o.state.rows at in let n = h.defined in omega (arith, e, n));
      never = λ is. let e = remove-counts is_restarting place row o.state.rows at in let n = h.never is in omega (arith, e, n);
    })
    (λ stays. absurd (false≢true (sym stays ∙ goes o.state.rows place row at h.nameless)))

kept-use : (tmp : Bool) (p : ℕ) (place : Option ℕ) (o : Outcome) → KeptAt tmp o → KeptAt tmp (use_exit p place o)
unfolding use_exit end_process
kept-use tmp p place o h =
    let left : Outcome = with_waiting (without o.state.waiting place) o in
    at_number-survives (KeptAt tmp) p end_row left h (λ i row at has. kept-end tmp i row left at h)

told_runs : (t : RowState → Bool) (now p : ℕ) (s : Shutdown) → ((d : Option ℕ) → t (Asked p d) ≡ false) → t (Killed p) ≡ false → t (told now p s) ≡ false
told_runs t now p BrutalKill asked killed = killed
told_runs t now p (Milliseconds m) asked killed = asked (Some (now + m))
told_runs t now p Infinity asked killed = asked None

kept-tell : (tmp : Bool) (p : ℕ) (o : Outcome) → KeptAt tmp o → KeptAt tmp (tell p o)
unfolding tell tell_row
kept-tell tmp p o h =
    at_number-survives (KeptAt tmp) p (tell_row p) o h
    (λ i row at has.
    let state : RowState = told o.state.last p row.spec.shutdown in
    record {
      nameless = (let e : count_by named (slice_set o.state.rows i (with_state state row)) + cond (named row) 1 0 ≡ count_by named o.state.rows + cond (named row) 1 0 = set_count named o.state.rows i row (with_state state row) at in let n = h.nameless in omega (arith, e, n));
      defined = (let e = set-counts is_undefined i row state o.state.rows at (told_runs is_undefined o.state.last p row.spec.shutdown (λ d. refl) refl) in let n = h.defined in omega (arith, e, n));
      never = λ is. let e = set-counts is_restarting i row state o.state.rows at (told_runs is_restarting o.state.last p row.spec.shutdown (λ d. refl) refl) in let n = h.never is in omega (arith, e, n);
    })

-- work that starts nobody goes on
record Going (tmp : Bool) (o : Outcome) : Type 0 where
  kept : KeptAt tmp o
  starts : o.state.to_start ≡ []
  other : is_end o.state.follows ≡ false
  again : is_again o.state.follows ≡ false
  never : tmp ≡ true → is_restart o.state.follows ≡ false

follow-kept : (tmp : Bool) (f : Option Sequel) (o : Outcome) → o.state.follows ≡ f → is_some f ≡ true → is_end f ≡ false → KeptAt tmp o → DoneAt tmp (follow f o)
unfolding follow answer
follow-kept tmp None o is some other k = absurd (false≢true some)
follow-kept tmp (Some sequel.Ready) o is some other k = record { again = refl; never = λ t _. (k.never t, refl); goal = inr (k.defined, refl) }
follow-kept tmp (Some sequel.Nothing) o is some other k = record { again = refl; never = λ t _. (k.never t, refl); goal = inr (k.defined, refl) }
follow-kept tmp (Some (sequel.Added _)) o is some other k = record { again = refl; never = λ t _. (k.never t, refl); goal = inr (k.defined, refl) }
follow-kept tmp (Some (sequel.Restarted _)) o is some other k = record { again = refl; never = λ t _. (k.never t, refl); goal = inr (k.defined, refl) }
follow-kept tmp (Some (sequel.Stopped _)) o is some other k = record { again = refl; never = λ t _. (k.never t, refl); goal = inr (k.defined, refl) }
follow-kept tmp (Some (sequel.End e)) o is some other k = absurd (false≢true (sym other))

start_first-kept : (tmp : Bool) (dues : List Due) (n : ℕ) (o : Outcome) → o.state.to_start ≡ dues → is_busy o ≡ true → Going tmp o → DoneAt tmp (start_first dues n o)
unfolding start_first
start_first-kept tmp [] n o is busy g = follow-kept tmp o.state.follows o refl busy g.other g.kept
start_first-kept tmp (due ∷ dues) n o is busy g = absurd (search (rules, sym g.starts ∙ is))

going-used : (tmp : Bool) (p : ℕ) (rest : List ℕ) (o : Outcome) → Going tmp o → Going tmp (use_exit p (position (is_exit p) o.state.waiting) (with_stops rest o))
going-used tmp p rest o g =
    let place : Option ℕ = position (is_exit p) o.state.waiting in
    let left : Outcome = with_stops rest o in
    let same = use_exit-alike p place left in
    record {
      kept = kept-use tmp p place left g.kept;
      starts = same.3 ∙ g.starts;
      other = ap is_end same.4 ∙ g.other;
      again = ap is_again same.4 ∙ g.again;
      never = λ t. ap is_restart same.4 ∙ g.never t;
    }

told-done : (tmp : Bool) (p : ℕ) (rest : List ℕ) (o : Outcome) → Going tmp o → DoneAt tmp (tell p (with_stops rest o))
told-done tmp p rest o g =
    let left : Outcome = with_stops rest o in
    let same = tell-alike p left in
    let kept : KeptAt tmp (tell p left) = kept-tell tmp p left g.kept in
    record {
      again = ap is_again same.4 ∙ g.again;
      never = λ t _. (kept.never t, ap is_restart same.4 ∙ g.never t);
      goal = inr (kept.defined, same.3 ∙ g.starts);
    }

stop_first-kept : (tmp : Bool) (ps : List ℕ) (n : ℕ) (o : Outcome) → is_busy o ≡ true → Going tmp o → DoneAt tmp (stop_first ps n o)
stop_first-kept tmp ps n o busy g =
    stop_first-by (λ qs x. (is_busy x ≡ true) × Going tmp x) (DoneAt tmp) n (λ x k. start_first-kept tmp x.state.to_start n x refl k.0 k.1)
    (λ p rest x waits k. (ap (λ (f : Option Sequel). is_some f) (use_exit-alike p (position (is_exit p) x.state.waiting) (with_stops rest x)).4 ∙ k.0, going-used tmp p rest x k.1))
    (λ p rest x none k. told-done tmp p rest x k.1) ps o (busy, g)

-- the child that is to be started at once
due_found : (due : Due) (rows : List Row) → due.id ≡ None → count_by named rows ≤ 0 → 0 < undefined rows → 0 < count_by (is_due due) rows
due_found due [] none few some = absurd (let z : undefined [] ≡ 0 = refl in omega (arith, z, some))
due_found due (row ∷ rows) none few some =
    ⊎_elim
    (λ (holds_so : is_undefined row.state ≡ true).
    let id : row.id ≡ None = no_id row.id (no_row named 0 row (row ∷ rows) refl few) in
    let matches : is_due due row ≡ true =
    and_from (option_eq (on name_bytes bytes_eq) row.id due.id) (is_undefined row.state)
    (ap (λ (x : Option Name). option_eq (on name_bytes bytes_eq) x due.id) id ∙ ap (λ (x : Option Name). option_eq (on name_bytes bytes_eq) None x) none) holds_so in
    let one : ◌≡◌ {A = ℕ} (cond (is_due due row) 1 0) 1 = ap (λ (b : Bool). cond b 1 0) matches in
    omega (arith, one, sum_by-cons (λ (r : Row). cond (is_due due r) 1 0) row rows))
    (λ (isnt : is_undefined row.state ≡ false).
    let zero_here : ◌≡◌ {A = ℕ} (cond (is_undefined row.state) 1 0) 0 = ap (λ (b : Bool). cond b 1 0) isnt in
    omega (
      arith,
      sum_by-cons (λ (r : Row). cond (is_due due r) 1 0) row rows,
      due_found due rows none (omega (arith, few, sum_by-cons (λ (r : Row). cond (named r) 1 0) row rows)) (omega (arith, some, zero_here, rows_in-cons is_undefined row rows)),
    ))
    (cases_Bool (is_undefined row.state))

due_undefined : (due : Due) (row : Row) → is_due due row ≡ true → is_undefined row.state ≡ true
due_undefined due row h = (and_parts (option_eq (on name_bytes bytes_eq) row.id due.id) (is_undefined row.state) h).1

-- it is started, and all are defined
started-defined : (tmp : Bool) (due : Due) (n : ℕ) (o : Outcome) → due.id ≡ None → count_by named o.state.rows ≤ 0 → undefined o.state.rows ≤ 1 → o.state.to_start ≡ [] → is_again o.state.follows ≡ false
    → (tmp ≡ true → is_end o.state.follows ≡ false → (restarting o.state.rows ≤ 0) × (is_restart o.state.follows ≡ false)) → DoneAt tmp (start due n o)
unfolding start start_row
started-defined tmp due n o nameless few one list again never =
    ⊎_elim
    (λ (some : 0 < undefined o.state.rows).
    at_row-found (DoneAt tmp) (is_due due) o (start_row due n) o (due_found due o.state.rows nameless few some)
    (λ i row at has.
    let holds_so : ◌≡◌ {A = ℕ} (cond (is_undefined row.state) 1 0) 1 = ap (λ (b : Bool). cond b 1 0) (due_undefined due row has) in
    let state : RowState = Starting n (unwrap_or due.kept n) in
    let e : undefined (slice_set o.state.rows i (with_state state row)) + cond (is_undefined row.state) 1 0 ≡ undefined o.state.rows + 0 = rows_in-set is_undefined i row state o.state.rows at in
    record {
      again = again;
      never = λ t other. let was = never t other in (omega (arith, was.0, set-counts is_restarting i row state o.state.rows at refl), was.1);
      goal = inr (omega (arith, e, holds_so, one), list);
    }))
    (λ (none : undefined o.state.rows ≡ 0).
    let rest : DoneAt tmp o = record { again = again; never = never; goal = inr (omega (arith, none), list) } in
    at_row-survives (DoneAt tmp) (is_due due) o (start_row due n) o rest rest
    (λ i row at has.
    let state : RowState = Starting n (unwrap_or due.kept n) in
    record {
      again = again;
      never = λ t other. let was = never t other in (omega (arith, was.0, set-counts is_restarting i row state o.state.rows at refl), was.1);
      goal = inr (omega (arith, none, set-counts is_undefined i row state o.state.rows at refl), list);
    }))
    (zero_or_some (undefined o.state.rows))

stop_first-due : (tmp : Bool) (n : ℕ) (o : Outcome) → count_by named o.state.rows ≤ 0 → FineAt tmp o → IsDue o.state.rows o.state.to_stop o.state.to_start o.state.follows → DoneAt tmp (stop_first o.state.to_stop n o)
unfolding stop_first start_first
stop_first-due tmp n o few fine d =
    subst (λ (ps : List ℕ). DoneAt tmp (stop_first ps n o)) (sym d.none)
    (subst (λ (ds : List Due). DoneAt tmp (start_first ds n o)) (sym d.list)
    (started-defined tmp d.due n (with_work o.state.to_stop [] o.state.follows o) d.nameless few d.one refl fine.again fine.never))

none_any : (t : RowState → Bool) (rows : List Row) → list_any (row_has t) rows ≡ true → 0 < rows_in t rows
none_any t [] h = absurd (false≢true h)
none_any t (row ∷ rows) h =
    ⊎_elim
    (λ (holds_so : t row.state ≡ true). let one : ◌≡◌ {A = ℕ} (cond (t row.state) 1 0) 1 = ap (λ (b : Bool). cond b 1 0) holds_so in omega (arith, one, rows_in-cons t row rows))
    (λ (isnt : t row.state ≡ false). let later : 0 < rows_in t rows = none_any t rows (sym (ap (λ (b : Bool). b || list_any (row_has t) rows) isnt) ∙ h) in omega (arith, later, rows_in-cons t row rows))
    (cases_Bool (t row.state))

advance-done : (tmp : Bool) (n : ℕ) (o : Outcome) → count_by named o.state.rows ≤ 0 → FineAt tmp o → DoneAt tmp (advance n o)
advance-done tmp n o few fine =
    ⊎_elim
    (λ (ends : is_end o.state.follows ≡ true). advance-by (DoneAt tmp) n o (λ _. done-end tmp o ends) (λ busy none. stop_first-end tmp o.state.to_stop n o ends))
    (λ rest.
    ⊎_elim
    (λ (is : IsDefined o.state.rows o.state.to_start).
    let still : DoneAt tmp o = record { again = fine.again; never = fine.never; goal = inr is } in
    ⊎_elim
    (λ (ends : is_end o.state.follows ≡ true). advance-by (DoneAt tmp) n o (λ _. done-end tmp o ends) (λ busy none. stop_first-end tmp o.state.to_stop n o ends))
    (λ (other : is_end o.state.follows ≡ false).
    advance-by (DoneAt tmp) n o (λ _. still)
    (λ busy none.
    stop_first-kept tmp o.state.to_stop n o busy
    (record { kept = record { nameless = few; defined = is.0; never = λ t. (fine.never t other).0 }; starts = is.1; other = other; again = fine.again; never = λ t. (fine.never t other).1 })))
    (cases_Bool (is_end o.state.follows)))
    (λ (d : IsDue o.state.rows o.state.to_stop o.state.to_start o.state.follows).
    advance-by (DoneAt tmp) n o
    (λ rests.
    ⊎_elim (λ (idle : is_busy o ≡ false). absurd (false≢true (sym idle ∙ d.busy)))
    (λ (any : list_any (row_has is_awaited) o.state.rows ≡ true). absurd (let some = none_any is_awaited o.state.rows any in let calm = d.calm in omega (arith, some, calm))) rests)
    (λ busy none. stop_first-due tmp n o few fine d))
    rest)
    fine.goal

-- each event keeps all this

-- a dynamic child that is added has no id, and is of the one specification
added-so : (tmp : Bool) (s : State) (e : Event) → Holds tmp s → (n : ℕ) (id : Option Name) (spec : ChildSpec) (o : Outcome) → IsUnmoved (record { state = stamped e.reading s; orders = [] }) o
    → BringsStart (Brings e.kind s.waiting) n id spec o → is_some id ≡ not (is_simple o.state.flags.strategy) → (named (new_row (free_slot o.state.rows) id spec) ≡ false) × (other tmp (new_row (free_slot o.state.rows) id spec) ≡ false)
added-so tmp s e h n id spec o u got noted =
    let simple : is_simple o.state.flags.strategy ≡ true = ap (λ (x : Outcome). is_simple x.state.flags.strategy) u ∙ h.simple in
    let nameless : is_some id ≡ false = noted ∙ ap not simple in
    (nameless, by got.0 got.1 got.3 nameless)
  where
    agree : (b : Bool) → b ≡ tmp → differs tmp b ≡ false
    agree b is = ap (λ (x : Bool). differs tmp x) is ∙ none tmp
      where
        none : (b : Bool) → differs b b ≡ false
        none true = refl
        none false = refl

    by : (x : Call) → is_start_call x ≡ true → AsksForChild x o.state.specs (new_row (free_slot o.state.rows) id spec) → is_some id ≡ false → differs tmp (is_temporary spec.restart) ≡ false
    by (call.StartChild _) start asks nameless = absurd (false≢true (sym nameless ∙ ap (λ (x : Option Name). is_some x) asks.0))
    by call.StartDynamic start asks nameless = agree (is_temporary spec.restart) (h.shared spec (ap (λ (x : Outcome). slice_get x.state.specs 0) (sym u) ∙ asks.1))
    by (call.RestartChild _) start asks nameless = absurd (false≢true start)
    by (call.DeleteChild _) start asks nameless = absurd (false≢true start)
    by (call.TerminateChild _) start asks nameless = absurd (false≢true start)
    by (call.TerminateProcess _) start asks nameless = absurd (false≢true start)
    by call.WhichChildren start asks nameless = absurd (false≢true start)
    by call.CountChildren start asks nameless = absurd (false≢true start)
    by (call.GetChildspec _) start asks nameless = absurd (false≢true start)

-- no opening of a supervisor of dynamic children has rows
open-none : (t : Row → Bool) (own : ℕ) (o : Outcome) → is_simple o.state.flags.strategy ≡ true → count_by t (open_rows own o).state.rows ≤ 0
unfolding open_rows open_with
open-none t own o simple = subst (λ (b : Bool). count_by t (rows_from 0 (opening_specs b o.state.specs)) ≤ 0) (sym simple) (omega arith)

decided-few : (tmp : Bool) (s : State) (e : Event) (t : Row → Bool) → IsStill t → Holds tmp s → count_by t s.rows ≤ 0
    → ((n : ℕ) (id : Option Name) (spec : ChildSpec) (o : Outcome) → IsUnmoved (record { state = stamped e.reading s; orders = [] }) o → BringsStart (Brings e.kind s.waiting) n id spec o → is_some id ≡ not (is_simple o.state.flags.strategy) → t (new_row (free_slot o.state.rows) id spec) ≡ false)
    → count_by t (decide e.kind (record { state = stamped e.reading s; orders = [] })).state.rows ≤ 0
decided-few tmp s e t still h none added =
    let start : Outcome = record { state = stamped e.reading s; orders = [] } in
    let G : Item → Type 0 = Brings e.kind s.waiting in
    decide-survives_event e.kind G start (Few t 0)
    (few-survives t still 0 e.kind G start
    (λ n id spec o u got noted few.
    let zero_new : ◌≡◌ {A = ℕ} (cond (t (new_row (free_slot o.state.rows) id spec)) 1 0) 0 = ap (λ (b : Bool). cond b 1 0) (added n id spec o u got noted) in
    omega (arith, few, zero_new))
    (λ own is over. open-none t own start h.simple)) (λ i b idle. b) none

step-holds : (tmp : Bool) (s : State) (e : Event) → Holds tmp s → Holds tmp (step s e).state
unfolding step step_on
step-holds tmp s e h =
    let start : Outcome = record { state = stamped e.reading s; orders = [] } in
    let d : Outcome = decide e.kind start in
    let n : ℕ = unwrap_or e.number 0 in
    let plan = step_keeps_plan_law s e in
    let few : count_by named d.state.rows ≤ 0 = decided-few tmp s e named (λ state row. refl) h h.nameless (λ m id spec o u got noted. (added-so tmp s e h m id spec o u got noted).0) in
    let alike : count_by (other tmp) d.state.rows ≤ 0 = decided-few tmp s e (other tmp) (λ state row. refl) h h.like (λ m id spec o u got noted. (added-so tmp s e h m id spec o u got noted).1) in
    let done : DoneAt tmp (advance n d) = advance-done tmp n d few (fine-decided tmp s e h) in
    record {
      simple = ap (λ (f : SupFlags). is_simple f.strategy) plan.0 ∙ h.simple;
      shared = λ spec at. h.shared spec (ap (λ (specs : List ChildSpec). slice_get specs 0) (sym plan.1) ∙ at);
      nameless = advance-few named (λ state row. refl) 0 n d few;
      like = advance-few (other tmp) (λ state row. refl) 0 n d alike;
      sound = advance-sound n d (decide-survives e.kind (λ (o : Outcome). IsSound o.state) start (sound-survives e.kind (is_some s.follows)) h.sound);
      again = done.again;
      never = done.never;
      done = done.goal;
    }

run-holds : (tmp : Bool) (s : State) (events : List Event) → Holds tmp s → Holds tmp (state_after s events)
run-holds tmp s [] h = h
run-holds tmp s (e ∷ events) h = run-holds tmp (step s e).state events (step-holds tmp s e h)

abbrev shared_temporary : Option ChildSpec → Bool
shared_temporary None = false
shared_temporary (Some spec) = is_temporary spec.restart

pub simple_has_none_undefined_law : SimpleHasNoneUndefined
simple_has_none_undefined_law flags specs events simple other row among =
    let base : State = empty_state flags specs in
    let tmp : Bool = shared_temporary (slice_get specs 0) in
    let first : Holds tmp base =
    record {
      simple = simple;
      shared = λ spec at. sym (ap (λ (x : Option ChildSpec). shared_temporary x) at);
      nameless = omega arith;
      like = omega arith;
      sound = empty-sound flags specs;
      again = refl;
      never = λ t o. (omega arith, refl);
      done = inr (omega arith, refl);
    } in
    let last : Holds tmp (state_after base events) = run-holds tmp base events first in
    ⊎_elim
    (λ (ends : is_end (state_after base events).follows ≡ true). absurd (false≢true (sym other ∙ ends)))
    (λ (is : IsDefined (state_after base events).rows (state_after base events).to_start).
    ⊎_elim
    (λ (holds_so : is_undefined row.state ≡ true). absurd (let some = contains_counts (row_has is_undefined) (state_after base events).rows row among holds_so in omega (arith, some, is.0)))
    (λ (isnt : is_undefined row.state ≡ false). isnt)
    (cases_Bool (is_undefined row.state)))
    last.done
