-- Under simple_one_for_one: what an event decides leaves no child undefined, but for one that is to be started at once, or while
-- the supervisor ends.
use Rattle.std.specs.Prelude.{◌≡◌, ◌⊎◌, ℕ, ◌+◌, ◌-◌, ◌≤◌, ◌<◌, ◌++◌, ◌||◌, not, Bool, true, false, List, [], ◌∷◌, Option, None, Some, refl, if◌then◌else◌, is_none, is_some, nat_le, slice_get, slice_range, slice_set, length, map, remove, take, drop, count_by}
use Rattle.std.proofs.Common.{◌∙◌, ap, sym, subst, inl, inr, arith, ⊎_elim, cond}
use Rattle.std.proofs.lemmas.Bool.{cases_Bool, false≢true}
use Rattle.std.proofs.lemmas.List.{append-nil, get_or-set_same, length-set}
use Rattle.std.proofs.lemmas.List.Folds.{drop_split}
use Rattle.std.proofs.lemmas.Option.{slice_get-get_or, slice_get_within}
use Rattle.std.proofs.lemmas.List.Sums.{sum_by-take-drop}
use Prim.Native.Nat.{zero, suc}
use Rattle.otp_reason.specs.declared.name.Name.{Name}
use Rattle.otp_reason.specs.declared.note.Note.{Note}
use Rattle.otp_reason.specs.declared.note.Note.TheVariants as note
use Rattle.otp_reason.specs.declared.reason.Reason.{Reason}
use Rattle.otp_spec.specs.declared.child.ChildSpec.{ChildSpec}
use Rattle.otp_spec.specs.declared.child.Restart.{Restart}
use Rattle.otp_spec.specs.declared.child.Restart.TheVariants.{Permanent, Transient, Temporary}
use Rattle.otp_spec.specs.declared.flags.Strategy.{Strategy}
use Rattle.otp_spec.specs.declared.flags.Strategy.TheVariants.{OneForOne, OneForAll, RestForOne, SimpleOneForOne}
use Rattle.otp_spec.specs.declared.limits.TheConstants.{MAX_CHILDREN}
use Rattle.otp_spec.specs.Flags.{is_simple}
use Rattle.otp_table.specs.declared.row.Row.{Row}
use Rattle.otp_table.specs.declared.row.RowState.{RowState}
use Rattle.otp_table.specs.declared.row.RowState.TheVariants.{Undefined, Starting, Up, Asked, Killed, Restarting}
use Rattle.otp_table.specs.Rows.{awaits_retry, calm_rows, free_slot, has_number, is_awaited, is_restarting, is_undefined, row_has, with_state}
use Rattle.otp_rules.specs.declared.call.Call.{Call}
use Rattle.otp_rules.specs.declared.call.Call.TheVariants as call
use Rattle.otp_rules.specs.declared.call.CallFault.TheVariants as fault
use Rattle.otp_rules.specs.declared.call.Reply.{Reply}
use Rattle.otp_rules.specs.declared.call.Reply.TheVariants as reply
use Rattle.otp_rules.specs.declared.ending.Ending.{Ending}
use Rattle.otp_rules.specs.declared.ending.Ending.TheVariants as ending
use Rattle.otp_rules.specs.declared.event.Event.{Event}
use Rattle.otp_rules.specs.declared.event.Item.{Item}
use Rattle.otp_rules.specs.declared.event.Item.TheVariants as item
use Rattle.otp_rules.specs.declared.event.Kind.{Kind}
use Rattle.otp_rules.specs.declared.event.Kind.TheVariants as kind
use Rattle.otp_rules.specs.declared.event.Waiting.{Waiting}
use Rattle.otp_rules.specs.declared.event.Waiting.TheVariants as waiting
use Rattle.otp_rules.specs.declared.work.Due.{Due}
use Rattle.otp_rules.specs.declared.work.Sequel.{Sequel}
use Rattle.otp_rules.specs.declared.work.Sequel.TheVariants as sequel
use Rattle.otp_rules.specs.State.{Outcome, State, answer, closed, is_busy, is_over, put_last, with_rows, with_waiting}
use Rattle.otp_rules.specs.Places.{end_row, is_removed, is_temporary, set_row}
use Rattle.otp_rules.specs.Restarts.{affected_from, affected_to, dues, ends_by_significance, is_restarted, restart_list, stop_list}
use Rattle.otp_rules.specs.Stops.{terminate}
use Rattle.otp_rules.specs.Starts.{failed_after, take_failed, take_ignored, take_up, up_after}
use Rattle.otp_rules.specs.Deaths.{after_end, death, exit_in, restart, restart_rows, retry, take_exit}
use Rattle.otp_rules.specs.Calls.{add_child, call_at, call_child, fault_at, get_childspec, get_shared, is_named, new_row, start_child, start_dynamic, start_shared, stop_child, stop_process, take_call, terminate_process, unless_refused}
use Rattle.otp_rules.specs.Counts.{counts_of, which_of}
use Rattle.otp_rules.specs.Step.{ask, decide, open_rows, open_with, opening_specs, resume, stamped, take_item, take_note, take_waiting, tick}
use Rattle.otp_rules.specs.Fit.{rows_in, IsLimited, IsSound}
use Rattle.otp_rules.specs.Progress.{is_end}
use Rattle.otp_rules.proofs.Walks.{counted_restart, restart-by}
use Rattle.otp_rules.proofs.Decisions.{at_number-survives, at_row-survives, by_test}
use Rattle.otp_rules.proofs.Counting.{remove_count, rows_in-append, rows_in-at, rows_in-cons, rows_in-set, tick_count}
use Rattle.otp_rules.proofs.WhileOpen.{no_after, terminate-follows}
use Rattle.otp_laws.proofs.Oks.{at_starting-by}

-- so many are undefined, so many wait for a retry
abbrev pub undefined : List Row → ℕ
undefined rows = rows_in is_undefined rows

abbrev pub restarting : List Row → ℕ
restarting rows = rows_in is_restarting rows

-- the child has an id, as no dynamic one has
abbrev pub named : Row → Bool
named row = is_some row.id

-- whether the child is temporary is otherwise than said
abbrev pub differs : Bool → Bool → Bool
differs true b = not b
differs false b = b

abbrev pub other : Bool → Row → Bool
other tmp row = differs tmp (is_temporary row.spec.restart)

-- a call starts a child again
abbrev pub is_again : Option Sequel → Bool
is_again (Some (sequel.Restarted _)) = true
is_again _ = false

-- a restart
abbrev pub is_restart : Option Sequel → Bool
is_restart (Some sequel.Nothing) = true
is_restart _ = false

-- no child is undefined, and none is to be started
abbrev pub IsDefined : List Row → List Due → Type 0
IsDefined rows starts = (undefined rows ≤ 0) × (starts ≡ [])

-- one may be, which is to be started at once
pub record IsDue (rows : List Row) (stops : List ℕ) (starts : List Due) (follows : Option Sequel) : Type 0 where
  pub due : Due
  pub one : undefined rows ≤ 1
  pub list : starts ≡ due ∷ []
  pub nameless : due.id ≡ None
  pub none : stops ≡ []
  pub calm : rows_in is_awaited rows ≡ 0
  pub busy : is_some follows ≡ true

-- work that restarts a temporary child, or starts one again for a call, there is none; while no end is open, children are
-- defined, but for one
pub record Fine (tmp : Bool) (rows : List Row) (stops : List ℕ) (starts : List Due) (follows : Option Sequel) : Type 0 where
  pub again : is_again follows ≡ false
  pub never : tmp ≡ true → is_end follows ≡ false → (restarting rows ≤ 0) × (is_restart follows ≡ false)
  pub goal : (is_end follows ≡ true) ⊎ (IsDefined rows starts ⊎ IsDue rows stops starts follows)

abbrev pub FineAt : Bool → Outcome → Type 0
FineAt tmp o = Fine tmp o.state.rows o.state.to_stop o.state.to_start o.state.follows

-- what holds between two events, where whether the dynamic children are temporary is known
pub record Holds (tmp : Bool) (s : State) : Type 0 where
  pub simple : is_simple s.flags.strategy ≡ true
  pub shared : (spec : ChildSpec) → slice_get s.specs 0 ≡ Some spec → is_temporary spec.restart ≡ tmp
  pub nameless : count_by named s.rows ≤ 0
  pub like : count_by (other tmp) s.rows ≤ 0
  pub sound : IsSound s
  pub again : is_again s.follows ≡ false
  pub never : tmp ≡ true → is_end s.follows ≡ false → (restarting s.rows ≤ 0) × (is_restart s.follows ≡ false)
  pub done : (is_end s.follows ≡ true) ⊎ IsDefined s.rows s.to_start

-- one of no rows doesn't pass
pub no_row : (t : Row → Bool) (place : ℕ) (row : Row) (rows : List Row) → slice_get rows place ≡ Some row → count_by t rows ≤ 0 → t row ≡ false
no_row t place row rows at few =
    ⊎_elim
    (λ (holds_so : t row ≡ true).
    let one : ◌≡◌ {A = ℕ} (cond (t row) 1 0) 1 = ap (λ (b : Bool). cond b 1 0) holds_so in
    absurd (omega (arith, few, one, remove_count t rows place row at)))
    (λ (isnt : t row ≡ false). isnt)
    (cases_Bool (t row))

pub no_id : (x : Option Name) → is_some x ≡ false → x ≡ None
no_id None h = refl
no_id (Some n) h = absurd (false≢true (sym h))

-- the rows of a state with these waiting

abbrev At : ℕ → State → List Waiting → Outcome
At reading s ws = with_waiting ws (record { state = stamped reading s; orders = [] })

fine-rest : (tmp : Bool) (s : State) (reading : ℕ) (ws : List Waiting) → Holds tmp s → FineAt tmp (At reading s ws)
fine-rest tmp s reading ws h = record { again = h.again; never = h.never; goal = ⊎_elim (λ (ends : is_end s.follows ≡ true). inl ends) (λ (is : IsDefined s.rows s.to_start). inr (inl is)) h.done }

-- rows change: no more are undefined, no more wait for a retry
fine-rows : (tmp : Bool) (s : State) (reading : ℕ) (ws : List Waiting) (rows : List Row) → Holds tmp s → undefined rows ≤ undefined s.rows → restarting rows ≤ restarting s.rows → FineAt tmp (with_rows rows (At reading s ws))
fine-rows tmp s reading ws rows h less fewer =
    record {
      again = h.again;
      never = λ is other. let n = h.never is other in (omega (arith, n.0, fewer), n.1);
      goal = ⊎_elim (λ (ends : is_end s.follows ≡ true). inl ends) (λ (is : IsDefined s.rows s.to_start). inr (inl (omega (arith, is.0, less), is.1))) h.done;
    }

-- and the work closes
fine-closed : (tmp : Bool) (s : State) (reading : ℕ) (ws : List Waiting) (rows : List Row) → Holds tmp s → is_end s.follows ≡ false → undefined rows ≤ undefined s.rows → (tmp ≡ true → restarting rows ≤ 0) → FineAt tmp (closed (with_rows rows (At reading s ws)))
fine-closed tmp s reading ws rows h other less fewer =
    record {
      again = refl;
      never = λ is _. (fewer is, refl);
      goal = ⊎_elim (λ (ends : is_end s.follows ≡ true). absurd (false≢true (sym other ∙ ends))) (λ (is : IsDefined s.rows s.to_start). inr (inl (omega (arith, is.0, less), refl))) h.done;
    }

-- how the counts change
pub set-counts : (t : RowState → Bool) (place : ℕ) (row : Row) (state : RowState) (rows : List Row) → slice_get rows place ≡ Some row → t state ≡ false → rows_in t (slice_set rows place (with_state state row)) ≤ rows_in t rows
set-counts t place row state rows at isnt =
    let zero_new : ◌≡◌ {A = ℕ} (cond (t state) 1 0) 0 = ap (λ (b : Bool). cond b 1 0) isnt in
    omega (arith, zero_new, rows_in-set t place row state rows at)

pub remove-counts : (t : RowState → Bool) (place : ℕ) (row : Row) (rows : List Row) → slice_get rows place ≡ Some row → rows_in t (remove rows place) ≤ rows_in t rows
remove-counts t place row rows at =
    let e : rows_in t (remove rows place) + cond (t row.state) 1 0 ≡ rows_in t rows = remove_count (row_has t) rows place row at in
    omega (arith, e)

fine-set : (tmp : Bool) (s : State) (reading : ℕ) (ws : List Waiting) (place : ℕ) (row : Row) (state : RowState) → Holds tmp s → slice_get s.rows place ≡ Some row → is_undefined state ≡ false → is_restarting state ≡ false → FineAt tmp (set_row place row state (At reading s ws))
fine-set tmp s reading ws place row state h at isnt none =
    fine-rows tmp s reading ws (slice_set s.rows place (with_state state row)) h (set-counts is_undefined place row state s.rows at isnt) (set-counts is_restarting place row state s.rows at none)

fine-remove : (tmp : Bool) (s : State) (reading : ℕ) (ws : List Waiting) (place : ℕ) (row : Row) → Holds tmp s → slice_get s.rows place ≡ Some row → FineAt tmp (with_rows (remove s.rows place) (At reading s ws))
fine-remove tmp s reading ws place row h at =
    fine-rows tmp s reading ws (remove s.rows place) h (remove-counts is_undefined place row s.rows at) (remove-counts is_restarting place row s.rows at)

-- a dynamic child's row goes when it ends
pub goes : (rows : List Row) (place : ℕ) (row : Row) → slice_get rows place ≡ Some row → count_by named rows ≤ 0 → is_removed row ≡ true
goes rows place row at few =
    let none : row.id ≡ None = no_id row.id (no_row named place row rows at few) in
    ap (λ (x : Option Name). is_temporary row.spec.restart || is_none x) none ∙ or_true (is_temporary row.spec.restart)
  where
    or_true : (b : Bool) → (b || true) ≡ true
    or_true true = refl
    or_true false = refl

fine-end : (tmp : Bool) (s : State) (reading : ℕ) (ws : List Waiting) (place : ℕ) (row : Row) → Holds tmp s → slice_get s.rows place ≡ Some row → FineAt tmp (end_row place row (At reading s ws))
unfolding end_row
fine-end tmp s reading ws place row h at =
    let o : Outcome = At reading s ws in
    by_test (FineAt tmp) (is_removed row) (with_rows (remove o.state.rows place) o) (set_row place row Undefined o)
    (λ _. fine-remove tmp s reading ws place row h at) (λ stays. absurd (false≢true (sym stays ∙ goes s.rows place row at h.nameless)))

-- the supervisor ends
fine-terminate : (tmp : Bool) (e : Ending) (o : Outcome) → FineAt tmp (terminate e o)
fine-terminate tmp e o =
    let is : (terminate e o).state.follows ≡ Some (sequel.End e) = terminate-follows e o in
    record {
      again = ap is_again is;
      never = λ _ other. absurd (false≢true (sym other ∙ ap is_end is));
      goal = inl (ap is_end is);
    }

fine-answer : (tmp : Bool) (c : ℕ) (r : Reply) (o : Outcome) → FineAt tmp o → FineAt tmp (answer c r o)
unfolding answer
fine-answer tmp c r o h = h

-- calls

fine-stop : (tmp : Bool) (s : State) (reading : ℕ) (ws : List Waiting) (c p : ℕ) → Holds tmp s → is_some s.follows ≡ false → FineAt tmp (stop_process c p (At reading s ws))
unfolding stop_process
fine-stop tmp s reading ws c p h idle =
    record {
      again = refl;
      never = λ is _. ((h.never is (ap is_end (no_after s.follows idle))).0, refl);
      goal = ⊎_elim (λ (ends : is_end s.follows ≡ true). absurd (false≢true (sym (ap is_end (no_after s.follows idle)) ∙ ends))) (λ (is : IsDefined s.rows s.to_start). inr (inl (is.0, refl))) h.done;
    }

fine-process : (tmp : Bool) (s : State) (reading : ℕ) (ws : List Waiting) (c p place : ℕ) (row : Row) → Holds tmp s → is_some s.follows ≡ false → slice_get s.rows place ≡ Some row → FineAt tmp (call_at c (call.TerminateProcess p) place row (At reading s ws))
unfolding call_at
fine-process tmp s reading ws c p place row h idle at = by row.state
  where
    o : Outcome
    o = At reading s ws

    rest : FineAt tmp o
    rest = fine-rest tmp s reading ws h

    stops : (q : ℕ) → FineAt tmp (stop_process c q o)
    stops q = fine-stop tmp s reading ws c q h idle

    by : (state : RowState) → FineAt tmp (unless_refused c (fault_at (call.TerminateProcess p) state) (stop_child c state (with_rows (remove o.state.rows place) o) o) o)
    by Undefined = fine-answer tmp c (reply.Refused fault.NotFound) o rest
    by (Starting q _) = stops q
    by (Up q) = stops q
    by (Asked q _) = stops q
    by (Killed q) = stops q
    by (Restarting _) = fine-answer tmp c reply.Ok (with_rows (remove o.state.rows place) o) (fine-remove tmp s reading ws place row h at)

-- a dynamic child is added, and started at once
fine-add : (tmp : Bool) (s : State) (reading : ℕ) (ws : List Waiting) (c : ℕ) (spec : ChildSpec) → Holds tmp s → is_some s.follows ≡ false → FineAt tmp (add_child c None spec (At reading s ws))
unfolding add_child
fine-add tmp s reading ws c spec h idle =
    let o : Outcome = At reading s ws in
    let new : Row = new_row (free_slot s.rows) None spec in
    let due : Due = record { id = None; kept = None } in
    let isnt : s.follows ≡ None = no_after s.follows idle in
    let calm : rows_in is_awaited s.rows ≡ 0 = subst (λ (f : Option Sequel). IsLimited f (rows_in is_awaited s.rows)) isnt h.sound.0 in
    by_test (FineAt tmp) (nat_le MAX_CHILDREN (length o.state.rows)) _ _ (λ _. fine-answer tmp c (reply.Refused fault.TooManyChildren) o (fine-rest tmp s reading ws h))
    (λ _.
    record {
      again = refl;
      never = λ is _. (
        (let was = (h.never is (ap is_end isnt)).0 in omega (arith, was, rows_in-append is_restarting s.rows (new ∷ []), rows_in-cons is_restarting new [])),
        refl,
      );
      goal = ⊎_elim (λ (ends : is_end s.follows ≡ true). absurd (false≢true (sym (ap is_end isnt) ∙ ends)))
          (λ (is : IsDefined s.rows s.to_start).
          inr (inr (record {
            due = due;
            one = omega (arith, is.0, rows_in-append is_undefined s.rows (new ∷ []), rows_in-cons is_undefined new []);
            list = refl;
            nameless = refl;
            none = refl;
            calm = omega (arith, calm, rows_in-append is_awaited s.rows (new ∷ []), rows_in-cons is_awaited new []);
            busy = refl;
          }))) h.done;
    })

fine-call : (tmp : Bool) (s : State) (reading : ℕ) (ws : List Waiting) (c : ℕ) (x : Call) → Holds tmp s → is_some s.follows ≡ false → FineAt tmp (take_call c x (At reading s ws))
unfolding take_call start_child start_dynamic start_shared call_child terminate_process get_childspec get_shared
fine-call tmp s reading ws c x h idle = by x
  where
    o : Outcome
    o = At reading s ws

    rest : FineAt tmp o
    rest = fine-rest tmp s reading ws h

    answers : (r : Reply) → FineAt tmp (answer c r o)
    answers r = fine-answer tmp c r o rest

    -- what only supervisors of other children do
    simply : (done other : Outcome) → FineAt tmp done → FineAt tmp (if is_simple o.state.flags.strategy then done else other)
    simply done other f = by_test (FineAt tmp) (is_simple o.state.flags.strategy) done other (λ _. f) (λ isnt. absurd (false≢true (sym isnt ∙ h.simple)))

    shared : (spec : Option ChildSpec) → FineAt tmp (start_shared c spec o)
    shared None = answers (reply.Refused fault.NotSimple)
    shared (Some spec) = fine-add tmp s reading ws c spec h idle

    got : (id : Name) (spec : Option ChildSpec) → FineAt tmp (get_shared c id spec o)
    got id None = answers (reply.Refused fault.NotFound)
    got id (Some spec) = by_test (FineAt tmp) (is_named id spec) _ _ (λ _. answers (reply.Spec spec)) (λ _. answers (reply.Refused fault.NotFound))

    by : (x : Call) → FineAt tmp (take_call c x o)
    by (call.StartChild spec) = simply _ _ (answers (reply.Refused fault.SimpleOneForOne))
    by call.StartDynamic = simply _ _ (shared (slice_get o.state.specs 0))
    by (call.RestartChild id) = simply _ _ (answers (reply.Refused fault.SimpleOneForOne))
    by (call.DeleteChild id) = simply _ _ (answers (reply.Refused fault.SimpleOneForOne))
    by (call.TerminateChild id) = simply _ _ (answers (reply.Refused fault.SimpleOneForOne))
    by (call.TerminateProcess p) =
        simply _ _ (at_row-survives (FineAt tmp) (row_has (has_number p)) _ (call_at c (call.TerminateProcess p)) o (answers (reply.Refused fault.NotFound)) rest (λ place row at has. fine-process tmp s reading ws c p place row h idle at))
    by call.WhichChildren = answers (reply.Which (which_of o.state.rows))
    by call.CountChildren = answers (reply.Count (counts_of o.state))
    by (call.GetChildspec id) = simply _ _ (got id (slice_get o.state.specs 0))

-- notes

fine-up : (tmp : Bool) (s : State) (reading : ℕ) (ws : List Waiting) (p : ℕ) → Holds tmp s → FineAt tmp (take_up p (At reading s ws))
unfolding take_up up_after
fine-up tmp s reading ws p h =
    at_starting-by (FineAt tmp) p (λ kept place row x. up_after p x.state.follows (set_row place row (Up p) x)) o (fine-rest tmp s reading ws h) (λ kept place row at. by place row at s.follows refl)
  where
    o : Outcome
    o = At reading s ws

    by : (place : ℕ) (row : Row) → slice_get s.rows place ≡ Some row → (f : Option Sequel) → s.follows ≡ f → FineAt tmp (up_after p f (set_row place row (Up p) o))
    by place row at None is = fine-set tmp s reading ws place row (Up p) h at refl refl
    by place row at (Some sequel.Ready) is = fine-set tmp s reading ws place row (Up p) h at refl refl
    by place row at (Some sequel.Nothing) is = fine-set tmp s reading ws place row (Up p) h at refl refl
    by place row at (Some (sequel.Added c)) is =
        fine-answer tmp c (reply.OkProcess p) (closed (set_row place row (Up p) o))
        (fine-closed tmp s reading ws (slice_set s.rows place (with_state (Up p) row)) h (ap is_end is) (set-counts is_undefined place row (Up p) s.rows at refl)
        (λ temporary. let was = (h.never temporary (ap is_end is)).0 in omega (arith, was, set-counts is_restarting place row (Up p) s.rows at refl)))
    by place row at (Some (sequel.Restarted c)) is = absurd (false≢true (sym h.again ∙ ap is_again is))
    by place row at (Some (sequel.Stopped c)) is = fine-set tmp s reading ws place row (Up p) h at refl refl
    by place row at (Some (sequel.End e)) is = fine-set tmp s reading ws place row (Up p) h at refl refl

fine-ignored : (tmp : Bool) (s : State) (reading : ℕ) (ws : List Waiting) (p : ℕ) → Holds tmp s → FineAt tmp (take_ignored p (At reading s ws))
unfolding take_ignored
fine-ignored tmp s reading ws p h =
    at_starting-by (FineAt tmp) p (λ kept. end_row) (At reading s ws) (fine-rest tmp s reading ws h) (λ kept place row at. fine-end tmp s reading ws place row h at)

fine-failed : (tmp : Bool) (s : State) (reading : ℕ) (ws : List Waiting) (p : ℕ) (r : Reason) → Holds tmp s → FineAt tmp (take_failed p r (At reading s ws))
unfolding take_failed failed_after
fine-failed tmp s reading ws p r h =
    at_starting-by (FineAt tmp) p (λ kept place row x. failed_after r kept place row x.state.follows x) o rest (λ kept place row at. by kept place row at s.follows refl)
  where
    o : Outcome
    o = At reading s ws

    rest : FineAt tmp o
    rest = fine-rest tmp s reading ws h

    by : (kept place : ℕ) (row : Row) → slice_get s.rows place ≡ Some row → (f : Option Sequel) → s.follows ≡ f → FineAt tmp (failed_after r kept place row f o)
    by kept place row at None is = rest
    by kept place row at (Some sequel.Ready) is = fine-terminate tmp (ending.InitFailed row.spec.id) (set_row place row Undefined o)
    by kept place row at (Some sequel.Nothing) is =
        fine-closed tmp s reading ws (slice_set s.rows place (with_state (Restarting kept) row)) h (ap is_end is) (set-counts is_undefined place row (Restarting kept) s.rows at refl)
        (λ temporary. absurd (false≢true (sym (h.never temporary (ap is_end is)).1 ∙ ap is_restart is)))
    by kept place row at (Some (sequel.Added c)) is =
        fine-answer tmp c (reply.Refused (fault.Start r)) (closed (with_rows (remove o.state.rows place) o))
        (fine-closed tmp s reading ws (remove s.rows place) h (ap is_end is) (remove-counts is_undefined place row s.rows at)
        (λ temporary. let was = (h.never temporary (ap is_end is)).0 in omega (arith, was, remove-counts is_restarting place row s.rows at)))
    by kept place row at (Some (sequel.Restarted c)) is = absurd (false≢true (sym h.again ∙ ap is_again is))
    by kept place row at (Some (sequel.Stopped c)) is = rest
    by kept place row at (Some (sequel.End e)) is = rest

-- a restart: the child is to be started at once

one_slice : (rows : List Row) (place : ℕ) (row : Row) → slice_get rows place ≡ Some row → slice_range rows place (place + 1) ≡ row ∷ []
one_slice [] place row at = let none : ◌≡◌ {A = Option Row} None (Some row) = at in cc
one_slice (x ∷ rows) zero row at = let same : x ≡ row = (let e : ◌≡◌ {A = Option Row} (Some x) (Some row) = at in cc) in ap (λ (r : Row). r ∷ []) same
one_slice (x ∷ rows) (suc i) row at =
    let less : suc i + 1 - suc i ≡ i + 1 - i = omega arith in
    ap (λ (n : ℕ). take n (drop i rows)) less ∙ one_slice rows i row at

no_slice : (rows : List Row) (place : ℕ) → slice_range rows place place ≡ []
no_slice rows place = let none : place - place ≡ 0 = omega arith in ap (λ (n : ℕ). take n (drop place rows)) none ∙ take_none (drop place rows)
  where
    take_none : (xs : List Row) → take 0 xs ≡ []
    take_none [] = refl
    take_none (x ∷ xs) = refl

same_as : (a b : Bool) → differs a b ≡ false → b ≡ a
same_as true true h = refl
same_as true false h = absurd (false≢true (sym h))
same_as false true h = absurd (false≢true (sym h))
same_as false false h = refl

like_row : (tmp : Bool) (s : State) (place : ℕ) (row : Row) → Holds tmp s → slice_get s.rows place ≡ Some row → is_temporary row.spec.restart ≡ tmp
like_row tmp s place row h at = same_as tmp (is_temporary row.spec.restart) (no_row (other tmp) place row s.rows at h.like)

one_due : (k : ℕ) (row : Row) → is_temporary row.spec.restart ≡ false → dues (Some k) (row ∷ []) ≡ record { id = row.id; kept = Some k } ∷ []
one_due k row plain = ap (λ (b : Bool). map (λ (x : Row). record { id = x.id; kept = Some k }) (cond (not b) (row ∷ []) [])) plain

fine-again : (tmp : Bool) (s : State) (reading : ℕ) (ws : List Waiting) (k place : ℕ) (row : Row) → Holds tmp s → is_some s.follows ≡ false → slice_get s.rows place ≡ Some row → is_temporary row.spec.restart ≡ false
    → FineAt tmp (restart_rows place (place + 1) place k (counted_restart place row (At reading s ws)))
unfolding restart_rows
fine-again tmp s reading ws k place row h idle at plain =
    let down : Row = with_state Undefined row in
    let rows : List Row = slice_set s.rows place down in
    let within : place < length s.rows = slice_get_within s.rows place row at in
    let here : slice_get rows place ≡ Some down =
    slice_get-get_or rows place down (omega (arith, within, length-set s.rows place down)) ∙ ap (λ (r : Row). Some r) (get_or-set_same s.rows place down down within) in
    let slice : slice_range rows place (place + 1) ≡ down ∷ [] = one_slice rows place down here in
    let isnt : s.follows ≡ None = no_after s.follows idle in
    let awaited : rows_in is_awaited s.rows ≡ 0 = subst (λ (f : Option Sequel). IsLimited f (rows_in is_awaited s.rows)) isnt h.sound.0 in
    let due : Due = record { id = row.id; kept = Some k } in
    let split : (t : RowState → Bool) → rows_in t (take place rows ++ calm_rows (slice_range rows place (place + 1)) ++ drop (place + 1) rows) + rows_in t (down ∷ []) ≡ rows_in t rows + rows_in t (calm_rows (down ∷ [])) = λ t.
    let n : Row → ℕ = λ (r : Row). cond (row_has t r) 1 0 in
    let parts : rows_in t (take place rows) + rows_in t (drop place rows) ≡ rows_in t rows = sum_by-take-drop n rows place in
    let rest : rows_in t (drop place rows) ≡ rows_in t (slice_range rows place (place + 1)) + rows_in t (drop (place + 1) rows) =
    ap (λ (xs : List Row). rows_in t xs) (drop_split rows place (place + 1) (omega arith)) ∙ rows_in-append t (slice_range rows place (place + 1)) (drop (place + 1) rows) in
    let mine : rows_in t (slice_range rows place (place + 1)) ≡ rows_in t (down ∷ []) = ap (λ (xs : List Row). rows_in t xs) slice in
    let calmed_too : rows_in t (calm_rows (slice_range rows place (place + 1))) ≡ rows_in t (calm_rows (down ∷ [])) = ap (λ (xs : List Row). rows_in t (calm_rows xs)) slice in
    omega (arith, parts, rest, mine, calmed_too, rows_in-append t (take place rows ++ calm_rows (slice_range rows place (place + 1))) (drop (place + 1) rows), rows_in-append t (take place rows) (calm_rows (slice_range rows place (place + 1)))) in
    let list : restart_list place (place + 1) place k rows ≡ due ∷ [] =
    ap (λ (xs : List Row). dues None xs ++ dues (Some k) (slice_range rows place (place + 1)) ++ dues None (slice_range rows (place + 1) (place + 1))) (no_slice rows place)
    ∙ ap (λ (xs : List Row). dues (Some k) xs ++ dues None (slice_range rows (place + 1) (place + 1))) slice
    ∙ ap (λ (xs : List Row). dues (Some k) (down ∷ []) ++ dues None xs) (no_slice rows (place + 1))
    ∙ append-nil (dues (Some k) (down ∷ []))
    ∙ one_due k down plain in
    record {
      again = refl;
      never = λ temporary _. absurd (false≢true (sym plain ∙ like_row tmp s place row h at ∙ temporary));
      goal = ⊎_elim (λ (ends : is_end s.follows ≡ true). absurd (false≢true (sym (ap is_end isnt) ∙ ends)))
          (λ (is : IsDefined s.rows s.to_start).
          inr (inr (record {
            due = due;
            one = (let set = rows_in-set is_undefined place row Undefined s.rows at in let e = split is_undefined in let d = rows_in-cons is_undefined down [] in let c = rows_in-cons is_undefined down [] in omega (arith, is.0, set, e, d, c));
            list = list;
            nameless = no_id row.id (no_row named place row s.rows at h.nameless);
            none = ap (λ (xs : List Row). stop_list xs) slice;
            calm = (let set = rows_in-set is_awaited place row Undefined s.rows at in let e = split is_awaited in omega (arith, awaited, set, e));
            busy = refl;
          }))) h.done;
    }

fine-restart : (tmp : Bool) (s : State) (reading : ℕ) (ws : List Waiting) (k place : ℕ) (row : Row) → Holds tmp s → is_some s.follows ≡ false → slice_get s.rows place ≡ Some row → is_temporary row.spec.restart ≡ false → FineAt tmp (restart k place row (At reading s ws))
fine-restart tmp s reading ws k place row h idle at plain =
    restart-by (FineAt tmp) k place row o (λ _. fine-terminate tmp ending.Intensity counted) (λ _. by s.flags.strategy h.simple)
  where
    o : Outcome
    o = At reading s ws

    counted : Outcome
    counted = counted_restart place row o

    by : (strategy : Strategy) → is_simple strategy ≡ true → FineAt tmp (restart_rows (affected_from strategy place) (affected_to strategy place (length counted.state.rows)) place k counted)
    by OneForOne simple = absurd (false≢true simple)
    by OneForAll simple = absurd (false≢true simple)
    by RestForOne simple = absurd (false≢true simple)
    by SimpleOneForOne simple = fine-again tmp s reading ws k place row h idle at plain

not_temporary : (restart : Restart) (r : Reason) → is_restarted restart r ≡ true → is_temporary restart ≡ false
not_temporary Permanent r h = refl
not_temporary Transient r h = refl
not_temporary Temporary r h = absurd (false≢true h)

fine-death : (tmp : Bool) (s : State) (reading : ℕ) (ws : List Waiting) (p : ℕ) (r : Reason) (place : ℕ) (row : Row) → Holds tmp s → is_some s.follows ≡ false → slice_get s.rows place ≡ Some row → FineAt tmp (death p r place row (At reading s ws))
unfolding death after_end
fine-death tmp s reading ws p r place row h idle at =
    let o : Outcome = At reading s ws in
    let gone : Outcome = end_row place row o in
    by_test (FineAt tmp) (is_restarted row.spec.restart r) (restart p place row o) (after_end p row gone)
    (λ back. fine-restart tmp s reading ws p place row h idle at (not_temporary row.spec.restart r back))
    (λ _. by_test (FineAt tmp) (ends_by_significance gone.state.flags.auto_shutdown row gone.state.rows) (terminate (ending.Significant p) gone) gone (λ _. fine-terminate tmp (ending.Significant p) gone) (λ _. fine-end tmp s reading ws place row h at))

fine-exit : (tmp : Bool) (s : State) (reading : ℕ) (ws : List Waiting) (p : ℕ) (r : Reason) → Holds tmp s → FineAt tmp (take_exit p r (At reading s ws))
unfolding take_exit exit_in
fine-exit tmp s reading ws p r h = at_number-survives (FineAt tmp) p (λ place row. exit_in p r place row row.state) o rest (λ place row at has. by place row row.state at)
  where
    o : Outcome
    o = At reading s ws

    rest : FineAt tmp o
    rest = fine-rest tmp s reading ws h

    by : (place : ℕ) (row : Row) (state : RowState) → slice_get s.rows place ≡ Some row → FineAt tmp (exit_in p r place row state o)
    by place row Undefined at = rest
    by place row (Starting _ _) at = rest
    by place row (Up _) at = by_test (FineAt tmp) (is_busy o) (put_last (waiting.Item (item.Note (note.Exit p r))) o) (death p r place row o) (λ _. rest) (λ idle. fine-death tmp s reading ws p r place row h idle at)
    by place row (Asked _ _) at = fine-end tmp s reading ws place row h at
    by place row (Killed _) at = fine-end tmp s reading ws place row h at
    by place row (Restarting _) at = rest

fine-item : (tmp : Bool) (s : State) (reading : ℕ) (ws : List Waiting) (i : Item) → Holds tmp s → FineAt tmp (take_item i (At reading s ws))
unfolding take_item take_note ask
fine-item tmp s reading ws (item.Note x) h = by_test (FineAt tmp) (is_over o.state.phase) o (take_note x o) (λ _. fine-rest tmp s reading ws h) (λ _. by x)
  where
    o : Outcome
    o = At reading s ws

    by : (x : Note) → FineAt tmp (take_note x o)
    by (note.Up p) = fine-up tmp s reading ws p h
    by (note.Ignored p) = fine-ignored tmp s reading ws p h
    by (note.Failed p r) = fine-failed tmp s reading ws p r h
    by (note.Exit p r) = fine-exit tmp s reading ws p r h
fine-item tmp s reading ws (item.Call c x) h =
    let o : Outcome = At reading s ws in
    by_test (FineAt tmp) (is_over o.state.phase) _ _ (λ _. fine-answer tmp c reply.NoProc o (fine-rest tmp s reading ws h))
    (λ _. by_test (FineAt tmp) (is_busy o) (put_last (waiting.Item (item.Call c x)) o) (take_call c x o) (λ _. fine-rest tmp s reading ws h) (λ idle. fine-call tmp s reading ws c x h idle))

-- the next try of a restart
fine-retry : (tmp : Bool) (s : State) (reading : ℕ) (ws : List Waiting) (n : ℕ) → Holds tmp s → is_some s.follows ≡ false → FineAt tmp (retry n (At reading s ws))
unfolding retry
fine-retry tmp s reading ws n h idle =
    let o : Outcome = At reading s ws in
    at_row-survives (FineAt tmp) (row_has (awaits_retry n)) o (restart n) o (fine-rest tmp s reading ws h) (fine-rest tmp s reading ws h)
    (λ place row at has. fine-restart tmp s reading ws n place row h idle at (plain place row at has (cases_Bool tmp)))
  where
    waits : (state : RowState) → awaits_retry n state ≡ true → is_restarting state ≡ true
    waits Undefined has = absurd (false≢true has)
    waits (Starting _ _) has = absurd (false≢true has)
    waits (Up _) has = absurd (false≢true has)
    waits (Asked _ _) has = absurd (false≢true has)
    waits (Killed _) has = absurd (false≢true has)
    waits (Restarting _) has = refl

    plain : (place : ℕ) (row : Row) → slice_get s.rows place ≡ Some row → awaits_retry n row.state ≡ true → (tmp ≡ true) ⊎ (tmp ≡ false) → is_temporary row.spec.restart ≡ false
    plain place row at has (inl temporary) =
        let one : ◌≡◌ {A = ℕ} (cond (is_restarting row.state) 1 0) 1 = ap (λ (b : Bool). cond b 1 0) (waits row.state has) in
        let none : restarting s.rows ≤ 0 = (h.never temporary (ap is_end (no_after s.follows idle))).0 in
        absurd (omega (arith, one, none, rows_in-at is_restarting place row s.rows at))
    plain place row at has (inr lasting) = like_row tmp s place row h at ∙ lasting

fine-open : (tmp : Bool) (s : State) (reading own : ℕ) (ws : List Waiting) → Holds tmp s → FineAt tmp (open_rows own (At reading s ws))
unfolding open_rows open_with
fine-open tmp s reading own ws h =
    subst (λ (b : Bool). FineAt tmp (open_with (opening_specs b s.specs) own (At reading s ws))) (sym h.simple)
    (record { again = refl; never = λ _ _. (omega arith, refl); goal = inr (inl (omega arith, refl)) })

fine-tick : (tmp : Bool) (s : State) (reading : ℕ) (ws : List Waiting) → Holds tmp s → FineAt tmp (tick (At reading s ws))
unfolding tick
fine-tick tmp s reading ws h =
    let o : Outcome = At reading s ws in
    fine-rows tmp s reading ws (tick o).state.rows h (omega (arith, tick_count is_undefined (λ p d. refl) o)) (omega (arith, tick_count is_restarting (λ p d. refl) o))

pub fine-decided : (tmp : Bool) (s : State) (e : Event) → Holds tmp s → FineAt tmp (decide e.kind (record { state = stamped e.reading s; orders = [] }))
unfolding decide resume take_waiting
fine-decided tmp s e h = by e.kind
  where
    start : Outcome
    start = record { state = stamped e.reading s; orders = [] }

    rest : FineAt tmp start
    rest = fine-rest tmp s e.reading s.waiting h

    first : is_some s.follows ≡ false → (ws : List Waiting) → FineAt tmp (resume ws start)
    first idle [] = rest
    first idle (waiting.Item i ∷ ws) = fine-item tmp s e.reading ws i h
    first idle (waiting.Retry n ∷ ws) = fine-retry tmp s e.reading ws n h idle

    by : (k : Kind) → FineAt tmp (decide k start)
    by (kind.Opened own) = by_test (FineAt tmp) (is_over start.state.phase) (open_rows own start) start (λ _. fine-open tmp s e.reading own s.waiting h) (λ _. rest)
    by (kind.Took i) = fine-item tmp s e.reading s.waiting i h
    by kind.Resumed =
        by_test (FineAt tmp) (is_busy start) start (if is_over start.state.phase then start else resume start.state.waiting start) (λ _. rest)
        (λ idle. by_test (FineAt tmp) (is_over start.state.phase) start (resume start.state.waiting start) (λ _. rest) (λ _. first idle s.waiting))
    by kind.Ticked = fine-tick tmp s e.reading s.waiting h
    by kind.Stopped =
        by_test (FineAt tmp) (is_busy start) start (if is_over start.state.phase then start else terminate ending.Asked start) (λ _. rest)
        (λ _. by_test (FineAt tmp) (is_over start.state.phase) start (terminate ending.Asked start) (λ _. rest) (λ _. fine-terminate tmp ending.Asked start))
