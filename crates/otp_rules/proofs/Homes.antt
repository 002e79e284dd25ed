-- A child is at home after an event only where it was before, or where the event brings it home, or where its row is new.
use Rattle.std.specs.Prelude.{◌≡◌, ◌+◌, ◌⊎◌, ℕ, ◌==◌, ◌-◌, ◌++◌, ◌||◌, Bool, true, false, List, [], ◌∷◌, Option, None, Some, Contains, refl, position, is_some, slice_get, slice_set, slice_range, nat_le, length, remove, unwrap_or, map, take, drop}
use Rattle.std.specs.List.{list_any}
use Rattle.std.proofs.Common.{◌∙◌, ap, sym, subst, inl, inr, arith, ⊎_elim, rules, get_or}
use Rattle.std.proofs.lemmas.Bool.{false≢true, cond_both, eqb-true, eq-eqb, and_parts}
use Rattle.std.proofs.lemmas.List.Folds.{list_any-append, list_any_at}
use Rattle.std.proofs.lemmas.List.Quantifiers.{position-Some}
use Prim.Native.Nat.{zero, suc}
use Rattle.otp_reason.specs.declared.note.Note.{Note}
use Rattle.otp_reason.specs.declared.note.Note.TheVariants as note
use Rattle.otp_spec.specs.declared.child.Shutdown.{Shutdown}
use Rattle.otp_spec.specs.declared.child.Shutdown.TheVariants.{BrutalKill, Milliseconds, Infinity}
use Rattle.otp_table.specs.declared.row.Row.{Row}
use Rattle.otp_table.specs.declared.row.RowState.{RowState}
use Rattle.otp_table.specs.declared.row.RowState.TheVariants.{Undefined, Starting, Up, Asked, Killed, Restarting}
use Rattle.otp_table.specs.Rows.{has_process, is_undefined, with_state, calm_rows, calmed, free_slot}
use Rattle.otp_spec.specs.declared.child.ChildSpec.{ChildSpec}
use Rattle.otp_spec.specs.declared.flags.Strategy.{Strategy}
use Rattle.otp_rules.specs.declared.call.Call.{Call}
use Rattle.otp_rules.specs.declared.call.Reply.{Reply}
use Rattle.otp_rules.specs.declared.ending.Ending.{Ending}
use Rattle.otp_rules.specs.declared.ending.Ending.TheVariants as ending
use Rattle.otp_rules.specs.declared.event.Event.{Event}
use Rattle.otp_rules.specs.declared.event.Item.{Item}
use Rattle.otp_rules.specs.declared.event.Item.TheVariants as item
use Rattle.otp_rules.specs.declared.event.Kind.{Kind}
use Rattle.otp_rules.specs.declared.event.Kind.TheVariants as kind
use Rattle.otp_rules.specs.declared.event.Waiting.{Waiting}
use Rattle.otp_rules.specs.declared.event.Waiting.TheVariants as waiting
use Rattle.otp_rules.specs.declared.work.Due.{Due}
use Rattle.otp_rules.specs.declared.work.Sequel.TheVariants as sequel
use Rattle.otp_spec.specs.Flags.{is_simple}
use Rattle.otp_rules.specs.State.{is_over, Outcome, State, answer, put_last, with_rows, with_stamps, with_waiting, with_work}
use Rattle.otp_rules.specs.Places.{at_number, end_row, end_process, set_row, is_removed}
use Rattle.otp_rules.specs.Restarts.{affected_from, affected_to, running}
use Rattle.otp_rules.specs.Stops.{calm_all, is_exit, without, told, tell_row, tell, use_exit, stop_each, terminate}
use Rattle.otp_rules.specs.Starts.{is_due, start_row, start}
use Rattle.otp_rules.specs.Ends.{refuse_all, end_all}
use Rattle.otp_rules.specs.Work.{advance}
use Rattle.otp_rules.specs.Deaths.{restart_rows, restart}
use Rattle.otp_rules.specs.Calls.{new_row}
use Rattle.otp_rules.specs.Step.{open_rows, open_with, opening_specs, rows_from, tick, decide, stamped, step, step_on, killed, late_number}
use Rattle.otp_rules.specs.Homes.{Brings, ComesHome, EndsProcess, HomesKept, HomesKeptFrom, IsAdded, IsNewNumber, IsFirst, IsOpened, WasThere, end_number, is_ended, is_home, is_start_call, is_started}
use Rattle.otp_rules.specs.Fit.{rows_in}
use Rattle.otp_rules.proofs.GoesOn.{GoesOn, advance-on}
use Rattle.otp_rules.proofs.States.{told_has}
use Rattle.otp_rules.proofs.Walks.{restart-by, stop_each-by, terminate-by, with_stops}
use Rattle.otp_rules.proofs.Decisions.{BringsExit, BringsFailure, Dies, StandsAt, SurvivesEvent, at_row-survives, at_number-survives, by_test, decide-survives_event, is_down}
use Rattle.std.specs.Prelude.{length}
use Rattle.otp_rules.specs.Run.{empty_state, state_after}
use Rattle.std.proofs.Common.{cond}
use Rattle.otp_rules.proofs.Counting.{rows_in-cons}
use Rattle.otp_rules.proofs.Processes.{processes_owned_law}

-- a fact of each row
abbrev pub Each : (Row → Type 0) → List Row → Type 0
Each P [] = Unit {0}
Each P (x ∷ xs) = P x × Each P xs

each-at : (P : Row → Type 0) (rows : List Row) (place : ℕ) (row : Row) → slice_get rows place ≡ Some row → Each P rows → P row
each-at P [] place row at h = let e : ◌≡◌ {A = Option Row} None (Some row) = at in absurd (search (rules, e))
each-at P (x ∷ xs) zero row at h = let e : ◌≡◌ {A = Option Row} (Some x) (Some row) = at in subst P (ap (λ (o : Option Row). unwrap_or o x) e) h.0
each-at P (x ∷ xs) (suc i) row at h = each-at P xs i row at h.1

each-set : (P : Row → Type 0) (rows : List Row) (place : ℕ) (new : Row) → P new → Each P rows → Each P (slice_set rows place new)
each-set P [] place new p h = tt
each-set P (x ∷ xs) zero new p h = (p, h.1)
each-set P (x ∷ xs) (suc i) new p h = (h.0, each-set P xs i new p h.1)

each-remove : (P : Row → Type 0) (rows : List Row) (place : ℕ) → Each P rows → Each P (remove rows place)
each-remove P [] zero h = tt
each-remove P [] (suc i) h = tt
each-remove P (x ∷ xs) zero h = h.1
each-remove P (x ∷ xs) (suc i) h = (h.0, each-remove P xs i h.1)

each-append : (P : Row → Type 0) (xs ys : List Row) → Each P xs → Each P ys → Each P (xs ++ ys)
each-append P [] ys h k = k
each-append P (x ∷ xs) ys h k = (h.0, each-append P xs ys h.1 k)

each-take : (P : Row → Type 0) (n : ℕ) (rows : List Row) → Each P rows → Each P (take n rows)
each-take P zero rows h = tt
each-take P (suc n) [] h = tt
each-take P (suc n) (x ∷ xs) h = (h.0, each-take P n xs h.1)

each-drop : (P : Row → Type 0) (n : ℕ) (rows : List Row) → Each P rows → Each P (drop n rows)
each-drop P zero rows h = h
each-drop P (suc n) [] h = tt
each-drop P (suc n) (x ∷ xs) h = each-drop P n xs h.1

each-map : (P Q : Row → Type 0) (f : Row → Row) → ((row : Row) → P row → Q (f row)) → (rows : List Row) → Each P rows → Each Q (map f rows)
each-map P Q f more [] h = tt
each-map P Q f more (x ∷ xs) h = (more x h.0, each-map P Q f more xs h.1)

each-more : (P Q : Row → Type 0) → ((row : Row) → P row → Q row) → (rows : List Row) → Each P rows → Each Q rows
each-more P Q more [] h = tt
each-more P Q more (x ∷ xs) h = (more x h.0, each-more P Q more xs h.1)

pub each-contains : (P : Row → Type 0) (rows : List Row) (row : Row) → Each P rows → Contains rows row → P row
each-contains P [] row h c = absurd (omega (arith, c.1))
each-contains P (x ∷ xs) row h (zero, a, b) = subst P b h.0
each-contains P (x ∷ xs) row h (suc k, a, b) = each-contains P xs row h.1 (k, omega (arith, a), b)

pub each-from : (P : Row → Type 0) (rows : List Row) → ((row : Row) → Contains rows row → P row) → Each P rows
each-from P [] h = tt
each-from P (x ∷ xs) h = (h x (0, omega arith, refl), each-from P xs (λ row c. h row (suc c.0, omega (arith, c.1), c.2)))

-- a note of the row's end that the event brings
abbrev pub Ends : (Item → Type 0) → Row → Type 0
Ends G row = (x : Note) × G (item.Note x) × EndsProcess x row

pub record Linked (s : State) (G : Item → Type 0) (ws : List Waiting) (row : Row) : Type 0 where
  pub old : Row
  pub among : Contains s.rows old
  pub same : old.slot ≡ row.slot
  pub process : (p : ℕ) → has_process p row.state ≡ true → has_process p old.state ≡ true
  pub home : is_home ws row.state ≡ true → (is_home s.waiting old.state ≡ true) ⊎ Ends G old

pub record Fresh (s : State) (G : Item → Type 0) (row : Row) : Type 0 where
  pub c : ℕ
  pub x : Call
  pub start : is_start_call x ≡ true
  pub brought : G (item.Call c x)
  pub free : row.slot ≡ free_slot s.rows

-- the row was there, and is at home where it was or comes; or it is new, by a call or by the opening
abbrev pub Known : Kind → State → (Item → Type 0) → List Waiting → Row → Type 0
Known what s G ws row = Linked s G ws row ⊎ (Fresh s G row ⊎ IsOpened s what row)

abbrev pub AllKnown : Kind → State → (Item → Type 0) → Outcome → Type 0
AllKnown what s G o = Each (Known what s G o.state.waiting) o.state.rows

-- the row changes: it has no other process, and is at home where it was, or where its end is brought
moves : (what : Kind) (s : State) (G : Item → Type 0) (ws vs : List Waiting) (row new : Row) → row.slot ≡ new.slot → row.spec ≡ new.spec → ((p : ℕ) → has_process p new.state ≡ true → has_process p row.state ≡ true) → (is_home vs new.state ≡ true → (is_home ws row.state ≡ true) ⊎ Ends G row) → Known what s G ws row → Known what s G vs new
moves what s G ws vs row new slot spec process home (inl l) =
    inl (record {
      old = l.old;
      among = l.among;
      same = l.same ∙ slot;
      process = λ p h. l.process p (process p h);
      home = λ h. ⊎_elim (λ was. l.home was) (λ (e : Ends G row). inr (e.0, e.1, record { p = e.2.p; ends = e.2.ends; has = l.process e.2.p e.2.has })) (home h);
    })
moves what s G ws vs row new slot spec process home (inr (inl f)) = inr (inl (record { c = f.c; x = f.x; start = f.start; brought = f.brought; free = sym slot ∙ f.free }))
moves what s G ws vs row new slot spec process home (inr (inr o)) =
    inr (inr (record { own = o.own; opening = o.opening; over = o.over; place = ap (λ (n : ℕ). slice_get s.specs n) (sym slot) ∙ o.place ∙ ap (λ (x : ChildSpec). Some x) spec }))

-- where less waits, no more children are at home
home_less : (ws vs : List Waiting) → ((p : ℕ) → list_any (is_ended p) vs ≡ true → list_any (is_ended p) ws ≡ true) → (state : RowState) → is_home vs state ≡ true → is_home ws state ≡ true
home_less ws vs less Undefined h = refl
home_less ws vs less (Starting p _) h = less p h
home_less ws vs less (Up p) h = less p h
home_less ws vs less (Asked p _) h = less p h
home_less ws vs less (Killed p) h = less p h
home_less ws vs less (Restarting _) h = refl

less_known : (what : Kind) (s : State) (G : Item → Type 0) (ws vs : List Waiting) → ((p : ℕ) → list_any (is_ended p) vs ≡ true → list_any (is_ended p) ws ≡ true) → (rows : List Row) → Each (Known what s G ws) rows → Each (Known what s G vs) rows
less_known what s G ws vs less rows h = each-more (Known what s G ws) (Known what s G vs) (λ row k. moves what s G ws vs row row refl refl (λ p has. has) (λ home. inl (home_less ws vs less row.state home)) k) rows h

pub or_cases : (a b : Bool) → (a || b) ≡ true → (a ≡ true) ⊎ (b ≡ true)
or_cases true b h = inl refl
or_cases false b h = inr h

pub or_right : (a b : Bool) → b ≡ true → (a || b) ≡ true
or_right true b h = refl
or_right false b h = h

-- an item more that is no end
pub quiet_more : (ws : List Waiting) (x : Waiting) → ((p : ℕ) → is_ended p x ≡ false) → (p : ℕ) → list_any (is_ended p) (ws ++ x ∷ []) ≡ true → list_any (is_ended p) ws ≡ true
quiet_more ws x quiet p h =
    ⊎_elim (λ was. was) (λ (new : (is_ended p x || false) ≡ true). absurd (⊎_elim (λ e. false≢true (sym (quiet p) ∙ e)) (λ e. false≢true e) (or_cases (is_ended p x) false new)))
    (or_cases (list_any (is_ended p) ws) (is_ended p x || false) (sym (list_any-append (is_ended p) ws (x ∷ [])) ∙ h))

pub same_process : (p x : ℕ) (state : RowState) → has_process p state ≡ true → (p == x) ≡ true → has_process x state ≡ true
same_process p x state has same = subst (λ (n : ℕ). has_process n state ≡ true) (eqb-true p x same) has

home_by : (ws : List Waiting) (p : ℕ) (state : RowState) → has_process p state ≡ true → list_any (is_ended p) ws ≡ true → is_home ws state ≡ true
home_by ws p Undefined has h = refl
home_by ws p (Starting q _) has h = subst (λ (n : ℕ). list_any (is_ended n) ws ≡ true) (sym (eqb-true q p has)) h
home_by ws p (Up q) has h = subst (λ (n : ℕ). list_any (is_ended n) ws ≡ true) (sym (eqb-true q p has)) h
home_by ws p (Asked q _) has h = subst (λ (n : ℕ). list_any (is_ended n) ws ≡ true) (sym (eqb-true q p has)) h
home_by ws p (Killed q) has h = subst (λ (n : ℕ). list_any (is_ended n) ws ≡ true) (sym (eqb-true q p has)) h
home_by ws p (Restarting _) has h = refl

-- a row's new state with the same process
pub record SameProcess (p : ℕ) (state : RowState) : Type 0 where
  pub process : (x : ℕ) → has_process x state ≡ true → (p == x) ≡ true
  pub home : (ws : List Waiting) → is_home ws state ≡ true → list_any (is_ended p) ws ≡ true

told-same : (now p : ℕ) (s : Shutdown) → SameProcess p (told now p s)
told-same now p BrutalKill = record { process = λ x h. h; home = λ ws h. h }
told-same now p (Milliseconds _) = record { process = λ x h. h; home = λ ws h. h }
told-same now p Infinity = record { process = λ x h. h; home = λ ws h. h }

-- the row keeps its process
set-known : (what : Kind) (s : State) (G : Item → Type 0) (ws : List Waiting) (p place : ℕ) (row : Row) (state : RowState) (rows : List Row) → slice_get rows place ≡ Some row → has_process p row.state ≡ true → SameProcess p state → Each (Known what s G ws) rows → Each (Known what s G ws) (slice_set rows place (with_state state row))
set-known what s G ws p place row state rows at has same h =
    each-set (Known what s G ws) rows place (with_state state row)
    (moves what s G ws ws row (with_state state row) refl refl (λ x new. same_process p x row.state has (same.process x new)) (λ home. inl (home_by ws p row.state has (same.home ws home))) (each-at (Known what s G ws) rows place row at h)) h

-- the row has no process any more: it was at home, or its end is brought
abbrev IsDone : (Item → Type 0) → List Waiting → Row → Type 0
IsDone G ws row = (is_home ws row.state ≡ true) ⊎ Ends G row

down-known : (what : Kind) (s : State) (G : Item → Type 0) (ws : List Waiting) (place : ℕ) (row : Row) (state : RowState) (rows : List Row) → is_down state ≡ true → slice_get rows place ≡ Some row → IsDone G ws row → Each (Known what s G ws) rows → Each (Known what s G ws) (slice_set rows place (with_state state row))
down-known what s G ws place row state rows down at done h =
    each-set (Known what s G ws) rows place (with_state state row)
    (moves what s G ws ws row (with_state state row) refl refl (λ x new. absurd (none state x down new)) (λ home. done) (each-at (Known what s G ws) rows place row at h)) h
  where
    none : (state : RowState) (x : ℕ) → is_down state ≡ true → has_process x state ≡ true → ⊥
    none Undefined x d h = false≢true h
    none (Starting _ _) x d h = false≢true d
    none (Up _) x d h = false≢true d
    none (Asked _ _) x d h = false≢true d
    none (Killed _) x d h = false≢true d
    none (Restarting _) x d h = false≢true h

end-known : (what : Kind) (s : State) (G : Item → Type 0) (ws : List Waiting) (place : ℕ) (row : Row) (o : Outcome) → StandsAt place row o → IsDone G ws row → Each (Known what s G ws) o.state.rows → Each (Known what s G ws) (end_row place row o).state.rows
unfolding end_row
end-known what s G ws place row o at done h =
    by_test (λ (x : Outcome). Each (Known what s G ws) x.state.rows) (is_removed row) (with_rows (remove o.state.rows place) o) (set_row place row Undefined o)
    (λ _. each-remove (Known what s G ws) o.state.rows place h)
    (λ _. down-known what s G ws place row Undefined o.state.rows refl at done h)

end-waiting : (place : ℕ) (row : Row) (o : Outcome) → (end_row place row o).state.waiting ≡ o.state.waiting
unfolding end_row
end-waiting place row o = by_test (λ (x : Outcome). x.state.waiting ≡ o.state.waiting) (is_removed row) (with_rows (remove o.state.rows place) o) (set_row place row Undefined o) (λ _. refl) (λ _. refl)

-- both together
ended : (what : Kind) (s : State) (G : Item → Type 0) (place : ℕ) (row : Row) (o : Outcome) → StandsAt place row o → IsDone G o.state.waiting row → AllKnown what s G o → AllKnown what s G (end_row place row o)
ended what s G place row o at done h =
    subst (λ (ws : List Waiting). Each (Known what s G ws) (end_row place row o).state.rows) (sym (end-waiting place row o)) (end-known what s G o.state.waiting place row o at done h)

tell-known : (what : Kind) (s : State) (G : Item → Type 0) (p : ℕ) (o : Outcome) → AllKnown what s G o → AllKnown what s G (tell p o)
unfolding tell tell_row
tell-known what s G p o h =
    at_number-survives (AllKnown what s G) p (tell_row p) o h
    (λ i row at has. set-known what s G o.state.waiting p i row (told o.state.last p row.spec.shutdown) o.state.rows at has (told-same o.state.last p row.spec.shutdown) h)

-- an end that waits is used
pub remove_less : (p i : ℕ) (ws : List Waiting) → list_any (is_ended p) (remove ws i) ≡ true → list_any (is_ended p) ws ≡ true
remove_less p zero [] h = h
remove_less p (suc i) [] h = h
remove_less p zero (w ∷ ws) h = or_right (is_ended p w) (list_any (is_ended p) ws) h
remove_less p (suc i) (w ∷ ws) h =
    ⊎_elim (λ first. ap (λ (b : Bool). b || list_any (is_ended p) ws) first) (λ rest. or_right (is_ended p w) (list_any (is_ended p) ws) (remove_less p i ws rest))
    (or_cases (is_ended p w) (list_any (is_ended p) (remove ws i)) h)

pub without_less : (p : ℕ) (place : Option ℕ) (ws : List Waiting) → list_any (is_ended p) (without ws place) ≡ true → list_any (is_ended p) ws ≡ true
without_less p None ws h = h
without_less p (Some i) ws h = remove_less p i ws h

-- the end of this process waits
pub exit_ended : (p : ℕ) (w : Waiting) → is_exit p w ≡ true → is_ended p w ≡ true
exit_ended p (waiting.Item (item.Note (note.Up _))) h = h
exit_ended p (waiting.Item (item.Note (note.Ignored _))) h = absurd (false≢true h)
exit_ended p (waiting.Item (item.Note (note.Failed _ _))) h = absurd (false≢true h)
exit_ended p (waiting.Item (item.Note (note.Exit _ _))) h = h
exit_ended p (waiting.Item (item.Call _ _)) h = h
exit_ended p (waiting.Retry _) h = h

pub waits_there : (p : ℕ) (ws : List Waiting) → is_some (position (is_exit p) ws) ≡ true → list_any (is_ended p) ws ≡ true
waits_there p ws h =
    let d : Waiting = waiting.Retry 0 in
    (elim (position (is_exit p) ws) as (λ (x : Option ℕ). position (is_exit p) ws ≡ x → is_some x ≡ true → list_any (is_ended p) ws ≡ true) [
      | None ↦ λ e k. absurd (false≢true k)
      | Some i ↦ λ e k. let at = position-Some (is_exit p) ws i d e in list_any_at (is_ended p) ws i d at.0 (exit_ended p (get_or ws i d) at.1)
    ]) refl h

use_exit-known : (what : Kind) (s : State) (G : Item → Type 0) (p : ℕ) (o left : Outcome) → left.state.rows ≡ o.state.rows → left.state.waiting ≡ o.state.waiting → is_some (position (is_exit p) o.state.waiting) ≡ true → AllKnown what s G o → AllKnown what s G (use_exit p (position (is_exit p) o.state.waiting) left)
unfolding use_exit end_process
use_exit-known what s G p o left rows waits some h =
    let place : Option ℕ = position (is_exit p) o.state.waiting in
    let ws : List Waiting = o.state.waiting in
    let used : Outcome = with_waiting (without left.state.waiting place) left in
    let done : Each (Known what s G ws) (at_number p end_row used).state.rows × ((at_number p end_row used).state.waiting ≡ without left.state.waiting place) =
    at_number-survives (λ (x : Outcome). Each (Known what s G ws) x.state.rows × (x.state.waiting ≡ without left.state.waiting place)) p end_row used
    (subst (λ (l : List Row). Each (Known what s G ws) l) (sym rows) h, refl)
    (λ i row at has. (
      end-known what s G ws i row used at (inl (home_by ws p row.state has (waits_there p ws some))) (subst (λ (l : List Row). Each (Known what s G ws) l) (sym rows) h),
      end-waiting i row used,
    )) in
    subst (λ (vs : List Waiting). Each (Known what s G vs) (at_number p end_row used).state.rows) (sym (done.1 ∙ ap (λ (l : List Waiting). without l place) waits))
    (less_known what s G ws (without ws place) (λ q k. without_less q place ws k) (at_number p end_row used).state.rows done.0)

stop_each-known : (what : Kind) (s : State) (G : Item → Type 0) (ps : List ℕ) (o : Outcome) → AllKnown what s G o → AllKnown what s G (stop_each ps o)
stop_each-known what s G = stop_each-by (AllKnown what s G) (λ p o some h. use_exit-known what s G p o o refl refl some h) (λ p o _ h. tell-known what s G p o h)

calm_one : (what : Kind) (s : State) (G : Item → Type 0) (ws : List Waiting) (row : Row) → Known what s G ws row → Known what s G ws (with_state (calmed row.state) row)
calm_one what s G ws row h = moves what s G ws ws row (with_state (calmed row.state) row) refl refl (λ p has. process row.state p has) (λ home. inl (same row.state home)) h
  where
    process : (state : RowState) (p : ℕ) → has_process p (calmed state) ≡ true → has_process p state ≡ true
    process Undefined p h = h
    process (Starting _ _) p h = h
    process (Up _) p h = h
    process (Asked _ _) p h = h
    process (Killed _) p h = h
    process (Restarting _) p h = h

    same : (state : RowState) → is_home ws (calmed state) ≡ true → is_home ws state ≡ true
    same Undefined h = h
    same (Starting _ _) h = h
    same (Up _) h = h
    same (Asked _ _) h = h
    same (Killed _) h = h
    same (Restarting _) h = h

calm-known : (what : Kind) (s : State) (G : Item → Type 0) (ws : List Waiting) (rows : List Row) → Each (Known what s G ws) rows → Each (Known what s G ws) (calm_rows rows)
calm-known what s G ws rows h = each-map (Known what s G ws) (Known what s G ws) (λ (row : Row). with_state (calmed row.state) row) (λ row k. calm_one what s G ws row k) rows h

terminate-known : (what : Kind) (s : State) (G : Item → Type 0) (e : Ending) (o : Outcome) → AllKnown what s G o → AllKnown what s G (terminate e o)
terminate-known what s G e o h =
    terminate-by (AllKnown what s G) e o
    (λ _. stop_each-known what s G (running o.state.rows) (calm_all (with_work [] [] (Some (sequel.End e)) o)) (calm-known what s G o.state.waiting o.state.rows h))
    (λ _. calm-known what s G o.state.waiting o.state.rows h)

restart-known : (what : Kind) (s : State) (G : Item → Type 0) (p place : ℕ) (row : Row) (o : Outcome) → StandsAt place row o → IsDone G o.state.waiting row → AllKnown what s G o → AllKnown what s G (restart p place row o)
unfolding restart_rows
restart-known what s G p place row o at done h =
    let counted : Outcome = with_stamps (o.state.stamps ++ o.state.last ∷ []) (set_row place row Undefined o) in
    let rows : List Row = counted.state.rows in
    let strategy : Strategy = o.state.flags.strategy in
    let down : AllKnown what s G counted = down-known what s G o.state.waiting place row Undefined o.state.rows refl at done h in
    let K : Row → Type 0 = Known what s G o.state.waiting in
    let from : ℕ = affected_from strategy place in
    let to : ℕ = affected_to strategy place (length rows) in
    restart-by (AllKnown what s G) p place row o
    (λ _. terminate-known what s G ending.Intensity counted down)
    (λ _. each-append K (take from rows ++ calm_rows (slice_range rows from to)) (drop to rows)
    (each-append K (take from rows) (calm_rows (slice_range rows from to)) (each-take K from rows down) (calm-known what s G o.state.waiting (slice_range rows from to) (each-take K (to - from) (drop from rows) (each-drop K from rows down))))
    (each-drop K to rows down))

tick_one : (what : Kind) (s : State) (G : Item → Type 0) (ws : List Waiting) (now : ℕ) (row : Row) (state : RowState) → row.state ≡ state → Known what s G ws row → Known what s G ws (killed row (late_number now state))
tick_one what s G ws now row Undefined is h = h
tick_one what s G ws now row (Starting _ _) is h = h
tick_one what s G ws now row (Up _) is h = h
tick_one what s G ws now row (Asked p None) is h = h
tick_one what s G ws now row (Asked p (Some d)) is h =
    cond_both (nat_le d now) (Some p) None (λ (x : Option ℕ). Known what s G ws (killed row x))
    (λ _. moves what s G ws ws row (with_state (Killed p) row) refl refl (λ x has. subst (λ (t : RowState). has_process x t ≡ true) (sym is) has) (λ home. inl (subst (λ (t : RowState). is_home ws t ≡ true) (sym is) home)) h)
    (λ _. h)
tick_one what s G ws now row (Killed _) is h = h
tick_one what s G ws now row (Restarting _) is h = h

tick-known : (what : Kind) (s : State) (G : Item → Type 0) (o : Outcome) → AllKnown what s G o → AllKnown what s G (tick o)
unfolding tick
tick-known what s G o h =
    each-map (Known what s G o.state.waiting) (Known what s G o.state.waiting) (λ (row : Row). killed row (late_number o.state.last row.state)) (λ row k. tick_one what s G o.state.waiting o.state.last row row.state refl k) o.state.rows h

answer-known : (what : Kind) (s : State) (G : Item → Type 0) (c : ℕ) (r : Reply) (o : Outcome) → AllKnown what s G o → AllKnown what s G (answer c r o)
unfolding answer
answer-known what s G c r o h = h

-- an end that is brought waits: its process's child is at home now
home_put : (ws : List Waiting) (p : ℕ) (x : Waiting) → ((q : ℕ) → is_ended q x ≡ true → (p == q) ≡ true) → (state : RowState) → is_home (ws ++ x ∷ []) state ≡ true → (is_home ws state ≡ true) ⊎ (has_process p state ≡ true)
home_put ws p x own state h = by_state state h
  where
    waits : (q : ℕ) → list_any (is_ended q) (ws ++ x ∷ []) ≡ true → (list_any (is_ended q) ws ≡ true) ⊎ ((p == q) ≡ true)
    waits q k =
        ⊎_elim (λ was. inl was) (λ (new : (is_ended q x || false) ≡ true). ⊎_elim (λ e. inr (own q e)) (λ e. absurd (false≢true e)) (or_cases (is_ended q x) false new))
        (or_cases (list_any (is_ended q) ws) (is_ended q x || false) (sym (list_any-append (is_ended q) ws (x ∷ [])) ∙ k))

    turned : (q : ℕ) → (list_any (is_ended q) ws ≡ true) ⊎ ((p == q) ≡ true) → (list_any (is_ended q) ws ≡ true) ⊎ ((q == p) ≡ true)
    turned q (inl k) = inl k
    turned q (inr k) = inr (eq-eqb q p (sym (eqb-true p q k)))

    by_state : (state : RowState) → is_home (ws ++ x ∷ []) state ≡ true → (is_home ws state ≡ true) ⊎ (has_process p state ≡ true)
    by_state Undefined k = inl refl
    by_state (Starting q _) k = turned q (waits q k)
    by_state (Up q) k = turned q (waits q k)
    by_state (Asked q _) k = turned q (waits q k)
    by_state (Killed q) k = turned q (waits q k)
    by_state (Restarting _) k = inl refl

of_waiting : (what : Kind) (s : State) (G : Item → Type 0) (o : Outcome) (vs : List Waiting) → o.state.waiting ≡ vs → AllKnown what s G o → Each (Known what s G vs) o.state.rows
of_waiting what s G o vs is h = subst (λ (l : List Waiting). Each (Known what s G l) o.state.rows) is h

put-known : (what : Kind) (s : State) (G : Item → Type 0) (x : Waiting) (o : Outcome) → ((p : ℕ) → is_ended p x ≡ false) → AllKnown what s G o → AllKnown what s G (put_last x o)
put-known what s G x o quiet h = less_known what s G o.state.waiting (o.state.waiting ++ x ∷ []) (quiet_more o.state.waiting x quiet) o.state.rows h

down_home : (ws : List Waiting) (state : RowState) → is_down state ≡ true → is_home ws state ≡ true
down_home ws Undefined h = refl
down_home ws (Starting _ _) h = absurd (false≢true h)
down_home ws (Up _) h = absurd (false≢true h)
down_home ws (Asked _ _) h = absurd (false≢true h)
down_home ws (Killed _) h = absurd (false≢true h)
down_home ws (Restarting _) h = refl

-- the row has the process q, by its state
pub has_starting : (row : Row) (q kept p : ℕ) → row.state ≡ Starting q kept → (q == p) ≡ true → has_process p row.state ≡ true
has_starting row q kept p is same = ap (λ (t : RowState). has_process p t) is ∙ same

pub same_number : (q : ℕ) → (q == q) ≡ true
same_number q = eq-eqb q q refl

failure : (G : Item → Type 0) (row : Row) (q kept : ℕ) → row.state ≡ Starting q kept → BringsFailure G q → Ends G row
failure G row q kept is b = (note.Failed q b.0, b.1, record { p = q; ends = refl; has = has_starting row q kept q is (same_number q) })

exits : (G : Item → Type 0) (row : Row) (p : ℕ) → row.state ≡ Up p → BringsExit G p → Ends G row
exits G row p is b = (note.Exit p b.0, b.1, record { p = p; ends = refl; has = ap (λ (t : RowState). has_process p t) is ∙ same_number p })

-- the rows of an opening: each has the slot that is the place of its specification
opened-known : (what : Kind) (s : State) (G : Item → Type 0) (ws : List Waiting) (own : ℕ) → what ≡ kind.Opened own → is_over s.phase ≡ true → (slot : ℕ) (specs : List ChildSpec)
    → ((i : ℕ) (x : ChildSpec) → slice_get specs i ≡ Some x → slice_get s.specs (slot + i) ≡ Some x) → Each (Known what s G ws) (rows_from slot specs)
opened-known what s G ws own is over slot [] there = tt
opened-known what s G ws own is over slot (spec ∷ specs) there =
    let first : slot + 0 ≡ slot = omega arith in (
      inr (inr (record { own = own; opening = is; over = over; place = subst (λ (n : ℕ). slice_get s.specs n ≡ Some spec) first (there 0 spec refl) })),
      opened-known what s G ws own is over (slot + 1) specs
          (λ i x at. let next : slot + suc i ≡ slot + 1 + i = omega arith in subst (λ (n : ℕ). slice_get s.specs n ≡ Some x) next (there (suc i) x at)),
    )

opening-known : (what : Kind) (s : State) (G : Item → Type 0) (own : ℕ) (o : Outcome) → o.state.specs ≡ s.specs → what ≡ kind.Opened own → is_over s.phase ≡ true → AllKnown what s G (open_rows own o)
unfolding open_rows open_with
opening-known what s G own o same is over = by_strategy (is_simple o.state.flags.strategy)
  where
    by_strategy : (b : Bool) → Each (Known what s G o.state.waiting) (rows_from 0 (opening_specs b o.state.specs))
    by_strategy true = tt
    by_strategy false =
        opened-known what s G o.state.waiting own is over 0 o.state.specs
        (λ i x at. let here : 0 + i ≡ i = omega arith in subst (λ (n : ℕ). slice_get s.specs n ≡ Some x) (sym here) (ap (λ (l : List ChildSpec). slice_get l i) (sym same) ∙ at))

known-survives : (what : Kind) (G : Item → Type 0) (old : Outcome) → SurvivesEvent what G old (AllKnown what old.state G)
known-survives what G old =
    let s : State = old.state in
    record {
      answered = λ c r o quiet h. answer-known what s G c r o h;
      taken = λ w ws resumed idle runs is h.
          less_known what s G (w ∷ ws) ws (λ p k. or_right (is_ended p w) (list_any (is_ended p) ws) k) s.rows (of_waiting what s G old (w ∷ ws) is h);
      call_waits = λ c call o u busy g h. put-known what s G (waiting.Item (item.Call c call)) o (λ p. refl) h;
      exit_waits = λ p r place row o u at has got h.
          let x : Waiting = waiting.Item (item.Note (note.Exit p r)) in
          each-more (Known what s G o.state.waiting) (Known what s G (o.state.waiting ++ x ∷ []))
          (λ row k. moves what s G o.state.waiting (o.state.waiting ++ x ∷ []) row row refl refl (λ q has. has)
          (λ home. ⊎_elim (λ was. inl was) (λ has. inr (note.Exit p r, got, record { p = p; ends = refl; has = has })) (home_put o.state.waiting p x (λ q e. e) row.state home)) k)
          o.state.rows h;
      up = λ p place row q kept o u at is same noted h.
          set-known what s G o.state.waiting p place row (Up p) o.state.rows at (has_starting row q kept p is same) (record { process = λ x k. k; home = λ ws k. k }) h;
      up_closed = λ p place row q kept c o u at is same follows noted h.
          set-known what s G o.state.waiting p place row (Up p) o.state.rows at (has_starting row q kept p is same) (record { process = λ x k. k; home = λ ws k. k }) h;
      ignored = λ p place row q kept o u at is same noted h.
          ended what s G place row o at (inr (note.Ignored p, noted, record { p = p; ends = refl; has = has_starting row q kept p is same })) h;
      opening_failed = λ place row q kept o u runs at is follows noted h.
          terminate-known what s G (ending.InitFailed row.spec.id) (set_row place row Undefined o)
          (down-known what s G o.state.waiting place row Undefined o.state.rows refl at (inr (failure G row q kept is noted)) h);
      restart_failed = λ place row q kept o u at is follows noted h.
          put-known what s G (waiting.Retry kept) (set_row place row (Restarting kept) o) (λ p. refl)
          (down-known what s G o.state.waiting place row (Restarting kept) o.state.rows refl at (inr (failure G row q kept is noted)) h);
      added_failed = λ place row q kept c o u at is follows noted h. each-remove (Known what s G o.state.waiting) o.state.rows place h;
      restarted_failed = λ place row q kept c o u at is follows noted h.
          down-known what s G o.state.waiting place row Undefined o.state.rows refl at (inr (failure G row q kept is noted)) h;
      stopped = λ p r place row o u at told noted h.
          ended what s G place row o at (inr (note.Exit p r, noted, record { p = p; ends = refl; has = told_has p row.state told })) h;
      died = λ p place row o u idle runs at is noted h. ended what s G place row o at (inr (exits G row p is noted)) h;
      restarts = λ p place row o u idle runs at is h.
          restart-known what s G p place row o at
          (⊎_elim (λ (up : Dies G p place row o true). inr (exits G row p up.0 (up.1.0, up.1.1))) (λ down. inl (ap (λ (t : RowState). is_home o.state.waiting t) down.0)) is) h;
      ends = λ e o u other idle runs h. terminate-known what s G e o h;
      ticks = λ is h. tick-known what s G old h;
      opens = λ own is over h. opening-known what s G own old refl is over;
      adds = λ c id spec o u idle runs named few got h.
          each-append (Known what s G o.state.waiting) o.state.rows (new_row (free_slot o.state.rows) id spec ∷ []) h
          (inr (inl (record { c = c; x = got.0; start = got.1; brought = got.2; free = ap (λ (y : Outcome). free_slot y.state.rows) u })), tt);
      starts_again = λ c id place row o u idle runs at has is noted found h. h;
      removed = λ place row o u idle runs at down h. each-remove (Known what s G o.state.waiting) o.state.rows place h;
      given_up = λ place row o u idle runs at down h.
          down-known what s G o.state.waiting place row Undefined o.state.rows refl at (inl (down_home o.state.waiting row.state down)) h;
      stops_child = λ c p place row o u idle runs at up has got h. h;
    }

-- what is left to say of a row: that it is at home, or that the event starts it
abbrev pub Told : Kind → State → (Item → Type 0) → Option ℕ → List Waiting → Row → Type 0
Told what s G n ws row =
    (is_home ws row.state ≡ true) ⊎ (is_started n row.state ≡ true)
    → ((old : Row) × Contains s.rows old × (old.slot ≡ row.slot) × ((is_home s.waiting old.state ≡ true) ⊎ Ends G old)) ⊎ (Fresh s G row ⊎ IsOpened s what row)

started_there : (n : Option ℕ) (row old : RowState) → ((p : ℕ) → has_process p row ≡ true → has_process p old ≡ true) → is_started n row ≡ true → is_started n old ≡ true
started_there None row old same h = h
started_there (Some n) row old same h = same n h

told-known : (what : Kind) (s : State) (G : Item → Type 0) (n : Option ℕ) (ws : List Waiting) → IsNewNumber n s.rows → (row : Row) → Known what s G ws row → Told what s G n ws row
told-known what s G n ws free row (inl l) =
    λ h. ⊎_elim (λ home. inl (l.old, l.among, l.same, l.home home)) (λ has. absurd (false≢true (sym (free l.old l.among) ∙ started_there n row.state l.old.state l.process has))) h
told-known what s G n ws free row (inr f) = λ h. inr f

abbrev pub AllTold : Kind → State → (Item → Type 0) → Option ℕ → Outcome → Type 0
AllTold what s G n o = Each (Told what s G n o.state.waiting) o.state.rows

known-told : (what : Kind) (s : State) (G : Item → Type 0) (n : Option ℕ) → IsNewNumber n s.rows → (o : Outcome) → AllKnown what s G o → AllTold what s G n o
known-told what s G n free o h = each-more (Known what s G o.state.waiting) (Told what s G n o.state.waiting) (λ row k. told-known what s G n o.state.waiting free row k) o.state.rows h

undefined_home : (ws : List Waiting) (state : RowState) → is_undefined state ≡ true → is_home ws state ≡ true
undefined_home ws Undefined h = refl
undefined_home ws (Starting _ _) h = absurd (false≢true h)
undefined_home ws (Up _) h = absurd (false≢true h)
undefined_home ws (Asked _ _) h = absurd (false≢true h)
undefined_home ws (Killed _) h = absurd (false≢true h)
undefined_home ws (Restarting _) h = absurd (false≢true h)

-- the row that starts was at home
start-told : (what : Kind) (s : State) (G : Item → Type 0) (n : Option ℕ) → IsNewNumber n s.rows → (due : Due) (o : Outcome) → AllKnown what s G o → AllTold what s G n (start due (unwrap_or n 0) o)
unfolding start start_row
start-told what s G n free due o h =
    let all : AllTold what s G n o = known-told what s G n free o h in
    at_row-survives (AllTold what s G n) (is_due due) o (start_row due (unwrap_or n 0)) o all all
    (λ i row at has.
    let k : Known what s G o.state.waiting row = each-at (Known what s G o.state.waiting) o.state.rows i row at h in
    let home : is_home o.state.waiting row.state ≡ true = undefined_home o.state.waiting row.state (and_parts _ (is_undefined row.state) has).1 in
    each-set (Told what s G n o.state.waiting) o.state.rows i (with_state (Starting (unwrap_or n 0) (unwrap_or due.kept (unwrap_or n 0))) row) (of_row row k home) all)
  where
    of_row : (row : Row) → Known what s G o.state.waiting row → is_home o.state.waiting row.state ≡ true → Told what s G n o.state.waiting (with_state (Starting (unwrap_or n 0) (unwrap_or due.kept (unwrap_or n 0))) row)
    of_row row (inl l) home = λ _. inl (l.old, l.among, l.same, l.home home)
    of_row row (inr (inl f)) home = λ _. inr (inl (record { c = f.c; x = f.x; start = f.start; brought = f.brought; free = f.free }))
    of_row row (inr (inr o)) home = λ _. inr (inr (record { own = o.own; opening = o.opening; over = o.over; place = o.place }))

going-told : (what : Kind) (s : State) (G : Item → Type 0) (n : Option ℕ) → IsNewNumber n s.rows → GoesOn (unwrap_or n 0) (λ _. AllKnown what s G) (AllTold what s G n)
unfolding answer end_all refuse_all
going-told what s G n free =
    record {
      uses = λ p rest o some h. use_exit-known what s G p o (with_stops rest o) refl refl some h;
      tells = λ p rest o _ h. known-told what s G n free (tell p (with_stops rest o)) (tell-known what s G p (with_stops rest o) h);
      starts = λ due dues o _ h. start-told what s G n free due (with_work o.state.to_stop dues o.state.follows o) h;
      closes = λ f o _ _ h. known-told what s G n free o h;
      answers = λ c r f o _ _ h. known-told what s G n free o h;
      ready = λ o _ h. known-told what s G n free o h;
      ends = λ e o _ h. tt;
    }

advance-told : (what : Kind) (s : State) (G : Item → Type 0) (n : Option ℕ) → IsNewNumber n s.rows → (o : Outcome) → AllKnown what s G o → AllTold what s G n (advance (unwrap_or n 0) o)
advance-told what s G n free o h = advance-on (unwrap_or n 0) (λ _. AllKnown what s G) (AllTold what s G n) (going-told what s G n free) o (λ _. known-told what s G n free o h) (λ _ _. h)

ends_it : (x : Note) (p : ℕ) → end_number x ≡ Some p → is_ended p (waiting.Item (item.Note x)) ≡ true
ends_it (note.Up _) p h = absurd (search (rules, h))
ends_it (note.Ignored q) p h = subst (λ (n : ℕ). (q == n) ≡ true) (ap (λ (o : Option ℕ). unwrap_or o q) h) (same_number q)
ends_it (note.Failed q _) p h = subst (λ (n : ℕ). (q == n) ≡ true) (ap (λ (o : Option ℕ). unwrap_or o q) h) (same_number q)
ends_it (note.Exit q _) p h = subst (λ (n : ℕ). (q == n) ≡ true) (ap (λ (o : Option ℕ). unwrap_or o q) h) (same_number q)

pub first_ends : (ws : List Waiting) (x : Note) (p : ℕ) → IsFirst ws (item.Note x) → end_number x ≡ Some p → list_any (is_ended p) ws ≡ true
first_ends [] x p first h = absurd first
first_ends (w ∷ ws) x p first h = ap (λ (b : Bool). b || list_any (is_ended p) ws) (ap (λ (y : Waiting). is_ended p y) first ∙ ends_it x p h)

-- what the event brings home
brings_home : (s : State) (k : Kind) (old : Row) → (is_home s.waiting old.state ≡ true) ⊎ Ends (Brings k s.waiting) old → ComesHome s k old
brings_home s k old (inl h) = inl h
brings_home s (kind.Opened _) old (inr e) = absurd e.1
brings_home s (kind.Took j) old (inr e) = inr (e.0, ap (λ (i : Item). kind.Took i) e.1, e.2)
brings_home s kind.Resumed old (inr e) = inl (home_by s.waiting e.2.p old.state e.2.has (first_ends s.waiting e.0 e.2.p e.1 e.2.ends))
brings_home s kind.Ticked old (inr e) = absurd e.1
brings_home s kind.Stopped old (inr e) = absurd e.1

told_law : (s : State) (k : Kind) (n : Option ℕ) (ws : List Waiting) (row : Row) → Told k s (Brings k s.waiting) n ws row → (is_home ws row.state ≡ true) ⊎ (is_started n row.state ≡ true) → WasThere s k row.slot ⊎ (IsAdded s k row.slot ⊎ IsOpened s k row)
told_law s k n ws row told h =
    ⊎_elim
    (λ there. inl (record { row = there.0; among = there.1; same = there.2; home = brings_home s k there.0 there.3 }))
    (⊎_elim
    (λ (f : Fresh s (Brings k s.waiting) row). inr (inl (record { c = f.c; x = f.x; start = f.start; brought = f.brought; free = f.free })))
    (λ o. inr (inr o)))
    (told h)

begins : (what : Kind) (s : State) (G : Item → Type 0) → AllKnown what s G (record { state = s; orders = [] })
begins what s G = each-from (Known what s G s.waiting) s.rows (λ row c. inl (record { old = row; among = c; same = refl; process = λ p h. h; home = λ h. inl h }))

step_told : (s : State) (e : Event) → IsNewNumber e.number s.rows → AllTold e.kind (stamped e.reading s) (Brings e.kind s.waiting) e.number (step s e)
unfolding step step_on
step_told s e free =
    let old : State = stamped e.reading s in
    let G : Item → Type 0 = Brings e.kind s.waiting in
    let start : Outcome = record { state = old; orders = [] } in
    advance-told e.kind old G e.number free (decide e.kind start)
    (decide-survives_event e.kind G start (AllKnown e.kind old G) (known-survives e.kind G start) (λ i b idle. b) (begins e.kind old G))

pub homes_kept_from_law : HomesKeptFrom
homes_kept_from_law s e free row among h =
    let old : State = stamped e.reading s in
    let told = each-contains (Told e.kind old (Brings e.kind s.waiting) e.number (step s e).state.waiting) (step s e).state.rows row (step_told s e free) among in
    ⊎_elim
    (λ (w : WasThere old e.kind row.slot). inl (record { row = w.row; among = w.among; same = w.same; home = w.home }))
    (⊎_elim
    (λ (a : IsAdded old e.kind row.slot). inr (inl (record { c = a.c; x = a.x; start = a.start; brought = a.brought; free = a.free })))
    (λ (o : IsOpened old e.kind row). inr (inr (record { own = o.own; opening = o.opening; over = o.over; place = o.place }))))
    (told_law old e.kind e.number (step s e).state.waiting row told h)

pub none_has : (n : ℕ) (rows : List Row) → rows_in (has_process n) rows ≡ 0 → (row : Row) → Contains rows row → has_process n row.state ≡ false
none_has n [] none row c = absurd (omega (arith, c.1))
none_has n (x ∷ xs) none row (zero, a, b) = subst (λ (r : Row). has_process n r.state ≡ false) b (not_this (has_process n x.state) (omega (arith, none, rows_in-cons (has_process n) x xs)))
  where
    not_this : (b : Bool) → ◌≡◌ {A = ℕ} (cond b 1 0) 0 → b ≡ false
    not_this true h = absurd (omega (arith, h))
    not_this false h = refl
none_has n (x ∷ xs) none row (suc k, a, b) = none_has n xs (omega (arith, none, rows_in-cons (has_process n) x xs)) row (k, omega (arith, a), b)

-- a process that is still to come is no row's
new_number : (n : Option ℕ) (s : State) → ((m : ℕ) → n ≡ Some m → rows_in (has_process m) s.rows ≡ 0) → IsNewNumber n s.rows
new_number None s free row among = refl
new_number (Some m) s free row among = none_has m s.rows (free m refl) row among

pub homes_kept_law : HomesKept
homes_kept_law flags specs events e lawful rises =
    let s : State = state_after (empty_state flags specs) events in
    homes_kept_from_law s e (new_number e.number s (λ n is. (processes_owned_law flags specs events n lawful (rises n is)).1 n (omega arith)))
