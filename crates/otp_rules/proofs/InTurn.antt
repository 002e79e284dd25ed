-- The law of the stop order, along every history.
use Rattle.std.specs.Prelude.{◌≡◌, ◌⊎◌, ℕ, ◌==◌, ◌+◌, ◌≤◌, ◌<◌, ◌++◌, ◌&&◌, Bool, true, false, List, [], ◌∷◌, Option, None, Some, All, refl, position, is_some, slice_get, slice_set, nat_le, nat_lt, length, max, reverse, unwrap_or, count_by}
use Rattle.std.specs.List.{list_any, filter_map, cons_option}
use Rattle.std.proofs.Common.{◌∙◌, ap, sym, subst, inl, inr, arith, ⊎_elim, cond, get_or}
use Rattle.std.proofs.lemmas.Bool.{cond_both, false≢true, cases_Bool, and_from, and_parts, eq-eqb, eqb-true, leb-true, ltb-true, ltb-false}
use Rattle.std.proofs.lemmas.List.Elements.{All-nil, All-push, All-cons, All-append}
use Rattle.std.proofs.lemmas.List.{append_assoc, reverse-append, reverse-reverse}
use Rattle.otp_reason.specs.declared.name.Name.{Name}
use Rattle.otp_spec.specs.declared.child.Shutdown.{Shutdown}
use Rattle.otp_spec.specs.declared.child.Shutdown.TheVariants.{BrutalKill, Milliseconds, Infinity}
use Rattle.otp_table.specs.declared.row.Row.{Row}
use Rattle.otp_table.specs.declared.row.RowState.{RowState}
use Rattle.otp_table.specs.declared.row.RowState.TheVariants.{Undefined, Starting, Up, Asked, Killed, Restarting}
use Rattle.otp_table.specs.Rows.{has_process, is_awaited, row_has, with_state}
use Rattle.otp_rules.specs.declared.call.Reply.{Reply}
use Rattle.otp_rules.specs.declared.ending.Ending.{Ending}
use Rattle.otp_rules.specs.declared.event.Effect.{Effect}
use Rattle.otp_rules.specs.declared.event.Event.{Event}
use Rattle.otp_rules.specs.declared.event.Kind.{Kind}
use Rattle.otp_rules.specs.declared.event.Waiting.{Waiting}
use Rattle.otp_rules.specs.declared.work.Due.{Due}
use Rattle.otp_rules.specs.declared.work.Sequel.{Sequel}
use Rattle.otp_spec.specs.Flags.{is_simple}
use Rattle.otp_rules.specs.State.{Outcome, State, answer, emit, with_stamps, with_work}
use Rattle.otp_rules.specs.Places.{at_row, at_number, end_row, set_row}
use Rattle.otp_rules.specs.Restarts.{dues}
use Rattle.otp_rules.specs.Stops.{is_exit, without, told, stop_order, tell_row, tell, use_exit, terminate_ordered, terminate_together, terminate}
use Rattle.otp_rules.specs.Starts.{is_due, start_row, start}
use Rattle.otp_rules.specs.Work.{follow, start_first, stop_first, advance}
use Rattle.otp_rules.specs.Deaths.{restart_rows, restart}
use Rattle.otp_rules.specs.Step.{kill_order, late_number, open_with, open_rows, tick, decide, stamped, step, step_on}
use Rattle.otp_rules.specs.Run.{empty_state, state_after}
use Rattle.otp_rules.specs.Progress.{Progress, no_progress, is_end, is_opened, ends_together, decided, went_on, seen, gave, progress, processes, IsIn}
use Rattle.otp_rules.specs.Fit.{is_told, rows_in, times, runs_as, IsSound, HasWaiting, HasStops, HasPart, Keeps, IsListed}
use Rattle.otp_rules.proofs.Walks.{advance-by, restart-by, stop_first-by, with_stops}
use Rattle.otp_rules.proofs.Decisions.{IsIdle, Survives, at_row-survives, by_test, decide-survives}
use Rattle.otp_rules.proofs.Counting.{times-cons, times-append, rows_in-set, rows_in-at, Alike, end_row-alike, use_exit-alike, told-told, times-reverse, none_in, there, at_row-found, end_row-quiet, use_exit-quiet, without_count, rows_in-le}
use Rattle.otp_rules.specs.Order.{StopsInTurn, IsToldTogether, IsStopInTurn, StopOrder, StopOrderFromEmpty}
use Rattle.otp_rules.proofs.Sound.{IsReady, advance-sound, empty-sound, used-ready}
use Rattle.otp_rules.proofs.Stopping.{Carried, apart-alike, carried-survives, not_busy}
use Rattle.otp_rules.proofs.WhileOpen.{fails_opening, no_after, opens_none}
use Rattle.otp_rules.proofs.Opened.{stands_at, together, together-follows}
use Rattle.otp_rules.proofs.Taken.{decided-keeps, started-carried}
use Rattle.otp_rules.specs.declared.ending.SupEnd.{SupEnd}
use Rattle.otp_rules.specs.Ends.{sup_end_of, refusal, refuse_all, end_all}
use Rattle.otp_rules.specs.declared.ending.Ending.TheVariants as ending
use Rattle.otp_rules.specs.declared.event.Effect.TheVariants as effect
use Rattle.otp_rules.specs.declared.event.Item.TheVariants as item
use Rattle.otp_rules.specs.declared.event.Kind.TheVariants as kind
use Rattle.otp_rules.specs.declared.event.Waiting.TheVariants as waiting
use Rattle.otp_rules.specs.declared.work.Sequel.TheVariants as sequel

-- orders of a kind that replies, Ready and End are of
abbrev pub TakesReplies : (Effect → Type 0) → Type 0
TakesReplies Q = ((c : ℕ) → Q (effect.Reply c)) × Q effect.Ready × ((x : SupEnd) → Q (effect.End x))

refusals : (Q : Effect → Type 0) → TakesReplies Q → (ws : List Waiting) → All Q (filter_map refusal ws)
refusals Q t [] = All-nil Q
refusals Q t (waiting.Item (item.Note x) ∷ ws) = refusals Q t ws
refusals Q t (waiting.Item (item.Call c x) ∷ ws) = All-cons Q (effect.Reply c) (filter_map refusal ws) (t.0 c) (refusals Q t ws)
refusals Q t (waiting.Retry k ∷ ws) = refusals Q t ws

pub follow-orders : (Q : Effect → Type 0) → TakesReplies Q → (f : Option Sequel) (o : Outcome) → All Q o.orders → All Q (follow f o).orders
unfolding follow end_all refuse_all answer
follow-orders Q t None o h = h
follow-orders Q t (Some sequel.Ready) o h = All-push Q o.orders effect.Ready h t.1
follow-orders Q t (Some sequel.Nothing) o h = h
follow-orders Q t (Some (sequel.Added c)) o h = All-push Q o.orders (effect.Reply c) h (t.0 c)
follow-orders Q t (Some (sequel.Restarted c)) o h = All-push Q o.orders (effect.Reply c) h (t.0 c)
follow-orders Q t (Some (sequel.Stopped c)) o h = All-push Q o.orders (effect.Reply c) h (t.0 c)
follow-orders Q t (Some (sequel.End e)) o h =
    All-push Q (o.orders ++ filter_map refusal o.state.waiting) (effect.End (sup_end_of o.state.flags o.state.stamps e))
    (All-append Q o.orders (filter_map refusal o.state.waiting) h (refusals Q t o.state.waiting)) (t.2 (sup_end_of o.state.flags o.state.stamps e))

pub follow-closes : (f : Option Sequel) (o : Outcome) → o.state.follows ≡ f → is_some (follow f o).state.follows ≡ false
unfolding follow end_all refuse_all answer
follow-closes None o is = ap (λ (x : Option Sequel). is_some x) is
follow-closes (Some sequel.Ready) o is = refl
follow-closes (Some sequel.Nothing) o is = refl
follow-closes (Some (sequel.Added c)) o is = refl
follow-closes (Some (sequel.Restarted c)) o is = refl
follow-closes (Some (sequel.Stopped c)) o is = refl
follow-closes (Some (sequel.End e)) o is = refl

-- orders that the open work may give: a stop in its turn, and each start, reply, Ready and End
abbrev Allows : Progress → (Effect → Type 0) → Type 0
Allows g Q = TakesReplies Q × ((id : Option Name) (n : ℕ) → Q (effect.Start id n)) × ((p : ℕ) (id : Option Name) (s : Shutdown) → StopsInTurn g p → Q (stop_order id p s))

-- the work is in step, and its orders are such
abbrev InTurn : Progress → (Effect → Type 0) → Outcome → Type 0
InTurn g Q o = Keeps o.state g × All Q o.orders

-- what has been popped from the stop list has ended
abbrev pub IsDone : Progress → List ℕ → Type 0
IsDone g ps = IsListed g × (done : List ℕ) × (g.opened.to_stop ≡ done ++ ps) × ((q : ℕ) → IsIn q done → IsIn q g.ended)

abbrev pub HasDone : Progress → List ℕ → Outcome → Type 0
HasDone g ps o = ends_together o.state ≡ false → IsDone g ps

done-part : (g : Progress) (ps : List ℕ) (s : State) → s.to_stop ≡ ps → IsDone g ps → HasPart s g
done-part g ps s is d = (d.0, d.1, d.2 ∙ ap (λ (xs : List ℕ). d.1 ++ xs) (sym is), λ q i. inl (d.3 q i))

ordered-in-turn : (g : Progress) (Q : Effect → Type 0) → Allows g Q → (due : Due) (dues : List Due) (n : ℕ) (o : Outcome) → IsReady [] o → HasWaiting o.state g → HasDone g [] o → All Q o.orders → InTurn g Q (start due n (with_work o.state.to_stop dues o.state.follows o))
unfolding start start_row
ordered-in-turn g Q may due dues n o r w d all =
    let left : Outcome = with_work o.state.to_stop dues o.state.follows o in
    let emitted : (x : Outcome) → InTurn g Q x → InTurn g Q (emit (effect.Start due.id n) x) = λ x h. (h.0, All-push Q x.orders (effect.Start due.id n) h.1 (may.1 due.id n)) in
    emitted (at_row (is_due due) left (start_row due n) left)
    (at_row-survives (InTurn g Q) (is_due due) left (start_row due n) left
    (λ busy. (w, λ apart. done-part g [] left.state r.2 (d apart)), all)
    (λ busy. (w, λ apart. done-part g [] left.state r.2 (d apart)), all)
    (λ i row at h. (λ busy. (w, λ apart. done-part g [] (start_row due n i row left).state r.2 (d apart)), all)))

start_first-in-turn : (g : Progress) (Q : Effect → Type 0) → Allows g Q → (dues : List Due) (n : ℕ) (o : Outcome) → IsReady [] o → HasWaiting o.state g → HasDone g [] o → All Q o.orders → InTurn g Q (start_first dues n o)
unfolding start_first
start_first-in-turn g Q may [] n o r w d all =
    (not_busy (follow o.state.follows o).state g (follow-closes o.state.follows o refl), follow-orders Q may.0 o.state.follows o all)
start_first-in-turn g Q may (due ∷ dues) n o r w d all = ordered-in-turn g Q may due dues n o r w d all

-- one more has been popped
in_longer : (q p : ℕ) (done : List ℕ) → IsIn q (done ++ p ∷ []) → IsIn q done ⊎ (p ≡ q)
in_longer q p done h =
    ⊎_elim
    (λ same. inr (eqb-true p q same))
    (λ other. inl (let z : ◌≡◌ {A = ℕ} (cond (p == q) 1 0) 0 = ap (λ (x : Bool). cond x 1 0) other in omega (arith, h, z, times-append q done (p ∷ []), times-cons q p [])))
    (cases_Bool (p == q))

-- what stands in the list of all, if the stop list is that of a part of them in reverse order
around : (p : ℕ) (before one two after_it : List ℕ) → (before ++ ((one ++ p ∷ []) ++ two)) ++ after_it ≡ (before ++ one) ++ p ∷ (two ++ after_it)
around p [] [] two after_it = refl
around p [] (x ∷ one) two after_it = ap (λ (ps : List ℕ). x ∷ ps) (around p [] one two after_it)
around p (x ∷ before) one two after_it = ap (λ (ps : List ℕ). x ∷ ps) (around p before one two after_it)

-- the next of the stop list is in its turn
in_turn : (g : Progress) (p : ℕ) (ps : List ℕ) → IsDone g (p ∷ ps) → StopsInTurn g p
in_turn g p ps d =
    let listed : IsListed g = d.0 in
    let part : List Row = listed.0 in
    let done : List ℕ = d.1 in
    let earlier : List ℕ = listed.2 in
    let later : List ℕ = listed.3 in
    let turned : reverse (processes part) ≡ done ++ p ∷ ps = sym listed.6 ∙ d.2 in
    let as_listed : processes part ≡ (reverse ps ++ p ∷ []) ++ reverse done =
    sym (reverse-reverse (processes part)) ∙ ap (λ (xs : List ℕ). reverse xs) turned ∙ reverse-append done (p ∷ ps) ∙ ap (λ (xs : List ℕ). xs ++ reverse done) (reverse-append (p ∷ []) ps) in
    let count : (q : ℕ) → times q (processes part) ≡ times q done + (cond (p == q) 1 0 + times q ps) = λ q.
    sym (times-reverse q (processes part)) ∙ ap (λ (xs : List ℕ). times q xs) turned ∙ times-append q done (p ∷ ps) ∙ ap (λ (n : ℕ). times q done + n) (times-cons q p ps) in
    let one : ◌≡◌ {A = ℕ} (cond (p == p) 1 0) 1 = ap (λ (x : Bool). cond x 1 0) (eq-eqb p p refl) in (
      part,
      listed.1,
      omega (arith, count p, one),
      earlier ++ reverse ps,
      reverse done ++ later,
      listed.4 ∙ ap (λ (xs : List ℕ). (earlier ++ xs) ++ later) as_listed ∙ around p earlier (reverse ps) (reverse done) later,
      λ q h k.
          ⊎_elim
          (λ before. d.3 q (ltb-true 0 (times q done) before))
          (λ none. absurd (
          let zero : times q done ≤ 0 = ltb-false 0 (times q done) none in
          listed.5 q (omega (arith, h, zero, times-append q (reverse done) later, times-reverse q done)) k))
          (cases_Bool (nat_lt 0 (times q done))),
    )

longer : (g : Progress) (p : ℕ) (ps done : List ℕ) → g.opened.to_stop ≡ done ++ p ∷ ps → g.opened.to_stop ≡ (done ++ p ∷ []) ++ ps
longer g p ps done is = is ∙ sym (append_assoc done (p ∷ []) ps)

-- a process that is to be stopped is found
pub stands : (p : ℕ) (ps : List ℕ) (o : Outcome) → IsReady (p ∷ ps) o → 0 < count_by (row_has (has_process p)) o.state.rows
stands p ps o r =
    let t : times p o.state.to_stop ≡ times p (p ∷ ps) = ap (λ (xs : List ℕ). times p xs) r.2 in
    let one : ◌≡◌ {A = ℕ} (cond (p == p) 1 0) 1 = ap (λ (x : Bool). cond x 1 0) (eq-eqb p p refl) in
    let more : rows_in (runs_as p) o.state.rows ≤ rows_in (has_process p) o.state.rows =
    rows_in-le (runs_as p) (has_process p) runs_has o.state.rows in
    omega (arith, times-cons p p ps, t, one, r.0.1 p, more)
  where
    runs_has : (state : RowState) → cond (runs_as p state) 1 0 ≤ cond (has_process p state) 1 0
    runs_has Undefined = omega arith
    runs_has (Starting _ _) = omega arith
    runs_has (Up _) = omega arith
    runs_has (Asked _ _) = omega arith
    runs_has (Killed _) = omega arith
    runs_has (Restarting _) = omega arith

told-in-turn : (g : Progress) (Q : Effect → Type 0) → Allows g Q → (p : ℕ) (ps : List ℕ) (o : Outcome) → IsReady (p ∷ ps) o → HasWaiting o.state g → HasDone g (p ∷ ps) o → All Q o.orders → InTurn g Q (tell p (with_work ps o.state.to_start o.state.follows o))
unfolding tell tell_row at_number
told-in-turn g Q may p ps o r w d all =
    let left : Outcome = with_work ps o.state.to_start o.state.follows o in
    let apart : ends_together o.state ≡ false =
    ⊎_elim (λ yes. absurd (let k : p ∷ ps ≡ [] = sym r.2 ∙ r.0.5 yes in cc)) (λ no. no) (cases_Bool (ends_together o.state)) in
    let part : IsDone g (p ∷ ps) = d apart in
    at_row-found (InTurn g Q) (row_has (has_process p)) left (tell_row p) left (stands p ps o r)
    (λ i row at h.
    let now : RowState = told o.state.last p row.spec.shutdown in
    let e : rows_in (is_told p) (slice_set o.state.rows i (with_state now row)) + cond (is_told p row.state) 1 0 ≡ rows_in (is_told p) o.state.rows + cond (is_told p now) 1 0 = rows_in-set (is_told p) i row now o.state.rows at in
    let one : ◌≡◌ {A = ℕ} (cond (is_told p now) 1 0) 1 = ap (λ (x : Bool). cond x 1 0) (told-told o.state.last p row.spec.shutdown) in
    let here : 0 < rows_in (is_told p) (slice_set o.state.rows i (with_state now row)) = omega (arith, e, one, rows_in-at (is_told p) i row o.state.rows at) in (
      λ busy. (
        w,
        λ _. (
          part.0,
          part.1 ++ p ∷ [],
          longer g p ps part.1 part.2,
          λ q j.
              ⊎_elim (λ x. inl (part.3 q x)) (λ same. inr (subst (λ (n : ℕ). 0 < rows_in (is_told n) (slice_set o.state.rows i (with_state now row))) same here)) (in_longer q p part.1 j),
        ),
      ),
      All-push Q o.orders (stop_order row.id p row.spec.shutdown) all (may.2 p row.id row.spec.shutdown (in_turn g p ps part)),
    ))

-- an Exit that waited is used
pub used-waits : (g : Progress) (p : ℕ) (ps : List ℕ) (o : Outcome) → HasWaiting o.state g → HasWaiting (use_exit p (position (is_exit p) o.state.waiting) (with_work ps o.state.to_start o.state.follows o)).state g
used-waits g p ps o w q h =
    let left : Outcome = with_work ps o.state.to_start o.state.follows o in
    let place : Option ℕ = position (is_exit p) o.state.waiting in
    let less : count_by (is_exit q) (without o.state.waiting place) ≤ count_by (is_exit q) o.state.waiting = without_count q (is_exit p) o.state.waiting in
    let here : count_by (is_exit q) (use_exit p place left).state.waiting ≡ count_by (is_exit q) (without o.state.waiting place) = ap (λ (ws : List Waiting). count_by (is_exit q) ws) (use_exit-quiet p place left).0 in
    w q (omega (arith, h, less, here))

pub used-done : (g : Progress) (p : ℕ) (ps : List ℕ) (place : Option ℕ) (o : Outcome) → IsIn p g.ended → HasDone g (p ∷ ps) o → HasDone g ps (use_exit p place (with_work ps o.state.to_start o.state.follows o))
used-done g p ps place o ended d apart =
    let left : Outcome = with_work ps o.state.to_start o.state.follows o in
    let part : IsDone g (p ∷ ps) = d (sym (apart-alike (use_exit p place left) left (use_exit-alike p place left)) ∙ apart) in
    (part.0, part.1 ++ p ∷ [], longer g p ps part.1 part.2, λ q i. ⊎_elim (λ x. part.3 q x) (λ same. subst (λ (m : ℕ). IsIn m g.ended) same ended) (in_longer q p part.1 i))

stop_first-in-turn : (g : Progress) (Q : Effect → Type 0) → Allows g Q → (ps : List ℕ) (n : ℕ) (o : Outcome) → IsReady ps o → HasWaiting o.state g → HasDone g ps o → All Q o.orders → InTurn g Q (stop_first ps n o)
stop_first-in-turn g Q may ps n o r w d all =
    stop_first-by (λ qs x. IsReady qs x × HasWaiting x.state g × HasDone g qs x × All Q x.orders) (InTurn g Q) n (λ x h. start_first-in-turn g Q may x.state.to_start n x h.0 h.1 h.2 h.3)
    (λ p rest x waits h.
    let place : Option ℕ = position (is_exit p) x.state.waiting in (
      used-ready p rest place x h.0,
      used-waits g p rest x h.1,
      used-done g p rest place x (h.1 p (there (is_exit p) x.state.waiting (waiting.Retry 0) waits)) h.2,
      subst (λ (xs : List Effect). All Q xs) (sym (use_exit-quiet p place (with_stops rest x)).1) h.3,
    ))
    (λ p rest x _ h. told-in-turn g Q may p rest x h.0 h.1 h.2 h.3) ps o (r, w, d, all)

-- where nothing is awaited, those that were told have ended
pub none_told : (q : ℕ) (rows : List Row) → rows_in is_awaited rows ≡ 0 → 0 < rows_in (is_told q) rows → ⊥
none_told q rows none some =
    omega (arith, none, some, rows_in-le (is_told q) is_awaited told_awaits rows)
  where
    told_awaits : (state : RowState) → cond (is_told q state) 1 0 ≤ cond (is_awaited state) 1 0
    told_awaits Undefined = omega arith
    told_awaits (Starting _ _) = omega arith
    told_awaits (Up _) = omega arith
    told_awaits (Asked x _) = cond_both (x == q) 1 0 (λ n. n ≤ 1) (λ _. omega arith) (λ _. omega arith)
    told_awaits (Killed x) = cond_both (x == q) 1 0 (λ n. n ≤ 1) (λ _. omega arith) (λ _. omega arith)
    told_awaits (Restarting _) = omega arith

pub all-done : (s : State) (g : Progress) → rows_in is_awaited s.rows ≡ 0 → HasPart s g → IsDone g s.to_stop
all-done s g none part = (part.0, part.1, part.2, λ q i. ⊎_elim (λ x. x) (λ x. absurd (none_told q s.rows none x)) (part.3 q i))

advance-in-turn : (g : Progress) (Q : Effect → Type 0) (n : ℕ) (o : Outcome) → (list_any (row_has is_awaited) o.state.rows ≡ false → Allows g Q) → IsSound o.state → Keeps o.state g → All Q o.orders → InTurn g Q (advance n o)
advance-in-turn g Q n o may sound keeps all =
    advance-by (InTurn g Q) n o (λ _. (keeps, all)) (λ busy none.
    let zero : rows_in is_awaited o.state.rows ≡ 0 = none_in is_awaited o.state.rows none in
    let had : HasWaiting o.state g × HasStops o.state g = keeps busy in
    stop_first-in-turn g Q (may none) o.state.to_stop n o (sound, zero, refl, busy) had.0 (λ apart. all-done o.state g zero (had.1 apart)) all)

-- the order tells no child to stop
abbrev NoStop : Effect → Type 0
NoStop (effect.Ask _ _) = ⊥
NoStop (effect.Kill _ _) = ⊥
NoStop _ = Unit {0}

-- dynamic children end together, in this event
abbrev together_now : Option Sequel → State → Bool
together_now f s = ends_together s && is_opened f s.follows

-- the decision itself tells no child to stop, but at a deadline and where dynamic children end together
abbrev QuietIn : Kind → Option Sequel → Outcome → Type 0
QuietIn k f o = (k ≡ kind.Ticked → ⊥) → together_now f o.state ≡ false → All NoStop o.orders

-- the same where nobody is told together
abbrev Calm : Kind → Outcome → Type 0
Calm k o = (k ≡ kind.Ticked → ⊥) → All NoStop o.orders

answer-quiet : (k : Kind) (f : Option Sequel) (c : ℕ) (r : Reply) (o : Outcome) → QuietIn k f o → QuietIn k f (answer c r o)
unfolding answer
answer-quiet k f c r o h other apart = All-push NoStop o.orders (effect.Reply c) (h other apart) tt

now_apart : (f : Option Sequel) (s : State) → ends_together s ≡ false → together_now f s ≡ false
now_apart f s apart = ap (λ (x : Bool). x && is_opened f s.follows) apart

follows_apart : (f : Option Sequel) (o : Outcome) (x : Option Sequel) → is_end x ≡ false → o.state.follows ≡ x → together_now f o.state ≡ false
follows_apart f o x other is =
    now_apart f o.state (ap (λ (y : Option Sequel). is_end y && is_simple o.state.flags.strategy) is ∙ ap (λ (y : Bool). y && is_simple o.state.flags.strategy) other)

idle_apart : (b : Bool) (f : Option Sequel) (o : Outcome) → IsIdle b o → together_now f o.state ≡ false
idle_apart b f o idle = follows_apart f o None refl (no_after o.state.follows idle.1)

end_row-quiet-in : (k : Kind) (f : Option Sequel) (place : ℕ) (row : Row) (o : Outcome) → QuietIn k f o → QuietIn k f (end_row place row o)
end_row-quiet-in k f place row o h other apart =
    let same : Alike (end_row place row o) o = end_row-alike place row o in
    subst (λ (xs : List Effect). All NoStop xs) (sym (end_row-quiet place row o).1)
    (h other (sym (ap (λ (b : Bool). b && is_opened f (end_row place row o).state.follows) (apart-alike (end_row place row o) o same) ∙ ap (λ (y : Option Sequel). ends_together o.state && is_opened f y) same.4) ∙ apart))

terminate-quiet : (k : Kind) (f : Option Sequel) (e : Ending) (o : Outcome) → is_opened f (Some (sequel.End e)) ≡ true → Calm k o → QuietIn k f (terminate e o)
unfolding terminate terminate_ordered
terminate-quiet k f e o opened h =
    by_test (QuietIn k f) (is_simple o.state.flags.strategy) (terminate_together e o) (terminate_ordered e o)
    (λ simple other apart. absurd (false≢true (sym apart ∙ and_from (ends_together (terminate_together e o).state) (is_opened f (terminate_together e o).state.follows) (together e o simple) (ap (λ (x : Option Sequel). is_opened f x) (together-follows e o) ∙ opened))))
    (λ plain other apart. h other)

restart-quiet : (k : Kind) (f : Option Sequel) (p place : ℕ) (row : Row) (o : Outcome) → is_opened f (Some (sequel.End ending.Intensity)) ≡ true → Calm k o → QuietIn k f (restart p place row o)
unfolding restart_rows
restart-quiet k f p place row o opened h =
    let counted : Outcome = with_stamps (o.state.stamps ++ o.state.last ∷ []) (set_row place row Undefined o) in
    restart-by (QuietIn k f) p place row o
    (λ _. terminate-quiet k f ending.Intensity counted opened h)
    (λ _ other apart. h other)

open-quiet : (k : Kind) (f : Option Sequel) (own : ℕ) (o : Outcome) → Calm k o → QuietIn k f (open_rows own o)
unfolding open_rows open_with
open-quiet k f own o h other apart = h other

quiet-survives : (k : Kind) (b : Bool) (f : Option Sequel) (g : Progress) → b ≡ is_some f → Survives k b (λ o. Carried f (went_on k g) o × QuietIn k f o)
quiet-survives k b f g is_base =
    let s : Survives k b (Carried f (went_on k g)) = carried-survives k b f g is_base in
    let ends_now : (e : Ending) → b ≡ false → is_opened f (Some (sequel.End e)) ≡ true = λ e idle. opens_none f b (Some (sequel.End e)) is_base idle refl in
    record {
      answered = λ c r o x. (s.answered c r o x.0, answer-quiet k f c r o x.1);
      taken = λ w ws o idle runs is x. (s.taken w ws o idle runs is x.0, x.1);
      call_waits = λ c call o x. (s.call_waits c call o x.0, x.1);
      exit_waits = λ p r o noted x. (s.exit_waits p r o noted x.0, x.1);
      up = λ p place row q kept o at is same noted x. (s.up p place row q kept o at is same noted x.0, x.1);
      up_closed = λ p place row q kept c o at is same follows x.
          (s.up_closed p place row q kept c o at is same follows x.0, λ other _. x.1 other (⊎_elim (λ y. follows_apart f o (Some (sequel.Added c)) refl y) (λ y. follows_apart f o (Some (sequel.Restarted c)) refl y) follows));
      ignored = λ p place row q kept o at is same noted x. (s.ignored p place row q kept o at is same noted x.0, end_row-quiet-in k f place row o x.1);
      opening_failed = λ place row q kept o runs at is follows x. (
        s.opening_failed place row q kept o runs at is follows x.0,
        terminate-quiet k f (ending.InitFailed row.spec.id) (set_row place row Undefined o) (fails_opening f (ending.InitFailed row.spec.id) o.state x.0.1 follows) (λ other. x.1 other (follows_apart f o (Some sequel.Ready) refl follows)),
      );
      restart_failed = λ place row q kept o at is follows x. (s.restart_failed place row q kept o at is follows x.0, λ other _. x.1 other (follows_apart f o (Some sequel.Nothing) refl follows));
      added_failed = λ place row q kept c o at is follows x. (s.added_failed place row q kept c o at is follows x.0, λ other _. x.1 other (follows_apart f o (Some (sequel.Added c)) refl follows));
      restarted_failed = λ place row q kept c o at is follows x. (s.restarted_failed place row q kept c o at is follows x.0, λ other _. x.1 other (follows_apart f o (Some (sequel.Restarted c)) refl follows));
      stopped = λ p r place row o at h noted x. (s.stopped p r place row o at h noted x.0, end_row-quiet-in k f place row o x.1);
      died = λ p place row o idle runs at is x. (s.died p place row o idle runs at is x.0, end_row-quiet-in k f place row o x.1);
      restarts = λ p place row o idle runs at h x.
          (s.restarts p place row o idle runs at h x.0, restart-quiet k f p place row o (ends_now ending.Intensity idle.0) (λ other. x.1 other (idle_apart b f o idle)));
      ends = λ e o other idle runs x. (s.ends e o other idle runs x.0, terminate-quiet k f e o (ends_now e idle.0) (λ not_ticked. x.1 not_ticked (idle_apart b f o idle)));
      ticks = λ o is x. (s.ticks o is x.0, λ other _. absurd (other is));
      opens = λ own o is link over x. (s.opens own o is link over x.0, open-quiet k f own o (λ other. x.1 other (follows_apart f o None refl (no_after o.state.follows (x.0.0.3 over)))));
      adds = λ c id spec o idle runs named x. (s.adds c id spec o idle runs named x.0, λ other _. x.1 other (idle_apart b f o idle));
      starts_again = λ c id place row o idle runs at h is x. (s.starts_again c id place row o idle runs at h is x.0, λ other _. x.1 other (idle_apart b f o idle));
      removed = λ place row o idle runs at h x. (s.removed place row o idle runs at h x.0, x.1);
      given_up = λ place row o idle runs at h x. (s.given_up place row o idle runs at h x.0, x.1);
      stops_child = λ c p place row o idle runs at h x. (s.stops_child c p place row o idle runs at h x.0, λ other _. x.1 other (idle_apart b f o idle));
    }

-- one event: the work stays in step, whatever it is
pub step-keeps : (s : State) (e : Event) (g : Progress) → IsSound s → Keeps s g → IsSound (step s e).state × Keeps (step s e).state (gave (step s e).orders (seen s e g))
unfolding step step_on
step-keeps s e g sound keeps =
    let after_it : IsSound (decided s e) × Keeps (decided s e) (seen s e g) = decided-keeps s e g sound keeps in
    let o : Outcome = decide e.kind (record { state = stamped e.reading s; orders = [] }) in
    let any : Effect → Type 0 = λ _. Unit {0} in
    (advance-sound (unwrap_or e.number 0) o after_it.0, (advance-in-turn (seen s e g) any (unwrap_or e.number 0) o (λ _. ((λ c. tt, tt, λ x. tt), λ id n. tt, λ p id x t. tt)) after_it.0 after_it.1 (λ i d within. tt)).0)

-- an order that tells nobody, and one that tells dynamic children together
told_nobody : (s : State) (e : Event) (g : Progress) (x : Effect) → NoStop x → IsStopInTurn s e g x
told_nobody s e g (effect.Start _ _) h = tt
told_nobody s e g (effect.Ask _ _) h = absurd h
told_nobody s e g (effect.Kill _ _) h = absurd h
told_nobody s e g (effect.Reply _) h = tt
told_nobody s e g effect.Ready h = tt
told_nobody s e g (effect.End _) h = tt

told_together : (s : State) (e : Event) (g : Progress) (x : Effect) → IsToldTogether s e → IsStopInTurn s e g x
told_together s e g (effect.Start _ _) h = tt
told_together s e g (effect.Ask _ _) h = inr h
told_together s e g (effect.Kill _ _) h = inr (inl h)
told_together s e g (effect.Reply _) h = tt
told_together s e g effect.Ready h = tt
told_together s e g (effect.End _) h = tt

-- the kills of an event that ticks
late-row : (s : State) (e : Event) (g : Progress) → e.kind ≡ kind.Ticked → (place : ℕ) (row : Row) → slice_get s.rows place ≡ Some row → (state : RowState) → row.state ≡ state → (rest : List Effect) → All (IsStopInTurn s e g) rest
    → All (IsStopInTurn s e g) (cons_option (kill_order row (late_number (max e.reading s.last) state)) rest)
late-row s e g ticks place row at Undefined is rest h = h
late-row s e g ticks place row at (Starting _ _) is rest h = h
late-row s e g ticks place row at (Up _) is rest h = h
late-row s e g ticks place row at (Asked p None) is rest h = h
late-row s e g ticks place row at (Asked p (Some deadline)) is rest h =
    cond_both (nat_le deadline (max e.reading s.last)) (Some p) None (λ (x : Option ℕ). All (IsStopInTurn s e g) (cons_option (kill_order row x) rest))
    (λ late. All-cons (IsStopInTurn s e g) (effect.Kill row.id p) rest (inr (inr (ticks, place, row, deadline, at, is, leb-true deadline (max e.reading s.last) late))) h)
    (λ _. h)
late-row s e g ticks place row at (Killed _) is rest h = h
late-row s e g ticks place row at (Restarting _) is rest h = h

late-rows : (s : State) (e : Event) (g : Progress) → e.kind ≡ kind.Ticked → (front rows : List Row) → s.rows ≡ front ++ rows → All (IsStopInTurn s e g) (filter_map (λ row. kill_order row (late_number (max e.reading s.last) row.state)) rows)
late-rows s e g ticks front [] is = All-nil (IsStopInTurn s e g)
late-rows s e g ticks front (row ∷ rows) is =
    late-row s e g ticks (length front) row (ap (λ (xs : List Row). slice_get xs (length front)) is ∙ stands_at front row rows) row.state refl
    (filter_map (λ row. kill_order row (late_number (max e.reading s.last) row.state)) rows)
    (late-rows s e g ticks (front ++ row ∷ []) rows (is ∙ sym (append_assoc front (row ∷ []) rows)))

ticked-in-turn : (s : State) (e : Event) (g : Progress) → e.kind ≡ kind.Ticked → All (IsStopInTurn s e g) (tick (record { state = stamped e.reading s; orders = [] })).orders
unfolding tick
ticked-in-turn s e g ticks = late-rows s e g ticks [] s.rows refl

is_tick : (k : Kind) → (k ≡ kind.Ticked) ⊎ (k ≡ kind.Ticked → ⊥)
is_tick (kind.Opened _) = inr (λ h. cc)
is_tick (kind.Took _) = inr (λ h. cc)
is_tick kind.Resumed = inr (λ h. cc)
is_tick kind.Ticked = inl refl
is_tick kind.Stopped = inr (λ h. cc)

tick_orders : (k : Kind) (o : Outcome) → k ≡ kind.Ticked → (tick o).orders ≡ (decide k o).orders
unfolding decide
tick_orders k o is = ap (λ (x : Kind). (decide x o).orders) (sym is)

decided-in-turn : (s : State) (e : Event) (g h : Progress) → IsSound s → Keeps s h → All (IsStopInTurn s e g) (decide e.kind (record { state = stamped e.reading s; orders = [] })).orders
decided-in-turn s e g h sound keeps =
    let start : Outcome = record { state = stamped e.reading s; orders = [] } in
    let orders : List Effect = (decide e.kind start).orders in
    ⊎_elim
    (λ ticks. subst (λ (xs : List Effect). All (IsStopInTurn s e g) xs) (tick_orders e.kind start ticks) (ticked-in-turn s e g ticks))
    (λ other.
    let quiet : Carried s.follows (went_on e.kind h) (decide e.kind start) × QuietIn e.kind s.follows (decide e.kind start) =
    decide-survives e.kind (λ o. Carried s.follows (went_on e.kind h) o × QuietIn e.kind s.follows o) start (quiet-survives e.kind (is_some s.follows) s.follows h refl) (started-carried s e h sound keeps, λ _ _. All-nil NoStop) in
    ⊎_elim
    (λ yes.
    let both : (ends_together (decided s e) ≡ true) × (is_opened s.follows (decided s e).follows ≡ true) = and_parts (ends_together (decided s e)) (is_opened s.follows (decided s e).follows) yes in
    λ i d within. told_together s e g (get_or orders i d) (both.1, both.0))
    (λ no i d within. told_nobody s e g (get_or orders i d) (quiet.1 other no i d within))
    (cases_Bool (together_now s.follows (decided s e))))
    (is_tick e.kind)

first_stop : (s : State) (e : Event) (g : Progress) (p : ℕ) (id : Option Name) (x : Shutdown) → list_any (row_has is_awaited) (decided s e).rows ≡ false → StopsInTurn g p → IsStopInTurn s e g (stop_order id p x)
first_stop s e g p id BrutalKill none turn = inl (none, turn)
first_stop s e g p id (Milliseconds _) none turn = inl (none, turn)
first_stop s e g p id Infinity none turn = inl (none, turn)

-- one event: each stop is in its turn
step-in-turn : (s : State) (e : Event) (g : Progress) → IsSound s → Keeps s g → All (IsStopInTurn s e (seen s e g)) (step s e).orders
unfolding step step_on
step-in-turn s e g sound keeps =
    let after_it : IsSound (decided s e) × Keeps (decided s e) (seen s e g) = decided-keeps s e g sound keeps in
    (advance-in-turn (seen s e g) (IsStopInTurn s e (seen s e g)) (unwrap_or e.number 0) (decide e.kind (record { state = stamped e.reading s; orders = [] }))
    (λ none. ((λ c. tt, tt, λ x. tt), λ id n. tt, λ p id x t. first_stop s e (seen s e g) p id x none t))
    after_it.0 after_it.1 (decided-in-turn s e (seen s e g) g sound keeps)).1

run-keeps : (s : State) (g : Progress) (es : List Event) → IsSound s → Keeps s g → IsSound (state_after s es) × Keeps (state_after s es) (progress s g es)
run-keeps s g [] sound keeps = (sound, keeps)
run-keeps s g (e ∷ es) sound keeps =
    let next : IsSound (step s e).state × Keeps (step s e).state (gave (step s e).orders (seen s e g)) = step-keeps s e g sound keeps in
    run-keeps (step s e).state (gave (step s e).orders (seen s e g)) es next.0 next.1

pub stop_order_law : StopOrder
stop_order_law s g step_in events e =
    let now : IsSound (state_after s events) × Keeps (state_after s events) (progress s g events) = run-keeps s g events step_in.0 step_in.1 in
    step-in-turn (state_after s events) e (progress s g events) now.0 now.1

pub stop_order_from_empty : StopOrderFromEmpty
stop_order_from_empty flags specs =
    let base : State = empty_state flags specs in
    stop_order_law base (no_progress base) (empty-sound flags specs, not_busy base (no_progress base) refl)
