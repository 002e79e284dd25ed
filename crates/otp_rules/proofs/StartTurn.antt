-- The law of the start order, along every lawful history.
use Rattle.std.specs.Prelude.{◌≡◌, ℕ, ◌==◌, ◌+◌, ◌≤◌, ◌<◌, ◌++◌, ◌&&◌, ◌||◌, Bool, true, false, List, [], ◌∷◌, Option, None, Some, All, refl, not, position, is_some, slice_set, nat_lt, remove, unwrap_or, map, reverse, AllPairs}
use Rattle.std.specs.List.{list_any, filter_map, cons_option}
use Rattle.std.proofs.Common.{◌∙◌, ap, sym, subst, inl, inr, arith, ⊎_elim, cond, get_or}
use Rattle.std.proofs.lemmas.Bool.{cond_both, false≢true, cases_Bool, and_parts, eq-eqb}
use Rattle.std.proofs.lemmas.List.Elements.{All-nil, All-push, All-head, All-tail, All-cons, filter_map-append}
use Rattle.std.proofs.lemmas.List.{get_or_append_left, length-append, append-nil, append_assoc, map-append}
use Rattle.otp_reason.specs.declared.name.Name.{Name}
use Rattle.otp_spec.specs.declared.child.Shutdown.{Shutdown}
use Rattle.otp_spec.specs.declared.child.Shutdown.TheVariants.{BrutalKill, Milliseconds, Infinity}
use Rattle.otp_spec.specs.declared.flags.SupFlags.{SupFlags}
use Rattle.otp_spec.specs.declared.child.ChildSpec.{ChildSpec}
use Rattle.otp_table.specs.declared.row.Row.{Row}
use Rattle.otp_table.specs.declared.row.RowState.{RowState}
use Rattle.otp_table.specs.declared.row.RowState.TheVariants.{Undefined, Starting, Up, Asked, Killed, Restarting}
use Rattle.otp_table.specs.Rows.{has_process, is_awaited, row_has, with_state}
use Rattle.otp_rules.specs.declared.event.Effect.{Effect}
use Rattle.otp_rules.specs.declared.event.Event.{Event}
use Rattle.otp_rules.specs.declared.work.Due.{Due}
use Rattle.otp_rules.specs.declared.work.Sequel.{Sequel}
use Rattle.otp_spec.specs.Flags.{is_simple}
use Rattle.otp_rules.specs.State.{Outcome, State, answer, emit, with_rows, with_waiting, with_work}
use Rattle.otp_rules.specs.Places.{at_number, end_row, end_process, is_removed, set_row}
use Rattle.otp_rules.specs.Stops.{is_exit, without, told, stop_order, tell_row, tell, use_exit}
use Rattle.otp_rules.specs.Starts.{is_due, start_row, start}
use Rattle.otp_rules.specs.Ends.{refuse_all, end_all}
use Rattle.otp_rules.specs.Work.{follow, start_first, stop_first, advance}
use Rattle.otp_rules.specs.Step.{decide, stamped, step, step_on}
use Rattle.otp_rules.specs.Run.{empty_state, state_after}
use Rattle.otp_rules.specs.Progress.{Ordered, Progress, no_progress, is_end, ends_together, id_bytes, processes, started, start_list, seen, gave, progress, IsIn}
use Rattle.otp_rules.specs.Fit.{rows_in, times, IsSound, HasWaiting, HasStops, Keeps, IsListed, IsDistinct, is_free, Fits, IsNamed, IsFitted, is_starting, IsUnderWay, HasStarts, KeepsStarts, next_number, IsFit, IsLawfulFrom, StaysFit}
use Rattle.otp_rules.proofs.States.{held_goes}
use Rattle.otp_rules.proofs.Walks.{advance-by, stop_first-by, used, with_stops}
use Rattle.otp_rules.proofs.Decisions.{StandsAt, by_test, decide-survives}
use Rattle.otp_rules.proofs.Counting.{rows_in-set, rows_in-at, Alike, end_row-alike, use_exit-alike, times-reverse, none_in, there, at_row-found, at_row-first, use_exit-quiet, rows_in-le}
use Rattle.otp_rules.specs.Order.{StartsInTurn, IsStartInTurn, StartOrder, StartOrderFromEmpty}
use Rattle.otp_rules.proofs.Sound.{IsReady, empty-sound, used-ready}
use Rattle.otp_rules.proofs.Stopping.{not_busy}
use Rattle.otp_rules.proofs.Taken.{decided-keeps}
use Rattle.otp_rules.specs.Needs.{IsNumbered, is_start, numbers_of}
use Rattle.otp_rules.proofs.NeedsWork.{decide-quiet}
use Rattle.otp_rules.proofs.Numbers.{use_exit-no_more, decided-distinct}
use Rattle.otp_rules.proofs.InTurn.{IsDone, HasDone, all-done, used-waits, used-done, TakesReplies, follow-orders, follow-closes, stands, step-keeps}
use Rattle.otp_rules.proofs.Fits.{fits-stop, fits-stop-remove, due_there, fits-start}
use Rattle.otp_rules.proofs.Fitted.{set-named, named-less, end-named, Stands, fitted-survives, empty-fitted}
use Rattle.otp_rules.proofs.Starting.{idle_keeps, decided-starts}
use Rattle.otp_rules.proofs.Lawful.{along}
use Rattle.otp_rules.specs.declared.event.Effect.TheVariants as effect
use Rattle.otp_rules.specs.declared.event.Waiting.TheVariants as waiting
use Rattle.otp_rules.specs.declared.work.Sequel.TheVariants as sequel

-- the order starts nobody
abbrev NoStart : Effect → Type 0
NoStart x = is_start x ≡ false

none_start : TakesReplies NoStart
none_start = (λ c. refl, refl, λ x. refl)

from_any : (xs : List Effect) → list_any is_start xs ≡ false → All NoStart xs
from_any [] h = All-nil NoStart
from_any (x ∷ xs) h =
    (elim (is_start x) as (λ b. is_start x ≡ b → (b || list_any is_start xs) ≡ false → All NoStart (x ∷ xs)) [
      | true ↦ λ e k. absurd (false≢true (sym k))
      | false ↦ λ e k. All-cons NoStart x xs e (from_any xs k)
    ]) refl h

in_turn_without : (g : Progress) (x : Effect) → is_start x ≡ false → IsStartInTurn g x
in_turn_without g (effect.Start _ _) h = absurd (false≢true (sym h))
in_turn_without g (effect.Ask _ _) h = tt
in_turn_without g (effect.Kill _ _) h = tt
in_turn_without g (effect.Reply _) h = tt
in_turn_without g effect.Ready h = tt
in_turn_without g (effect.End _) h = tt

all_in_turn : (g : Progress) (xs : List Effect) → All NoStart xs → All (IsStartInTurn g) xs
all_in_turn g xs h i d within = in_turn_without g (get_or xs i d) (h i d within)

started_none : (x : Effect) (rest : List Ordered) → is_start x ≡ false → cons_option (started x) rest ≡ rest
started_none (effect.Start _ _) rest h = absurd (false≢true (sym h))
started_none (effect.Ask _ _) rest h = refl
started_none (effect.Kill _ _) rest h = refl
started_none (effect.Reply _) rest h = refl
started_none effect.Ready rest h = refl
started_none (effect.End _) rest h = refl

nobody_started : (xs : List Effect) → All NoStart xs → filter_map started xs ≡ []
nobody_started [] h = refl
nobody_started (x ∷ xs) h = started_none x (filter_map started xs) (All-head NoStart x xs h) ∙ nobody_started xs (All-tail NoStart x xs h)

gave_nothing : (xs : List Effect) (g : Progress) → All NoStart xs → gave xs g ≡ g
gave_nothing xs g h = ap (λ (os : List Ordered). record g { ordered = os }) (ap (λ (os : List Ordered). g.ordered ++ os) (nobody_started xs h) ∙ append-nil g.ordered)

stop_order-none : (id : Option Name) (p : ℕ) (s : Shutdown) → is_start (stop_order id p s) ≡ false
stop_order-none id p BrutalKill = refl
stop_order-none id p (Milliseconds _) = refl
stop_order-none id p Infinity = refl

-- what holds after the work went on
abbrev Gone : Progress → Outcome → Type 0
Gone g x = KeepsStarts x.state (gave x.orders g) × All (IsStartInTurn g) x.orders × IsFitted x.state

-- where no start was ordered
quietly : (g : Progress) (x : Outcome) → KeepsStarts x.state g → All NoStart x.orders → IsFitted x.state → Gone g x
quietly g x keeps none fitted = (subst (λ (y : Progress). KeepsStarts x.state y) (sym (gave_nothing x.orders g none)) keeps, all_in_turn g x.orders none, fitted)

-- those that were to be started before have been, and were answered
abbrev AllAnswered : Progress → Outcome → Type 0
AllAnswered g o =
    (first : List Due) × (g.opened.to_start ≡ first ++ o.state.to_start) × (map (λ x. id_bytes x.id) g.ordered ≡ map (λ (x : Due). id_bytes x.id) first) × All (λ x. x.answered ≡ true) g.ordered

-- the work may go on to a start
abbrev MayStart : Progress → List ℕ → Outcome → Type 0
MayStart g ps o =
    IsReady ps o × ((q : ℕ) → rows_in (has_process q) o.state.rows ≤ 1) × IsNamed o.state × Fits ps o.state.to_start o.state.rows
    × HasWaiting o.state g × HasDone g ps o × AllAnswered g o × All NoStart o.orders

keeps_answered : (g : Progress) (o : Outcome) (s : State) → s.to_start ≡ o.state.to_start → AllAnswered g o → KeepsStarts s g
keeps_answered g o s same h busy = (h.0, h.1 ∙ ap (λ (ds : List Due). h.0 ++ ds) (sym same), h.2, λ i d within. inl (h.3 i d within))

follow-fitted : (f : Option Sequel) (o : Outcome) → IsFitted o.state → IsFitted (follow f o).state
unfolding follow end_all refuse_all answer
follow-fitted None o h = h
follow-fitted (Some sequel.Ready) o h = (h.0, tt)
follow-fitted (Some sequel.Nothing) o h = (h.0, tt)
follow-fitted (Some (sequel.Added c)) o h = (h.0, tt)
follow-fitted (Some (sequel.Restarted c)) o h = (h.0, tt)
follow-fitted (Some (sequel.Stopped c)) o h = (h.0, tt)
follow-fitted (Some (sequel.End e)) o h = (λ _. refl, tt)

-- as the ids of the lists agree, so do their parts
same_parts : (first : List Due) (due : Due) (rest : List Due) (rows : List Row) → map (λ (x : Due). id_bytes x.id) (first ++ due ∷ rest) ≡ map (λ (x : Row). id_bytes x.id) rows
    → (before : List Row) × (row : Row) × (after_it : List Row) × (rows ≡ before ++ row ∷ after_it) × (id_bytes row.id ≡ id_bytes due.id) × (map (λ (x : Due). id_bytes x.id) first ≡ map (λ (x : Row). id_bytes x.id) before)
same_parts [] due rest [] h = cc
same_parts [] due rest (row ∷ rows) h = ([], row, rows, refl, cc, refl)
same_parts (x ∷ first) due rest [] h = cc
same_parts (x ∷ first) due rest (row ∷ rows) h =
    let tail : map (λ (y : Due). id_bytes y.id) (first ++ due ∷ rest) ≡ map (λ (y : Row). id_bytes y.id) rows = cc in
    let here : id_bytes x.id ≡ id_bytes row.id = cc in
    let more : (before : List Row) × (r : Row) × (after_it : List Row) × (rows ≡ before ++ r ∷ after_it) × (id_bytes r.id ≡ id_bytes due.id) × (map (λ (y : Due). id_bytes y.id) first ≡ map (λ (y : Row). id_bytes y.id) before) = same_parts first due rest rows tail in (
      row ∷ more.0,
      more.1,
      more.2,
      ap (λ (rs : List Row). row ∷ rs) more.3,
      more.4,
      ap (λ (id : Option (List ℕ)). id ∷ map (λ (y : Due). id_bytes y.id) first) here ∙ ap (λ (ids : List (Option (List ℕ))). id_bytes row.id ∷ ids) more.5,
    )

-- the next of the start list is in its turn
in_turn : (g : Progress) (due : Due) (rest : List Due) (o : Outcome) → o.state.to_start ≡ due ∷ rest → AllAnswered g o → IsDone g [] → StartsInTurn g due.id
in_turn g due rest o is answered d =
    let listed : IsListed g = d.0 in
    let part : List Row = listed.0 in
    let next : g.opened.to_start ≡ answered.0 ++ due ∷ rest = answered.1 ∙ ap (λ (ds : List Due). answered.0 ++ ds) is in
    let parts : (before : List Row) × (row : Row) × (after_it : List Row) × (start_list g.opened.follows part ≡ before ++ row ∷ after_it) × (id_bytes row.id ≡ id_bytes due.id) × (map (λ (x : Due). id_bytes x.id) answered.0 ≡ map (λ (x : Row). id_bytes x.id) before) =
    same_parts answered.0 due rest (start_list g.opened.follows part) (ap (λ (ds : List Due). map (λ (x : Due). id_bytes x.id) ds) (sym next) ∙ listed.7) in (
      part,
      listed.1,
      parts.0,
      parts.1,
      parts.2,
      parts.3,
      parts.4,
      answered.2 ∙ parts.5,
      answered.3,
      λ p h. d.3 p (
          let e : times p g.opened.to_stop ≡ times p (reverse (processes part)) = ap (λ (xs : List ℕ). times p xs) listed.6 in
          let all : times p g.opened.to_stop ≡ times p d.1 = ap (λ (xs : List ℕ). times p xs) (d.2 ∙ append-nil d.1) in
          omega (arith, h, e, all, times-reverse p (processes part))),
    )

ordered-gone : (g : Progress) (due : Due) (rest : List Due) (n : ℕ) (o : Outcome) → o.state.to_start ≡ due ∷ rest → MayStart g [] o → Gone g (start due n (with_work o.state.to_stop rest o.state.follows o))
unfolding start start_row
ordered-gone g due rest n o is m =
    let left : Outcome = with_work o.state.to_stop rest o.state.follows o in
    let fits : Fits [] (due ∷ rest) o.state.rows = subst (λ (ds : List Due). Fits [] ds o.state.rows) is m.3 in
    let not_end : is_end o.state.follows ≡ false = ⊎_elim (λ yes. absurd (let k : due ∷ rest ≡ [] = sym is ∙ m.0.0.4 yes in cc)) (λ other. other) (cases_Bool (is_end o.state.follows)) in
    let apart : ends_together o.state ≡ false = ap (λ (b : Bool). b && is_simple o.state.flags.strategy) not_end in
    let answered : AllAnswered g o = m.6 in
    let new : Ordered = record { id = due.id; number = n; answered = false } in
    let given : List Effect = o.orders ++ effect.Start due.id n ∷ [] in
    let now : RowState = Starting n (unwrap_or due.kept n) in
    let longer : filter_map started given ≡ new ∷ [] =
    filter_map-append started o.orders (effect.Start due.id n ∷ []) ∙ ap (λ (os : List Ordered). os ++ new ∷ []) (nobody_started o.orders m.7) in
    let ordered_is : (gave given g).ordered ≡ g.ordered ++ new ∷ [] = ap (λ (os : List Ordered). g.ordered ++ os) longer in
    let next : g.opened.to_start ≡ answered.0 ++ due ∷ rest = answered.1 ∙ ap (λ (ds : List Due). answered.0 ++ ds) is in
    let turn : StartsInTurn g due.id = in_turn g due rest o is answered (m.5 apart) in
    at_row-first (λ x. Gone g (emit (effect.Start due.id n) x)) (is_due due) left (start_row due n) left (due_there due rest o.state.rows m.0.1 fits)
    (λ i row found at.
    let rows : List Row = slice_set o.state.rows i (with_state now row) in (
      (λ busy. (
        answered.0 ++ due ∷ [],
        next ∙ sym (append_assoc answered.0 (due ∷ []) rest),
        ap (λ (os : List Ordered). map (λ (x : Ordered). id_bytes x.id) os) ordered_is
            ∙ map-append (λ (x : Ordered). id_bytes x.id) g.ordered (new ∷ [])
            ∙ ap (λ (ids : List (Option (List ℕ))). ids ++ id_bytes due.id ∷ []) answered.2
            ∙ sym (map-append (λ (x : Due). id_bytes x.id) answered.0 (due ∷ [])),
        subst (λ (os : List Ordered). All (IsUnderWay rows) os) (sym ordered_is)
            (All-push (IsUnderWay rows) g.ordered new
            (λ j d within. inl (answered.3 j d within))
            (inr (
            let e : rows_in (is_starting n) rows + cond (is_starting n row.state) 1 0 ≡ rows_in (is_starting n) o.state.rows + cond (n == n) 1 0 = rows_in-set (is_starting n) i row now o.state.rows at in
            let one : ◌≡◌ {A = ℕ} (cond (n == n) 1 0) 1 = ap (λ (b : Bool). cond b 1 0) (eq-eqb n n refl) in
            omega (arith, e, one, rows_in-at (is_starting n) i row o.state.rows at)))),
      )),
      All-push (IsStartInTurn g) o.orders (effect.Start due.id n) (all_in_turn g o.orders m.7) turn,
      (
        set-named i row now o at m.2,
        subst (λ (ps : List ℕ). Fits ps rest rows) (sym m.0.2) (fits-start due rest (with_state now row) i o.state.rows found m.0.1 fits),
      ),
    ))

start_first-gone : (g : Progress) (dues : List Due) (n : ℕ) (o : Outcome) → o.state.to_start ≡ dues → MayStart g [] o → Gone g (start_first dues n o)
unfolding start_first
start_first-gone g [] n o is m =
    quietly g (follow o.state.follows o) (idle_keeps (follow o.state.follows o).state g (follow-closes o.state.follows o refl))
    (follow-orders NoStart none_start o.state.follows o m.7)
    (follow-fitted o.state.follows o (m.2, subst (λ (ps : List ℕ). Fits ps o.state.to_start o.state.rows) (sym m.0.2) m.3))
start_first-gone g (due ∷ rest) n o is m = ordered-gone g due rest n o is m

-- a process that stays when it ends
told_is : (qs : List ℕ) (p now : ℕ) (s : Shutdown) (goes : Bool) → not goes ≡ true → is_free qs goes (told now p s) ≡ true
told_is qs p now BrutalKill goes h = h
told_is qs p now (Milliseconds _) goes h = h
told_is qs p now Infinity goes h = h

told_free : (ps qs : List ℕ) (p now : ℕ) (s : Shutdown) (goes : Bool) (state : RowState) → has_process p state ≡ true → is_free ps goes state ≡ true → is_free qs goes (told now p s) ≡ true
told_free ps qs p now s goes Undefined h k = absurd (false≢true h)
told_free ps qs p now s goes (Starting _ _) h k = absurd (false≢true k)
told_free ps qs p now s goes (Up x) h k = told_is qs p now s goes (and_parts (not goes) (nat_lt 0 (times x ps)) k).0
told_free ps qs p now s goes (Asked _ _) h k = told_is qs p now s goes k
told_free ps qs p now s goes (Killed _) h k = told_is qs p now s goes k
told_free ps qs p now s goes (Restarting _) h k = absurd (false≢true h)

end-stops : (p : ℕ) (ps : List ℕ) (ds : List Due) (i : ℕ) (row : Row) (o : Outcome) → StandsAt i row o → has_process p row.state ≡ true → rows_in (has_process p) o.state.rows ≤ 1 → Fits (p ∷ ps) ds o.state.rows → Fits ps ds (end_row i row o).state.rows
unfolding end_row
end-stops p ps ds i row o at has one fits =
    by_test (λ x. Fits ps ds x.state.rows) (is_removed row) (with_rows (remove o.state.rows i) o) (set_row i row Undefined o)
    (λ goes. fits-stop-remove p ps i row has (λ free. held_goes (p ∷ ps) p row.state has (sym (ap (λ (b : Bool). is_free (p ∷ ps) b row.state) goes) ∙ free)) ds o.state.rows at one fits)
    (λ _. fits-stop p ps i row Undefined has (λ _. refl) ds o.state.rows at one fits)

used-fits : (p : ℕ) (ps : List ℕ) (place : Option ℕ) (o : Outcome) → IsReady (p ∷ ps) o → rows_in (has_process p) o.state.rows ≤ 1 → IsNamed o.state → Fits (p ∷ ps) o.state.to_start o.state.rows
    → IsNamed (use_exit p place (with_work ps o.state.to_start o.state.follows o)).state × Fits ps o.state.to_start (use_exit p place (with_work ps o.state.to_start o.state.follows o)).state.rows
unfolding use_exit end_process at_number
used-fits p ps place o r one named fits =
    let left : Outcome = with_waiting (without o.state.waiting place) (with_work ps o.state.to_start o.state.follows o) in
    at_row-found (λ x. IsNamed x.state × Fits ps o.state.to_start x.state.rows) (row_has (has_process p)) left end_row left (stands p ps o r)
    (λ i row at has. (
      named-less (end_row i row left).state left.state (end_row-alike i row left).0 (end-named i row left at) named,
      end-stops p ps o.state.to_start i row left at has one fits,
    ))

-- the work may go on, and each child that is to be stopped or started is there
abbrev pub MayGoOn : List ℕ → Outcome → Type 0
MayGoOn ps o = IsReady ps o × ((q : ℕ) → rows_in (has_process q) o.state.rows ≤ 1) × IsNamed o.state × Fits ps o.state.to_start o.state.rows

-- so it is where the first to be stopped has ended
pub used-goes_on : (p : ℕ) (ps : List ℕ) (o : Outcome) → MayGoOn (p ∷ ps) o → MayGoOn ps (used p (with_stops ps o))
used-goes_on p ps o m =
    let left : Outcome = with_stops ps o in
    let place : Option ℕ = position (is_exit p) o.state.waiting in
    let same : Alike (used p left) left = use_exit-alike p place left in
    let fits : IsNamed (used p left).state × Fits ps o.state.to_start (used p left).state.rows = used-fits p ps place o m.0 (m.1 p) m.2 m.3 in (
      used-ready p ps place o m.0,
      (λ q. omega (arith, use_exit-no_more p place left left (λ x. omega arith) q, m.1 q)),
      fits.0,
      subst (λ (ds : List Due). Fits ps ds (used p left).state.rows) (sym same.3) fits.1,
    )

told-gone : (g : Progress) (p : ℕ) (ps : List ℕ) (o : Outcome) → MayStart g (p ∷ ps) o → Gone g (tell p (with_work ps o.state.to_start o.state.follows o))
unfolding tell tell_row at_number
told-gone g p ps o m =
    let left : Outcome = with_work ps o.state.to_start o.state.follows o in
    at_row-found (Gone g) (row_has (has_process p)) left (tell_row p) left (stands p ps o m.0)
    (λ i row at has.
    let now : RowState = told o.state.last p row.spec.shutdown in
    let x : Outcome = emit (stop_order row.id p row.spec.shutdown) (set_row i row now left) in
    quietly g x (keeps_answered g o x.state refl m.6)
    (All-push NoStart o.orders (stop_order row.id p row.spec.shutdown) m.7 (stop_order-none row.id p row.spec.shutdown)) (
      set-named i row now left at m.2,
      fits-stop p ps i row now has (λ free. told_free (p ∷ ps) ps p o.state.last row.spec.shutdown (is_removed row) row.state has free) o.state.to_start o.state.rows at (m.1 p) m.3,
    ))

stop_first-gone : (g : Progress) (ps : List ℕ) (n : ℕ) (o : Outcome) → MayStart g ps o → Gone g (stop_first ps n o)
stop_first-gone g ps n =
    stop_first-by (MayStart g) (Gone g) n (λ o m. start_first-gone g o.state.to_start n o refl m)
    (λ p rest o waits m.
    let left : Outcome = with_stops rest o in
    let place : Option ℕ = position (is_exit p) o.state.waiting in
    let ended : IsIn p g.ended = m.4 p (there (is_exit p) o.state.waiting (waiting.Retry 0) waits) in
    let same : Alike (used p left) left = use_exit-alike p place left in
    let goes : MayGoOn rest (used p left) = used-goes_on p rest o (m.0, m.1, m.2, m.3) in
    let answered : AllAnswered g o = m.6 in (
      goes.0,
      goes.1,
      goes.2,
      goes.3,
      used-waits g p rest o m.4,
      used-done g p rest place o ended m.5,
      (answered.0, answered.1 ∙ ap (λ (ds : List Due). answered.0 ++ ds) (sym same.3), answered.2, answered.3),
      subst (λ (xs : List Effect). All NoStart xs) (sym (use_exit-quiet p place left).1) m.7,
    ))
    (λ p rest o _ m. told-gone g p rest o m) ps

-- where nothing is awaited, each start was answered
none_starting : (m : ℕ) (rows : List Row) → rows_in is_awaited rows ≡ 0 → 0 < rows_in (is_starting m) rows → ⊥
none_starting m rows none some = omega (arith, none, some, rows_in-le (is_starting m) is_awaited starting_awaits rows)
  where
    starting_awaits : (state : RowState) → cond (is_starting m state) 1 0 ≤ cond (is_awaited state) 1 0
    starting_awaits Undefined = omega arith
    starting_awaits (Starting x _) = cond_both (x == m) 1 0 (λ n. n ≤ 1) (λ _. omega arith) (λ _. omega arith)
    starting_awaits (Up _) = omega arith
    starting_awaits (Asked _ _) = omega arith
    starting_awaits (Killed _) = omega arith
    starting_awaits (Restarting _) = omega arith

advance-gone : (g : Progress) (n : ℕ) (o : Outcome) → Stands o → ((q : ℕ) → rows_in (has_process q) o.state.rows ≤ 1) → Keeps o.state g → KeepsStarts o.state g → All NoStart o.orders → Gone g (advance n o)
advance-gone g n o h one stops starts none =
    advance-by (Gone g) n o (λ _. quietly g o starts none h.1) (λ busy calm.
    let zero : rows_in is_awaited o.state.rows ≡ 0 = none_in is_awaited o.state.rows calm in
    let had : HasWaiting o.state g × HasStops o.state g = stops busy in
    let begun : HasStarts o.state g = starts busy in
    stop_first-gone g o.state.to_stop n o (
      (h.0, zero, refl, busy),
      one,
      h.1.0,
      h.1.1,
      had.0,
      (λ apart. all-done o.state g zero (had.1 apart)),
      (begun.0, begun.1, begun.2, λ i d within. ⊎_elim (λ x. x) (λ x. absurd (none_starting (get_or g.ordered i d).number o.state.rows zero x)) (begun.3 i d within)),
      none,
    ))

step-gone : (m : ℕ) (s : State) (e : Event) (g : Progress) → IsFit m s g → Gone (seen s e g) (step s e)
unfolding step step_on
step-gone m s e g l =
    let start : Outcome = record { state = stamped e.reading s; orders = [] } in
    let o : Outcome = decide e.kind start in
    let stands_now : Stands o = decide-survives e.kind Stands start (fitted-survives e.kind (is_some s.follows)) (l.0.0, l.1) in
    let quiet : list_any is_start o.orders ≡ false = decide-survives e.kind (λ x. list_any is_start x.orders ≡ false) start (decide-quiet e.kind (is_some s.follows)) refl in
    advance-gone (seen s e g) (unwrap_or e.number 0) o stands_now (decided-distinct m s e l.2).0 (decided-keeps s e g l.0.0 l.0.1).1 (decided-starts s e g l.0.0 l.3) (from_any o.orders quiet)

-- the numbers that follow are no less
pub step-lawful : (m k : ℕ) (s : State) (e : Event) (g : Progress) → IsFit m s g → IsDistinct k (step s e).state → IsFit k (step s e).state (gave (step s e).orders (seen s e g))
step-lawful m k s e g l distinct =
    let gone : Gone (seen s e g) (step s e) = step-gone m s e g l in
    let kept : IsSound (step s e).state × Keeps (step s e).state (gave (step s e).orders (seen s e g)) = step-keeps s e g l.0.0 l.0.1 in
    (kept, gone.2, distinct, gone.0)

-- the beginning of a lawful history is lawful
numbered_front : (s : State) (events more : List Event) → IsNumbered s (events ++ more) → IsNumbered s events
numbered_front s [] more h = tt
numbered_front s (x ∷ events) more h = (h.0, numbered_front (step s x).state events more h.1)

lawful_front : (m : ℕ) (s : State) (events more : List Event) → IsLawfulFrom m s (events ++ more) → IsLawfulFrom m s events
lawful_front m s events more h =
    let ns : List ℕ = numbers_of events in
    let split : numbers_of (events ++ more) ≡ numbers_of events ++ numbers_of more = filter_map-append (λ (x : Event). x.number) events more in
    let rises : AllPairs (λ i j. i < j) (ns ++ numbers_of more) = subst (λ (xs : List ℕ). AllPairs (λ i j. i < j) xs) split h.0.1 in
    let fresh : All (λ n. m ≤ n) (ns ++ numbers_of more) = subst (λ (xs : List ℕ). All (λ n. m ≤ n) xs) split h.1 in (
      (
        numbered_front s events more h.0.0,
        λ i j d less within.
            let first : get_or (ns ++ numbers_of more) i d ≡ get_or ns i d = get_or_append_left ns (numbers_of more) d i (omega (arith, less, within)) in
            let last : get_or (ns ++ numbers_of more) j d ≡ get_or ns j d = get_or_append_left ns (numbers_of more) d j within in
            omega (arith, first, last, rises i j d less (omega (arith, within, length-append ns (numbers_of more)))),
      ),
      λ i d within.
          let same : get_or (ns ++ numbers_of more) i d ≡ get_or ns i d = get_or_append_left ns (numbers_of more) d i within in
          omega (arith, same, fresh i d (omega (arith, within, length-append ns (numbers_of more)))),
    )

-- a lawful history keeps a state fit
pub stays_fit : (m : ℕ) (s : State) (g : Progress) (events : List Event) → IsFit m s g → IsLawfulFrom m s events → IsFit (next_number m (numbers_of events)) (state_after s events) (progress s g events)
stays_fit m s g events l lawful = along IsFit (λ n t h fit. fit.2) step-lawful m s g events l lawful

pub empty_fit : (flags : SupFlags) (specs : List ChildSpec) → IsFit 0 (empty_state flags specs) (no_progress (empty_state flags specs))
empty_fit flags specs =
    let base : State = empty_state flags specs in
    ((empty-sound flags specs, not_busy base (no_progress base) refl), empty-fitted flags specs, (λ q. omega arith, λ q h. refl), idle_keeps base (no_progress base) refl)

pub stays_fit_law : StaysFit
stays_fit_law = (empty_fit, stays_fit)

pub start_order_law : StartOrder
start_order_law m s g l events e lawful =
    (step-gone (next_number m (numbers_of events)) (state_after s events) e (progress s g events) (stays_fit m s g events l (lawful_front m s events (e ∷ []) lawful))).1

pub start_order_from_empty : StartOrderFromEmpty
start_order_from_empty flags specs events e lawful =
    start_order_law 0 (empty_state flags specs) (no_progress (empty_state flags specs)) (empty_fit flags specs) events e (lawful, λ i d within. omega arith)
