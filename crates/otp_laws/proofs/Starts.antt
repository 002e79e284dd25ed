-- An order to start gives the event's number to the child with the order's id.
use Rattle.std.specs.Prelude.{◌≡◌, ℕ, ◌≤◌, ◌<◌, ◌++◌, ◌||◌, Bool, true, false, List, [], ◌∷◌, Option, None, Some, All, Contains, refl, position, is_some, unwrap_or, count_by}
use Rattle.std.specs.List.{list_any}
use Rattle.std.specs.Option.{option_eq}
use Rattle.std.specs.Ordering.{on}
use Rattle.std.specs.Str.{bytes_eq}
use Rattle.std.proofs.Common.{◌∙◌, ap, sym, subst, ⊎_elim, get_or}
use Rattle.std.proofs.lemmas.Bool.{and_parts, cases_Bool, eq-eqb, false≢true}
use Rattle.std.proofs.lemmas.List.Elements.{All-cons, All-nil, All-push}
use Rattle.otp_reason.specs.declared.name.Name.{Name}
use Rattle.otp_reason.specs.Names.{name_bytes}
use Rattle.otp_spec.specs.declared.child.Shutdown.{Shutdown}
use Rattle.otp_spec.specs.declared.child.Shutdown.TheVariants.{BrutalKill, Infinity, Milliseconds}
use Rattle.otp_table.specs.declared.row.Row.{Row}
use Rattle.otp_table.specs.declared.row.RowState.TheVariants.{Starting}
use Rattle.otp_table.specs.Rows.{has_process, is_awaited, is_undefined, with_state}
use Rattle.otp_rules.specs.declared.event.Effect.{Effect}
use Rattle.otp_rules.specs.declared.event.Effect.TheVariants as effect
use Rattle.otp_rules.specs.declared.event.Event.{Event}
use Rattle.otp_rules.specs.declared.work.Due.{Due}
use Rattle.otp_rules.specs.State.{Outcome, State, with_work}
use Rattle.otp_rules.specs.Places.{at_row}
use Rattle.otp_rules.specs.Stops.{is_exit, stop_order, tell, tell_row}
use Rattle.otp_rules.specs.Starts.{is_due, start, start_row}
use Rattle.otp_rules.specs.Work.{advance, follow, start_first, stop_first}
use Rattle.otp_rules.specs.Step.{decide, stamped, step, step_on}
use Rattle.otp_rules.specs.Run.{empty_state, state_after}
use Rattle.otp_rules.specs.Needs.{is_start, needs_number, numbers_of}
use Rattle.otp_rules.specs.Progress.{Progress, id_bytes, no_progress, progress}
use Rattle.otp_rules.specs.Fit.{next_number, rows_in, Fits, IsFit}
use Rattle.otp_rules.proofs.Counting.{at_row-first, none_in, use_exit-quiet}
use Rattle.otp_rules.proofs.Decisions.{at_number-survives, decide-survives, first_passes}
use Rattle.otp_rules.proofs.Fits.{due_there}
use Rattle.otp_rules.proofs.Fitted.{Stands, fitted-survives}
use Rattle.otp_rules.proofs.InTurn.{TakesReplies, follow-orders}
use Rattle.otp_rules.proofs.NeedsWork.{decide-quiet}
use Rattle.otp_rules.proofs.Numbers.{decided-distinct}
use Rattle.otp_rules.proofs.StartTurn.{MayGoOn, used-goes_on}
use Rattle.otp_rules.proofs.Walks.{advance-by, stop_first-by, with_stops}
use Rattle.otp_laws.specs.Starts.{StartsItsChild, StartsOfChildren, StartsOfChildrenFrom}
use Rattle.otp_laws.proofs.Basis.{empty_basis, lawful_from_0, quiet_event, split_lawful, stays_basis}
use Rattle.otp_laws.proofs.Oks.{set-among}
use Rattle.otp_laws.proofs.Ordered.{one_id}

-- the order starts nobody
abbrev pub NotStart : Effect → Type 0
NotStart (effect.Start _ _) = ⊥
NotStart _ = Unit {0}

-- an order to start gives this number to a child with its id
abbrev Of : ℕ → List Row → Effect → Type 0
Of n rows (effect.Start id p) = (p ≡ n) × (row : Row) × Contains rows row × (has_process p row.state ≡ true) × (id_bytes row.id ≡ id_bytes id)
Of n rows _ = Unit {0}

not_start-of : (n : ℕ) (rows : List Row) (x : Effect) → NotStart x → Of n rows x
not_start-of n rows (effect.Start _ _) h = absurd h
not_start-of n rows (effect.Ask _ _) h = tt
not_start-of n rows (effect.Kill _ _) h = tt
not_start-of n rows (effect.Reply _) h = tt
not_start-of n rows effect.Ready h = tt
not_start-of n rows (effect.End _) h = tt

none-of : (n : ℕ) (rows : List Row) (xs : List Effect) → All NotStart xs → All (Of n rows) xs
none-of n rows xs h i d within = not_start-of n rows (get_or xs i d) (h i d within)

not_start : (x : Effect) → is_start x ≡ false → NotStart x
not_start (effect.Start _ _) h = absurd (false≢true (sym h))
not_start (effect.Ask _ _) h = tt
not_start (effect.Kill _ _) h = tt
not_start (effect.Reply _) h = tt
not_start effect.Ready h = tt
not_start (effect.End _) h = tt

none_start : (xs : List Effect) → list_any is_start xs ≡ false → All NotStart xs
none_start [] h = All-nil NotStart
none_start (x ∷ xs) h =
    ⊎_elim
    (λ (starts : is_start x ≡ true). absurd (false≢true (sym h ∙ ap (λ (b : Bool). b || list_any is_start xs) starts)))
    (λ (quiet : is_start x ≡ false). All-cons NotStart x xs (not_start x quiet) (none_start xs (sym (ap (λ (b : Bool). b || list_any is_start xs) quiet) ∙ h)))
    (cases_Bool (is_start x))

-- the work goes on

abbrev Silent : Outcome → Type 0
Silent o = All NotStart o.orders

abbrev Begins : ℕ → Outcome → Type 0
Begins n o = All (Of n o.state.rows) o.orders

stop-silent : (id : Option Name) (p : ℕ) (s : Shutdown) → NotStart (stop_order id p s)
stop-silent id p BrutalKill = tt
stop-silent id p (Milliseconds _) = tt
stop-silent id p Infinity = tt

pub tell-silent : (p : ℕ) (o : Outcome) → Silent o → Silent (tell p o)
unfolding tell tell_row
tell-silent p o h = at_number-survives Silent p (tell_row p) o h (λ i row at has. All-push NotStart o.orders (stop_order row.id p row.spec.shutdown) h (stop-silent row.id p row.spec.shutdown))

pub replies : TakesReplies NotStart
replies = (λ c. tt, tt, λ x. tt)

-- the child that is started
record Started (due : Due) (n : ℕ) (o : Outcome) : Type 0 where
  silent : Silent o
  row : Row
  among : Contains o.state.rows row
  has : has_process n row.state ≡ true
  same : id_bytes row.id ≡ id_bytes due.id

start-begins : (due : Due) (n : ℕ) (o : Outcome) → 0 < count_by (is_due due) o.state.rows → Silent o → Begins n (start due n o)
unfolding start start_row
start-begins due n o some silent =
    let x : Started due n (at_row (is_due due) o (start_row due n) o) =
    at_row-first (Started due n) (is_due due) o (start_row due n) o some
    (λ i row found at.
    let new : Row = with_state (Starting n (unwrap_or due.kept n)) row in
    let due_row : is_due due row ≡ true = first_passes (is_due due) i row o found at in
    record {
      silent = silent;
      row = new;
      among = set-among i row new o.state.rows at;
      has = eq-eqb n n refl;
      same = one_id row.id due.id (and_parts (option_eq (on name_bytes bytes_eq) row.id due.id) (is_undefined row.state) due_row).0;
    }) in
    let y : Outcome = at_row (is_due due) o (start_row due n) o in
    All-push (Of n y.state.rows) y.orders (effect.Start due.id n) (none-of n y.state.rows y.orders x.silent) (refl, x.row, x.among, x.has, x.same)

start_first-begins : (dues : List Due) (n : ℕ) (o : Outcome) → o.state.to_start ≡ dues → MayGoOn [] o → Silent o → Begins n (start_first dues n o)
unfolding start_first
start_first-begins [] n o is m silent = let x : Outcome = follow o.state.follows o in none-of n x.state.rows x.orders (follow-orders NotStart replies o.state.follows o silent)
start_first-begins (due ∷ rest) n o is m silent =
    let left : Outcome = with_work o.state.to_stop rest o.state.follows o in
    let fits : Fits [] (due ∷ rest) o.state.rows = subst (λ (ds : List Due). Fits [] ds o.state.rows) is m.3 in
    start-begins due n left (due_there due rest o.state.rows m.0.1 fits) silent

stop_first-begins : (ps : List ℕ) (n : ℕ) (o : Outcome) → MayGoOn ps o → Silent o → Begins n (stop_first ps n o)
stop_first-begins ps n o m silent =
    stop_first-by (λ qs x. MayGoOn qs x × Silent x) (Begins n) n (λ x h. start_first-begins x.state.to_start n x refl h.0 h.1)
    (λ p rest x waits h. (used-goes_on p rest x h.0, subst (λ (xs : List Effect). All NotStart xs) (sym (use_exit-quiet p (position (is_exit p) x.state.waiting) (with_stops rest x)).1) h.1))
    (λ p rest x none h. let y : Outcome = tell p (with_stops rest x) in none-of n y.state.rows y.orders (tell-silent p (with_stops rest x) h.1)) ps o (m, silent)

advance-begins : (n : ℕ) (o : Outcome) → Stands o → ((q : ℕ) → rows_in (has_process q) o.state.rows ≤ 1) → Silent o → Begins n (advance n o)
advance-begins n o h one silent =
    advance-by (Begins n) n o (λ _. none-of n o.state.rows o.orders silent)
    (λ busy none. stop_first-begins o.state.to_stop n o ((h.0, none_in is_awaited o.state.rows none, refl, busy), one, h.1.0, h.1.1) silent)

step-begins : (m : ℕ) (s : State) (e : Event) (g : Progress) → IsFit m s g → Begins (unwrap_or e.number 0) (step s e)
unfolding step step_on
step-begins m s e g fit =
    let start_of : Outcome = record { state = stamped e.reading s; orders = [] } in
    advance-begins (unwrap_or e.number 0) (decide e.kind start_of) (decide-survives e.kind Stands start_of (fitted-survives e.kind (is_some s.follows)) (fit.0.0, fit.1)) (decided-distinct m s e fit.2).0
    (none_start (decide e.kind start_of).orders (decide-survives e.kind (λ (o : Outcome). list_any is_start o.orders ≡ false) start_of (decide-quiet e.kind (is_some s.follows)) refl))

-- an event with a number, and one without

its_child : (s : State) (e : Event) (n : ℕ) (x : Effect) → e.number ≡ Some n → Of (unwrap_or e.number 0) (step s e).state.rows x → StartsItsChild s e x
its_child s e n (effect.Start id p) is h = (is ∙ ap (λ (k : ℕ). Some k) (sym (h.0 ∙ ap (λ (y : Option ℕ). unwrap_or y 0) is)), h.1, h.2, h.3, h.4)
its_child s e n (effect.Ask _ _) is h = tt
its_child s e n (effect.Kill _ _) is h = tt
its_child s e n (effect.Reply _) is h = tt
its_child s e n effect.Ready is h = tt
its_child s e n (effect.End _) is h = tt

no_child : (s : State) (e : Event) (x : Effect) → NotStart x → StartsItsChild s e x
no_child s e (effect.Start _ _) h = absurd h
no_child s e (effect.Ask _ _) h = tt
no_child s e (effect.Kill _ _) h = tt
no_child s e (effect.Reply _) h = tt
no_child s e effect.Ready h = tt
no_child s e (effect.End _) h = tt

step-children : (m : ℕ) (s : State) (e : Event) (g : Progress) → IsFit m s g → is_some e.number ≡ needs_number s e.reading e.kind → All (StartsItsChild s e) (step s e).orders
step-children m s e g fit numbered = by e.number refl
  where
    by : (x : Option ℕ) → e.number ≡ x → All (StartsItsChild s e) (step s e).orders
    by None is i d within = no_child s e (get_or (step s e).orders i d) (none_start (step s e).orders (quiet_event s e is numbered) i d within)
    by (Some n) is i d within = its_child s e n (get_or (step s e).orders i d) is (step-begins m s e g fit i d within)

pub starts_of_children_from_law : StartsOfChildrenFrom
starts_of_children_from_law m s g events e h lawful =
    let parts = split_lawful m s events (e ∷ []) lawful in
    step-children (next_number m (numbers_of events)) (state_after s events) e (progress s g events) (stays_basis m s g events h parts.0).0 parts.1.0.0.0

pub starts_of_children_law : StartsOfChildren
starts_of_children_law flags specs events e lawful =
    let base : State = empty_state flags specs in
    starts_of_children_from_law 0 base (no_progress base) events e (empty_basis flags specs) (lawful_from_0 base (events ++ e ∷ []) lawful)
