-- No two children have one id.
use Rattle.std.specs.Prelude.{◌≡◌, ◌⊎◌, ℕ, ◌+◌, ◌≤◌, ◌<◌, Bool, true, false, List, [], ◌∷◌, Option, None, Some, refl, nat_le, length, unwrap_or, count_by}
use Rattle.std.specs.Str.{bytes_eq}
use Rattle.std.proofs.Common.{◌∙◌, ap, sym, subst, inl, inr, arith, ⊎_elim, cond, rules}
use Rattle.std.proofs.lemmas.Bool.{cases_Bool, false≢true}
use Rattle.std.proofs.lemmas.List.Sums.{sum_by-append, sum_by-cons}
use Rattle.std.proofs.lemmas.Slice.Eq.{bytes_eq-Decides}
use Rattle.otp_reason.specs.declared.name.Name.{Name}
use Rattle.otp_reason.specs.Names.{name_bytes}
use Rattle.otp_spec.specs.declared.child.ChildSpec.{ChildSpec}
use Rattle.otp_spec.specs.declared.fault.SpecFault.{SpecFault}
use Rattle.otp_spec.specs.declared.limits.TheConstants.{MAX_CHILDREN}
use Rattle.otp_spec.specs.Flags.{is_simple}
use Rattle.otp_spec.specs.Lawful.{first_fault}
use Rattle.otp_table.specs.declared.row.Row.{Row}
use Rattle.otp_table.specs.declared.row.RowState.{RowState}
use Rattle.otp_table.specs.declared.row.RowState.TheVariants.{Undefined, Starting, Up, Asked, Killed, Restarting}
use Rattle.otp_table.specs.Rows.{free_slot, has_id}
use Rattle.otp_rules.specs.declared.call.Call.{Call}
use Rattle.otp_rules.specs.declared.call.Call.TheVariants as call
use Rattle.otp_rules.specs.declared.call.CallFault.TheVariants as fault
use Rattle.otp_rules.specs.declared.call.Reply.TheVariants as reply
use Rattle.otp_rules.specs.declared.event.Event.{Event}
use Rattle.otp_rules.specs.declared.event.Item.{Item}
use Rattle.otp_rules.specs.declared.event.Item.TheVariants as item
use Rattle.otp_rules.specs.declared.event.Kind.{Kind}
use Rattle.otp_rules.specs.declared.event.Kind.TheVariants as kind
use Rattle.otp_rules.specs.declared.event.Waiting.{Waiting}
use Rattle.otp_rules.specs.declared.event.Waiting.TheVariants as waiting
use Rattle.otp_rules.specs.State.{Outcome, State, is_busy, is_over, put_last, with_waiting}
use Rattle.otp_rules.specs.Places.{at_row}
use Rattle.otp_rules.specs.Calls.{add_child, call_at, carry_out, fault_at, is_named, new_row, start_checked, start_child, start_lawful, take_call, unless_refused}
use Rattle.otp_rules.specs.Step.{ask, decide, open_rows, open_with, opening_specs, rows_from, stamped, step, step_on, take_item}
use Rattle.otp_rules.specs.Run.{empty_state}
use Rattle.otp_rules.specs.Homes.{Brings, is_start_call}
use Rattle.otp_rules.specs.Progress.{AsksForChild}
use Rattle.otp_rules.proofs.Counting.{at_row-found}
use Rattle.otp_rules.proofs.Decisions.{AtPassing, BringsStart, at_row-survives, by_test, decide-survives_event}
use Rattle.otp_rules.proofs.Finishing.{zero_or_more}
use Rattle.otp_rules.proofs.Keeps.{step_keeps_plan_law}
use Rattle.otp_laws.specs.Ids.{AreSpecsApart, IdsApart, IdsStayApart}
use Rattle.otp_laws.proofs.Heeded.{brings-item}
use Rattle.otp_laws.proofs.Specs.{specs_apart}
use Rattle.otp_laws.proofs.Still.{Few, IsStill, advance-few, answer-few, few-survives}

-- two tests that agree count alike
alike : (t u : Row → Bool) → ((row : Row) → t row ≡ u row) → (rows : List Row) → count_by t rows ≡ count_by u rows
alike t u same [] = refl
alike t u same (row ∷ rows) =
    let e : ◌≡◌ {A = ℕ} (cond (t row) 1 0) (cond (u row) 1 0) = ap (λ (b : Bool). cond b 1 0) (same row) in
    omega (arith, e, sum_by-cons (λ (r : Row). cond (t r) 1 0) row rows, sum_by-cons (λ (r : Row). cond (u r) 1 0) row rows, alike t u same rows)

-- names of the same bytes are one id
one_id : (id other : Name) → name_bytes other ≡ name_bytes id → (rows : List Row) → count_by (has_id id) rows ≡ count_by (has_id other) rows
one_id id other same rows = alike (has_id id) (has_id other) (λ row. by row row.id refl) rows
  where
    by : (row : Row) (x : Option Name) → row.id ≡ x → has_id id row ≡ has_id other row
    by row None is = ap (λ (y : Option Name). has_id id (record row { id = y })) is ∙ sym (ap (λ (y : Option Name). has_id other (record row { id = y })) is)
    by row (Some name) is =
        ap (λ (y : Option Name). has_id id (record row { id = y })) is
        ∙ ap (λ (bytes : List ℕ). bytes_eq (name_bytes name) bytes) (sym same)
        ∙ sym (ap (λ (y : Option Name). has_id other (record row { id = y })) is)

pub still_id : (id : Name) → IsStill (has_id id)
still_id id state row = refl

-- start_child

at_row-missing : (P : Outcome → Type 0) (test : Row → Bool) (missing : Outcome) (f : ℕ → Row → Outcome → Outcome) (o : Outcome) → (count_by test o.state.rows ≡ 0 → P missing) → P o → AtPassing P test f o → P (at_row test missing f o)
at_row-missing P test missing f o none x each =
    ⊎_elim (λ (zero : count_by test o.state.rows ≡ 0). at_row-survives P test missing f o (none zero) x each) (λ (some : 0 < count_by test o.state.rows). at_row-found P test missing f o some each) (zero_or_more (count_by test o.state.rows))

add-apart : (id : Name) (c : ℕ) (spec : ChildSpec) (o : Outcome) → Few (has_id id) 1 o → count_by (has_id spec.id) o.state.rows ≡ 0 → Few (has_id id) 1 (add_child c (Some spec.id) spec o)
unfolding add_child
add-apart id c spec o h none =
    let new : Row = new_row (free_slot o.state.rows) (Some spec.id) spec in
    let n : Row → ℕ = λ (r : Row). cond (has_id id r) 1 0 in
    by_test (Few (has_id id) 1) (nat_le MAX_CHILDREN (length o.state.rows)) _ _ (λ _. answer-few (has_id id) 1 c (reply.Refused fault.TooManyChildren) o h)
    (λ _.
    ⊎_elim
    (λ (holds_so : bytes_eq (name_bytes spec.id) (name_bytes id) ≡ true).
    let same : name_bytes spec.id ≡ name_bytes id = (bytes_eq-Decides (name_bytes spec.id) (name_bytes id)).0 holds_so in
    let one : ◌≡◌ {A = ℕ} (cond (has_id id new) 1 0) 1 = ap (λ (b : Bool). cond b 1 0) holds_so in
    omega (arith, one, none, one_id id spec.id same o.state.rows, sum_by-append n o.state.rows (new ∷ []), sum_by-cons n new []))
    (λ (isnt : bytes_eq (name_bytes spec.id) (name_bytes id) ≡ false).
    let zero : ◌≡◌ {A = ℕ} (cond (has_id id new) 1 0) 0 = ap (λ (b : Bool). cond b 1 0) isnt in
    omega (arith, zero, h, sum_by-append n o.state.rows (new ∷ []), sum_by-cons n new []))
    (cases_Bool (bytes_eq (name_bytes spec.id) (name_bytes id))))

present-apart : (id : Name) (c place : ℕ) (spec : ChildSpec) (row : Row) (o : Outcome) → Few (has_id id) 1 o → Few (has_id id) 1 (call_at c (call.StartChild spec) place row o)
unfolding call_at
present-apart id c place spec row o h = by row.state
  where
    by : (state : RowState) → Few (has_id id) 1 (unless_refused c (fault_at (call.StartChild spec) state) (carry_out c (call.StartChild spec) place row o) o)
    by Undefined = answer-few (has_id id) 1 c (reply.Refused fault.AlreadyPresent) o h
    by (Starting _ _) = answer-few (has_id id) 1 c (reply.Refused fault.AlreadyPresent) o h
    by (Up p) = answer-few (has_id id) 1 c (reply.Refused (fault.AlreadyStarted p)) o h
    by (Asked _ _) = answer-few (has_id id) 1 c (reply.Refused fault.AlreadyPresent) o h
    by (Killed _) = answer-few (has_id id) 1 c (reply.Refused fault.AlreadyPresent) o h
    by (Restarting _) = answer-few (has_id id) 1 c (reply.Refused fault.AlreadyPresent) o h

start-apart : (id : Name) (c : ℕ) (spec : ChildSpec) (o : Outcome) → Few (has_id id) 1 o → Few (has_id id) 1 (start_child c spec o)
unfolding start_child start_checked start_lawful
start-apart id c spec o h =
    by_test (Few (has_id id) 1) (is_simple o.state.flags.strategy) _ _ (λ _. answer-few (has_id id) 1 c (reply.Refused fault.SimpleOneForOne) o h) (λ _. checked (first_fault (spec ∷ []) (Some o.state.flags.auto_shutdown)))
  where
    checked : (why : Option SpecFault) → Few (has_id id) 1 (start_checked c spec why o)
    checked None =
        at_row-missing (Few (has_id id) 1) (has_id spec.id) (add_child c (Some spec.id) spec o) (call_at c (call.StartChild spec)) o
        (λ none. add-apart id c spec o h none) h (λ place row at has. present-apart id c place spec row o h)
    checked (Some why) = answer-few (has_id id) 1 c (reply.Refused (fault.BadSpec why)) o h

asked-apart : (id : Name) (c : ℕ) (spec : ChildSpec) (o : Outcome) → Few (has_id id) 1 o → Few (has_id id) 1 (take_item (item.Call c (call.StartChild spec)) o)
unfolding take_item ask take_call
asked-apart id c spec o h =
    by_test (Few (has_id id) 1) (is_over o.state.phase) _ _ (λ _. answer-few (has_id id) 1 c reply.NoProc o h)
    (λ _. by_test (Few (has_id id) 1) (is_busy o) (put_last (waiting.Item (item.Call c (call.StartChild spec))) o) (start_child c spec o) (λ _. h) (λ _. start-apart id c spec o h))

-- what else an event takes

abbrev adds_named : Item → Bool
adds_named (item.Call _ (call.StartChild _)) = true
adds_named _ = false

-- the event brings a call to start a child with a specification, or it doesn't
named_or_not : (k : Kind) (ws : List Waiting) → ((c : ℕ) × (spec : ChildSpec) × Brings k ws (item.Call c (call.StartChild spec))) ⊎ ((i : Item) → Brings k ws i → adds_named i ≡ false)
named_or_not (kind.Opened own) ws = inr (λ i b. absurd b)
named_or_not (kind.Took i) ws = one i
  where
    one : (i : Item) → ((c : ℕ) × (spec : ChildSpec) × (i ≡ item.Call c (call.StartChild spec))) ⊎ ((j : Item) → i ≡ j → adds_named j ≡ false)
    one (item.Note x) = inr (λ j is. ap (λ (y : Item). adds_named y) (sym is))
    one (item.Call c (call.StartChild spec)) = inl (c, spec, refl)
    one (item.Call c call.StartDynamic) = inr (λ j is. ap (λ (y : Item). adds_named y) (sym is))
    one (item.Call c (call.RestartChild _)) = inr (λ j is. ap (λ (y : Item). adds_named y) (sym is))
    one (item.Call c (call.DeleteChild _)) = inr (λ j is. ap (λ (y : Item). adds_named y) (sym is))
    one (item.Call c (call.TerminateChild _)) = inr (λ j is. ap (λ (y : Item). adds_named y) (sym is))
    one (item.Call c (call.TerminateProcess _)) = inr (λ j is. ap (λ (y : Item). adds_named y) (sym is))
    one (item.Call c call.WhichChildren) = inr (λ j is. ap (λ (y : Item). adds_named y) (sym is))
    one (item.Call c call.CountChildren) = inr (λ j is. ap (λ (y : Item). adds_named y) (sym is))
    one (item.Call c (call.GetChildspec _)) = inr (λ j is. ap (λ (y : Item). adds_named y) (sym is))
named_or_not kind.Resumed [] = inr (λ i b. absurd b)
named_or_not kind.Resumed (waiting.Retry n ∷ ws) = inr (λ i b. absurd (search (rules, b)))
named_or_not kind.Resumed (waiting.Item j ∷ ws) =
    ⊎_elim
    (λ (h : (c : ℕ) × (spec : ChildSpec) × (j ≡ item.Call c (call.StartChild spec))). inl (h.0, h.1, ap (λ (y : Item). waiting.Item y) h.2))
    (λ (h : (i : Item) → j ≡ i → adds_named i ≡ false). inr (λ i b. h i (let same : ◌≡◌ {A = Waiting} (waiting.Item j) (waiting.Item i) = b in cc)))
    (named_or_not (kind.Took j) ws)
named_or_not kind.Ticked ws = inr (λ i b. absurd b)
named_or_not kind.Stopped ws = inr (λ i b. absurd b)

-- another call adds a child without an id
added-apart : (id : Name) (k : Kind) (ws : List Waiting) → (n : ℕ) (other : Option Name) (spec : ChildSpec) (o : Outcome) → BringsStart (λ i. Brings k ws i × (adds_named i ≡ false)) n other spec o → has_id id (new_row (free_slot o.state.rows) other spec) ≡ false
added-apart id k ws n other spec o got = by got.0 got.1 got.2.1 got.3
  where
    by : (x : Call) → is_start_call x ≡ true → adds_named (item.Call n x) ≡ false → AsksForChild x o.state.specs (new_row (free_slot o.state.rows) other spec) → has_id id (new_row (free_slot o.state.rows) other spec) ≡ false
    by (call.StartChild _) start not asks = absurd (false≢true (sym not))
    by call.StartDynamic start not asks = ap (λ (y : Option Name). has_id id (new_row (free_slot o.state.rows) y spec)) asks.0
    by (call.RestartChild _) start not asks = absurd (false≢true start)
    by (call.DeleteChild _) start not asks = absurd (false≢true start)
    by (call.TerminateChild _) start not asks = absurd (false≢true start)
    by (call.TerminateProcess _) start not asks = absurd (false≢true start)
    by call.WhichChildren start not asks = absurd (false≢true start)
    by call.CountChildren start not asks = absurd (false≢true start)
    by (call.GetChildspec _) start not asks = absurd (false≢true start)

-- the rows of an opening have the ids of the specifications
new_ids : (id : Name) (slot : ℕ) (specs : List ChildSpec) → count_by (has_id id) (rows_from slot specs) ≡ count_by (is_named id) specs
new_ids id slot [] = refl
new_ids id slot (spec ∷ specs) =
    omega (arith, sum_by-cons (λ (r : Row). cond (has_id id r) 1 0) (new_row slot (Some spec.id) spec) (rows_from (slot + 1) specs), sum_by-cons (λ (x : ChildSpec). cond (is_named id x) 1 0) spec specs, new_ids id (slot + 1) specs)

opening_apart : (id : Name) (simple : Bool) (specs : List ChildSpec) → count_by (is_named id) specs ≤ 1 → count_by (is_named id) (opening_specs simple specs) ≤ 1
opening_apart id true specs h = omega arith
opening_apart id false specs h = h

open-apart : (id : Name) (own : ℕ) (o : Outcome) → count_by (is_named id) o.state.specs ≤ 1 → Few (has_id id) 1 (open_rows own o)
unfolding open_rows open_with
open-apart id own o h =
    let specs : List ChildSpec = opening_specs (is_simple o.state.flags.strategy) o.state.specs in
    omega (arith, new_ids id 0 specs, opening_apart id (is_simple o.state.flags.strategy) o.state.specs h)

decided-apart : (id : Name) (s : State) (e : Event) → count_by (is_named id) s.specs ≤ 1 → count_by (has_id id) s.rows ≤ 1 → Few (has_id id) 1 (decide e.kind (record { state = stamped e.reading s; orders = [] }))
decided-apart id s e specs h =
    let start : Outcome = record { state = stamped e.reading s; orders = [] } in
    let G : Item → Type 0 = λ i. Brings e.kind s.waiting i × (adds_named i ≡ false) in
    ⊎_elim
    (λ (named : (c : ℕ) × (spec : ChildSpec) × Brings e.kind s.waiting (item.Call c (call.StartChild spec))).
    brings-item (Few (has_id id) 1) e.kind (item.Call named.0 (call.StartChild named.1)) start named.2 (λ ws. h) (λ ws. asked-apart id named.0 named.1 (with_waiting ws start) h))
    (λ (not : (i : Item) → Brings e.kind s.waiting i → adds_named i ≡ false).
    decide-survives_event e.kind G start (Few (has_id id) 1)
    (few-survives (has_id id) (still_id id) 1 e.kind G start
    (λ n other spec o u got noted few.
    let none : ◌≡◌ {A = ℕ} (cond (has_id id (new_row (free_slot o.state.rows) other spec)) 1 0) 0 = ap (λ (b : Bool). cond b 1 0) (added-apart id e.kind s.waiting n other spec o got) in
    omega (arith, none, few))
    (λ own is over. open-apart id own start specs)) (λ i b idle. (b, not i b)) h)
    (named_or_not e.kind s.waiting)

pub step-apart : (id : Name) (s : State) (e : Event) → count_by (is_named id) s.specs ≤ 1 → count_by (has_id id) s.rows ≤ 1 → count_by (has_id id) (step s e).state.rows ≤ 1
unfolding step step_on
step-apart id s e specs h =
    advance-few (has_id id) (still_id id) 1 (unwrap_or e.number 0) (decide e.kind (record { state = stamped e.reading s; orders = [] })) (decided-apart id s e specs h)

pub ids_stay_apart_law : IdsStayApart
ids_stay_apart_law s [] specs h = h
ids_stay_apart_law s (e ∷ events) specs h =
    let same : (step s e).state.specs ≡ s.specs = (step_keeps_plan_law s e).1 in
    ids_stay_apart_law (step s e).state events (subst AreSpecsApart (sym same) specs) (λ id. step-apart id s e (specs id) (h id))

pub ids_apart_law : IdsApart
ids_apart_law flags specs events opens = ids_stay_apart_law (empty_state flags specs) events (specs_apart flags specs opens) (λ id. omega arith)
