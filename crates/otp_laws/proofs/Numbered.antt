-- Each child's process is one that the history started, or that was given before.
use Rattle.std.specs.Prelude.{◌≡◌, ◌⊎◌, ℕ, ◌==◌, ◌<◌, ◌++◌, Bool, true, false, List, [], ◌∷◌, Option, None, Some, Contains, refl, is_some, unwrap_or}
use Rattle.std.specs.List.{list_any, filter_map}
use Rattle.std.proofs.Common.{◌∙◌, ap, sym, subst, inl, inr, arith, ⊎_elim, cond}
use Rattle.std.proofs.lemmas.Bool.{cases_Bool, eqb-true, false≢true}
use Rattle.std.proofs.lemmas.List.{append_assoc}
use Rattle.std.proofs.lemmas.List.Elements.{All-cons, All-head, All-tail, Contains-append_left, Contains-push, filter_map-append}
use Rattle.otp_table.specs.declared.row.Row.{Row}
use Rattle.otp_table.specs.Rows.{has_process, row_has}
use Rattle.otp_rules.specs.declared.event.Event.{Event}
use Rattle.otp_rules.specs.State.{Outcome, State}
use Rattle.otp_rules.specs.Step.{decide, stamped, step}
use Rattle.otp_rules.specs.Run.{empty_state, state_after}
use Rattle.otp_rules.specs.Needs.{is_start, needs_number, numbers_of, IsNumbered}
use Rattle.otp_rules.specs.Fit.{next_number, rows_in}
use Rattle.otp_rules.specs.Lives.{IsHeld}
use Rattle.otp_rules.specs.Named.{AreAmong}
use Rattle.otp_rules.proofs.Counting.{rows_in-cons}
use Rattle.otp_rules.proofs.Decisions.{decide-survives}
use Rattle.otp_rules.proofs.Lasting.{contains_counts, counts_contain}
use Rattle.otp_rules.proofs.Runs.{runs_joined_law}
use Rattle.otp_rules.proofs.Numbers.{NoMore, no_more-survives, step-grown}
use Rattle.otp_laws.specs.Ids.{ProcessesNumbered, ProcessesNumberedFrom, ProcessesStayGone, ProcessesStayGoneFrom}
use Rattle.otp_laws.proofs.Basis.{given_below, lawful_from_0, quiet_event, split_lawful}
use Rattle.otp_laws.proofs.Falls.{process-falling, process-of, run-falls}
use Rattle.otp_laws.proofs.Heeded.{zero_or_some}

-- the process of each row is one of these
abbrev IsGiven : List ℕ → List Row → Type 0
IsGiven given rows = (q : ℕ) → 0 < rows_in (has_process q) rows → Contains given q

among-given : (given : List ℕ) (rows : List Row) → AreAmong given rows → IsGiven given rows
among-given given [] h q has = absurd (let z : rows_in (has_process q) [] ≡ 0 = refl in omega (arith, has, z))
among-given given (row ∷ rows) h q has =
    ⊎_elim
    (λ (here : has_process q row.state ≡ true). All-head (λ (r : Row). (p : ℕ) → has_process p r.state ≡ true → Contains given p) row rows h q here)
    (λ (other : has_process q row.state ≡ false).
    let none : ◌≡◌ {A = ℕ} (cond (has_process q row.state) 1 0) 0 = ap (λ (b : Bool). cond b 1 0) other in
    among-given given rows (All-tail (λ (r : Row). (p : ℕ) → has_process p r.state ≡ true → Contains given p) row rows h) q (omega (arith, has, none, rows_in-cons (has_process q) row rows)))
    (cases_Bool (has_process q row.state))

given-among : (given : List ℕ) (rows : List Row) → IsGiven given rows → AreAmong given rows
given-among given [] h = λ k d within. absurd (omega (arith, within))
given-among given (row ∷ rows) h =
    All-cons (λ (r : Row). (p : ℕ) → has_process p r.state ≡ true → Contains given p) row rows
    (λ p has.
    let one : ◌≡◌ {A = ℕ} (cond (has_process p row.state) 1 0) 1 = ap (λ (b : Bool). cond b 1 0) has in
    h p (omega (arith, one, rows_in-cons (has_process p) row rows)))
    (given-among given rows (λ q has. h q (omega (arith, has, rows_in-cons (has_process q) row rows))))

-- a process after an event is one from before it, or the one that it starts
held_before : (s : State) (e : Event) (q : ℕ) → is_some e.number ≡ needs_number s e.reading e.kind → 0 < rows_in (has_process q) (step s e).state.rows → (0 < rows_in (has_process q) s.rows) ⊎ (e.number ≡ Some q)
held_before s e q numbered has =
    let start : Outcome = record { state = stamped e.reading s; orders = [] } in
    let less : NoMore start (decide e.kind start) = decide-survives e.kind (NoMore start) start (no_more-survives start e.kind (is_some s.follows)) (λ x. omega arith) in
    ⊎_elim (λ (had : 0 < rows_in (has_process q) s.rows). inl had)
    (λ (none : rows_in (has_process q) s.rows ≡ 0).
    ⊎_elim
    (λ fewer. absurd (omega (arith, fewer q, less q, none, has)))
    (λ more. inr (by e.number refl more.0 (let grown = more.1 q in omega (arith, grown, less q, none, has))))
    (step-grown s e))
    (zero_or_some (rows_in (has_process q) s.rows))
  where
    by : (x : Option ℕ) → e.number ≡ x → list_any is_start (step s e).orders ≡ true → 0 < cond (unwrap_or e.number 0 == q) 1 0 → e.number ≡ Some q
    by None is starts own = absurd (false≢true (sym (quiet_event s e is numbered) ∙ starts))
    by (Some n) is starts own =
        let mine : ◌≡◌ {A = ℕ} (cond (unwrap_or e.number 0 == q) 1 0) (cond (n == q) 1 0) = ap (λ (x : Option ℕ). cond {A = ℕ} (unwrap_or x 0 == q) 1 0) is in
        ⊎_elim (λ (same : (n == q) ≡ true). is ∙ ap (λ (m : ℕ). Some m) (eqb-true n q same))
        (λ (other : (n == q) ≡ false). absurd (let zero : ◌≡◌ {A = ℕ} (cond (n == q) 1 0) 0 = ap (λ (b : Bool). cond b 1 0) other in omega (arith, own, mine, zero)))
        (cases_Bool (n == q))

step-given : (given : List ℕ) (s : State) (e : Event) → is_some e.number ≡ needs_number s e.reading e.kind → IsGiven given s.rows → IsGiven (given ++ numbers_of (e ∷ [])) (step s e).state.rows
step-given given s e numbered h q has =
    ⊎_elim
    (λ (had : 0 < rows_in (has_process q) s.rows). Contains-append_left given (numbers_of (e ∷ [])) q (h q had))
    (λ (is : e.number ≡ Some q).
    let numbers : numbers_of (e ∷ []) ≡ q ∷ [] = ap (λ (x : Option ℕ). filter_map (λ (u : Unit {0}). x) (tt ∷ [])) is in
    subst (λ (l : List ℕ). Contains (given ++ l) q) (sym numbers) (Contains-push given q))
    (held_before s e q numbered has)

run-given : (given : List ℕ) (s : State) (events : List Event) → IsNumbered s events → IsGiven given s.rows → IsGiven (given ++ numbers_of events) (state_after s events).rows
run-given given s [] numbered h q has = Contains-append_left given [] q (h q has)
run-given given s (e ∷ events) numbered h q has =
    let all : given ++ numbers_of (e ∷ events) ≡ (given ++ numbers_of (e ∷ [])) ++ numbers_of events =
    ap (λ (l : List ℕ). given ++ l) (filter_map-append (λ (x : Event). x.number) (e ∷ []) events) ∙ sym (append_assoc given (numbers_of (e ∷ [])) (numbers_of events)) in
    subst (λ (l : List ℕ). Contains l q) (sym all) (run-given (given ++ numbers_of (e ∷ [])) (step s e).state events numbered.1 (step-given given s e numbered.0 h) q has)

pub processes_numbered_from_law : ProcessesNumberedFrom
processes_numbered_from_law s given events lawful among =
    given-among (given ++ numbers_of events) (state_after s events).rows (run-given given s events lawful.0 (among-given given s.rows among))

pub processes_numbered_law : ProcessesNumbered
processes_numbered_law flags specs events lawful =
    given-among (numbers_of events) (state_after (empty_state flags specs) events).rows
    (run-given [] (empty_state flags specs) events lawful.0 (λ q has. absurd (let z : rows_in (has_process q) [] ≡ 0 = refl in omega (arith, has, z))))

-- a process that is gone stays so

nobody : (p : ℕ) (rows : List Row) → (IsHeld rows p → ⊥) → rows_in (has_process p) rows ≡ 0
nobody p rows none =
    ⊎_elim (λ (some : 0 < rows_in (has_process p) rows). absurd (none (counts_contain (row_has (has_process p)) rows some))) (λ (zero : rows_in (has_process p) rows ≡ 0). zero) (zero_or_some (rows_in (has_process p) rows))

pub processes_stay_gone_from_law : ProcessesStayGoneFrom
processes_stay_gone_from_law m s events p lawful less none held =
    omega (arith, nobody p s.rows none, run-falls (has_process p) (process-falling p) p (process-of p) m s events less lawful, contains_counts (row_has (has_process p)) (state_after s events).rows held.0 held.1 held.2)

pub processes_stay_gone_law : ProcessesStayGone
processes_stay_gone_law flags specs events later p lawful given none held =
    let base : State = empty_state flags specs in
    let parts = split_lawful 0 base events later (lawful_from_0 base (events ++ later) lawful) in
    processes_stay_gone_from_law (next_number 0 (numbers_of events)) (state_after base events) later p parts.1 (given_below 0 p (numbers_of events) (parts.0.0.1, parts.0.1) given) none
    (subst (λ (x : State). IsHeld x.rows p) (runs_joined_law base events later).0 held)
