-- Of the notes that name one process, at most one answer and at most one Exit change rows.
use Rattle.std.specs.Prelude.{◌≡◌, ◌⊎◌, ℕ, ◌≤◌, ◌<◌, ◌++◌, Bool, true, List, [], ◌∷◌, Some, Contains, refl, nat_lt}
use Rattle.std.proofs.Common.{◌∙◌, ap, sym, inl, inr, arith, ⊎_elim, cond}
use Rattle.std.proofs.lemmas.Bool.{cases_Bool, false≢true, ltb-false, ltb-true}
use Rattle.otp_reason.specs.declared.note.Note.{Note}
use Rattle.otp_reason.specs.declared.note.Note.TheVariants as note
use Rattle.otp_table.specs.declared.row.Row.{Row}
use Rattle.otp_table.specs.declared.row.RowState.{RowState}
use Rattle.otp_table.specs.declared.row.RowState.TheVariants.{Undefined, Starting, Up, Asked, Killed, Restarting}
use Rattle.otp_table.specs.Rows.{has_process, row_has}
use Rattle.otp_rules.specs.declared.event.Event.{Event}
use Rattle.otp_rules.specs.declared.event.Item.TheVariants as item
use Rattle.otp_rules.specs.State.{Outcome, State, with_waiting}
use Rattle.otp_rules.specs.Step.{decide, stamped, step}
use Rattle.otp_rules.specs.Run.{empty_state, state_after}
use Rattle.otp_rules.specs.Needs.{numbers_of}
use Rattle.otp_rules.specs.Homes.{Brings}
use Rattle.otp_rules.specs.Progress.{Progress, exit_number, no_progress, progress}
use Rattle.otp_rules.specs.Fit.{is_starting, next_number, rows_in, IsLawfulFrom}
use Rattle.otp_rules.specs.InOrder.{Awaits}
use Rattle.otp_rules.proofs.Counting.{cond_le, rows_in-le}
use Rattle.otp_rules.proofs.Finishing.{zero_or_more}
use Rattle.otp_rules.proofs.Lasting.{counts_contain}
use Rattle.otp_rules.proofs.Runs.{runs_joined_law}
use Rattle.otp_laws.specs.Basis.{IsBasis}
use Rattle.otp_laws.specs.Notes.{answer_number, awaits, has_come_up, ChangesNone, IsUnawaited, NotesCountOnce, NotesCountOnceFrom, UnawaitedChangesNone, UnawaitedChangesNoneFrom}
use Rattle.otp_laws.proofs.Basis.{Numbered, empty_basis, first_numbered, lawful_from_0, rest_lawful, split_lawful, stays_basis}
use Rattle.otp_laws.proofs.Falls.{AtMost, Falling, IsOf, goes-falls, process-falling, process-of, run-falls, starting-falling, starting-of}
use Rattle.otp_laws.proofs.Heeded.{Gone, NoStart, Same, brings-note, none_some, note-ends, note-heard, rests-same, same_some, starts_in_work, unawaited-rests}

none_awaits : (x : Note) (rows : List Row) → IsUnawaited x rows → rows_in (awaits x) rows ≡ 0
none_awaits x rows none =
    ⊎_elim (λ zero. zero)
    (λ some. let r : (row : Row) × Contains rows row × (awaits x row.state ≡ true) = counts_contain (row_has (awaits x)) rows some in absurd (false≢true (sym (none r.0 r.1) ∙ r.2)))
    (zero_or_more (rows_in (awaits x) rows))

pub unawaited_changes_none_from_law : UnawaitedChangesNoneFrom
unawaited_changes_none_from_law m s g events e x h lawful brings none =
    unawaited-rests (state_after s events) e x (stays_basis m s g events h lawful).2 brings (none_awaits x (state_after s events).rows none)

pub unawaited_changes_none_law : UnawaitedChangesNone
unawaited_changes_none_law flags specs events e x lawful =
    let base : State = empty_state flags specs in
    unawaited_changes_none_from_law 0 base (no_progress base) events e x (empty_basis flags specs) (lawful_from_0 base events lawful)

less_or_not : (p m : ℕ) → (p < m) ⊎ (m ≤ p)
less_or_not p m = ⊎_elim (λ holds_so. inl (ltb-true p m holds_so)) (λ isnt. inr (ltb-false p m isnt)) (cases_Bool (nat_lt p m))

-- a note that counts has a process, whose number was given before
given : (m : ℕ) (s : State) (g : Progress) (p : ℕ) (t : RowState → Bool) → IsBasis m s g → ((state : RowState) → t state ≡ true → has_process p state ≡ true) → 0 < rows_in t s.rows → p < m
given m s g p t h has some =
    ⊎_elim (λ (below : p < m). below) (λ (above : m ≤ p). absurd (omega (arith, some, h.1.1.1 p above, rows_in-le t (has_process p) (λ state. cond_le (t state) (has_process p state) (has state)) s.rows))) (less_or_not p m)

answers_starting : (x : Note) (p : ℕ) → answer_number x ≡ Some p → (state : RowState) → awaits x state ≡ is_starting p state
answers_starting (note.Up q) p is state = ap (λ (n : ℕ). is_starting n state) (same_some q p is)
answers_starting (note.Ignored q) p is state = ap (λ (n : ℕ). is_starting n state) (same_some q p is)
answers_starting (note.Failed q _) p is state = ap (λ (n : ℕ). is_starting n state) (same_some q p is)
answers_starting (note.Exit q _) p is state = absurd (none_some p is)

exits_come_up : (x : Note) (p : ℕ) → exit_number x ≡ Some p → (state : RowState) → awaits x state ≡ has_come_up p state
exits_come_up (note.Up q) p is state = absurd (none_some p is)
exits_come_up (note.Ignored q) p is state = absurd (none_some p is)
exits_come_up (note.Failed q _) p is state = absurd (none_some p is)
exits_come_up (note.Exit q _) p is state = ap (λ (n : ℕ). has_come_up n state) (same_some q p is)

-- the same rows are counted
alike_counts : (t u : RowState → Bool) → ((state : RowState) → t state ≡ u state) → (rows : List Row) → rows_in t rows ≤ rows_in u rows
alike_counts t u same rows = rows_in-le t u (λ state. let e : ◌≡◌ {A = ℕ} (cond (t state) 1 0) (cond (u state) 1 0) = ap (λ (b : Bool). cond b 1 0) (same state) in omega (arith, e)) rows

-- an answer changes no row, or leaves nobody who is starting under its number
answer-counts : (m : ℕ) (s : State) (g : Progress) (e : Event) (x : Note) (p : ℕ) → IsBasis m s g → Numbered m s e → p < m → Brings e.kind s.waiting (item.Note x) → answer_number x ≡ Some p → (rows_in (is_starting p) (step s e).state.rows ≤ 0) ⊎ ChangesNone s e
answer-counts m s g e x p h numbered less brings is =
    let start : Outcome = record { state = stamped e.reading s; orders = [] } in
    ⊎_elim
    (λ (same : Same start (decide e.kind start)). inr (rests-same s e h.2 same))
    (λ (none : NoStart p (decide e.kind start)). inl (goes-falls (is_starting p) (starting-falling p) p (starting-of p) 0 m s e less numbered none))
    (brings-note (λ (y : Outcome). Same start y ⊎ NoStart p y) e.kind x start brings (λ ws. inl (refl, refl))
    (λ ws. inr (note-heard x p (with_waiting ws start) is (h.1.1.0 p) (starts_in_work m s h.1 p))))

-- an Exit changes no row, or leaves nobody who has its process
exit-counts : (m : ℕ) (s : State) (g : Progress) (e : Event) (x : Note) (p : ℕ) → IsBasis m s g → Numbered m s e → p < m → Brings e.kind s.waiting (item.Note x) → exit_number x ≡ Some p → (rows_in (has_process p) (step s e).state.rows ≤ 0) ⊎ ChangesNone s e
exit-counts m s g e x p h numbered less brings is =
    let start : Outcome = record { state = stamped e.reading s; orders = [] } in
    ⊎_elim
    (λ (same : Same start (decide e.kind start)). inr (rests-same s e h.2 same))
    (λ (none : AtMost (has_process p) 0 (decide e.kind start)). inl (goes-falls (has_process p) (process-falling p) p (process-of p) 0 m s e less numbered none))
    (brings-note (λ (y : Outcome). Gone p start y) e.kind x start brings (λ ws. inl (refl, refl)) (λ ws. note-ends x p (with_waiting ws start) is (h.1.1.0 p)))

starting_has : (p : ℕ) (state : RowState) → is_starting p state ≡ true → has_process p state ≡ true
starting_has p Undefined h = absurd (false≢true h)
starting_has p (Starting q _) h = h
starting_has p (Up _) h = absurd (false≢true h)
starting_has p (Asked _ _) h = absurd (false≢true h)
starting_has p (Killed _) h = absurd (false≢true h)
starting_has p (Restarting _) h = absurd (false≢true h)

come_up_has : (p : ℕ) (state : RowState) → has_come_up p state ≡ true → has_process p state ≡ true
come_up_has p Undefined h = absurd (false≢true h)
come_up_has p (Starting q _) h = absurd (false≢true h)
come_up_has p (Up _) h = h
come_up_has p (Asked _ _) h = h
come_up_has p (Killed _) h = h
come_up_has p (Restarting _) h = absurd (false≢true h)

-- where no row passes the test after the event, none does so later, and the second note changes none
second-rests : (t : RowState → Bool) → Falling t → (p : ℕ) → IsOf p t → (k : ℕ) (a b : State) (between : List Event) (f : Event) (y : Note) → p < k → IsLawfulFrom k a between → b ≡ state_after a between → rows_in t a.rows ≤ 0
    → Awaits b → Brings f.kind b.waiting (item.Note y) → rows_in (awaits y) b.rows ≤ rows_in t b.rows → ChangesNone b f
second-rests t falling p own k a b between f y less lawful joined none waits brings counts =
    let later : rows_in t b.rows ≡ rows_in t (state_after a between).rows = ap (λ (z : State). rows_in t z.rows) joined in
    unawaited-rests b f y waits brings (omega (arith, counts, later, none, run-falls t falling p own k a between less lawful))

pub notes_count_once_from_law : NotesCountOnceFrom
notes_count_once_from_law m s g events between e f x y h lawful first second alike =
    let a : State = state_after s events in
    let b : State = state_after s (events ++ e ∷ between) in
    let k : ℕ = next_number m (numbers_of events) in
    let parts : IsLawfulFrom m s events × IsLawfulFrom k a (e ∷ between) = split_lawful m s events (e ∷ between) lawful in
    let now : IsBasis k a (progress s g events) = stays_basis m s g events h parts.0 in
    let waits : Awaits b = (stays_basis m s g (events ++ e ∷ between) h lawful).2 in
    let joined : b ≡ state_after (step a e).state between = (runs_joined_law s events (e ∷ between)).0 in
    let numbered : Numbered k a e = first_numbered k a e between parts.1 in
    let rest : IsLawfulFrom k (step a e).state between = rest_lawful k a e between parts.1 in
    ⊎_elim
    (λ (zero : rows_in (awaits x) a.rows ≡ 0). inl (unawaited-rests a e x now.2 first zero))
    (λ (some : 0 < rows_in (awaits x) a.rows).
    ⊎_elim
    (λ (is : (answer_number x ≡ Some alike.0) × (answer_number y ≡ Some alike.0)).
    let p : ℕ = alike.0 in
    let there : 0 < rows_in (is_starting p) a.rows = omega (arith, some, alike_counts (awaits x) (is_starting p) (answers_starting x p is.0) a.rows) in
    let less : p < k = given k a (progress s g events) p (is_starting p) now (starting_has p) there in
    ⊎_elim
    (λ (none : rows_in (is_starting p) (step a e).state.rows ≤ 0).
    inr (second-rests (is_starting p) (starting-falling p) p (starting-of p) k (step a e).state b between f y less rest joined none waits second (alike_counts (awaits y) (is_starting p) (answers_starting y p is.1) b.rows)))
    (λ (same : ChangesNone a e). inl same)
    (answer-counts k a (progress s g events) e x p now numbered less first is.0))
    (λ (is : (exit_number x ≡ Some alike.0) × (exit_number y ≡ Some alike.0)).
    let p : ℕ = alike.0 in
    let there : 0 < rows_in (has_come_up p) a.rows = omega (arith, some, alike_counts (awaits x) (has_come_up p) (exits_come_up x p is.0) a.rows) in
    let less : p < k = given k a (progress s g events) p (has_come_up p) now (come_up_has p) there in
    ⊎_elim
    (λ (none : rows_in (has_process p) (step a e).state.rows ≤ 0).
    inr (second-rests (has_process p) (process-falling p) p (process-of p) k (step a e).state b between f y less rest joined none waits second
    (omega (arith, alike_counts (awaits y) (has_come_up p) (exits_come_up y p is.1) b.rows, rows_in-le (has_come_up p) (has_process p) (λ state. cond_le (has_come_up p state) (has_process p state) (come_up_has p state)) b.rows))))
    (λ (same : ChangesNone a e). inl same)
    (exit-counts k a (progress s g events) e x p now numbered less first is.0))
    alike.1)
    (zero_or_more (rows_in (awaits x) a.rows))

pub notes_count_once_law : NotesCountOnce
notes_count_once_law flags specs events between e f x y lawful =
    let base : State = empty_state flags specs in
    notes_count_once_from_law 0 base (no_progress base) events between e f x y (empty_basis flags specs) (lawful_from_0 base (events ++ e ∷ between) lawful)
