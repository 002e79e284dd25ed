-- An end that waits was taken while a child had its process.
use Rattle.std.specs.Prelude.{◌≡◌, ◌⊎◌, ℕ, ◌==◌, ◌<◌, ◌++◌, ◌||◌, Bool, true, false, List, [], ◌∷◌, Option, None, Some, refl, position, is_some, slice_get, unwrap_or}
use Rattle.std.specs.List.{cons_option, list_any}
use Rattle.std.proofs.Common.{◌∙◌, ap, sym, subst, inl, inr, arith, ⊎_elim, cond}
use Rattle.std.proofs.lemmas.Bool.{false≢true, cases_Bool, eq-eqb, eqb-true}
use Rattle.std.proofs.lemmas.List.Folds.{list_any-append}
use Rattle.std.proofs.lemmas.Option.{get_or_from_slice_get, slice_get_within}
use Rattle.otp_reason.specs.declared.reason.Reason.{Reason}
use Rattle.otp_reason.specs.declared.note.Note.TheVariants as note
use Rattle.otp_table.specs.declared.row.Row.{Row}
use Rattle.otp_table.specs.declared.row.RowState.TheVariants.{Undefined}
use Rattle.otp_table.specs.Rows.{has_process}
use Rattle.otp_rules.specs.declared.call.Reply.{Reply}
use Rattle.otp_rules.specs.declared.ending.Ending.{Ending}
use Rattle.otp_rules.specs.declared.ending.Ending.TheVariants as ending
use Rattle.otp_rules.specs.declared.event.Event.{Event}
use Rattle.otp_rules.specs.declared.event.Item.{Item}
use Rattle.otp_rules.specs.declared.event.Item.TheVariants as item
use Rattle.otp_rules.specs.declared.event.Kind.{Kind}
use Rattle.otp_rules.specs.declared.event.Kind.TheVariants as kind
use Rattle.otp_rules.specs.declared.event.Waiting.{Waiting}
use Rattle.otp_rules.specs.declared.event.Waiting.TheVariants as waiting
use Rattle.otp_rules.specs.declared.work.Sequel.TheVariants as sequel
use Rattle.otp_rules.specs.State.{Outcome, State, answer, with_stamps, with_work}
use Rattle.otp_rules.specs.Places.{end_row, set_row}
use Rattle.otp_rules.specs.Restarts.{running}
use Rattle.otp_rules.specs.Stops.{calm_all, is_exit, without, tell_row, tell, use_exit, stop_each, terminate}
use Rattle.otp_rules.specs.Starts.{is_due, start_row, start}
use Rattle.otp_rules.specs.Ends.{refuse_all, end_all}
use Rattle.otp_rules.specs.Work.{advance}
use Rattle.otp_rules.specs.Deaths.{restart_rows, restart}
use Rattle.otp_rules.specs.Step.{open_rows, open_with, tick, decide, stamped, step, step_on}
use Rattle.otp_rules.specs.Run.{empty_state, state_after}
use Rattle.otp_rules.specs.Needs.{IsNumbered, is_start, needs_number, numbers_of}
use Rattle.otp_rules.specs.Homes.{Brings, IsFirst, is_ended}
use Rattle.otp_rules.specs.Fit.{rows_in}
use Rattle.otp_rules.specs.Progress.{IsIn, at_most_one}
use Rattle.otp_rules.specs.InOrder.{AreGiven}
use Rattle.otp_rules.specs.Lives.{EndsAreHeard, EndsTellStarted, EndsTellStartedFrom, IsHeld, TakesEnd}
use Rattle.otp_rules.proofs.GoesOn.{GoesOn, advance-on}
use Rattle.otp_rules.proofs.Walks.{restart-by, stop_each-by, terminate-by, with_stops}
use Rattle.otp_rules.proofs.Decisions.{BringsExit, IsUnmoved, SurvivesEvent, StandsAt, at_row-survives, at_number-survives, decide-survives, decide-survives_event}
use Rattle.otp_rules.proofs.Counting.{end_row-quiet, times-append, times-cons, use_exit-quiet}
use Rattle.otp_rules.proofs.Homes.{none_has, or_cases, or_right, quiet_more, without_less}
use Rattle.otp_rules.proofs.Finishing.{zero_or_more}
use Rattle.otp_rules.proofs.Numbers.{NoMore, no_more-survives, step-grown}

-- the end of this process waits
abbrev pub Waits : ℕ → Outcome → Type 0
Waits p o = list_any (is_ended p) o.state.waiting ≡ true

-- it waits no more than before
abbrev pub Less : ℕ → Outcome → Outcome → Type 0
Less p old new = Waits p new → Waits p old

pub tell-less : (p q : ℕ) (o : Outcome) → Less p o (tell q o)
unfolding tell tell_row
tell-less p q o = at_number-survives (Less p o) q (tell_row q) o (λ h. h) (λ i row at has h. h)

pub use_exit-less : (p q : ℕ) (place : Option ℕ) (o left : Outcome) → left.state.waiting ≡ o.state.waiting → Less p o (use_exit q place left)
use_exit-less p q place o left same h =
    without_less p place o.state.waiting
    (subst (λ (ws : List Waiting). list_any (is_ended p) ws ≡ true) ((use_exit-quiet q place left).0 ∙ ap (λ (ws : List Waiting). without ws place) same) h)

stop_each-less : (p : ℕ) (qs : List ℕ) (o : Outcome) → Less p o (stop_each qs o)
stop_each-less p qs o =
    stop_each-by (Less p o) (λ q x _ h w. h (use_exit-less p q (position (is_exit q) x.state.waiting) x x refl w)) (λ q x _ h w. h (tell-less p q x w)) qs o (λ w. w)

pub terminate-less : (p : ℕ) (e : Ending) (o : Outcome) → Less p o (terminate e o)
terminate-less p e o =
    terminate-by (Less p o) e o
    (λ _. stop_each-less p (running o.state.rows) (calm_all (with_work [] [] (Some (sequel.End e)) o)))
    (λ _ h. h)

pub restart-less : (p q place : ℕ) (row : Row) (o : Outcome) → Less p o (restart q place row o)
unfolding restart_rows
restart-less p q place row o =
    let counted : Outcome = with_stamps (o.state.stamps ++ o.state.last ∷ []) (set_row place row Undefined o) in
    restart-by (Less p o) q place row o
    (λ _. terminate-less p ending.Intensity counted)
    (λ _ h. h)

pub answer-less : (p c : ℕ) (r : Reply) (o : Outcome) → Less p o (answer c r o)
unfolding answer
answer-less p c r o h = h

pub tick-less : (p : ℕ) (o : Outcome) → Less p o (tick o)
unfolding tick
tick-less p o h = h

pub open-less : (p own : ℕ) (o : Outcome) → Less p o (open_rows own o)
unfolding open_rows open_with
open-less p own o h = h

pub end-less : (p place : ℕ) (row : Row) (o : Outcome) → Less p o (end_row place row o)
end-less p place row o h = subst (λ (ws : List Waiting). list_any (is_ended p) ws ≡ true) (end_row-quiet place row o).0 h

-- one that waits did before, or the event brings it, and a child had its process
abbrev pub IsHeard : (Item → Type 0) → Outcome → ℕ → Outcome → Type 0
IsHeard G old p o = Waits p o → Waits p old ⊎ (BringsExit G p × IsHeld old.state.rows p)

-- an end that is brought waits behind the others
pub exit_put : (D : Type 0) (p q : ℕ) (r : Reason) (ws : List Waiting) → (q ≡ p → D) → (list_any (is_ended p) ws ≡ true → D) → list_any (is_ended p) (ws ++ waiting.Item (item.Note (note.Exit q r)) ∷ []) ≡ true → D
exit_put D p q r ws brings h waits =
    ⊎_elim h
    (λ (new : ((q == p) || false) ≡ true). ⊎_elim (λ (same : (q == p) ≡ true). brings (eqb-true q p same)) (λ e. absurd (false≢true e)) (or_cases (q == p) false new))
    (or_cases (list_any (is_ended p) ws) ((q == p) || false) (sym (list_any-append (is_ended p) ws (waiting.Item (item.Note (note.Exit q r)) ∷ [])) ∙ waits))

held_at : (p place : ℕ) (row : Row) (old o : Outcome) → IsUnmoved old o → StandsAt place row o → has_process p row.state ≡ true → IsHeld old.state.rows p
held_at p place row old o u at has =
    let there : slice_get old.state.rows place ≡ Some row = ap (λ (x : Outcome). slice_get x.state.rows place) (sym u) ∙ at in
    (row, (place, slice_get_within old.state.rows place row there, get_or_from_slice_get old.state.rows place row row there), has)

heard-survives : (k : Kind) (G : Item → Type 0) (old : Outcome) (p : ℕ) → SurvivesEvent k G old (IsHeard G old p)
heard-survives k G old p =
    record {
      answered = λ c r o quiet h w. h (answer-less p c r o w);
      taken = λ x xs resumed idle runs is h w. inl (subst (λ (ws : List Waiting). list_any (is_ended p) ws ≡ true) (sym is) (or_right (is_ended p x) (list_any (is_ended p) xs) w));
      call_waits = λ c x o u busy g h w. h (quiet_more o.state.waiting (waiting.Item (item.Call c x)) (λ q. refl) p w);
      exit_waits = λ q r place row o u at has g h.
          exit_put (Waits p old ⊎ (BringsExit G p × IsHeld old.state.rows p)) p q r o.state.waiting (λ same. inr ((r, subst (λ (n : ℕ). G (item.Note (note.Exit n r))) same g), subst (λ (n : ℕ). IsHeld old.state.rows n) same (held_at q place row old o u at has))) h;
      up = λ q place row n kept o u at is same g h. h;
      up_closed = λ q place row n kept c o u at is same follows g h. h;
      ignored = λ q place row n kept o u at is same g h w. h (end-less p place row o w);
      opening_failed = λ place row q kept o u runs at is follows g h w. h (terminate-less p (ending.InitFailed row.spec.id) (set_row place row Undefined o) w);
      restart_failed = λ place row q kept o u at is follows g h w. h (quiet_more o.state.waiting (waiting.Retry kept) (λ n. refl) p w);
      added_failed = λ place row q kept c o u at is follows g h. h;
      restarted_failed = λ place row q kept c o u at is follows g h. h;
      stopped = λ q r place row o u at told g h w. h (end-less p place row o w);
      died = λ q place row o u idle runs at is g h w. h (end-less p place row o w);
      restarts = λ q place row o u idle runs at is h w. h (restart-less p q place row o w);
      ends = λ e o u other idle runs h w. h (terminate-less p e o w);
      ticks = λ is h w. h (tick-less p old w);
      opens = λ own is over h w. h (open-less p own old w);
      adds = λ c id spec o u idle runs named few got h. h;
      starts_again = λ c id place row o u idle runs at has is noted found h. h;
      removed = λ place row o u idle runs at down h. h;
      given_up = λ place row o u idle runs at down h. h;
      stops_child = λ c q place row o u idle runs at up has got h. h;
    }

pub decided-heard : (k : Kind) (old : Outcome) (p : ℕ) → IsHeard (Brings k old.state.waiting) old p (decide k old)
decided-heard k old p =
    let G : Item → Type 0 = Brings k old.state.waiting in
    decide-survives_event k G old (IsHeard G old p) (heard-survives k G old p) (λ i b idle. b) (λ w. inl w)

-- no more ends wait when the work goes on
going-less : (p n : ℕ) (old : Outcome) → GoesOn n (λ _. Less p old) (Less p old)
unfolding start start_row answer end_all refuse_all
going-less p n old =
    record {
      uses = λ q rest o _ h w. h (use_exit-less p q (position (is_exit q) o.state.waiting) o (with_stops rest o) refl w);
      tells = λ q rest o _ h w. h (tell-less p q (with_stops rest o) w);
      starts = λ due dues o _ h. let left : Outcome = with_work o.state.to_stop dues o.state.follows o in at_row-survives (Less p old) (is_due due) left (start_row due n) left h h (λ i row at has. h);
      closes = λ f o _ _ h. h;
      answers = λ c r f o _ _ h. h;
      ready = λ o _ h. h;
      ends = λ e o _ h w. absurd (false≢true w);
    }

advance-less : (p n : ℕ) (o : Outcome) → Less p o (advance n o)
advance-less p n o = advance-on n (λ _. Less p o) (Less p o) (going-less p n o) o (λ _ h. h) (λ _ _ h. h)

first_waits : (ws : List Waiting) (p : ℕ) (r : Reason) → IsFirst ws (item.Note (note.Exit p r)) → list_any (is_ended p) ws ≡ true
first_waits [] p r first = absurd first
first_waits (w ∷ ws) p r first = ap (λ (b : Bool). b || list_any (is_ended p) ws) (ap (λ (y : Waiting). is_ended p y) first ∙ eq-eqb p p refl)

brought : (k : Kind) (ws : List Waiting) (p : ℕ) → BringsExit (Brings k ws) p → (list_any (is_ended p) ws ≡ true) ⊎ TakesEnd k p
brought (kind.Opened own) ws p b = absurd b.1
brought (kind.Took j) ws p b = inr (note.Exit p b.0, ap (λ (i : Item). kind.Took i) b.1, refl)
brought kind.Resumed ws p b = inl (first_waits ws p b.0 b.1)
brought kind.Ticked ws p b = absurd b.1
brought kind.Stopped ws p b = absurd b.1

pub ends_are_heard_law : EndsAreHeard
unfolding step step_on
ends_are_heard_law s e p waits =
    let start : Outcome = record { state = stamped e.reading s; orders = [] } in
    let decides : Waits p (decide e.kind start) = advance-less p (unwrap_or e.number 0) (decide e.kind start) waits in
    ⊎_elim (λ was. inl was) (λ heard. ⊎_elim (λ first. inl first) (λ took. inr (took, heard.1)) (brought e.kind s.waiting p heard.0)) (decided-heard e.kind start p decides)

-- a child's process had it before, or is the event's
held_after : (s : State) (e : Event) (q : ℕ) → is_some e.number ≡ needs_number s e.reading e.kind → 0 < rows_in (has_process q) (step s e).state.rows → (0 < rows_in (has_process q) s.rows) ⊎ (e.number ≡ Some q)
unfolding needs_number
held_after s e q numbered held = by_number e.number refl
  where
    before : NoMore (record { state = stamped e.reading s; orders = [] }) (decide e.kind (record { state = stamped e.reading s; orders = [] }))
    before =
        let start : Outcome = record { state = stamped e.reading s; orders = [] } in
        decide-survives e.kind (NoMore start) start (no_more-survives start e.kind (is_some s.follows)) (λ q. omega arith)

    by_number : (x : Option ℕ) → e.number ≡ x → (0 < rows_in (has_process q) s.rows) ⊎ (e.number ≡ Some q)
    by_number None is =
        ⊎_elim (λ less. inl (omega (arith, held, less q, before q)))
        (λ more.
        let quiet : list_any is_start (step s e).orders ≡ false = ap (λ (x : Option ℕ). list_any is_start (step s (record { reading = e.reading; number = x; kind = e.kind })).orders) is ∙ sym numbered ∙ ap (λ (x : Option ℕ). is_some x) is in
        absurd (false≢true (sym quiet ∙ more.0)))
        (step-grown s e)
    by_number (Some k) is =
        ⊎_elim (λ less. inl (omega (arith, held, less q, before q)))
        (λ more.
        let own : ◌≡◌ {A = ℕ} (cond (unwrap_or e.number 0 == q) 1 0) (cond (k == q) 1 0) = ap (λ (x : Option ℕ). cond {A = ℕ} (unwrap_or x 0 == q) 1 0) is in
        ⊎_elim (λ (same : (k == q) ≡ true). inr (is ∙ ap (λ (n : ℕ). Some n) (eqb-true k q same)))
        (λ (other : (k == q) ≡ false). let none : ◌≡◌ {A = ℕ} (cond (k == q) 1 0) 0 = ap (λ (b : Bool). cond b 1 0) other in inl (omega (arith, held, more.1 q, own, none, before q)))
        (cases_Bool (k == q)))
        (step-grown s e)

held_counts : (p : ℕ) (rows : List Row) → IsHeld rows p → 0 < rows_in (has_process p) rows
held_counts p rows h =
    ⊎_elim (λ none. absurd (false≢true (sym (none_has p rows none h.0 h.1) ∙ h.2))) (λ some. some) (zero_or_more (rows_in (has_process p) rows))

in_front : (q : ℕ) (xs ys : List ℕ) → IsIn q xs → IsIn q (xs ++ ys)
in_front q xs ys h = omega (arith, h, times-append q xs ys)

in_back : (q : ℕ) (xs : List ℕ) → IsIn q (xs ++ q ∷ [])
in_back q xs =
    let one : ◌≡◌ {A = ℕ} (cond (q == q) 1 0) 1 = ap (λ (b : Bool). cond b 1 0) (eq-eqb q q refl) in
    omega (arith, one, times-append q xs (q ∷ []), times-cons q q [])

step-given : (given : List ℕ) (s : State) (e : Event) → is_some e.number ≡ needs_number s e.reading e.kind → AreGiven given s → AreGiven (given ++ at_most_one e.number) (step s e).state
step-given given s e numbered h q (inl held) =
    ⊎_elim (λ before. in_front q given (at_most_one e.number) (h q (inl before)))
    (λ own. subst (λ (x : Option ℕ). IsIn q (given ++ at_most_one x)) (sym own) (in_back q given))
    (held_after s e q numbered held)
step-given given s e numbered h q (inr waits) =
    ⊎_elim (λ before. in_front q given (at_most_one e.number) (h q (inr before)))
    (λ heard. in_front q given (at_most_one e.number) (h q (inl (held_counts q s.rows heard.1))))
    (ends_are_heard_law s e q waits)

joined : (given : List ℕ) (x : Option ℕ) (rest : List ℕ) (q : ℕ) → IsIn q ((given ++ at_most_one x) ++ rest) → IsIn q (given ++ cons_option x rest)
joined given None rest q h =
    omega (arith, h, times-append q (given ++ []) rest, times-append q given [], times-append q given rest)
joined given (Some k) rest q h =
    omega (arith, h, times-append q (given ++ k ∷ []) rest, times-append q given (k ∷ []), times-append q given (k ∷ rest), times-cons q k [], times-cons q k rest)

run-given : (given : List ℕ) (s : State) (es : List Event) → IsNumbered s es → AreGiven given s → AreGiven (given ++ numbers_of es) (state_after s es)
run-given given s [] numbered h q x = in_front q given [] (h q x)
run-given given s (e ∷ es) numbered h q x =
    joined given e.number (numbers_of es) q (run-given (given ++ at_most_one e.number) (step s e).state es numbered.1 (step-given given s e numbered.0 h) q x)

pub ends_tell_started_from_law : EndsTellStartedFrom
ends_tell_started_from_law given s events p known numbered waits = run-given given s events numbered known p (inr waits)

pub ends_tell_started_law : EndsTellStarted
ends_tell_started_law flags specs events p lawful waits =
    ends_tell_started_from_law [] (empty_state flags specs) events p (λ q x. absurd (⊎_elim (λ held. let none : rows_in (has_process q) [] ≡ 0 = refl in omega (arith, held, none)) (λ w. false≢true w) x)) lawful.0 waits
