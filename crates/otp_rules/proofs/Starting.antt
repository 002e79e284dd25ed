-- The open work and its progress are in step: what has been started.
use Rattle.std.specs.Prelude.{◌≡◌, ◌⊎◌, ℕ, ◌==◌, ◌+◌, ◌<◌, ◌++◌, Bool, true, false, List, [], ◌∷◌, Option, All, refl, is_some, slice_set, map}
use Rattle.std.proofs.Common.{◌∙◌, ap, sym, subst, inl, inr, arith, ⊎_elim, cond, get_or}
use Rattle.std.proofs.lemmas.Bool.{cond_both, false≢true, cases_Bool, eq-eqb, eqb-true, or_left, or_right}
use Rattle.std.proofs.lemmas.List.Elements.{All-nil, All-map}
use Rattle.otp_reason.specs.declared.note.Note.{Note}
use Rattle.otp_table.specs.declared.row.Row.{Row}
use Rattle.otp_table.specs.declared.row.RowState.{RowState}
use Rattle.otp_table.specs.declared.row.RowState.TheVariants.{Undefined, Starting, Up, Asked, Killed, Restarting}
use Rattle.otp_table.specs.Rows.{with_state}
use Rattle.otp_rules.specs.declared.call.Reply.{Reply}
use Rattle.otp_rules.specs.declared.event.Event.{Event}
use Rattle.otp_rules.specs.declared.event.Kind.{Kind}
use Rattle.otp_rules.specs.declared.work.Due.{Due}
use Rattle.otp_rules.specs.State.{Outcome, State, answer, put_last}
use Rattle.otp_rules.specs.Places.{end_row, set_row}
use Rattle.otp_rules.specs.Step.{tick, decide, stamped}
use Rattle.otp_rules.specs.Progress.{Ordered, Progress, is_opened, is_answer_note, is_answer, heard, decided, id_bytes, opened_now, went_on, seen, taken}
use Rattle.otp_rules.specs.Fit.{is_told, rows_in, IsSound, is_starting, IsUnderWay, HasStarts, KeepsStarts}
use Rattle.otp_rules.proofs.Decisions.{IsNoted, decide-survives}
use Rattle.otp_rules.proofs.Counting.{rows_in-set, rows_in-end, Alike, alike, end_row-alike, tick_count}
use Rattle.otp_rules.proofs.WhileOpen.{Stays, While, while-survives}
use Rattle.otp_reason.specs.declared.note.Note.TheVariants as note
use Rattle.otp_rules.specs.declared.event.Item.TheVariants as item
use Rattle.otp_rules.specs.declared.event.Waiting.TheVariants as waiting

pub idle_keeps : (s : State) (g : Progress) → is_some s.follows ≡ false → KeepsStarts s g
idle_keeps s g idle busy = absurd (false≢true (sym idle ∙ busy))

-- an answer that the event brings counts for the starts ordered before it
heard-counts : (k : Kind) (xs : List Ordered) → All (λ x. is_answer x.number k ≡ true → x.answered ≡ true) (map (heard k) xs)
heard-counts k xs = All-map (λ (x : Ordered). is_answer x.number k ≡ true → x.answered ≡ true) (heard k) xs (λ i d within h. or_right (get_or xs i d).answered (is_answer (get_or xs i d).number k) h)

heard-ids : (k : Kind) (xs : List Ordered) → map (λ (x : Ordered). id_bytes x.id) (map (heard k) xs) ≡ map (λ (x : Ordered). id_bytes x.id) xs
heard-ids k [] = refl
heard-ids k (x ∷ xs) = ap (λ (ids : List (Option (List ℕ))). id_bytes x.id ∷ ids) (heard-ids k xs)

-- who starts still does, or is answered
stays-started : (k : Kind) (g : Progress) (o new : Outcome) → Alike new o
    → ((m : ℕ) → 0 < rows_in (is_starting m) o.state.rows → (is_answer m k ≡ true) ⊎ (0 < rows_in (is_starting m) new.state.rows))
    → HasStarts o.state (went_on k g) → HasStarts new.state (went_on k g)
stays-started k g o new same hr had = (
  had.0,
  had.1 ∙ ap (λ (ds : List Due). had.0 ++ ds) (sym same.3),
  had.2,
  λ i d within.
      ⊎_elim
      (λ x. inl x)
      (λ x. ⊎_elim (λ answer. inl (heard-counts k g.ordered i d within answer)) (λ y. inr y) (hr (get_or (map (heard k) g.ordered) i d).number x))
      (had.3 i d within),
)

noted-answered : (k : Kind) (b : Bool) (p : ℕ) (x : Note) (o : Outcome) → is_answer_note p x ≡ true → IsNoted k b x o → is_some o.state.follows ≡ true → is_answer p k ≡ true
noted-answered k b p x o answers (inl is) busy = ap (λ (y : Kind). is_answer p y) is ∙ answers
noted-answered k b p x o answers (inr idle) busy = absurd (false≢true (sym idle.1 ∙ busy))

-- the answer of this process comes: another's start is still awaited
answered-start : (k : Kind) (b : Bool) (p : ℕ) (x : Note) (row : Row) (q kept : ℕ) (o : Outcome) (rows : List Row) → is_answer_note p x ≡ true → IsNoted k b x o → is_some o.state.follows ≡ true → row.state ≡ Starting q kept → (q == p) ≡ true
    → (m : ℕ) → rows_in (is_starting m) rows + cond (is_starting m row.state) 1 0 ≡ rows_in (is_starting m) o.state.rows → 0 < rows_in (is_starting m) o.state.rows → (is_answer m k ≡ true) ⊎ (0 < rows_in (is_starting m) rows)
answered-start k b p x row q kept o rows answers noted busy is same m e h =
    let here : ◌≡◌ {A = ℕ} (cond (is_starting m row.state) 1 0) (cond (q == m) 1 0) = ap (λ (s : RowState). cond {A = ℕ} (is_starting m s) 1 0) is in
    ⊎_elim
    (λ too. inl (subst (λ (n : ℕ). is_answer n k ≡ true) (sym (eqb-true q p same) ∙ eqb-true q m too) (noted-answered k b p x o answers noted busy)))
    (λ other. inr (let z : ◌≡◌ {A = ℕ} (cond (q == m) 1 0) 0 = ap (λ (y : Bool). cond y 1 0) other in omega (arith, h, e, here, z)))
    (cases_Bool (q == m))

told_loose : (p m : ℕ) (state : RowState) → is_told p state ≡ true → is_starting m state ≡ false
told_loose p m Undefined h = refl
told_loose p m (Starting _ _) h = absurd (false≢true h)
told_loose p m (Up _) h = refl
told_loose p m (Asked _ _) h = refl
told_loose p m (Killed _) h = refl
told_loose p m (Restarting _) h = refl

answer-started : (k : Kind) (g : Progress) (c : ℕ) (r : Reply) (o : Outcome) → HasStarts o.state (went_on k g) → HasStarts (answer c r o).state (went_on k g)
unfolding answer
answer-started k g c r o x = x

tick-started : (k : Kind) (g : Progress) (o : Outcome) → ((q : ℕ) → rows_in (is_starting q) (tick o).state.rows ≡ rows_in (is_starting q) o.state.rows) → HasStarts o.state (went_on k g) → HasStarts (tick o).state (went_on k g)
unfolding tick
tick-started k g o same x = stays-started k g o (tick o) (alike o) (λ q h. inr (omega (arith, h, same q))) x

stays : (k : Kind) (b : Bool) (g : Progress) → Stays k b (λ s. HasStarts s (went_on k g))
stays k b g =
    record {
      answered = answer-started k g;
      call_waits = λ c call o x. stays-started k g o (put_last (waiting.Item (item.Call c call)) o) (alike o) (λ q h. inr h) x;
      exit_waits = λ p r o noted busy x. stays-started k g o (put_last (waiting.Item (item.Note (note.Exit p r))) o) (alike o) (λ q h. inr h) x;
      up = λ p place row q kept o at is same noted busy x.
          stays-started k g o (set_row place row (Up p) o) (alike o)
          (λ m h.
          let e : rows_in (is_starting m) (slice_set o.state.rows place (with_state (Up p) row)) + cond (is_starting m row.state) 1 0 ≡ rows_in (is_starting m) o.state.rows + 0 = rows_in-set (is_starting m) place row (Up p) o.state.rows at in
          answered-start k b p (note.Up p) row q kept o (slice_set o.state.rows place (with_state (Up p) row)) (eq-eqb p p refl) noted busy is same m (omega (arith, e)) h) x;
      ignored = λ p place row q kept o at is same noted busy x.
          stays-started k g o (end_row place row o) (end_row-alike place row o)
          (λ m h. answered-start k b p (note.Ignored p) row q kept o (end_row place row o).state.rows (eq-eqb p p refl) noted busy is same m (rows_in-end (is_starting m) refl place row o at) h) x;
      stopped = λ p r place row o at h noted busy x.
          stays-started k g o (end_row place row o) (end_row-alike place row o)
          (λ m i. inr (
          let e : rows_in (is_starting m) (end_row place row o).state.rows + cond (is_starting m row.state) 1 0 ≡ rows_in (is_starting m) o.state.rows = rows_in-end (is_starting m) refl place row o at in
          let z : ◌≡◌ {A = ℕ} (cond (is_starting m row.state) 1 0) 0 = ap (λ (y : Bool). cond y 1 0) (told_loose p m row.state h) in
          omega (arith, i, e, z))) x;
      ticks = λ o x. tick-started k g o (λ q. tick_count (is_starting q) (λ p d. refl) o) x;
    }

pub decided-starts : (s : State) (e : Event) (g : Progress) → IsSound s → KeepsStarts s g → KeepsStarts (decided s e) (seen s e g)
decided-starts s e g sound keeps =
    let start : Outcome = record { state = stamped e.reading s; orders = [] } in
    let first : While (λ t. HasStarts t (went_on e.kind g)) s.follows start = (
      sound,
      inl refl,
      λ not busy.
          let had : HasStarts s g = keeps busy in (
            had.0,
            had.1,
            heard-ids e.kind g.ordered ∙ had.2,
            All-map (IsUnderWay s.rows) (heard e.kind) g.ordered
                (λ i d within. ⊎_elim (λ x. inl (or_left (get_or g.ordered i d).answered (is_answer (get_or g.ordered i d).number e.kind) x)) (λ x. inr x) (had.3 i d within)),
          ),
    ) in
    let last : While (λ t. HasStarts t (went_on e.kind g)) s.follows (decide e.kind start) =
    decide-survives e.kind (While (λ t. HasStarts t (went_on e.kind g)) s.follows) start (while-survives e.kind (is_some s.follows) s.follows (λ t. HasStarts t (went_on e.kind g)) refl (stays e.kind (is_some s.follows) g)) first in
    cond_both (is_opened s.follows (decided s e).follows) (opened_now s (taken e.kind s.waiting) (decided s e)) (went_on e.kind g) (λ (x : Progress). KeepsStarts (decided s e) x)
    (λ _ busy. ([], refl, refl, All-nil (IsUnderWay (decided s e).rows)))
    (λ not. last.2 not)
