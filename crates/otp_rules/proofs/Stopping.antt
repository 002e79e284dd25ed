-- The open work and its progress are in step: what has been stopped.
use Rattle.std.specs.Prelude.{◌≡◌, ◌⊎◌, ℕ, ◌==◌, ◌+◌, ◌<◌, ◌++◌, ◌&&◌, Bool, true, false, List, [], ◌∷◌, Option, refl, is_some, slice_set, count_by}
use Rattle.std.specs.List.{filter_map, cons_option}
use Rattle.std.proofs.Common.{◌∙◌, ap, sym, subst, inl, inr, arith, ⊎_elim, cond}
use Rattle.std.proofs.lemmas.Bool.{false≢true, cases_Bool, eq-eqb, eqb-true}
use Rattle.std.proofs.lemmas.List.Sums.{sum_by-cons}
use Rattle.otp_reason.specs.declared.reason.Reason.{Reason}
use Rattle.otp_spec.specs.declared.flags.SupFlags.{SupFlags}
use Rattle.otp_table.specs.declared.row.Row.{Row}
use Rattle.otp_table.specs.declared.row.RowState.{RowState}
use Rattle.otp_table.specs.declared.row.RowState.TheVariants.{Starting, Up}
use Rattle.otp_table.specs.Rows.{with_state}
use Rattle.otp_rules.specs.declared.call.Reply.{Reply}
use Rattle.otp_rules.specs.declared.event.Kind.{Kind}
use Rattle.otp_rules.specs.declared.event.Waiting.{Waiting}
use Rattle.otp_rules.specs.declared.work.Sequel.{Sequel}
use Rattle.otp_spec.specs.Flags.{is_simple}
use Rattle.otp_rules.specs.State.{Outcome, State, answer, put_last}
use Rattle.otp_rules.specs.Places.{end_row, set_row}
use Rattle.otp_rules.specs.Stops.{is_exit}
use Rattle.otp_rules.specs.Step.{tick}
use Rattle.otp_rules.specs.Progress.{Progress, is_end, ends_together, exit_of_waiting, ended_by, went_on, IsIn}
use Rattle.otp_rules.specs.Fit.{is_told, rows_in, times, HasWaiting, HasPart, HasStops, Keeps}
use Rattle.otp_rules.proofs.States.{one_process, told_has}
use Rattle.otp_rules.proofs.Decisions.{IsNoted, StandsAt, Survives}
use Rattle.otp_rules.proofs.Counting.{times-cons, times-append, rows_in-set, rows_in-end, Alike, alike, end_row-alike, tick_count, end_row-quiet, put_count}
use Rattle.otp_rules.proofs.WhileOpen.{Stays, While, while-survives}
use Rattle.otp_reason.specs.declared.note.Note.TheVariants as note
use Rattle.otp_rules.specs.declared.event.Item.TheVariants as item
use Rattle.otp_rules.specs.declared.event.Waiting.TheVariants as waiting

-- what has been stopped is in step with the state, while the work stays open
abbrev Stopped : Progress → State → Type 0
Stopped g s = HasWaiting s g × HasStops s g

abbrev pub Carried : Option Sequel → Progress → Outcome → Type 0
Carried f g = While (Stopped g) f

pub not_busy : (s : State) (g : Progress) → is_some s.follows ≡ false → Keeps s g
not_busy s g idle busy = absurd (false≢true (sym idle ∙ busy))

pub apart-alike : (new old : Outcome) → Alike new old → ends_together new.state ≡ ends_together old.state
apart-alike new old same =
    ap (λ (f : Option Sequel). is_end f && is_simple new.state.flags.strategy) same.4 ∙ ap (λ (x : SupFlags). is_end old.state.follows && is_simple x.strategy) same.0

-- what waits or was told stays so, or has ended
stays-stopped : (g : Progress) (o new : Outcome) → Alike new o
    → ((q : ℕ) → 0 < count_by (is_exit q) new.state.waiting → IsIn q g.ended ⊎ (0 < count_by (is_exit q) o.state.waiting))
    → ((q : ℕ) → 0 < rows_in (is_told q) o.state.rows → IsIn q g.ended ⊎ (0 < rows_in (is_told q) new.state.rows))
    → Stopped g o.state → Stopped g new.state
stays-stopped g o new same hw hr had = (
  λ q h. ⊎_elim (λ x. x) (λ x. had.0 q x) (hw q h),
  λ apart.
      let part : HasPart o.state g = had.1 (sym (apart-alike new o same) ∙ apart) in (
        part.0,
        part.1,
        part.2 ∙ ap (λ (xs : List ℕ). part.1 ++ xs) (sym same.2),
        λ q i. ⊎_elim (λ x. inl x) (λ x. hr q x) (part.3 q i),
      ),
)

-- the event brings the Exit
noted-in : (k : Kind) (b : Bool) (p : ℕ) (r : Reason) (o : Outcome) (g : Progress) → IsNoted k b (note.Exit p r) o → is_some o.state.follows ≡ true → IsIn p (went_on k g).ended
noted-in k b p r o g (inl is) busy =
    subst (λ (x : Kind). IsIn p (g.ended ++ ended_by x)) (sym is)
    (let one : ◌≡◌ {A = ℕ} (cond (p == p) 1 0) 1 = ap (λ (x : Bool). cond x 1 0) (eq-eqb p p refl) in
    omega (arith, times-append p g.ended (p ∷ []), times-cons p p [], one))
noted-in k b p r o g (inr idle) busy = absurd (false≢true (sym idle.1 ∙ busy))

put-waits : (k : Kind) (b : Bool) (p : ℕ) (r : Reason) (o : Outcome) (g : Progress) → IsNoted k b (note.Exit p r) o → is_some o.state.follows ≡ true → (q : ℕ) → 0 < count_by (is_exit q) (o.state.waiting ++ waiting.Item (item.Note (note.Exit p r)) ∷ []) → IsIn q (went_on k g).ended ⊎ (0 < count_by (is_exit q) o.state.waiting)
put-waits k b p r o g noted busy q h =
    let w : Waiting = waiting.Item (item.Note (note.Exit p r)) in
    ⊎_elim
    (λ same. inl (subst (λ (n : ℕ). IsIn n (went_on k g).ended) (eqb-true p q same) (noted-in k b p r o g noted busy)))
    (λ other. inr (let z : ◌≡◌ {A = ℕ} (cond (p == q) 1 0) 0 = ap (λ (x : Bool). cond x 1 0) other in omega (arith, h, z, put_count q o.state.waiting w)))
    (cases_Bool (p == q))

stopped-told : (k : Kind) (b : Bool) (p : ℕ) (r : Reason) (place : ℕ) (row : Row) (o : Outcome) (g : Progress) → StandsAt place row o → is_told p row.state ≡ true → IsNoted k b (note.Exit p r) o → is_some o.state.follows ≡ true → (q : ℕ) → 0 < rows_in (is_told q) o.state.rows → IsIn q (went_on k g).ended ⊎ (0 < rows_in (is_told q) (end_row place row o).state.rows)
stopped-told k b p r place row o g at h noted busy q x =
    let e : rows_in (is_told q) (end_row place row o).state.rows + cond (is_told q row.state) 1 0 ≡ rows_in (is_told q) o.state.rows = rows_in-end (is_told q) refl place row o at in
    ⊎_elim
    (λ too. inl (subst (λ (n : ℕ). IsIn n (went_on k g).ended) (sym (one_process p q row.state (told_has p row.state h) (told_has q row.state too))) (noted-in k b p r o g noted busy)))
    (λ other. inr (let z : ◌≡◌ {A = ℕ} (cond (is_told q row.state) 1 0) 0 = ap (λ (y : Bool). cond y 1 0) other in omega (arith, x, e, z)))
    (cases_Bool (is_told q row.state))

answer-stopped : (g : Progress) (c : ℕ) (r : Reply) (o : Outcome) → Stopped g o.state → Stopped g (answer c r o).state
unfolding answer
answer-stopped g c r o x = x

tick-stopped : (g : Progress) (o : Outcome) → ((q : ℕ) → rows_in (is_told q) (tick o).state.rows ≡ rows_in (is_told q) o.state.rows) → Stopped g o.state → Stopped g (tick o).state
unfolding tick
tick-stopped g o same x = stays-stopped g o (tick o) (alike o) (λ q h. inr h) (λ q h. inr (omega (arith, h, same q))) x

-- a child that starts was not told to stop
starting-stopped : (g : Progress) (place : ℕ) (row : Row) (q kept : ℕ) (o new : Outcome) → Alike new o → row.state ≡ Starting q kept → new.state.waiting ≡ o.state.waiting
    → ((n : ℕ) → rows_in (is_told n) new.state.rows + cond (is_told n row.state) 1 0 ≡ rows_in (is_told n) o.state.rows) → Stopped g o.state → Stopped g new.state
starting-stopped g place row q kept o new same is waits left x =
    stays-stopped g o new same
    (λ n h. inr (subst (λ (ws : List Waiting). 0 < count_by (is_exit n) ws) waits h))
    (λ n h. inr (let z : ◌≡◌ {A = ℕ} (cond (is_told n row.state) 1 0) 0 = ap (λ (t : RowState). cond (is_told n t) 1 0) is in omega (arith, h, left n, z))) x

stays : (k : Kind) (b : Bool) (g : Progress) → Stays k b (Stopped (went_on k g))
stays k b g =
    let g1 : Progress = went_on k g in
    record {
      answered = answer-stopped g1;
      call_waits = λ c call o x.
          stays-stopped g1 o (put_last (waiting.Item (item.Call c call)) o) (alike o) (λ q h. inr (omega (arith, h, put_count q o.state.waiting (waiting.Item (item.Call c call))))) (λ q h. inr h) x;
      exit_waits = λ p r o noted busy x. stays-stopped g1 o (put_last (waiting.Item (item.Note (note.Exit p r))) o) (alike o) (λ q h. put-waits k b p r o g noted busy q h) (λ q h. inr h) x;
      up = λ p place row q kept o at is same noted busy x.
          starting-stopped g1 place row q kept o (set_row place row (Up p) o) (alike o) is refl
          (λ n. let e : rows_in (is_told n) (slice_set o.state.rows place (with_state (Up p) row)) + cond (is_told n row.state) 1 0 ≡ rows_in (is_told n) o.state.rows + 0 = rows_in-set (is_told n) place row (Up p) o.state.rows at in omega (arith, e)) x;
      ignored = λ p place row q kept o at is same noted busy x.
          starting-stopped g1 place row q kept o (end_row place row o) (end_row-alike place row o) is (end_row-quiet place row o).0 (λ n. rows_in-end (is_told n) refl place row o at) x;
      stopped = λ p r place row o at h noted busy x.
          stays-stopped g1 o (end_row place row o) (end_row-alike place row o) (λ n i. inr (subst (λ (ws : List Waiting). 0 < count_by (is_exit n) ws) (end_row-quiet place row o).0 i))
          (λ n i. stopped-told k b p r place row o g at h noted busy n i) x;
      ticks = λ o x. tick-stopped g1 o (λ q. tick_count (is_told q) (λ p d. refl) o) x;
    }

pub carried-survives : (k : Kind) (b : Bool) (f : Option Sequel) (g : Progress) → b ≡ is_some f → Survives k b (Carried f (went_on k g))
carried-survives k b f g is_base = while-survives k b f (Stopped (went_on k g)) is_base (stays k b g)

-- the Exits that wait are those of the list
waits-one : (q : ℕ) (w : Waiting) (rest : List ℕ) → times q (cons_option (exit_of_waiting w) rest) ≡ cond (is_exit q w) 1 0 + times q rest
waits-one q (waiting.Item (item.Note (note.Up _))) rest = omega arith
waits-one q (waiting.Item (item.Note (note.Ignored _))) rest = omega arith
waits-one q (waiting.Item (item.Note (note.Failed _ _))) rest = omega arith
waits-one q (waiting.Item (item.Note (note.Exit p _))) rest = times-cons q p rest
waits-one q (waiting.Item (item.Call _ _)) rest = omega arith
waits-one q (waiting.Retry _) rest = omega arith

pub waits-all : (q : ℕ) (ws : List Waiting) → times q (filter_map exit_of_waiting ws) ≡ count_by (is_exit q) ws
waits-all q [] = refl
waits-all q (w ∷ ws) = omega (arith, waits-one q w (filter_map exit_of_waiting ws), sum_by-cons (λ x. cond (is_exit q x) 1 0) w ws, waits-all q ws)
