-- Each restart is counted once: the stamps are the times of the restarts that are seen from outside.
use Rattle.std.specs.Prelude.{◌≡◌, ◌⊎◌, ℕ, ◌+◌, ◌-◌, ◌≤◌, ◌++◌, Bool, true, false, List, [], ◌∷◌, Option, None, Some, refl, is_some, max, length, remove, slice_set, slice_range, take, drop, unwrap_or}
use Rattle.std.proofs.Common.{◌∙◌, ap, sym, subst, inl, inr, arith, cond}
use Rattle.std.proofs.lemmas.Bool.{cond_both, false≢true, cases_Bool}
use Rattle.std.proofs.Common.{⊎_elim}
use Rattle.otp_table.specs.declared.row.Row.{Row}
use Rattle.otp_table.specs.declared.row.RowState.TheVariants.{Undefined, Starting, Up, Restarting}
use Rattle.otp_table.specs.Rows.{free_slot, calm_rows, is_awaited, with_state}
use Rattle.std.proofs.lemmas.List.Elements.{All-nil}
use Rattle.otp_reason.specs.declared.note.Note.TheVariants as note
use Rattle.otp_rules.specs.declared.call.Reply.{Reply}
use Rattle.otp_rules.specs.declared.ending.Ending.{Ending}
use Rattle.otp_rules.specs.declared.ending.Ending.TheVariants as ending
use Rattle.otp_rules.specs.declared.event.Event.{Event}
use Rattle.otp_rules.specs.declared.event.Item.TheVariants as item
use Rattle.otp_rules.specs.declared.event.Kind.{Kind}
use Rattle.otp_rules.specs.declared.event.Waiting.TheVariants as waiting
use Rattle.otp_rules.specs.declared.work.Sequel.{Sequel}
use Rattle.otp_rules.specs.declared.work.Sequel.TheVariants as sequel
use Rattle.otp_spec.specs.Flags.{is_simple}
use Rattle.otp_rules.specs.State.{Outcome, State, answer, closed, put_last, with_rows, with_stamps, with_waiting, with_work}
use Rattle.otp_rules.specs.Places.{end_row, set_row}
use Rattle.otp_rules.specs.Restarts.{affected_from, affected_to}
use Rattle.otp_rules.specs.Stops.{terminate}
use Rattle.otp_rules.specs.Ends.{refuse_all, end_all}
use Rattle.otp_rules.specs.Deaths.{restart_rows, restart}
use Rattle.otp_rules.specs.Calls.{new_row}
use Rattle.otp_rules.specs.Step.{open_with, open_rows, opening_specs, tick, decide, stamped, step, step_on}
use Rattle.otp_rules.specs.Run.{empty_state}
use Rattle.otp_rules.specs.Progress.{decided, is_end, is_opened}
use Rattle.otp_rules.specs.Fit.{rows_in, IsSound}
use Rattle.otp_rules.specs.Rate.{restarted, restarts, restarts_by, RestartRateFromEmpty, RestartsCounted}
use Rattle.otp_rules.proofs.Walks.{restart-by}
use Rattle.otp_rules.proofs.Decisions.{IsIdle, StandsAt, Survives, decide-survives}
use Rattle.otp_rules.proofs.Counting.{rows_in-append, rows_in-at, rows_in-cons, rows_in-end, rows_in-set, Alike, alike, calm_awaited, drop_rows, end_row-alike, take_rows, tick_count}
use Rattle.otp_rules.proofs.Sound.{advance-sound, awaits_nothing, empty-sound, new_rows, sound-survives}
use Rattle.otp_rules.proofs.WhileOpen.{Tracks, fails_opening, no_after, opens_none, terminate-follows}
use Rattle.otp_rules.proofs.Opened.{down_calm, opens_nothing, opens_not_again, starting}
use Rattle.otp_rules.proofs.Steady.{Goes, advance-goes, terminate-goes}
use Rattle.otp_rules.proofs.Keeps.{decide-keeps}
use Rattle.otp_rules.proofs.Rated.{restart_rate_law}

-- the stamps are those of the restarts so far, where this was to follow the open work when the event came
abbrev IsCounted : Option Sequel → List ℕ → State → Type 0
IsCounted f times s = s.stamps ≡ restarts_by f s.follows s.last times

-- and while an answer is awaited no work that ends nobody has just been opened
abbrev Counted : Option Sequel → List ℕ → Outcome → Type 0
Counted f times o =
    IsSound o.state × Tracks f o.state
    × (is_opened f o.state.follows ≡ true → is_end o.state.follows ≡ false → rows_in is_awaited o.state.rows ≡ 0)
    × IsCounted f times o.state

-- where no work was opened
not_opened : (f x : Option Sequel) (now : ℕ) (times : List ℕ) → is_opened f x ≡ false → restarts_by f x now times ≡ times
not_opened f x now times closed_still = cond_both (is_opened f x) (restarted x now times) times (λ ts. ts ≡ times) (λ yes. absurd (false≢true (sym closed_still ∙ yes))) (λ _. refl)

was_opened : (f x : Option Sequel) (now : ℕ) (times : List ℕ) → is_opened f x ≡ true → restarts_by f x now times ≡ restarted x now times
was_opened f x now times opened = cond_both (is_opened f x) (restarted x now times) times (λ ts. ts ≡ restarted x now times) (λ _. refl) (λ no. absurd (false≢true (sym no ∙ opened)))

-- no work is open: none was opened
idle-counted : (f : Option Sequel) (times : List ℕ) (new : Outcome) → new.state.follows ≡ None → IsSound new.state → new.state.stamps ≡ times → Counted f times new
idle-counted f times new idle sound is =
    let nothing : is_opened f new.state.follows ≡ false = ap (λ (x : Option Sequel). is_opened f x) idle ∙ opens_nothing f in
    (sound, inr (inl idle), (λ opened. absurd (false≢true (sym nothing ∙ opened))), is ∙ sym (not_opened f new.state.follows new.state.last times nothing))

-- the stamps of a state in which no work is open, or an answer is awaited
rests : (b : Bool) (f : Option Sequel) (times : List ℕ) (o : Outcome) → IsIdle b o → Counted f times o → o.state.stamps ≡ times
rests b f times o idle x =
    x.3 ∙ not_opened f o.state.follows o.state.last times (ap (λ (y : Option Sequel). is_opened f y) (no_after o.state.follows idle.1) ∙ opens_nothing f)

awaits : (f : Option Sequel) (times : List ℕ) (place : ℕ) (row : Row) (o : Outcome) → StandsAt place row o → is_awaited row.state ≡ true → is_end o.state.follows ≡ false → Counted f times o → o.state.stamps ≡ times
awaits f times place row o at awaited stays x =
    ⊎_elim
    (λ yes. absurd (
    let one : ◌≡◌ {A = ℕ} (cond (is_awaited row.state) 1 0) 1 = ap (λ (b : Bool). cond b 1 0) awaited in
    omega (arith, rows_in-at is_awaited place row o.state.rows at, one, x.2 yes stays)))
    (λ no. x.3 ∙ not_opened f o.state.follows o.state.last times no)
    (cases_Bool (is_opened f o.state.follows))

-- the work stays as it is
still-counted : (f : Option Sequel) (times : List ℕ) (o new : Outcome) → Alike new o → IsSound new.state → rows_in is_awaited new.state.rows ≤ rows_in is_awaited o.state.rows → Counted f times o → Counted f times new
still-counted f times o new same sound fewer x = (
  sound,
  subst (λ (y : Option Sequel). (y ≡ f) ⊎ ((y ≡ None) ⊎ (is_opened f y ≡ true))) (sym same.4) x.1,
  (λ opened stays.
      let none : rows_in is_awaited o.state.rows ≡ 0 = x.2 (ap (λ (y : Option Sequel). is_opened f y) (sym same.4) ∙ opened) (ap is_end (sym same.4) ∙ stays) in
      omega (arith, fewer, none)),
  same.5 ∙ x.3 ∙ sym (ap (λ (y : Option Sequel). restarts_by f y new.state.last times) same.4 ∙ ap (λ (n : ℕ). restarts_by f o.state.follows n times) same.6),
)

-- work opens where none was open
opens-counted : (b : Bool) (f : Option Sequel) (times : List ℕ) (new : Outcome) → b ≡ is_some f → b ≡ false → is_some new.state.follows ≡ true → IsSound new.state → (is_end new.state.follows ≡ false → rows_in is_awaited new.state.rows ≡ 0)
    → new.state.stamps ≡ restarted new.state.follows new.state.last times → Counted f times new
opens-counted b f times new is idle busy sound calm stamps =
    let opened : is_opened f new.state.follows ≡ true = opens_none f b new.state.follows is idle busy in
    (sound, inr (inr opened), (λ _. calm), stamps ∙ sym (was_opened f new.state.follows new.state.last times opened))

-- an end that isn't one restart too many
other_end : (e : Ending) (now : ℕ) (times : List ℕ) → (e ≡ ending.Intensity → ⊥) → restarted (Some (sequel.End e)) now times ≡ times
other_end ending.Intensity now times other = absurd (other refl)
other_end (ending.Significant _) now times other = refl
other_end ending.Asked now times other = refl
other_end (ending.InitFailed _) now times other = refl

-- the times so far, and the last stamp
abbrev HasTimes : List ℕ → ℕ → Outcome → Type 0
HasTimes stamps last x = (x.state.stamps ≡ stamps) × (x.state.last ≡ last)

-- open work and an end restart nobody
going : (stamps : List ℕ) (last : ℕ) → Goes (HasTimes stamps last)
unfolding answer end_all refuse_all
going stamps last = record { rows = λ rows o h. h; waiting = λ items o h. h; left = λ ps ds o h. h; told = λ id p s o h. h; started = λ id n o h. h; closes = λ f o is stays h. h; answered = λ c r o h. h; ready = λ o h. h; ended = λ e o is h. h }

terminate-times : (e : Ending) (o : Outcome) → HasTimes o.state.stamps o.state.last (terminate e o)
terminate-times e o = terminate-goes (HasTimes o.state.stamps o.state.last) (going o.state.stamps o.state.last) e o (λ ps. (refl, refl))

ended-counted : (f : Option Sequel) (times : List ℕ) (e : Ending) (o : Outcome) → is_opened f (Some (sequel.End e)) ≡ true → IsSound (terminate e o).state → o.state.stamps ≡ restarted (Some (sequel.End e)) o.state.last times → Counted f times (terminate e o)
ended-counted f times e o opened sound stamps =
    let ends : (terminate e o).state.follows ≡ Some (sequel.End e) = terminate-follows e o in
    let opens : is_opened f (terminate e o).state.follows ≡ true = ap (λ (x : Option Sequel). is_opened f x) ends ∙ opened in
    let same : ((terminate e o).state.stamps ≡ o.state.stamps) × ((terminate e o).state.last ≡ o.state.last) = terminate-times e o in (
      sound,
      inr (inr opens),
      (λ _ stays. absurd (false≢true (sym stays ∙ ap is_end ends))),
      same.0 ∙ stamps
          ∙ sym (was_opened f (terminate e o).state.follows (terminate e o).state.last times opens
          ∙ ap (λ (x : Option Sequel). restarted x (terminate e o).state.last times) ends
          ∙ ap (λ (n : ℕ). restarted (Some (sequel.End e)) n times) same.1),
    )

opened-restart : (b : Bool) (f : Option Sequel) (times : List ℕ) (from to place k : ℕ) (o : Outcome) → b ≡ is_some f → b ≡ false → IsSound (restart_rows from to place k o).state → rows_in is_awaited o.state.rows ≡ 0 → o.state.stamps ≡ times ++ o.state.last ∷ []
    → Counted f times (restart_rows from to place k o)
unfolding restart_rows
opened-restart b f times from to place k o is idle sound none stamps =
    opens-counted b f times (restart_rows from to place k o) is idle refl sound
    (λ _. let part : List Row = slice_range o.state.rows from to in
    let calm : rows_in is_awaited (calm_rows part) ≡ rows_in is_awaited part = calm_awaited part in
    let a : rows_in is_awaited part ≤ rows_in is_awaited (drop from o.state.rows) = take_rows is_awaited (to - from) (drop from o.state.rows) in
    omega (arith, rows_in-append is_awaited (take from o.state.rows ++ calm_rows part) (drop to o.state.rows), rows_in-append is_awaited (take from o.state.rows) (calm_rows part), take_rows is_awaited from o.state.rows, drop_rows is_awaited to o.state.rows, drop_rows is_awaited from o.state.rows, a, calm, none))
    stamps

-- a restart counts once
restart-counted : (b : Bool) (f : Option Sequel) (times : List ℕ) (p place : ℕ) (row : Row) (o : Outcome) → b ≡ is_some f → b ≡ false → StandsAt place row o → rows_in is_awaited o.state.rows ≡ 0 → o.state.stamps ≡ times → IsSound (restart p place row o).state
    → Counted f times (restart p place row o)
restart-counted b f times p place row o is idle at none stamps =
    let counted : Outcome = with_stamps (o.state.stamps ++ o.state.last ∷ []) (set_row place row Undefined o) in
    let from : ℕ = affected_from o.state.flags.strategy place in
    let to : ℕ = affected_to o.state.flags.strategy place (length counted.state.rows) in
    let more : o.state.stamps ++ o.state.last ∷ [] ≡ times ++ o.state.last ∷ [] = ap (λ (ts : List ℕ). ts ++ o.state.last ∷ []) stamps in
    restart-by (λ x. IsSound x.state → Counted f times x) p place row o
    (λ _ sound. ended-counted f times ending.Intensity counted (opens_none f b (Some (sequel.End ending.Intensity)) is idle refl) sound more)
    (λ _ sound. opened-restart b f times from to place p counted is idle sound (down_calm place row Undefined o at refl (omega (arith, none))) more)

fewer : (place : ℕ) (row : Row) (o : Outcome) → StandsAt place row o → rows_in is_awaited (end_row place row o).state.rows ≤ rows_in is_awaited o.state.rows
fewer place row o at = let e : rows_in is_awaited (end_row place row o).state.rows + cond (is_awaited row.state) 1 0 ≡ rows_in is_awaited o.state.rows = rows_in-end is_awaited refl place row o at in omega (arith, e)

answer-counted : (f : Option Sequel) (times : List ℕ) (c : ℕ) (r : Reply) (o : Outcome) → IsSound (answer c r o).state → Counted f times o → Counted f times (answer c r o)
unfolding answer
answer-counted f times c r o sound x = (sound, x.1, x.2, x.3)

tick-counted : (f : Option Sequel) (times : List ℕ) (o : Outcome) → IsSound (tick o).state → rows_in is_awaited (tick o).state.rows ≡ rows_in is_awaited o.state.rows → Counted f times o → Counted f times (tick o)
unfolding tick
tick-counted f times o sound same x = still-counted f times o (tick o) (alike o) sound (omega (arith, same)) x

open-counted : (b : Bool) (f : Option Sequel) (times : List ℕ) (own : ℕ) (o : Outcome) → b ≡ is_some f → b ≡ false → IsSound (open_rows own o).state → Counted f times (open_rows own o)
unfolding open_rows open_with
open-counted b f times own o is idle sound =
    opens-counted b f times (open_rows own o) is idle refl sound (λ _. new_rows 0 (opening_specs (is_simple o.state.flags.strategy) o.state.specs)) refl

counted-survives : (k : Kind) (b : Bool) (f : Option Sequel) (times : List ℕ) → b ≡ is_some f → Survives k b (Counted f times)
counted-survives k b f times is_base =
    let s : Survives k b (λ o. IsSound o.state) = sound-survives k b in
    let closing : (place : ℕ) (row : Row) (q kept : ℕ) (x : Sequel) (o new : Outcome) → StandsAt place row o → row.state ≡ Starting q kept → o.state.follows ≡ Some x → is_end (Some x) ≡ false → new.state.follows ≡ None → new.state.stamps ≡ o.state.stamps → IsSound new.state → Counted f times o → Counted f times new =
    λ place row q kept x o new at is follows stays none same sound c. idle-counted f times new none sound (same ∙ awaits f times place row o at (starting row q kept is) (ap is_end follows ∙ stays) c) in
    record {
      answered = λ c r o x. answer-counted f times c r o (s.answered c r o x.0) x;
      taken = λ w ws o idle runs is x. idle-counted f times (with_waiting ws o) (no_after o.state.follows idle.1) (s.taken w ws o idle runs is x.0) (rests b f times o idle x);
      call_waits = λ c call o x. still-counted f times o (put_last (waiting.Item (item.Call c call)) o) (alike o) (s.call_waits c call o x.0) (omega arith) x;
      exit_waits = λ p r o noted x. still-counted f times o (put_last (waiting.Item (item.Note (note.Exit p r))) o) (alike o) (s.exit_waits p r o noted x.0) (omega arith) x;
      up = λ p place row q kept o at is same noted x.
          still-counted f times o (set_row place row (Up p) o) (alike o) (s.up p place row q kept o at is same noted x.0)
          (let e : rows_in is_awaited (slice_set o.state.rows place (with_state (Up p) row)) + cond (is_awaited row.state) 1 0 ≡ rows_in is_awaited o.state.rows + 0 = rows_in-set is_awaited place row (Up p) o.state.rows at in omega (arith, e)) x;
      up_closed = λ p place row q kept c o at is same follows x.
          elim follows as (λ _. Counted f times (closed (set_row place row (Up p) o))) [
            | inl e ↦ closing place row q kept (sequel.Added c) o (closed (set_row place row (Up p) o)) at is e refl refl refl (s.up_closed p place row q kept c o at is same (inl e) x.0) x
            | inr e ↦ closing place row q kept (sequel.Restarted c) o (closed (set_row place row (Up p) o)) at is e refl refl refl (s.up_closed p place row q kept c o at is same (inr e) x.0) x
          ];
      ignored = λ p place row q kept o at is same noted x. still-counted f times o (end_row place row o) (end_row-alike place row o) (s.ignored p place row q kept o at is same noted x.0) (fewer place row o at) x;
      opening_failed = λ place row q kept o runs at is follows x.
          ended-counted f times (ending.InitFailed row.spec.id) (set_row place row Undefined o) (fails_opening f (ending.InitFailed row.spec.id) o.state x.1 follows) (s.opening_failed place row q kept o runs at is follows x.0)
          (awaits f times place row o at (starting row q kept is) (ap is_end follows) x);
      restart_failed = λ place row q kept o at is follows x.
          closing place row q kept sequel.Nothing o (closed (put_last (waiting.Retry kept) (set_row place row (Restarting kept) o))) at is follows refl refl refl (s.restart_failed place row q kept o at is follows x.0) x;
      added_failed = λ place row q kept c o at is follows x.
          closing place row q kept (sequel.Added c) o (closed (with_rows (remove o.state.rows place) o)) at is follows refl refl refl (s.added_failed place row q kept c o at is follows x.0) x;
      restarted_failed = λ place row q kept c o at is follows x.
          closing place row q kept (sequel.Restarted c) o (closed (set_row place row Undefined o)) at is follows refl refl refl (s.restarted_failed place row q kept c o at is follows x.0) x;
      stopped = λ p r place row o at h noted x. still-counted f times o (end_row place row o) (end_row-alike place row o) (s.stopped p r place row o at h noted x.0) (fewer place row o at) x;
      died = λ p place row o idle runs at is x. still-counted f times o (end_row place row o) (end_row-alike place row o) (s.died p place row o idle runs at is x.0) (fewer place row o at) x;
      restarts = λ p place row o idle runs at h x. restart-counted b f times p place row o is_base idle.0 at (awaits_nothing b o idle x.0) (rests b f times o idle x) (s.restarts p place row o idle runs at h x.0);
      ends = λ e o other idle runs x.
          ended-counted f times e o (opens_none f b (Some (sequel.End e)) is_base idle.0 refl) (s.ends e o other idle runs x.0) (rests b f times o idle x ∙ sym (other_end e o.state.last times other));
      ticks = λ o is x. tick-counted f times o (s.ticks o is x.0) (tick_count is_awaited (λ p d. refl) o) x;
      opens = λ own o is link over x. open-counted b f times own o is_base (sym link ∙ x.0.3 over) (s.opens own o is link over x.0);
      adds = λ c id spec o idle runs named x.
          opens-counted b f times (with_work [] (record { id = id; kept = None } ∷ []) (Some (sequel.Added c)) (with_rows (o.state.rows ++ new_row (free_slot o.state.rows) id spec ∷ []) o)) is_base idle.0 refl (s.adds c id spec o idle runs named x.0)
          (λ _. omega (arith, awaits_nothing b o idle x.0, rows_in-append is_awaited o.state.rows (new_row (free_slot o.state.rows) id spec ∷ []), rows_in-cons is_awaited (new_row (free_slot o.state.rows) id spec) [])) (rests b f times o idle x);
      starts_again = λ c id place row o idle runs at h is x.
          opens-counted b f times (with_work [] (record { id = Some id; kept = None } ∷ []) (Some (sequel.Restarted c)) o) is_base idle.0 refl (s.starts_again c id place row o idle runs at h is x.0) (λ _. awaits_nothing b o idle x.0) (rests b f times o idle x);
      removed = λ place row o idle runs at h x. idle-counted f times (with_rows (remove o.state.rows place) o) (no_after o.state.follows idle.1) (s.removed place row o idle runs at h x.0) (rests b f times o idle x);
      given_up = λ place row o idle runs at h x. idle-counted f times (set_row place row Undefined o) (no_after o.state.follows idle.1) (s.given_up place row o idle runs at h x.0) (rests b f times o idle x);
      stops_child = λ c p place row o idle runs at h x.
          opens-counted b f times (with_work (p ∷ []) [] (Some (sequel.Stopped c)) o) is_base idle.0 refl (s.stops_child c p place row o idle runs at h x.0) (λ _. awaits_nothing b o idle x.0) (rests b f times o idle x);
    }

step-counted : (s : State) (e : Event) → IsSound s → IsSound (step s e).state × ((step s e).state.stamps ≡ restarts_by s.follows (decided s e).follows (max e.reading s.last) s.stamps)
unfolding step step_on
step-counted s e sound =
    let start : Outcome = record { state = stamped e.reading s; orders = [] } in
    let o : Outcome = decide e.kind start in
    let now : Counted s.follows s.stamps o =
    decide-survives e.kind (Counted s.follows s.stamps) start (counted-survives e.kind (is_some s.follows) s.follows s.stamps refl)
    (sound, inl refl, (λ again. absurd (false≢true (sym (opens_not_again s.follows) ∙ again))), sym (not_opened s.follows s.follows (max e.reading s.last) s.stamps (opens_not_again s.follows))) in (
      advance-sound (unwrap_or e.number 0) o now.0,
      (advance-goes (HasTimes o.state.stamps o.state.last) (going o.state.stamps o.state.last) (unwrap_or e.number 0) o (refl, refl)).0 ∙ now.3 ∙ ap (λ (n : ℕ). restarts_by s.follows o.state.follows n s.stamps) (decide-keeps e.kind start).2,
    )

pub restarts_counted_law : RestartsCounted
restarts_counted_law s [] sound = refl
restarts_counted_law s (e ∷ es) sound =
    let now : IsSound (step s e).state × ((step s e).state.stamps ≡ restarts_by s.follows (decided s e).follows (max e.reading s.last) s.stamps) = step-counted s e sound in
    restarts_counted_law (step s e).state es now.0 ∙ ap (λ (ts : List ℕ). restarts (step s e).state ts es) now.1

pub restart_rate_from_empty : RestartRateFromEmpty
restart_rate_from_empty flags specs events =
    let base : State = empty_state flags specs in
    (restart_rate_law base events (All-nil (λ t. t ≤ 0)) (inl (λ t. omega arith)), restarts_counted_law base events (empty-sound flags specs))
