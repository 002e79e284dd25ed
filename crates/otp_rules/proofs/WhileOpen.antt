-- What holds while one piece of work stays open: what the few changes keep that leave it open, every decision keeps, or it
-- closes the work, or opens another. One walk, for what has been stopped and for what has been started.
use Rattle.std.specs.Prelude.{◌≡◌, ◌⊎◌, ℕ, ◌==◌, ◌++◌, Bool, true, false, [], ◌∷◌, Option, None, Some, refl, is_some, remove}
use Rattle.std.proofs.Common.{◌∙◌, ap, sym, subst, inl, inr}
use Rattle.std.proofs.lemmas.Bool.{false≢true}
use Rattle.otp_reason.specs.declared.reason.Reason.{Reason}
use Rattle.otp_table.specs.declared.row.Row.{Row}
use Rattle.otp_table.specs.declared.row.RowState.TheVariants.{Undefined, Starting, Up, Restarting}
use Rattle.otp_table.specs.Rows.{free_slot}
use Rattle.otp_rules.specs.declared.call.Call.{Call}
use Rattle.otp_rules.specs.declared.call.Reply.{Reply}
use Rattle.otp_rules.specs.declared.ending.Ending.{Ending}
use Rattle.otp_rules.specs.declared.event.Kind.{Kind}
use Rattle.otp_rules.specs.declared.work.Sequel.{Sequel}
use Rattle.otp_rules.specs.State.{Outcome, State, answer, closed, put_last, with_rows, with_stamps, with_waiting, with_work}
use Rattle.otp_rules.specs.Places.{end_row, set_row}
use Rattle.otp_rules.specs.Restarts.{running}
use Rattle.otp_rules.specs.Stops.{calm_all, terminate}
use Rattle.otp_rules.specs.Deaths.{restart_rows, restart}
use Rattle.otp_rules.specs.Calls.{new_row}
use Rattle.otp_rules.specs.Step.{open_with, open_rows, tick}
use Rattle.otp_rules.specs.Progress.{is_opened}
use Rattle.otp_rules.specs.Fit.{is_told, IsSound}
use Rattle.otp_rules.proofs.Walks.{restart-by, terminate-by}
use Rattle.otp_rules.proofs.Decisions.{IsNoted, StandsAt, Survives}
use Rattle.otp_rules.proofs.Counting.{Alike, alike, end_row-alike, stop_each-alike}
use Rattle.otp_rules.proofs.Sound.{sound-survives}
use Rattle.otp_reason.specs.declared.note.Note.TheVariants as note
use Rattle.otp_rules.specs.declared.ending.Ending.TheVariants as ending
use Rattle.otp_rules.specs.declared.event.Item.TheVariants as item
use Rattle.otp_rules.specs.declared.event.Waiting.TheVariants as waiting
use Rattle.otp_rules.specs.declared.work.Sequel.TheVariants as sequel

-- the work that was open is open, or has closed, or work was opened
abbrev pub Tracks : Option Sequel → State → Type 0
Tracks f s = (s.follows ≡ f) ⊎ ((s.follows ≡ None) ⊎ (is_opened f s.follows ≡ true))

pub no_after : (f : Option Sequel) → is_some f ≡ false → f ≡ None
no_after None h = refl
no_after (Some x) h = absurd (false≢true (sym h))

-- the work is sound and tracked, and this holds while it stays open
abbrev pub While : (State → Type 0) → Option Sequel → Outcome → Type 0
While Q f o = IsSound o.state × Tracks f o.state × (is_opened f o.state.follows ≡ false → is_some o.state.follows ≡ true → Q o.state)

-- each change that leaves the work open keeps it
pub record Stays (k : Kind) (b : Bool) (Q : State → Type 0) : Type 0 where
  pub answered : (c : ℕ) (r : Reply) (o : Outcome) → Q o.state → Q (answer c r o).state
  pub call_waits : (c : ℕ) (x : Call) (o : Outcome) → Q o.state → Q (put_last (waiting.Item (item.Call c x)) o).state
  pub exit_waits : (p : ℕ) (r : Reason) (o : Outcome) → IsNoted k b (note.Exit p r) o → is_some o.state.follows ≡ true → Q o.state → Q (put_last (waiting.Item (item.Note (note.Exit p r))) o).state
  pub up : (p place : ℕ) (row : Row) (q kept : ℕ) (o : Outcome) → StandsAt place row o → row.state ≡ Starting q kept → (q == p) ≡ true → IsNoted k b (note.Up p) o → is_some o.state.follows ≡ true → Q o.state → Q (set_row place row (Up p) o).state
  pub ignored : (p place : ℕ) (row : Row) (q kept : ℕ) (o : Outcome) → StandsAt place row o → row.state ≡ Starting q kept → (q == p) ≡ true → IsNoted k b (note.Ignored p) o → is_some o.state.follows ≡ true → Q o.state → Q (end_row place row o).state
  pub stopped : (p : ℕ) (r : Reason) (place : ℕ) (row : Row) (o : Outcome) → StandsAt place row o → is_told p row.state ≡ true → IsNoted k b (note.Exit p r) o → is_some o.state.follows ≡ true → Q o.state → Q (end_row place row o).state
  pub ticks : (o : Outcome) → Q o.state → Q (tick o).state

still : (Q : State → Type 0) (f : Option Sequel) (o new : Outcome) → Alike new o → IsSound new.state → (is_some o.state.follows ≡ true → Q o.state → Q new.state) → While Q f o → While Q f new
still Q f o new same sound keeps c = (
  sound,
  subst (λ (x : Option Sequel). (x ≡ f) ⊎ ((x ≡ None) ⊎ (is_opened f x ≡ true))) (sym same.4) c.1,
  λ not busy.
      let open_too : is_some o.state.follows ≡ true = ap (λ (x : Option Sequel). is_some x) (sym same.4) ∙ busy in
      keeps open_too (c.2 (ap (λ (x : Option Sequel). is_opened f x) (sym same.4) ∙ not) open_too),
)

answer-alike : (c : ℕ) (r : Reply) (o : Outcome) → Alike (answer c r o) o
unfolding answer
answer-alike c r o = alike o

tick-alike : (o : Outcome) → Alike (tick o) o
unfolding tick
tick-alike o = alike o

-- no work is open
shut : (Q : State → Type 0) (f : Option Sequel) (new : Outcome) → is_some new.state.follows ≡ false → IsSound new.state → While Q f new
shut Q f new idle sound = (sound, inr (inl (no_after new.state.follows idle)), λ _ busy. absurd (false≢true (sym idle ∙ busy)))

-- other work was opened
other : (Q : State → Type 0) (f : Option Sequel) (new : Outcome) → is_opened f new.state.follows ≡ true → IsSound new.state → While Q f new
other Q f new opened sound = (sound, inr (inr opened), λ not. absurd (false≢true (sym not ∙ opened)))

-- work opens where none was open
pub opens_none : (f : Option Sequel) (b : Bool) (new : Option Sequel) → b ≡ is_some f → b ≡ false → is_some new ≡ true → is_opened f new ≡ true
opens_none f b new is idle busy = subst (λ (x : Option Sequel). is_opened x new ≡ true) (sym (no_after f (sym is ∙ idle))) busy

pub terminate-follows : (e : Ending) (o : Outcome) → (terminate e o).state.follows ≡ Some (sequel.End e)
terminate-follows e o =
    terminate-by (λ x. x.state.follows ≡ Some (sequel.End e)) e o
    (λ _. (stop_each-alike (running o.state.rows) (calm_all (with_work [] [] (Some (sequel.End e)) o))).4)
    (λ _. refl)

pub restart-busy : (p place : ℕ) (row : Row) (o : Outcome) → is_some (restart p place row o).state.follows ≡ true
unfolding restart_rows
restart-busy p place row o =
    let counted : Outcome = with_stamps (o.state.stamps ++ o.state.last ∷ []) (set_row place row Undefined o) in
    restart-by (λ (x : Outcome). is_some x.state.follows ≡ true) p place row o
    (λ _. ap (λ (f : Option Sequel). is_some f) (terminate-follows ending.Intensity counted))
    (λ _. refl)

pub open_rows-busy : (own : ℕ) (o : Outcome) → is_some (open_rows own o).state.follows ≡ true
unfolding open_rows open_with
open_rows-busy own o = refl

-- a supervisor's opening fails
pub fails_opening : (f : Option Sequel) (e : Ending) (s : State) → Tracks f s → s.follows ≡ Some sequel.Ready → is_opened f (Some (sequel.End e)) ≡ true
fails_opening f e s (inl same) is = subst (λ (x : Option Sequel). is_opened x (Some (sequel.End e)) ≡ true) (sym is ∙ same) refl
fails_opening f e s (inr (inl none)) is = absurd (let k : ◌≡◌ {A = Option Sequel} None (Some sequel.Ready) = sym none ∙ is in cc)
fails_opening f e s (inr (inr opened)) is = ready_opens f (sym (ap (λ (x : Option Sequel). is_opened f x) is) ∙ opened)
  where
    ready_opens : (f : Option Sequel) → is_opened f (Some sequel.Ready) ≡ true → is_opened f (Some (sequel.End e)) ≡ true
    ready_opens None h = refl
    ready_opens (Some sequel.Ready) h = refl
    ready_opens (Some sequel.Nothing) h = h
    ready_opens (Some (sequel.Added _)) h = h
    ready_opens (Some (sequel.Restarted _)) h = h
    ready_opens (Some (sequel.Stopped _)) h = h
    ready_opens (Some (sequel.End _)) h = h

pub while-survives : (k : Kind) (b : Bool) (f : Option Sequel) (Q : State → Type 0) → b ≡ is_some f → Stays k b Q → Survives k b (While Q f)
while-survives k b f Q is_base t =
    let s : Survives k b (λ o. IsSound o.state) = sound-survives k b in
    record {
      answered = λ c r o x. still Q f o (answer c r o) (answer-alike c r o) (s.answered c r o x.0) (λ _. t.answered c r o) x;
      taken = λ w ws o idle runs is x. shut Q f (with_waiting ws o) idle.1 (s.taken w ws o idle runs is x.0);
      call_waits = λ c call o x. still Q f o (put_last (waiting.Item (item.Call c call)) o) (alike o) (s.call_waits c call o x.0) (λ _. t.call_waits c call o) x;
      exit_waits = λ p r o noted x. still Q f o (put_last (waiting.Item (item.Note (note.Exit p r))) o) (alike o) (s.exit_waits p r o noted x.0) (t.exit_waits p r o noted) x;
      up = λ p place row q kept o at is same noted x. still Q f o (set_row place row (Up p) o) (alike o) (s.up p place row q kept o at is same noted x.0) (t.up p place row q kept o at is same noted) x;
      up_closed = λ p place row q kept c o at is same follows x. shut Q f (closed (set_row place row (Up p) o)) refl (s.up_closed p place row q kept c o at is same follows x.0);
      ignored = λ p place row q kept o at is same noted x. still Q f o (end_row place row o) (end_row-alike place row o) (s.ignored p place row q kept o at is same noted x.0) (t.ignored p place row q kept o at is same noted) x;
      opening_failed = λ place row q kept o runs at is follows x.
          other Q f (terminate (ending.InitFailed row.spec.id) (set_row place row Undefined o))
          (ap (λ (y : Option Sequel). is_opened f y) (terminate-follows (ending.InitFailed row.spec.id) (set_row place row Undefined o)) ∙ fails_opening f (ending.InitFailed row.spec.id) o.state x.1 follows)
          (s.opening_failed place row q kept o runs at is follows x.0);
      restart_failed = λ place row q kept o at is follows x. shut Q f (closed (put_last (waiting.Retry kept) (set_row place row (Restarting kept) o))) refl (s.restart_failed place row q kept o at is follows x.0);
      added_failed = λ place row q kept c o at is follows x. shut Q f (closed (with_rows (remove o.state.rows place) o)) refl (s.added_failed place row q kept c o at is follows x.0);
      restarted_failed = λ place row q kept c o at is follows x. shut Q f (closed (set_row place row Undefined o)) refl (s.restarted_failed place row q kept c o at is follows x.0);
      stopped = λ p r place row o at h noted x. still Q f o (end_row place row o) (end_row-alike place row o) (s.stopped p r place row o at h noted x.0) (t.stopped p r place row o at h noted) x;
      died = λ p place row o idle runs at is x. shut Q f (end_row place row o) (ap (λ (y : Option Sequel). is_some y) (end_row-alike place row o).4 ∙ idle.1) (s.died p place row o idle runs at is x.0);
      restarts = λ p place row o idle runs at h x.
          other Q f (restart p place row o) (opens_none f b (restart p place row o).state.follows is_base idle.0 (restart-busy p place row o)) (s.restarts p place row o idle runs at h x.0);
      ends = λ e o apart idle runs x.
          other Q f (terminate e o) (opens_none f b (terminate e o).state.follows is_base idle.0 (ap (λ (y : Option Sequel). is_some y) (terminate-follows e o))) (s.ends e o apart idle runs x.0);
      ticks = λ o is x. still Q f o (tick o) (tick-alike o) (s.ticks o is x.0) (λ _. t.ticks o) x;
      opens = λ own o is link over x. other Q f (open_rows own o) (opens_none f b (open_rows own o).state.follows is_base (sym link ∙ x.0.3 over) (open_rows-busy own o)) (s.opens own o is link over x.0);
      adds = λ c id spec o idle runs named x.
          other Q f (with_work [] (record { id = id; kept = None } ∷ []) (Some (sequel.Added c)) (with_rows (o.state.rows ++ new_row (free_slot o.state.rows) id spec ∷ []) o))
          (opens_none f b (Some (sequel.Added c)) is_base idle.0 refl) (s.adds c id spec o idle runs named x.0);
      starts_again = λ c id place row o idle runs at h is x.
          other Q f (with_work [] (record { id = Some id; kept = None } ∷ []) (Some (sequel.Restarted c)) o)
          (opens_none f b (Some (sequel.Restarted c)) is_base idle.0 refl) (s.starts_again c id place row o idle runs at h is x.0);
      removed = λ place row o idle runs at h x. shut Q f (with_rows (remove o.state.rows place) o) idle.1 (s.removed place row o idle runs at h x.0);
      given_up = λ place row o idle runs at h x. shut Q f (set_row place row Undefined o) idle.1 (s.given_up place row o idle runs at h x.0);
      stops_child = λ c p place row o idle runs at h x.
          other Q f (with_work (p ∷ []) [] (Some (sequel.Stopped c)) o) (opens_none f b (Some (sequel.Stopped c)) is_base idle.0 refl) (s.stops_child c p place row o idle runs at h x.0);
    }
