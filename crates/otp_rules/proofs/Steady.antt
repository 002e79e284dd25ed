-- A property that depends neither on the children's rows nor on what waits: what few kinds of change keep it, every
-- event keeps. One walk through decisions and open work, for all laws of that kind.
use Rattle.std.specs.Prelude.{◌≡◌, ◌⊎◌, ℕ, Bool, true, false, List, [], ◌∷◌, ◌++◌, Option, Some, refl, position, nat_lt, remove, reverse, unwrap_or}
use Rattle.std.proofs.Common.{inl, inr}
use Rattle.otp_window.specs.Period.{in_period}
use Rattle.otp_reason.specs.declared.name.Name.{Name}
use Rattle.otp_spec.specs.declared.child.Shutdown.{Shutdown}
use Rattle.otp_table.specs.declared.row.Row.{Row}
use Rattle.otp_table.specs.declared.row.RowState.TheVariants.{Undefined}
use Rattle.otp_table.specs.Rows.{calm_rows}
use Rattle.otp_rules.specs.declared.call.Reply.{Reply}
use Rattle.otp_rules.specs.declared.ending.Ending.{Ending}
use Rattle.otp_rules.specs.declared.ending.Ending.TheVariants as ending
use Rattle.otp_rules.specs.declared.event.Effect.TheVariants as effect
use Rattle.otp_rules.specs.declared.event.Event.{Event}
use Rattle.otp_rules.specs.declared.event.Kind.{Kind}
use Rattle.otp_rules.specs.declared.event.Kind.TheVariants as kind
use Rattle.otp_rules.specs.declared.event.Waiting.{Waiting}
use Rattle.otp_rules.specs.declared.work.Sequel.{Sequel}
use Rattle.otp_rules.specs.declared.work.Sequel.TheVariants as sequel
use Rattle.otp_rules.specs.declared.work.Due.{Due}
use Rattle.otp_rules.specs.State.{Outcome, State, answer, closed, emit, is_busy, with_rows, with_stamps, with_waiting, with_work}
use Rattle.otp_rules.specs.Places.{end_row, end_process, is_removed, set_row}
use Rattle.otp_rules.specs.Restarts.{running}
use Rattle.otp_rules.specs.Stops.{calm_all, is_exit, stop_order, without, tell_row, tell, use_exit, stop_each, terminate}
use Rattle.otp_rules.specs.Starts.{is_due, start_row, start}
use Rattle.otp_rules.specs.Ends.{end_all}
use Rattle.otp_rules.specs.Work.{advance}
use Rattle.otp_rules.specs.Deaths.{restart_rows, restart}
use Rattle.otp_rules.specs.Step.{open_rows, tick, decide, stamped, step_on, step}
use Rattle.otp_rules.specs.Progress.{is_end}
use Rattle.otp_rules.proofs.GoesOn.{GoesOn, advance-on}
use Rattle.otp_rules.proofs.Walks.{restart-by, stop_each-by, terminate-by, with_stops}
use Rattle.otp_rules.proofs.Decisions.{IsIdle, IsRunning, Survives, at_row-survives, at_number-survives, by_test, decide-survives}

-- each kind of change that open work makes keeps the property
pub record Goes (P : Outcome → Type 0) : Type 0 where
  pub rows : (rows : List Row) (o : Outcome) → P o → P (with_rows rows o)
  pub waiting : (items : List Waiting) (o : Outcome) → P o → P (with_waiting items o)
  pub left : (ps : List ℕ) (ds : List Due) (o : Outcome) → P o → P (with_work ps ds o.state.follows o)
  pub told : (id : Option Name) (p : ℕ) (s : Shutdown) (o : Outcome) → P o → P (emit (stop_order id p s) o)
  pub started : (id : Option Name) (n : ℕ) (o : Outcome) → P o → P (emit (effect.Start id n) o)
  -- work closes, but for the end; a call is answered, the supervisor is ready, or ends
  pub closes : (f : Sequel) (o : Outcome) → o.state.follows ≡ Some f → is_end (Some f) ≡ false → P o → P (closed o)
  pub answered : (c : ℕ) (r : Reply) (o : Outcome) → P o → P (answer c r o)
  pub ready : (o : Outcome) → P o → P (emit effect.Ready o)
  pub ended : (e : Ending) (o : Outcome) → o.state.follows ≡ Some (sequel.End e) → P o → P (end_all e o)

-- and so does each kind of change that a decision makes; k: the kind of the event, b: work was open when it came
pub record Steady (k : Kind) (b : Bool) (P : Outcome → Type 0) : Type 0 where
  pub goes : Goes P
  -- work opens, and ends the supervisor
  pub opens : (ps : List ℕ) (ds : List Due) (f : Sequel) (o : Outcome) → IsIdle b o → IsRunning o → is_end (Some f) ≡ false → P o → P (with_work ps ds (Some f) o)
  pub ends : (ps : List ℕ) (e : Ending) (o : Outcome) → (e ≡ ending.Intensity → ⊥) → (IsIdle b o × IsRunning o) ⊎ (o.state.follows ≡ Some sequel.Ready) → P o → P (with_work ps [] (Some (sequel.End e)) o)
  -- a restart: one too many, or not
  pub exceeds : (ps : List ℕ) (o : Outcome) → IsIdle b o → IsRunning o → nat_lt o.state.flags.intensity (in_period o.state.flags.period (o.state.stamps ++ o.state.last ∷ []) o.state.last) ≡ true → P o → P (with_work ps [] (Some (sequel.End ending.Intensity)) (with_stamps (o.state.stamps ++ o.state.last ∷ []) o))
  pub restarts : (ps : List ℕ) (ds : List Due) (o : Outcome) → IsIdle b o → IsRunning o → nat_lt o.state.flags.intensity (in_period o.state.flags.period (o.state.stamps ++ o.state.last ∷ []) o.state.last) ≡ false → P o → P (with_work ps ds (Some sequel.Nothing) (with_stamps (o.state.stamps ++ o.state.last ∷ []) o))
  -- a tick, an opening
  pub ticks : (o : Outcome) → P o → P (tick o)
  pub opened : (own : ℕ) (o : Outcome) → k ≡ kind.Opened own → P o → P (open_rows own o)

end_row-goes : (P : Outcome → Type 0) → Goes P → (place : ℕ) (row : Row) (o : Outcome) → P o → P (end_row place row o)
unfolding end_row
end_row-goes P t place row o x = by_test P (is_removed row) (with_rows (remove o.state.rows place) o) (set_row place row Undefined o) (λ _. t.rows _ o x) (λ _. t.rows _ o x)

tell-goes : (P : Outcome → Type 0) → Goes P → (p : ℕ) (o : Outcome) → P o → P (tell p o)
unfolding tell tell_row
tell-goes P t p o x = at_number-survives P p (tell_row p) o x (λ place row _ _. t.told row.id p row.spec.shutdown _ (t.rows _ o x))

pub use_exit-goes : (P : Outcome → Type 0) → Goes P → (p : ℕ) (place : Option ℕ) (o : Outcome) → P o → P (use_exit p place o)
unfolding use_exit end_process
use_exit-goes P t p place o x =
    let left : Outcome = with_waiting (without o.state.waiting place) o in
    at_number-survives P p end_row left (t.waiting _ o x) (λ i row _ _. end_row-goes P t i row left (t.waiting _ o x))

start-goes : (P : Outcome → Type 0) → Goes P → (due : Due) (n : ℕ) (o : Outcome) → P o → P (start due n o)
unfolding start start_row
start-goes P t due n o x = t.started due.id n _ (at_row-survives P (is_due due) o (start_row due n) o x x (λ place row _ _. t.rows _ o x))

going-on : (P : Outcome → Type 0) → Goes P → (n : ℕ) → GoesOn n (λ _. P) P
going-on P t n =
    record {
      uses = λ p rest o _ x. use_exit-goes P t p (position (is_exit p) o.state.waiting) (with_stops rest o) (t.left rest o.state.to_start o x);
      tells = λ p rest o _ x. tell-goes P t p (with_stops rest o) (t.left rest o.state.to_start o x);
      starts = λ due dues o _ x. start-goes P t due n _ (t.left o.state.to_stop dues o x);
      closes = λ f o last stays x. t.closes f o last.0 stays x;
      answers = λ c r f o last stays x. t.answered c r (closed o) (t.closes f o last.0 stays x);
      ready = λ o last x. t.ready (closed o) (t.closes sequel.Ready o last.0 refl x);
      ends = λ e o last x. t.ended e o last.0 x;
    }

pub advance-goes : (P : Outcome → Type 0) → Goes P → (n : ℕ) (o : Outcome) → P o → P (advance n o)
advance-goes P t n o x =
    advance-on n (λ _. P) P (going-on P t n) o (λ _. x) (λ _ _. x)

stop_each-goes : (P : Outcome → Type 0) → Goes P → (ps : List ℕ) (o : Outcome) → P o → P (stop_each ps o)
stop_each-goes P t = stop_each-by P (λ p o _ x. use_exit-goes P t p (position (is_exit p) o.state.waiting) o x) (λ p o _ x. tell-goes P t p o x)

-- the supervisor ends: what the work that ends it keeps, its decision keeps
pub terminate-goes : (P : Outcome → Type 0) → Goes P → (e : Ending) (o : Outcome) → ((ps : List ℕ) → P (with_work ps [] (Some (sequel.End e)) o)) → P (terminate e o)
terminate-goes P t e o x =
    terminate-by P e o
    (λ _. stop_each-goes P t (running o.state.rows) (calm_all (with_work [] [] (Some (sequel.End e)) o)) (t.rows _ (with_work [] [] (Some (sequel.End e)) o) (x [])))
    (λ _. t.rows (calm_rows o.state.rows) (with_work (reverse (running o.state.rows)) [] (Some (sequel.End e)) o) (x (reverse (running o.state.rows))))

-- a restart
restart-steady : (e : Kind) (b : Bool) (P : Outcome → Type 0) → Steady e b P → (k place : ℕ) (row : Row) (o : Outcome) → IsIdle b o → IsRunning o → P o → P (restart k place row o)
unfolding restart_rows
restart-steady e b P t k place row o idle runs x =
    let down : Outcome = set_row place row Undefined o in
    let counted : Outcome = with_stamps (o.state.stamps ++ o.state.last ∷ []) down in
    restart-by P k place row o
    (λ many. terminate-goes P t.goes ending.Intensity counted (λ ps. t.exceeds ps down idle runs many (t.goes.rows _ o x)))
    (λ few. t.goes.rows _ _ (t.restarts _ _ down idle runs few (t.goes.rows _ o x)))

pub steady-survives : (k : Kind) (b : Bool) (P : Outcome → Type 0) → Steady k b P → Survives k b P
steady-survives k b P t =
    record {
      answered = t.goes.answered;
      taken = λ w ws o idle runs is x. t.goes.waiting ws o x;
      call_waits = λ c call o x. t.goes.waiting _ o x;
      exit_waits = λ p r o noted x. t.goes.waiting _ o x;
      up = λ p place row q kept o at is same noted x. t.goes.rows _ o x;
      up_closed = λ p place row q kept c o at is same follows x.
          elim follows as (λ _. P _) [
            | inl e ↦ t.goes.closes (sequel.Added c) _ e refl (t.goes.rows _ o x)
            | inr e ↦ t.goes.closes (sequel.Restarted c) _ e refl (t.goes.rows _ o x)
          ];
      ignored = λ p place row q kept o at is same noted x. end_row-goes P t.goes place row o x;
      opening_failed = λ place row q kept o runs at is follows x.
          let down : Outcome = set_row place row Undefined o in
          terminate-goes P t.goes (ending.InitFailed row.spec.id) down (λ ps. t.ends ps (ending.InitFailed row.spec.id) down (λ h. cc) (inr follows) (t.goes.rows _ o x));
      restart_failed = λ place row q kept o at is follows x. t.goes.closes sequel.Nothing _ follows refl (t.goes.waiting _ _ (t.goes.rows _ o x));
      added_failed = λ place row q kept c o at is follows x. t.goes.closes (sequel.Added c) _ follows refl (t.goes.rows _ o x);
      restarted_failed = λ place row q kept c o at is follows x. t.goes.closes (sequel.Restarted c) _ follows refl (t.goes.rows _ o x);
      stopped = λ p r place row o at h noted x. end_row-goes P t.goes place row o x;
      died = λ p place row o idle runs at is x. end_row-goes P t.goes place row o x;
      restarts = λ p place row o idle runs at h x. restart-steady k b P t p place row o idle runs x;
      ends = λ e o other idle runs x. terminate-goes P t.goes e o (λ ps. t.ends ps e o other (inl (idle, runs)) x);
      ticks = λ o is x. t.ticks o x;
      opens = λ own o is link over x. t.opened own o is x;
      adds = λ c id spec o idle runs named x. t.opens _ _ (sequel.Added c) _ idle runs refl (t.goes.rows _ o x);
      starts_again = λ c id place row o idle runs at h is x. t.opens _ _ (sequel.Restarted c) o idle runs refl x;
      removed = λ place row o idle runs at h x. t.goes.rows _ o x;
      given_up = λ place row o idle runs at h x. t.goes.rows _ o x;
      stops_child = λ c p place row o idle runs at h x. t.opens _ _ (sequel.Stopped c) o idle runs refl x;
    }

-- what holds when the event's stamp is taken holds after the event
pub step-steady : (P : Outcome → Type 0) → ((k : Kind) (b : Bool) → Steady k b P) → (s : State) (e : Event) → P (record { state = stamped e.reading s; orders = [] }) → P (step s e)
unfolding step step_on
step-steady P t s e x =
    let before : Outcome = record { state = stamped e.reading s; orders = [] } in
    advance-goes P (t e.kind (is_busy before)).goes (unwrap_or e.number 0) (decide e.kind before)
    (decide-survives e.kind P before (steady-survives e.kind (is_busy before) P (t e.kind (is_busy before))) x)
