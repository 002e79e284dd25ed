-- What follows of the process that is out from what is known of the supervisor in it.
use Rattle.std.proofs.Common.{◌≡◌, ◌<◌, ℕ, Bool, true, false, List, Option, Some, None, Result, refl, sym, ap, subst, inl, inr, arith, ◌∙◌}
use Rattle.std.specs.Prelude.{IfSome, MatchOption, is_some, length, map}
use Rattle.std.proofs.lemmas.Bool.{false≢true}
use Rattle.std.proofs.lemmas.List.{length-map}
use Rattle.std.proofs.lemmas.Option.{none-some}
use Rattle.otp_hand.specs.Begun.{NoneBegan}
use Rattle.otp_hand.specs.Hands.{HandView, launched_of, unsent_notes}
use Rattle.otp_hand.specs.Standings.{Standing, part_of, standing_of}
use Rattle.otp_hand.specs.Turns.{IsTold, WorkedAsTold, nested_as, nested_by}
use Rattle.otp_hand.specs.declared.runner.Unsent.{Unsent}
use Rattle.otp_job.specs.Places.{PlaceView}
use Rattle.otp_job.specs.Processes.{ProcessState, nested_table_of}
use Rattle.otp_job.specs.declared.job.Told.{Told}
use Rattle.otp_job.specs.declared.job.Turn.{Turn}
use Rattle.otp_bodies.specs.declared.office.turns.TurnAnswer.{TurnAnswer}
use Rattle.otp_bodies.specs.declared.office.turns.TurnFault.{TurnFault}
use Rattle.otp_reason.specs.declared.note.Started.{Started}
use Rattle.otp_reason.specs.declared.reason.Reason.{Reason}
use Rattle.otp_run.specs.Schedulers.{SchedulerState}
use Rattle.otp_signals.specs.declared.signal.Signal.{Signal}
use Rattle.otp_spec.specs.Supervisor.{Supervisor}
use Rattle.otp_sup.specs.Turns.{HadTurn}
use Rattle.otp_system.specs.Servings.{WentOrStayed, is_served}
use Rattle.otp_hand.specs.declared.waiting.resting.Rested.{Rested}
use Rattle.otp_system.specs.Supervised.{GaveTurn, HadTurnOut, IsServed, IsSupervised, IsTurned, IsWorked, KeptAll, MayServe, WasTold, runner_in}

abbrev at_pair : Option (ℕ × ℕ) → ℕ × ℕ
at_pair None = (0, 0)
at_pair (Some x) = x

module _ {A : Type 0} where
  pub each_some : (P Q : A → Type 0) (t : Option A) → ((x : A) → P x → Q x) → IfSome t P → IfSome t Q
  each_some P Q None f held = tt
  each_some P Q (Some x) f held = f x held

  pub there_is : (P : A → Type 0) (t : Option A) → is_some t ≡ true → IfSome t P → (x : A) × (t ≡ Some x) × P x
  there_is P None is held = absurd (false≢true is)
  there_is P (Some x) is held = (x, refl, held)

-- as many as there were before, and before that
pub reaches_on : (n one two three : ℕ) → two ≡ one → three ≡ two → n < one → n < three
reaches_on n one two three first then within = omega (arith, first, then, within)

not_nested : (P : Type 0) (Q : ℕ → Type 0) (number : ℕ) (o : Option ℕ) → nested_as number o ≡ None → P → MatchOption o P Q
not_nested P Q number None is p = p
not_nested P Q number (Some t) is p = absurd (none-some _ (sym is))

nested : (P : Type 0) (Q : ℕ → ℕ → Type 0) (number : ℕ) (o : Option ℕ) (table n : ℕ) → nested_as number o ≡ Some (table, n) → Q table n → MatchOption o P (λ at. Q at number)
nested P Q number None table n is q = absurd (none-some _ is)
nested P Q number (Some t) table n is q =
    let same : (t, number) ≡ (table, n) = ap at_pair is in
    subst (λ (w : ℕ × ℕ). Q w.0 w.1) (sym same) q

module _ {J S : Type 0} where
  -- no supervisor runs in it
  pub out_worked : (P : ProcessState J S → Type 0) (Q : ProcessState J S → ℕ → Type 0) (t : Option (ProcessState J S)) → nested_by t ≡ None → IfSome t P → IfSome t (λ p. MatchOption (nested_table_of p.body) (P p) (Q p))
  out_worked P Q None is held = tt
  out_worked P Q (Some p) is held = not_nested (P p) (Q p) p.ticket.number (nested_table_of p.body) is held

  -- this supervisor does, and the process has this number
  pub out_nested : (P : ProcessState J S → Type 0) (Q : ProcessState J S → ℕ → ℕ → Type 0) (t : Option (ProcessState J S)) (table n : ℕ) → nested_by t ≡ Some (table, n) → IfSome t (λ p. Q p table n) → IfSome t (λ p. MatchOption (nested_table_of p.body) (P p) (λ at. Q p at p.ticket.number))
  out_nested P Q None table n is held = tt
  out_nested P Q (Some p) table n is held = nested (P p) (Q p) p.ticket.number (nested_table_of p.body) table n is held

  -- what its viewer loaded is what the word of its slot says
  pub told_in : (words slots : ℕ) (told : Signal) (looks more : List (ℕ × ℕ)) (h old : HandView J S) → words ≡ slots → h ≡ old
      → IfSome h.turning (λ p. IsTold words p.ticket told looks more) → IfSome old.turning (λ p. WasTold slots p.ticket told)
  told_in words slots told looks more h old same is held =
      subst (λ (a : HandView J S). IfSome a.turning (λ p. WasTold slots p.ticket told)) is
      (subst (λ n. IfSome h.turning (λ p. WasTold n p.ticket told)) same
      (each_some (λ p. IsTold words p.ticket told looks more) (λ p. WasTold words p.ticket told) h.turning (λ p looked. record { looks = looks; more = more; looked = looked }) held))

  -- what came after a turn took nothing of what it ordered
  pub kept_turn : (plans : ℕ → Option Supervisor) (inbox number reading : ℕ) (told : Signal) (result : Result TurnAnswer TurnFault) (old mid new : HandView J S)
      → GaveTurn plans inbox number reading told result old mid → KeptAll mid new → GaveTurn plans inbox number reading told result old new
  kept_turn plans inbox number reading told result old mid new turn kept =
      let Had : SchedulerState → Option (Unsent J S) → ℕ → Type 0 = λ s u n. HadTurn plans inbox number reading told result (map launched_of old.scheduler.own.puts) (unsent_notes old.unsent) old.refusals (map launched_of s.own.puts) (unsent_notes u) n in
      let one : Had new.scheduler mid.unsent mid.refusals = subst (λ (s : SchedulerState). Had s mid.unsent mid.refusals) (sym kept.scheduler) turn in
      let two : Had new.scheduler new.unsent mid.refusals = subst (λ (u : Option (Unsent J S)). Had new.scheduler u mid.refusals) (sym kept.unsent) one in
      subst (λ (n : ℕ). Had new.scheduler new.unsent n) (sym kept.refusals) two

  -- and so did not what came after that
  pub kept_on : (one two three : HandView J S) → KeptAll one two → KeptAll two three → KeptAll one three
  kept_on one two three first second = record {
    scheduler = second.scheduler ∙ first.scheduler;
    unsent = second.unsent ∙ first.unsent;
    refusals = second.refusals ∙ first.refusals;
  }

  -- such a turn of the supervisor with the inbox of its place
  pub was_served : (plans : ℕ → Option Supervisor) (tables table inbox number reading : ℕ) (told : Signal) (served : Bool) (result : Result TurnAnswer TurnFault) (old mid new : HandView J S) → inbox ≡ table
      → GaveTurn plans inbox number reading told result old mid → KeptAll mid new → (served ≡ true → is_served result ≡ true) → IsServed plans tables table number reading told served old new
  was_served plans tables table inbox number reading told served result old mid new same turn kept is =
      inl (record {
        result = result;
        turn = kept_turn plans table number reading told result old mid new (subst (λ n. GaveTurn plans n number reading told result old mid) same turn) kept;
        is = is;
      })

  -- a hand with as many parts of the right to send to each has as many senders
  pub as_many : (old new : HandView J S) → standing_of new ≡ standing_of old → length new.senders ≡ length old.senders
  as_many old new same = sym (length-map new.senders part_of) ∙ ap (λ (s : Standing). length s.parts) same ∙ length-map old.senders part_of

  -- nothing happened where there is no such supervisor
  pub not_served : (plans : ℕ → Option Supervisor) (tables table number reading : ℕ) (told : Signal) (h : HandView J S) → (MayServe plans table tables (length h.senders) → ⊥) → IsServed plans tables table number reading told false h h
  not_served plans tables table number reading told h none = inr (none, refl, refl)

  module _ (started : J → PlaceView → Started → J → Type 0) (inited : S → Started → S → Type 0) (traps : J → Bool) (turned : J → Told → Turn → J → Type 0) (polled : S → Option Reason → S → Type 0) (terminated : S → Reason → S → Type 0)
      (plans : ℕ → Option Supervisor) (slots tables reading : ℕ) where
    -- a worker's or a bridge's turn in what a hand runs processes with is one in the hand, whose letter then went or stayed
    pub worked_in : (words : ℕ) (looks more : List (ℕ × ℕ)) (h old new : HandView J S) (rests : List (Rested J S)) (told : Option (Unsent J S)) (sent : Bool) → words ≡ slots → h ≡ old
        → IfSome h.turning (λ p. WorkedAsTold started inited traps turned polled terminated words reading p (runner_in h looks) (record (runner_in new more) { resting = rests; unsent = told }))
        → new.resting ≡ rests → WentOrStayed sent tables told h.senders new.senders new.unsent
        → IfSome old.turning (λ p. IsWorked started inited traps turned polled terminated slots tables reading p old new)
    worked_in words looks more h old new rests told sent same is held resting letter =
        let P : HandView J S → List (Rested J S) → ProcessState J S → Type 0 = λ a r p. WorkedAsTold started inited traps turned polled terminated words reading p (runner_in a looks) (record (runner_in new more) { resting = r; unsent = told }) in
        let rested : IfSome h.turning (P h new.resting) = subst (λ (r : List (Rested J S)). IfSome h.turning (P h r)) (sym resting) held in
        subst (λ (a : HandView J S). IfSome a.turning (λ p. IsWorked started inited traps turned polled terminated slots tables reading p a new)) is
        (subst (λ n. IfSome h.turning (λ p. IsWorked started inited traps turned polled terminated n tables reading p h new)) same
        (each_some (P h new.resting) (λ p. IsWorked started inited traps turned polled terminated words tables reading p h new) h.turning
        (λ p turn. record { looks = looks; more = more; told = told; turn = turn; sent = sent; letter = letter }) rested))

    -- the supervisor in the process that is out had its turn
    pub had_nested : (t : Option (ProcessState J S)) (table number : ℕ) (told : Signal) (served : Bool) (old new : HandView J S) → nested_by t ≡ Some (table, number)
        → IfSome t (λ p. WasTold slots p.ticket told) → IsServed plans tables table number reading told served old new
        → IfSome t (λ p. HadTurnOut started inited traps turned polled terminated plans slots tables reading p served old new)
    had_nested t table number told served old new is looked turn =
        out_nested (λ p. IsWorked started inited traps turned polled terminated slots tables reading p old new) (λ p at n. IsSupervised plans slots tables reading p.ticket at n served old new) t table number is
        (each_some (λ p. WasTold slots p.ticket told) (λ p. IsSupervised plans slots tables reading p.ticket table number served old new) t (λ p was. record { told = told; looked = was; turn = turn }) looked)

    -- a worker or a bridge had its turn
    pub had_worked : (t : Option (ProcessState J S)) (served : Bool) (old new : HandView J S) → nested_by t ≡ None
        → IfSome t (λ p. IsWorked started inited traps turned polled terminated slots tables reading p old new)
        → IfSome t (λ p. HadTurnOut started inited traps turned polled terminated plans slots tables reading p served old new)
    had_worked t served old new is turn =
        out_worked (λ p. IsWorked started inited traps turned polled terminated slots tables reading p old new) (λ p table. IsSupervised plans slots tables reading p.ticket table p.ticket.number served old new) t is turn

    -- what was out before and after it
    pub took_turn : (served : Bool) (old before after new : HandView J S) → is_some before.turning ≡ true → NoneBegan old.scheduler before.scheduler
        → IfSome before.turning (λ p. HadTurnOut started inited traps turned polled terminated plans slots tables reading p served before after) → NoneBegan after.scheduler new.scheduler
        → IsTurned started inited traps turned polled terminated plans slots tables reading served old new
    took_turn served old before after new found until turn since =
        let out = there_is (λ p. HadTurnOut started inited traps turned polled terminated plans slots tables reading p served before after) before.turning found turn in
        inl (record { before = before; after = after; out = out.0; is_out = out.1; had = out.2; until = until; since = since })
