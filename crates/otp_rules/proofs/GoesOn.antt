-- Open work goes on: what each of its steps makes of an outcome, the whole makes of it. One walk, for all laws that ask
-- what `advance` does; a law is a record of the steps.
use Rattle.std.specs.Prelude.{◌≡◌, ℕ, true, false, List, [], ◌∷◌, Option, None, Some, refl, position, is_some}
use Rattle.std.specs.List.{list_any}
use Rattle.std.proofs.Common.{◌∙◌, ap}
use Rattle.std.proofs.lemmas.Bool.{false≢true}
use Rattle.otp_table.specs.Rows.{is_awaited, row_has}
use Rattle.otp_rules.specs.declared.call.Reply.{Reply}
use Rattle.otp_rules.specs.declared.call.Reply.TheVariants as reply
use Rattle.otp_rules.specs.declared.ending.Ending.{Ending}
use Rattle.otp_rules.specs.declared.event.Effect.TheVariants as effect
use Rattle.otp_rules.specs.declared.work.Due.{Due}
use Rattle.otp_rules.specs.declared.work.Sequel.{Sequel}
use Rattle.otp_rules.specs.declared.work.Sequel.TheVariants as sequel
use Rattle.otp_rules.specs.State.{Outcome, answer, closed, emit, is_busy, with_work}
use Rattle.otp_rules.specs.Stops.{is_exit, tell}
use Rattle.otp_rules.specs.Starts.{start}
use Rattle.otp_rules.specs.Ends.{end_all}
use Rattle.otp_rules.specs.Progress.{is_end}
use Rattle.otp_rules.specs.Work.{advance, follow, start_first, stop_first}
use Rattle.otp_rules.proofs.Counting.{use_exit-alike}
use Rattle.otp_rules.proofs.Walks.{Rests, advance-by, end_waits, stop_first-by, used, with_stops}

-- this follows the work, and nobody is left to start
abbrev pub IsLast : Sequel → Outcome → Type 0
IsLast f o = (o.state.follows ≡ Some f) × (o.state.to_start ≡ [])

-- S: what holds while these are still to be stopped; P: what holds when the work has gone on; n: the number of a start
pub record GoesOn (n : ℕ) (S : List ℕ → Outcome → Type 0) (P : Outcome → Type 0) : Type 0 where
  -- the first to be stopped has ended, as its end waits, or is told to stop
  pub uses : (p : ℕ) (ps : List ℕ) (o : Outcome) → end_waits p o ≡ true → S (p ∷ ps) o → S ps (used p (with_stops ps o))
  pub tells : (p : ℕ) (ps : List ℕ) (o : Outcome) → end_waits p o ≡ false → S (p ∷ ps) o → P (tell p (with_stops ps o))
  -- nobody is left to stop: the first to be started is
  pub starts : (due : Due) (dues : List Due) (o : Outcome) → o.state.to_start ≡ due ∷ dues → S [] o → P (start due n (with_work o.state.to_stop dues o.state.follows o))
  -- nor to start: the work closes, and a call may be answered, or the supervisor is ready, or ends
  pub closes : (f : Sequel) (o : Outcome) → IsLast f o → is_end (Some f) ≡ false → S [] o → P (closed o)
  pub answers : (c : ℕ) (r : Reply) (f : Sequel) (o : Outcome) → IsLast f o → is_end (Some f) ≡ false → S [] o → P (answer c r (closed o))
  pub ready : (o : Outcome) → IsLast sequel.Ready o → S [] o → P (emit effect.Ready (closed o))
  pub ends : (e : Ending) (o : Outcome) → IsLast (sequel.End e) o → S [] o → P (end_all e o)

follow-on : (n : ℕ) (S : List ℕ → Outcome → Type 0) (P : Outcome → Type 0) → GoesOn n S P → (f : Option Sequel) (o : Outcome) → o.state.follows ≡ f → o.state.to_start ≡ [] → is_some f ≡ true → S [] o → P (follow f o)
unfolding follow
follow-on n S P g None o is none busy h = absurd (false≢true busy)
follow-on n S P g (Some sequel.Ready) o is none busy h = g.ready o (is, none) h
follow-on n S P g (Some sequel.Nothing) o is none busy h = g.closes sequel.Nothing o (is, none) refl h
follow-on n S P g (Some (sequel.Added c)) o is none busy h = g.answers c reply.OkUndefined (sequel.Added c) o (is, none) refl h
follow-on n S P g (Some (sequel.Restarted c)) o is none busy h = g.answers c reply.OkUndefined (sequel.Restarted c) o (is, none) refl h
follow-on n S P g (Some (sequel.Stopped c)) o is none busy h = g.answers c reply.Ok (sequel.Stopped c) o (is, none) refl h
follow-on n S P g (Some (sequel.End e)) o is none busy h = g.ends e o (is, none) h

start_first-on : (n : ℕ) (S : List ℕ → Outcome → Type 0) (P : Outcome → Type 0) → GoesOn n S P → (dues : List Due) (o : Outcome) → o.state.to_start ≡ dues → is_busy o ≡ true → S [] o → P (start_first dues n o)
unfolding start_first
start_first-on n S P g [] o is busy h = follow-on n S P g o.state.follows o refl is busy h
start_first-on n S P g (due ∷ dues) o is busy h = g.starts due dues o is h

pub stop_first-on : (n : ℕ) (S : List ℕ → Outcome → Type 0) (P : Outcome → Type 0) → GoesOn n S P → (ps : List ℕ) (o : Outcome) → is_busy o ≡ true → S ps o → P (stop_first ps n o)
stop_first-on n S P g ps o busy h =
    stop_first-by (λ qs x. (is_busy x ≡ true) × S qs x) P n (λ x k. start_first-on n S P g x.state.to_start x refl k.0 k.1)
    (λ p rest x waits k. (ap (λ (f : Option Sequel). is_some f) (use_exit-alike p (position (is_exit p) x.state.waiting) (with_stops rest x)).4 ∙ k.0, g.uses p rest x waits k.1))
    (λ p rest x none k. g.tells p rest x none k.1) ps o (busy, h)

-- the work goes on where it is open and no answer is awaited
pub advance-on : (n : ℕ) (S : List ℕ → Outcome → Type 0) (P : Outcome → Type 0) → GoesOn n S P → (o : Outcome) → (Rests o → P o) → (is_busy o ≡ true → list_any (row_has is_awaited) o.state.rows ≡ false → S o.state.to_stop o) → P (advance n o)
advance-on n S P g o rests begins = advance-by P n o rests (λ busy none. stop_first-on n S P g o.state.to_stop o busy (begins busy none))
