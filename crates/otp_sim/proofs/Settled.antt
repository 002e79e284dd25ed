use Rattle.std.proofs.Common.{◌≡◌, ℕ, ◌+◌, ◌-◌, ◌<◌, ◌==◌, Bool, true, false, ◌∙◌, Option, None, Some, ap, arith, refl, sym, suc, zero}
use Rattle.std.specs.Prelude.{if◌then◌else◌, is_some, ◌≢◌}
use Rattle.std.proofs.lemmas.Bool.{false≢true}
use Rattle.otp_rules.specs.declared.event.Kind.{Kind}
use Rattle.otp_rules.specs.Step.{step}
use Rattle.otp_rules.specs.Next.{idle_kind}
use Rattle.otp_sim.specs.declared.driven.LinesEnd.{LinesEnd}
use Rattle.otp_sim.specs.declared.driven.LinesEnd.TheVariants as stop
use Rattle.otp_sim.specs.Sim.{Sim, event_of, followed, happen, if_some, next_kind, settled, stepped, went_on}

-- where nothing follows
pub stays : (s : Sim) → next_kind s ≡ None → went_on s ≡ s
unfolding went_on
stays s none = ap (λ (k : Option Kind). if_some k (λ kind. happen kind s) s) none

-- where something does
pub goes : (k : Kind) (s : Sim) → next_kind s ≡ Some k → went_on s ≡ happen k s
unfolding went_on
goes k s next = ap (λ (o : Option Kind). if_some o (λ kind. happen kind s) s) next

done : (events : ℕ) (s : Sim) → next_kind s ≡ None → followed events s ≡ s
unfolding followed
done zero s none = refl
done (suc events) s none = ap (followed events) (stays s none) ∙ done events s none

-- nothing is left to happen
pub settled_done : (s : Sim) → next_kind s ≡ None → settled s ≡ s
unfolding settled
settled_done s none = done (suc s.room) s none

-- after the end nothing follows
pub ended_none : (s : Sim) → is_some s.end ≡ true → next_kind s ≡ None
unfolding next_kind
ended_none s e = ap (λ (b : Bool). if b then None else idle_kind s.state s.is_stopping) e

-- the last of so many events
pub followed_last : (events : ℕ) (s : Sim) → followed (suc events) s ≡ went_on (followed events s)
unfolding followed
followed_last zero s = refl
followed_last (suc events) s = followed_last events (went_on s)

abbrev pub full : Sim → Sim
full s = record s { end = Some stop.HistoryFull }

pub happen_full : (k : Kind) (s : Sim) → (s.room == 0) ≡ true → happen k s ≡ full s
unfolding happen
happen_full k s is = ap (λ (b : Bool). if b then full s else stepped (event_of k s) (step s.state (event_of k s)) s) is

full_ends : (s : Sim) → next_kind (full s) ≡ None
unfolding next_kind
full_ends s = refl

happen_room : (k : Kind) (s : Sim) → (s.room == 0) ≡ false → (happen k s).room ≡ s.room - 1
unfolding happen stepped
happen_room k s is = ap (λ (b : Bool). (if b then full s else stepped (event_of k s) (step s.state (event_of k s)) s).room) is

happen_end : (k : Kind) (s : Sim) → (s.room == 0) ≡ false → (happen k s).end ≡ s.end
unfolding happen stepped
happen_end k s is = ap (λ (b : Bool). (if b then full s else stepped (event_of k s) (step s.state (event_of k s)) s).end) is

pub is_zero : (n : ℕ) → n ≡ 0 → (n == 0) ≡ true
is_zero n e = ap (λ m. m == 0) e

not_zero : (n m : ℕ) → n ≡ m + 1 → (n == 0) ≡ false
not_zero n m e = grind arith

step_on : (room : ℕ) (k : Kind) (s : Sim) → s.room ≡ room → next_kind s ≡ Some k → followed room (happen k s) ≡ settled (happen k s)
unfolding settled followed
step_on zero k s is next =
    let ends : next_kind (happen k s) ≡ None = ap next_kind (happen_full k s (is_zero s.room is)) ∙ full_ends s in
    sym (done (suc (happen k s).room) (happen k s) ends)
step_on (suc room) k s is next =
    let rest : (happen k s).room ≡ room = happen_room k s (not_zero s.room room (omega (arith, is))) ∙ omega (arith, is) in
    ap (λ n. followed (suc n) (happen k s)) (sym rest)

-- what is left to happen goes on where something happens
settled_on : (k : Kind) (s : Sim) → next_kind s ≡ Some k → settled s ≡ settled (happen k s)
unfolding settled followed
settled_on k s next = ap (followed s.room) (goes k s next) ∙ step_on s.room k s refl next

-- what is left to happen is the same after the next of it
pub settled_went_on : (s : Sim) → settled (went_on s) ≡ settled s
settled_went_on s =
    (elim (next_kind s) as (λ next. next_kind s ≡ next → settled (went_on s) ≡ settled s) [
      | None ↦ λ e. ap settled (stays s e)
      | Some k ↦ λ e. ap settled (goes k s e) ∙ sym (settled_on k s e)
    ]) refl

-- how much can still happen
abbrev pub remaining : Sim → ℕ
remaining s = if is_some s.end then 0 else (s.room + 1)

goes_on : (k : Kind) (s : Sim) → next_kind s ≡ Some k → is_some s.end ≡ false
unfolding next_kind
goes_on k s next =
    (elim (is_some s.end) as (λ b. (if b then None else idle_kind s.state s.is_stopping) ≡ Some k → b ≡ false) [
      | true ↦ λ e. cc
      | false ↦ λ e. refl
    ]) next

remaining_falls : (k : Kind) (s : Sim) → next_kind s ≡ Some k → remaining (happen k s) < remaining s
remaining_falls k s next =
    let going : remaining s ≡ s.room + 1 = ap (λ (b : Bool). if b then 0 else (s.room + 1)) (goes_on k s next) in
    (elim (s.room == 0) as (λ b. (s.room == 0) ≡ b → remaining (happen k s) < remaining s) [
      | true ↦ λ e. let none : remaining (happen k s) ≡ 0 = ap remaining (happen_full k s e) in omega (arith, none, going)
      | false ↦ λ e.
          let room : (happen k s).room ≡ s.room - 1 = happen_room k s e in
          let left : remaining (happen k s) ≡ (happen k s).room + 1 = ap (λ (b : Bool). if b then 0 else ((happen k s).room + 1)) (ap (λ (o : Option LinesEnd). is_some o) (happen_end k s e) ∙ goes_on k s next) in
          let some : s.room ≢ 0 = λ zero. absurd (false≢true (sym e ∙ is_zero s.room zero)) in
          omega (arith, room, left, going, some)
    ]) refl

-- less can still happen after something did
pub remaining_fell : (s : Sim) → is_some (next_kind s) ≡ true → remaining (went_on s) < remaining s
remaining_fell s some =
    (elim (next_kind s) as (λ next. next_kind s ≡ next → is_some next ≡ true → remaining (went_on s) < remaining s) [
      | None ↦ λ e none. cc
      | Some k ↦ λ e is.
          let same : remaining (went_on s) ≡ remaining (happen k s) = ap remaining (goes k s e) in
          let falls : remaining (happen k s) < remaining s = remaining_falls k s e in
          omega (arith, same, falls)
    ]) refl some

-- nothing follows where nothing is said to
pub none_follows : (s : Sim) → is_some (next_kind s) ≡ false → next_kind s ≡ None
none_follows s none =
    (elim (next_kind s) as (λ next. is_some next ≡ false → next ≡ None) [
      | None ↦ λ e. refl
      | Some k ↦ λ e. cc
    ]) none
