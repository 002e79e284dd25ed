-- An opening is known from then on.
use Rattle.std.specs.Prelude.{◌≡◌, ◌⊎◌, ℕ, ◌++◌, Bool, true, false, List, [], ◌∷◌, map, refl, unwrap_or, if◌then◌else◌}
use Rattle.std.proofs.Common.{◌∙◌, ◌==◌, ap, arith, cond, inl, inr, rules, subst, sym, ⊎_elim}
use Rattle.std.proofs.lemmas.Bool.{eq-eqb, false≢true}
use Rattle.std.proofs.lemmas.List.{map-append}
use Rattle.otp_rules.specs.declared.ending.Ending.{Ending}
use Rattle.otp_rules.specs.declared.ending.SupEnd.{SupEnd}
use Rattle.otp_rules.specs.declared.call.Reply.{Reply}
use Rattle.otp_rules.specs.declared.event.Event.{Event}
use Rattle.otp_rules.specs.declared.event.Kind.{Kind}
use Rattle.otp_rules.specs.declared.event.Kind.TheVariants as kind
use Rattle.otp_rules.specs.declared.work.Phase.TheVariants.{Open}
use Rattle.otp_rules.specs.State.{Outcome, State, answer, is_busy, is_over, own_number}
use Rattle.otp_rules.specs.Ends.{end_all, refuse_all, sup_end_of}
use Rattle.otp_rules.specs.Step.{decide, open_rows, open_with, stamped, step, step_on, tick}
use Rattle.otp_rules.specs.Run.{state_after}
use Rattle.otp_rules.specs.Progress.{IsIn}
use Rattle.otp_rules.specs.Known.{IsKnown, OpeningsKnown}
use Rattle.otp_rules.proofs.Counting.{times-append, times-cons}
use Rattle.otp_rules.proofs.Decisions.{decide-survives}
use Rattle.otp_rules.proofs.Steady.{Goes, Steady, advance-goes, steady-survives}

abbrev Known : ℕ → Outcome → Type 0
Known own o = IsKnown own o.state

abbrev numbers : List (ℕ × SupEnd) → List ℕ
numbers ends = map (λ (x : ℕ × SupEnd). x.0) ends

answered-known : (own c : ℕ) (r : Reply) (o : Outcome) → Known own o → Known own (answer c r o)
unfolding answer
answered-known own c r o h = h

-- the number of one end more, the last
longer : (own n : ℕ) (ends : List (ℕ × SupEnd)) (end : SupEnd) → (n ≡ own) ⊎ IsIn own (numbers ends) → IsIn own (numbers (ends ++ (n, end) ∷ []))
longer own n ends end h =
    let InList : List ℕ → Type 0 = λ ns. IsIn own ns in
    subst InList (sym (map-append (λ (x : ℕ × SupEnd). x.0) ends ((n, end) ∷ [])))
    (⊎_elim
    (λ (same : n ≡ own).
    let one : ◌≡◌ {A = ℕ} (cond (n == own) 1 0) 1 = ap (λ (b : Bool). cond {A = ℕ} b 1 0) (eq-eqb n own same) in
    omega (arith, one, times-append own (numbers ends) (n ∷ []), times-cons own n []))
    (λ (there : IsIn own (numbers ends)). omega (arith, there, times-append own (numbers ends) (n ∷ [])))
    h)

ended-known : (own : ℕ) (x : Ending) (o : Outcome) → Known own o → Known own (end_all x o)
unfolding end_all refuse_all
ended-known own x o h =
    let end : SupEnd = sup_end_of o.state.flags o.state.stamps x in
    inr (longer own (own_number o.state.phase) o.state.ends end (⊎_elim (λ (runs : o.state.phase ≡ Open own). inl (ap own_number runs)) (λ there. inr there) h))

ticks-known : (own : ℕ) (o : Outcome) → Known own o → Known own (tick o)
unfolding tick
ticks-known own o h = h

going : (own : ℕ) → Goes (Known own)
going own =
    record {
      rows = λ rows o h. h;
      waiting = λ items o h. h;
      left = λ ps ds o h. h;
      told = λ id p how o h. h;
      started = λ id m o h. h;
      closes = λ f o is stays h. h;
      answered = answered-known own;
      ready = λ o h. h;
      ended = λ x o is h. ended-known own x o h;
    }

steady : (own : ℕ) (k : Kind) (b : Bool) → ((n : ℕ) → k ≡ kind.Opened n → ⊥) → Steady k b (Known own)
steady own k b unopened =
    record {
      goes = going own;
      opens = λ ps ds f o idle runs stays h. h;
      ends = λ ps e o other when h. h;
      exceeds = λ ps o idle runs many h. h;
      restarts = λ ps ds o idle runs few h. h;
      ticks = ticks-known own;
      opened = λ n o is h. absurd (unopened n is);
    }

-- a supervisor that has ended, or was never opened, keeps an end of what is known
over-known : (own n : ℕ) (s : State) → is_over s.phase ≡ true → IsKnown own s → Known own (open_rows n (record { state = s; orders = [] }))
unfolding open_rows open_with
over-known own n s over (inl runs) = absurd (false≢true (sym (ap is_over runs) ∙ over))
over-known own n s over (inr there) = inr there

other-known : (own : ℕ) (k : Kind) (s : State) → ((n : ℕ) → k ≡ kind.Opened n → ⊥) → IsKnown own s → Known own (decide k (record { state = s; orders = [] }))
other-known own k s unopened h =
    let before : Outcome = record { state = s; orders = [] } in
    decide-survives k (Known own) before (steady-survives k (is_busy before) (Known own) (steady own k (is_busy before) unopened)) h

decide-known : (own : ℕ) (k : Kind) (reading : ℕ) (s : State) → IsKnown own s → Known own (decide k (record { state = stamped reading s; orders = [] }))
unfolding decide
decide-known own (kind.Opened n) reading s h =
    (elim (is_over s.phase) as (λ b. is_over s.phase ≡ b → Known own (if b then open_rows n (record { state = stamped reading s; orders = [] }) else record { state = stamped reading s; orders = [] })) [
      | true ↦ λ over. over-known own n (stamped reading s) over h
      | false ↦ λ _. h
    ]) refl
decide-known own (kind.Took i) reading s h = other-known own (kind.Took i) (stamped reading s) (λ n is. absurd (search (rules, is))) h
decide-known own kind.Resumed reading s h = other-known own kind.Resumed (stamped reading s) (λ n is. absurd (search (rules, is))) h
decide-known own kind.Ticked reading s h = other-known own kind.Ticked (stamped reading s) (λ n is. absurd (search (rules, is))) h
decide-known own kind.Stopped reading s h = other-known own kind.Stopped (stamped reading s) (λ n is. absurd (search (rules, is))) h

on-known : (own : ℕ) (s : State) (e : Event) → Known own (decide e.kind (record { state = stamped e.reading s; orders = [] })) → Known own (step s e)
unfolding step step_on
on-known own s e h = advance-goes (Known own) (going own) (unwrap_or e.number 0) (decide e.kind (record { state = stamped e.reading s; orders = [] })) h

step-known : (own : ℕ) (s : State) (e : Event) → IsKnown own s → IsKnown own (step s e).state
step-known own s e h = on-known own s e (decide-known own e.kind e.reading s h)

open-known : (own : ℕ) (s : State) → Known own (open_rows own (record { state = s; orders = [] }))
unfolding open_rows open_with
open-known own s = inl refl

opened-known : (own reading : ℕ) (k : Kind) (s : State) → k ≡ kind.Opened own → is_over s.phase ≡ true → Known own (decide k (record { state = stamped reading s; orders = [] }))
unfolding decide
opened-known own reading k s is over =
    let before : Outcome = record { state = stamped reading s; orders = [] } in
    subst (λ (x : Kind). Known own (decide x before)) (sym is)
    (subst (λ (b : Bool). Known own (if b then open_rows own before else before)) (sym over) (open-known own (stamped reading s)))

stays-known : (own : ℕ) (s : State) (events : List Event) → IsKnown own s → IsKnown own (state_after s events)
stays-known own s [] h = h
stays-known own s (e ∷ es) h = stays-known own (step s e).state es (step-known own s e h)

pub openings_known_law : OpeningsKnown
openings_known_law s [] e later own h = stays-known own (step s e).state later (on-known own s e (opened-known own e.reading e.kind s h.0 h.1))
openings_known_law s (x ∷ earlier) e later own h = openings_known_law (step s x).state earlier e later own h
