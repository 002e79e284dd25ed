-- The law of the restart rate, along every history.
use Rattle.std.specs.Prelude.{◌≡◌, ℕ, ◌≤◌, ◌++◌, Bool, true, false, List, [], ◌∷◌, Option, None, Some, All, refl, is_some}
use Rattle.std.proofs.Common.{◌∙◌, ap, sym, subst, inl, inr, ⊎_elim, arith}
use Rattle.std.proofs.lemmas.Bool.{false≢true, ltb-false}
use Rattle.std.proofs.lemmas.List.Elements.{All-nil, All-push}
use Rattle.otp_spec.specs.declared.flags.SupFlags.{SupFlags}
use Rattle.otp_rules.specs.declared.ending.Ending.{Ending}
use Rattle.otp_rules.specs.declared.event.Event.{Event}
use Rattle.otp_rules.specs.declared.event.Kind.{Kind}
use Rattle.otp_rules.specs.declared.work.Sequel.{Sequel}
use Rattle.otp_rules.specs.declared.work.Phase.TheVariants.{Ended}
use Rattle.otp_rules.specs.State.{Outcome, State, answer, is_over, own_number}
use Rattle.otp_rules.specs.Ends.{refuse_all, end_all}
use Rattle.otp_rules.specs.Step.{open_with, open_rows, tick, step}
use Rattle.otp_rules.specs.Run.{state_after}
use Rattle.otp_rules.specs.Frames.{IsStamped}
use Rattle.otp_rules.specs.Progress.{is_end}
use Rattle.otp_rules.specs.Rate.{EndsByIntensity, IsBounded, IsRated, RestartRate}
use Rattle.otp_rules.proofs.Decisions.{IsIdle, IsRunning}
use Rattle.otp_rules.proofs.Period.{IsBounded-push}
use Rattle.otp_rules.proofs.Steady.{Steady, step-steady}
use Rattle.otp_rules.specs.declared.ending.Ending.TheVariants as ending
use Rattle.otp_rules.specs.declared.work.Sequel.TheVariants as sequel

-- the stamps are in order and keep the rate
abbrev Good : Outcome → Type 0
Good o = IsStamped o.state × IsRated o.state

-- what follows the open work is another end, or none
other_work : (s : State) (f : Option Sequel) → s.follows ≡ f → is_some f ≡ true → (f ≡ Some (sequel.End ending.Intensity) → ⊥) → EndsByIntensity s → ⊥
other_work s f is busy other (inl h) = other (sym is ∙ h)
other_work s f is busy other (inr (own, h, k)) = false≢true (sym (ap (λ (x : Option Sequel). is_some x) (sym is ∙ h)) ∙ busy)

no_end : (f : Sequel) → is_end (Some f) ≡ false → Some f ≡ Some (sequel.End ending.Intensity) → ⊥
no_end f stays h = false≢true (sym stays ∙ ap is_end h)

idle_not_ending : (b : Bool) (o : Outcome) → IsIdle b o → IsRunning o → EndsByIntensity o.state → ⊥
idle_not_ending b o idle runs (inl e) = false≢true (sym idle.1 ∙ ap (λ (f : Option Sequel). is_some f) e)
idle_not_ending b o idle runs (inr (own, e, p)) = false≢true (sym runs ∙ ap is_over p)

-- a supervisor that doesn't end by intensity
bounded : (s : State) → (EndsByIntensity s → ⊥) → IsRated s → IsBounded s.flags s.stamps
bounded s other (inl b) = b
bounded s other (inr (front, t, e, b, ending)) = absurd (other ending)

-- the same stamps, and where it ends by intensity it still does
rated-as : (new old : State) → new.flags ≡ old.flags → new.stamps ≡ old.stamps → (EndsByIntensity old → EndsByIntensity new) → IsRated old → IsRated new
rated-as new old flags stamps ends (inl b) =
    inl (subst (λ (f : SupFlags). IsBounded f new.stamps) (sym flags) (subst (λ (xs : List ℕ). IsBounded old.flags xs) (sym stamps) b))
rated-as new old flags stamps ends (inr (front, t, e, b, ending)) =
    inr (front, t, stamps ∙ e, subst (λ (f : SupFlags). IsBounded f front) (sym flags) b, ends ending)

ended-good : (x : Ending) (o : Outcome) → o.state.follows ≡ Some (sequel.End x) → Good o → Good (end_all x o)
unfolding end_all refuse_all
ended-good x o e g =
    (g.0, rated-as (end_all x o).state o.state refl refl (λ h. inr (own_number o.state.phase, refl, ap (λ (y : Ending). Ended (own_number o.state.phase) y) (ends_so h))) g.1)
  where
    ends_so : EndsByIntensity o.state → x ≡ ending.Intensity
    ends_so (inl k) = let l : ◌≡◌ {A = Option Sequel} (Some (sequel.End x)) (Some (sequel.End ending.Intensity)) = sym e ∙ k in cc
    ends_so (inr (n, k, l)) = absurd (let m : ◌≡◌ {A = Option Sequel} (Some (sequel.End x)) None = sym e ∙ k in cc)

opened-good : (own : ℕ) (o : Outcome) → Good o → Good (open_rows own o)
unfolding open_rows open_with
opened-good own o g = (All-nil (λ t. t ≤ o.state.last), inl (λ t. omega arith))

-- the restart's own stamp is the last
counted : (o : Outcome) → IsStamped o.state → All (λ t. t ≤ o.state.last) (o.state.stamps ++ o.state.last ∷ [])
counted o h = All-push (λ t. t ≤ o.state.last) o.state.stamps o.state.last h (omega arith)

steady : (k : Kind) (b : Bool) → Steady k b Good
unfolding answer tick
steady k b =
    record {
      goes = record {
        rows = λ rows o g. g;
        waiting = λ items o g. g;
        left = λ ps ds o g. g;
        told = λ id p s o g. g;
        started = λ id n o g. g;
        closes = λ f o is stays g. (g.0, inl (bounded o.state (other_work o.state (Some f) is refl (no_end f stays)) g.1));
        answered = λ c r o g. g;
        ready = λ o g. g;
        ended = ended-good;
      };
      opens = λ ps ds f o idle runs stays g. (g.0, inl (bounded o.state (idle_not_ending b o idle runs) g.1));
      ends = λ ps e o other when g. (
        g.0,
        inl (bounded o.state (⊎_elim (λ (rests : IsIdle b o × IsRunning o). idle_not_ending b o rests.0 rests.1) (λ (ready : o.state.follows ≡ Some sequel.Ready). other_work o.state (Some sequel.Ready) ready refl (λ h. cc)) when) g.1),
      );
      exceeds = λ ps o idle runs many g. (counted o g.0, inr (o.state.stamps, o.state.last, refl, bounded o.state (idle_not_ending b o idle runs) g.1, inl refl));
      restarts = λ ps ds o idle runs few g. (
        counted o g.0,
        inl (IsBounded-push o.state.flags o.state.stamps o.state.last g.0 (bounded o.state (idle_not_ending b o idle runs) g.1) (ltb-false _ _ few)),
      );
      ticks = λ o g. g;
      opened = λ own o is x. opened-good own o x;
    }

pub run-good : (s : State) (es : List Event) → IsStamped s → IsRated s → IsRated (state_after s es)
run-good s [] stamps rated = rated
run-good s (e ∷ es) stamps rated =
    let g : Good (step s e) = step-steady Good steady s e ((λ i d within. omega (arith, stamps i d within)), rated) in
    run-good (step s e).state es g.0 g.1

pub restart_rate_law : RestartRate
restart_rate_law = run-good
