-- What no event changes: flags, specifications and the last stamp; and no restart is stamped later than that.
use Rattle.std.specs.Prelude.{◌≡◌, ℕ, ◌≤◌, ◌++◌, Bool, List, [], ◌∷◌, All, refl, max}
use Rattle.std.proofs.Common.{arith}
use Rattle.std.proofs.lemmas.List.Elements.{All-nil, All-push}
use Rattle.otp_rules.specs.declared.event.Event.{Event}
use Rattle.otp_rules.specs.declared.event.Kind.{Kind}
use Rattle.otp_rules.specs.State.{Outcome, State, answer, is_busy, with_stamps}
use Rattle.otp_rules.specs.Ends.{refuse_all, end_all}
use Rattle.otp_rules.specs.Step.{open_with, open_rows, tick, decide, stamped, step}
use Rattle.otp_rules.proofs.Decisions.{decide-survives}
use Rattle.otp_rules.proofs.Steady.{Steady, steady-survives, step-steady}
use Rattle.otp_rules.specs.Frames.{IsStamped, StepKeepsPlan, StepKeepsStamped, StepStamps}

-- flags, specifications and the last stamp are the same, and still no restart is stamped later
abbrev pub Keeps : Outcome → Outcome → Type 0
Keeps new old =
    (new.state.flags ≡ old.state.flags)
    × (new.state.specs ≡ old.state.specs)
    × (new.state.last ≡ old.state.last)
    × (IsStamped old.state → IsStamped new.state)

opened-keeps : (old : Outcome) (own : ℕ) (o : Outcome) → Keeps o old → Keeps (open_rows own o) old
unfolding open_rows open_with
opened-keeps old own o h = (h.0, h.1, h.2, λ _. All-nil (λ t. t ≤ o.state.last))

-- the restart's own stamp is the last
counted-keeps : (old o : Outcome) → Keeps o old → Keeps (with_stamps (o.state.stamps ++ o.state.last ∷ []) o) old
counted-keeps old o h = (h.0, h.1, h.2, λ x. All-push (λ t. t ≤ o.state.last) o.state.stamps o.state.last (h.3 x) (omega arith))

steady : (old : Outcome) (k : Kind) (b : Bool) → Steady k b (λ o. Keeps o old)
unfolding answer end_all refuse_all tick
steady old k b =
    record {
      goes = record { rows = λ rows o h. h; waiting = λ items o h. h; left = λ ps ds o h. h; told = λ id p s o h. h; started = λ id n o h. h; closes = λ f o is stays h. h; answered = λ c r o h. h; ready = λ o h. h; ended = λ e o is h. h };
      opens = λ ps ds f o idle runs stays h. h;
      ends = λ ps e o other when h. h;
      exceeds = λ ps o idle runs many h. counted-keeps old o h;
      restarts = λ ps ds o idle runs few h. counted-keeps old o h;
      ticks = λ o h. h;
      opened = λ own o is h. opened-keeps old own o h;
    }

-- what a decision and a step keep of the state that has the event's stamp
pub decide-keeps : (k : Kind) (o : Outcome) → Keeps (decide k o) o
decide-keeps k o = decide-survives k (λ x. Keeps x o) o (steady-survives k (is_busy o) (λ x. Keeps x o) (steady o k (is_busy o))) (refl, refl, refl, λ h. h)

step-keeps : (s : State) (e : Event) → Keeps (step s e) (record { state = stamped e.reading s; orders = [] })
step-keeps s e =
    let before : Outcome = record { state = stamped e.reading s; orders = [] } in
    step-steady (λ x. Keeps x before) (steady before) s e (refl, refl, refl, λ h. h)

pub step_keeps_plan_law : StepKeepsPlan
step_keeps_plan_law s e = ((step-keeps s e).0, (step-keeps s e).1)

pub step_stamps_law : StepStamps
step_stamps_law s e = (step-keeps s e).2

-- a stamp that isn't later than one isn't later than a later one
stamped_later : (t u : ℕ) (stamps : List ℕ) → t ≤ u → All (λ x. x ≤ t) stamps → All (λ x. x ≤ u) stamps
stamped_later t u stamps le h i d within = omega (arith, le, h i d within)

pub step_keeps_stamped_law : StepKeepsStamped
step_keeps_stamped_law s e h = (step-keeps s e).3 (stamped_later s.last (max e.reading s.last) s.stamps (omega arith) h)
