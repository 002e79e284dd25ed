-- What was published, as a history goes on.
use Rattle.std.proofs.Common.{None, Some, Option, ◌≡◌, ◌∙◌, List, [], ◌∷◌, ◌++◌, ℕ, append_assoc, refl, ap, subst, sym}
use Rattle.otp_rules.specs.Counts.{counts_of}
use Rattle.otp_rules.specs.Run.{state_after}
use Rattle.otp_rules.specs.State.{State}
use Rattle.otp_rules.specs.Step.{step}
use Rattle.otp_rules.specs.declared.call.CountsNow.{CountsNow}
use Rattle.otp_rules.specs.declared.event.Event.{Event}
use Rattle.otp_rules.specs.declared.event.Kind.{Kind}
use Rattle.otp_core.specs.View.{View, state_of}
use Rattle.otp_signals.specs.Counts.{EndsWith}
use Rattle.otp_bodies.specs.Events.{Happened, Readied}
use Rattle.otp_bodies.specs.Offices.{OfficeView}
use Rattle.otp_bodies.proofs.Readying.{readied_base, readied_history}
use Rattle.otp_spec.specs.Supervisor.{Supervisor}
use Rattle.otp_sup.specs.Published.{AreCounted, counts_along}

-- an event more
counts_on : (s : State) (es : List Event) (e : Event) → counts_along s (es ++ e ∷ []) ≡ counts_along s es ++ counts_of (state_after s (es ++ e ∷ [])) ∷ []
counts_on s [] e = refl
counts_on s (x ∷ es) e = ap (λ (l : List CountsNow). counts_of s ∷ l) (counts_on (step s x).state es e)

-- the last are those of the state after all
pub last_along : (s : State) (es : List Event) → EndsWith (counts_of (state_after s es)) (counts_along s es)
last_along s [] = ([], refl)
last_along s (x ∷ es) = let l = last_along (step s x).state es in (counts_of s ∷ l.0, ap (λ (cs : List CountsNow). counts_of s ∷ cs) l.1)

-- before the first event
pub counts_first : (core : View) (published : List CountsNow) → core.history ≡ [] → published ≡ counts_of (state_of core) ∷ [] → published ≡ counts_along core.base core.history
counts_first core published none is =
    is ∙ ap (λ (h : List Event). counts_of (state_after core.base h) ∷ []) none ∙ sym (ap (λ (h : List Event). counts_along core.base h) none)

-- nothing was counted before
pub all_counted : (plan : Option Supervisor) (along published : List CountsNow) → published ≡ along → AreCounted plan along published
all_counted None along published is = ([], is)
all_counted (Some p) along published is = is

-- one is counted more
counted_on : (plan : Option Supervisor) (along more published later : List CountsNow) (c : CountsNow) → more ≡ along ++ c ∷ [] → later ≡ published ++ c ∷ [] → AreCounted plan along published → AreCounted plan more later
counted_on None along more published later c on is before =
    (before.0, is ∙ ap (λ (l : List CountsNow). l ++ c ∷ []) before.1 ∙ append_assoc before.0 along (c ∷ []) ∙ ap (λ (l : List CountsNow). before.0 ++ l) (sym on))
counted_on (Some p) along more published later c on is before = is ∙ ap (λ (l : List CountsNow). l ++ c ∷ []) before ∙ sym on

-- the last are those along the history
pub last_counted : (plan : Option Supervisor) (along published : List CountsNow) (c : CountsNow) → EndsWith c along → AreCounted plan along published → EndsWith c published
last_counted None along published c last is =
    (is.0 ++ last.0, is.1 ∙ ap (λ (l : List CountsNow). is.0 ++ l) last.1 ∙ sym (append_assoc is.0 last.0 (c ∷ [])))
last_counted (Some p) along published c last is = (last.0, is ∙ last.1)

-- the same history
pub counts_same : (plans : ℕ → Option Supervisor) (inbox number : ℕ) (old new : View) (published : List CountsNow) → number ≡ inbox → new.base ≡ old.base → new.history ≡ old.history
    → AreCounted (plans inbox) (counts_along old.base old.history) published → AreCounted (plans number) (counts_along new.base new.history) published
counts_same plans inbox number old new published own base history is =
    subst (λ (n : ℕ). AreCounted (plans n) (counts_along new.base new.history) published) (sym own)
    (subst (λ (along : List CountsNow). AreCounted (plans inbox) along published)
    (ap (λ (h : List Event). counts_along old.base h) (sym history) ∙ ap (λ (b : State). counts_along b new.history) (sym base)) is)

-- once memory was taken and an event happened, its counts were published
pub counts_happened : (plans : ℕ → Option Supervisor) (inbox number : ℕ) (old mid new : OfficeView) (reading : ℕ) (k : Kind) (published later : List CountsNow) → number ≡ inbox → Readied old mid → Happened reading k mid new
    → later ≡ published ++ counts_of (state_of new.core) ∷ [] → AreCounted (plans inbox) (counts_along old.core.base old.core.history) published → AreCounted (plans number) (counts_along new.core.base new.core.history) later
counts_happened plans inbox number old mid new reading k published later own r h more before =
    let e : Event = record { reading = reading; number = h.number; kind = k } in
    let s : State = old.core.base in
    let es : List Event = old.core.history in
    let base : new.core.base ≡ s = h.base ∙ readied_base old mid r in
    let history : new.core.history ≡ es ++ e ∷ [] = h.history ∙ ap (λ (l : List Event). l ++ e ∷ []) (readied_history old mid r) in
    let on : counts_along new.core.base new.core.history ≡ counts_along s es ++ counts_of (state_of new.core) ∷ [] =
    ap (λ (b : State). counts_along b new.core.history) base
    ∙ ap (λ (l : List Event). counts_along s l) history
    ∙ counts_on s es e
    ∙ ap (λ (l : List Event). counts_along s es ++ counts_of (state_after s l) ∷ []) (sym history)
    ∙ ap (λ (b : State). counts_along s es ++ counts_of (state_after b new.core.history) ∷ []) (sym base) in
    subst (λ (n : ℕ). AreCounted (plans n) (counts_along new.core.base new.core.history) later) (sym own)
    (counted_on (plans inbox) (counts_along s es) (counts_along new.core.base new.core.history) published later (counts_of (state_of new.core)) on more before)
