use Rattle.std.proofs.Common.{◌≡◌, ℕ, List, [], ◌∷◌, ◌++◌, Option, None, Some, append-nil, arith, max, refl, ap, subst, sym, ◌∙◌}
use Rattle.otp_rules.specs.declared.call.Answered.{Answered}
use Rattle.otp_rules.specs.declared.ending.SupEnd.{SupEnd}
use Rattle.otp_rules.specs.declared.event.Event.{Event}
use Rattle.otp_rules.specs.Cuts.{base_of, greater_of, greatest_call, older, told_before, Earlier}
use Rattle.otp_rules.specs.State.{State}
use Rattle.otp_rules.specs.Step.{step}
use Rattle.otp_rules.specs.Run.{state_after}

-- one event more
pub pushed : (s : State) (es : List Event) (e : Event) → state_after s (es ++ e ∷ []) ≡ (step (state_after s es) e).state
pushed s [] e = refl
pushed s (x ∷ xs) e = pushed (step s x).state xs e

-- a step goes on with the run
pub runs_on : (x y : Earlier) (first s next : State) (h longer : List Event) (e : Event) → next ≡ (step s e).state → (step (older x s) e).state ≡ older x (step s e).state → y ≡ x → longer ≡ h ++ e ∷ []
    → older x s ≡ state_after first h → older y next ≡ state_after first longer
runs_on x y first s next h longer e moved forgets same more runs =
    ap (λ (z : Earlier). older z next) same ∙ ap (older x) moved ∙ sym forgets
    ∙ ap (λ (t : State). (step t e).state) runs ∙ sym (pushed first h e) ∙ ap (state_after first) (sym more)

-- with the answers and ends that a cut drops, the base is the state that was cut
pub cut_runs : (rs : List Answered) (es : List (ℕ × SupEnd)) (s whole : State) → older (told_before rs es) s ≡ whole → older (told_before whole.replies whole.ends) (base_of s) ≡ whole
cut_runs rs es s whole runs =
    let Cut : State → Type 0 = λ w. older (told_before w.replies w.ends) (base_of s) ≡ w in
    subst Cut runs
    (ap (λ (all : List Answered). record s { replies = all; ends = (es ++ s.ends) ++ [] }) (append-nil (rs ++ s.replies))
    ∙ ap (λ (ends : List (ℕ × SupEnd)). record s { replies = rs ++ s.replies; ends = ends }) (append-nil (es ++ s.ends)))

pub greater-assoc : (a b c : Option ℕ) → greater_of (greater_of a b) c ≡ greater_of a (greater_of b c)
greater-assoc None b c = refl
greater-assoc (Some l) None c = refl
greater-assoc (Some l) (Some m) None = refl
greater-assoc (Some l) (Some m) (Some n) =
    let same : max (max l m) n ≡ max l (max m n) = omega arith in
    ap (λ (k : ℕ). Some k) same

-- the greatest number of two lists of answers
greatest-append : (rs more : List Answered) → greatest_call (rs ++ more) ≡ greater_of (greatest_call rs) (greatest_call more)
greatest-append [] more = refl
greatest-append (r ∷ rs) more = ap (λ (n : Option ℕ). greater_of (Some r.call) n) (greatest-append rs more) ∙ sym (greater-assoc (Some r.call) (greatest_call rs) (greatest_call more))

pub greatest_of : (rs : List Answered) (es : List (ℕ × SupEnd)) (s whole : State) → older (told_before rs es) s ≡ whole → greatest_call whole.replies ≡ greater_of (greatest_call rs) (greatest_call s.replies)
greatest_of rs es s whole runs = ap (λ (w : State). greatest_call w.replies) (sym runs) ∙ greatest-append rs s.replies

-- the same from a checkpoint on
pub keeps_on : (s next from again : State) (h longer : List Event) (e : Event) → next ≡ (step s e).state → longer ≡ h ++ e ∷ [] → again ≡ from → s ≡ state_after from h → next ≡ state_after again longer
keeps_on s next from again h longer e moved more same runs =
    moved ∙ ap (λ (t : State). (step t e).state) runs ∙ sym (pushed from h e) ∙ ap (state_after from) (sym more) ∙ ap (λ (t : State). state_after t longer) (sym same)

-- nothing was answered before
pub greater_none : (n : Option ℕ) → n ≡ greater_of n None
greater_none None = refl
greater_none (Some m) = refl

-- a state without answers and ends is its own base
pub is_base : (s : State) → s.replies ≡ [] → s.ends ≡ [] → s ≡ base_of s
is_base s replies ends = ap (λ (rs : List Answered). record s { replies = rs }) replies ∙ ap (λ (es : List (ℕ × SupEnd)). record s { replies = []; ends = es }) ends

-- no answers and ends before it make it the same
pub none_older : (s : State) (rs : List Answered) (es : List (ℕ × SupEnd)) → rs ≡ [] → es ≡ [] → older (told_before rs es) s ≡ s
none_older s rs es replies ends = ap (λ (xs : List Answered). older (told_before xs es) s) replies ∙ ap (λ (xs : List (ℕ × SupEnd)). older (told_before [] xs) s) ends
