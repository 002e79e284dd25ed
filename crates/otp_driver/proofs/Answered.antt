-- The answers that orders tell of are kept until the orders were taken.
use Rattle.std.specs.Prelude.{◌≡◌, ◌≤◌, ◌+◌, ◌-◌, ℕ, Bool, true, false, ◌⊎◌, ◌==◌, List, [], ◌∷◌, ◌++◌, Option, None, Some, All, get_or, is_some, length, map, refl, slice_get, take, if◌then◌else◌}
use Rattle.std.specs.List.{AllByRecursion, filter_map}
use Rattle.std.proofs.Common.{◌∙◌, ap, append_assoc, arith, inl, inr, subst, sym}
use Rattle.std.proofs.lemmas.Bool.{eq-eqb, eqb-true, false≢true}
use Rattle.std.proofs.lemmas.List.{length-append, length-drop, take-append-le}
use Rattle.std.proofs.lemmas.List.Elements.{All-append, All-from_recursion, All-nil}
use Rattle.std.proofs.lemmas.Option.{get_or_from_slice_get, slice_get_within}
use Rattle.otp_core.specs.Full.{cut_after}
use Rattle.otp_core.specs.Happened.{Happened, cut_before}
use Rattle.otp_core.specs.View.{View, checkpoint_of, past_of, state_of, stored_of, stored_state}
use Rattle.otp_core.specs.Replies.{IsReplyAnswer}
use Rattle.otp_core.specs.declared.reply.ReplyAnswer.{ReplyAnswer}
use Rattle.otp_core.specs.declared.reply.ReplyAnswer.TheVariants.{Kept, Gone, NotYet}
use Rattle.otp_driver.specs.Replies.{AreAnswered, IsAnswered, IsKept, IsReplyIn}
use Rattle.otp_driver.proofs.Kept.{kept_is_last, whole_state}
use Rattle.otp_rules.specs.Answers.{AnswersTold, answered_in}
use Rattle.otp_rules.specs.Cuts.{CutsAgree, StepForgets, base_of}
use Rattle.otp_rules.specs.Run.{RunGoesOn, RunsJoined, answered, reply_of, state_after}
use Rattle.otp_rules.specs.State.{State}
use Rattle.otp_rules.specs.Step.{step}
use Rattle.otp_rules.specs.declared.call.Answered.{Answered}
use Rattle.otp_rules.specs.declared.call.Reply.{Reply}
use Rattle.otp_rules.specs.declared.event.Effect.{Effect}
use Rattle.otp_rules.specs.declared.event.Effect.TheVariants as effect
use Rattle.otp_rules.specs.declared.event.Event.{Event}

abbrev pub IsFound : List Answered → ℕ → Type 0
IsFound replies c = is_some (reply_of c replies) ≡ true

abbrev pub AreFound : List Answered → List ℕ → Type 0
AreFound replies calls = AllByRecursion (IsFound replies) calls

some_stays : (c : ℕ) (a : Answered) (o : Option Reply) → is_some o ≡ true → is_some (answered c a o) ≡ true
some_stays c a None h = absurd (false≢true h)
some_stays c a (Some r) h = refl

-- an answer is found with others before it
found_behind : (c : ℕ) (before later : List Answered) → IsFound later c → IsFound (before ++ later) c
found_behind c [] later h = h
found_behind c (a ∷ before) later h = some_stays c a (reply_of c (before ++ later)) (found_behind c before later h)

some_follows : (c : ℕ) (a : Answered) (o o' : Option Reply) → (is_some o ≡ true → is_some o' ≡ true) → is_some (answered c a o) ≡ true → is_some (answered c a o') ≡ true
some_follows c a (Some r) o' follows h = some_stays c a o' (follows refl)
some_follows c a None None follows h = h
some_follows c a None (Some r) follows h = refl

-- and with others behind it
found_before : (c : ℕ) (before later : List Answered) → IsFound before c → IsFound (before ++ later) c
found_before c [] later h = absurd (false≢true h)
found_before c (a ∷ before) later h =
    some_follows c a (reply_of c before) (reply_of c (before ++ later)) (λ is. found_before c before later is) h

own_number : (n : ℕ) → (n == n) ≡ true
own_number n = eq-eqb n n refl

found_first : (a : Answered) (o : Option Reply) → is_some (answered a.call a o) ≡ true
found_first a (Some r) = refl
found_first a None = ap (λ (b : Bool). is_some (if b then Some a.reply else None)) (own_number a.call)

-- all answers that were given are found
all_found : (before given : List Answered) → AreFound (before ++ given) (map (λ (a : Answered). a.call) given)
all_found before [] = tt
all_found before (a ∷ given) = (
  found_behind a.call before (a ∷ given) (found_first a (reply_of a.call given)),
  subst (λ (rs : List Answered). AreFound rs (map (λ (x : Answered). x.call) given)) (append_assoc before (a ∷ []) given) (all_found (before ++ a ∷ []) given),
)

-- so those are that orders tell of
of_orders : (replies : List Answered) (orders : List Effect) → AreFound replies (filter_map answered_in orders) → AllByRecursion (IsAnswered replies) orders
of_orders replies [] h = tt
of_orders replies (effect.Start _ _ ∷ es) h = (tt, of_orders replies es h)
of_orders replies (effect.Ask _ _ ∷ es) h = (tt, of_orders replies es h)
of_orders replies (effect.Kill _ _ ∷ es) h = (tt, of_orders replies es h)
of_orders replies (effect.Reply c ∷ es) (here, rest) = (here, of_orders replies es rest)
of_orders replies (effect.Ready ∷ es) h = (tt, of_orders replies es h)
of_orders replies (effect.End _ ∷ es) h = (tt, of_orders replies es h)

stays_answered : (replies given : List Answered) (e : Effect) → IsAnswered replies e → IsAnswered (replies ++ given) e
stays_answered replies given (effect.Start _ _) h = tt
stays_answered replies given (effect.Ask _ _) h = tt
stays_answered replies given (effect.Kill _ _) h = tt
stays_answered replies given (effect.Reply c) h = found_before c replies given h
stays_answered replies given effect.Ready h = tt
stays_answered replies given (effect.End _) h = tt

all_stay : (replies given : List Answered) (es : List Effect) → All (IsAnswered replies) es → All (IsAnswered (replies ++ given)) es
all_stay replies given es h k d within = stays_answered replies given (get_or es k d) (h k d within)

-- the events that were cut off are no more than all
cut_within : (v w : View) (e : Event) → w.cut ≡ v.cut → w.history ≡ v.history ++ e ∷ [] → stored_of w ≡ stored_of v ++ e ∷ [] → v.cut ≤ length v.history
cut_within v w e cut history stored =
    let a : length (stored_of w) ≡ length w.history - w.cut = length-drop w.cut w.history in
    let b : length (stored_of v) ≡ length v.history - v.cut = length-drop v.cut v.history in
    let c : length (stored_of w) ≡ length (stored_of v) + 1 = ap (λ (es : List Event). length es) stored ∙ length-append (stored_of v) (e ∷ []) in
    let d : length w.history ≡ length v.history + 1 = ap (λ (es : List Event). length es) history ∙ length-append v.history (e ∷ []) in
    omega (arith, a, b, c, d, cut)

-- what is stored goes on by the event
stored_after : RunGoesOn → (v w : View) (e : Event) → w.base ≡ v.base → w.cut ≡ v.cut → w.history ≡ v.history ++ e ∷ [] → stored_of w ≡ stored_of v ++ e ∷ []
    → stored_state w ≡ (step (stored_state v) e).state
stored_after goes v w e base cut history stored =
    let past : past_of w ≡ past_of v =
    ap (λ (n : ℕ). take n w.history) cut ∙ (ap (λ (es : List Event). take v.cut es) history ∙ take-append-le v.cut v.history (e ∷ []) (cut_within v w e cut history stored)) in
    let check : checkpoint_of w ≡ checkpoint_of v =
    ap (λ (s : State). base_of (state_after s (past_of w))) base ∙ ap (λ (es : List Event). base_of (state_after v.base es)) past in
    ap (λ (s : State). state_after s (stored_of w)) check
    ∙ (ap (λ (es : List Event). state_after (checkpoint_of v) es) stored ∙ (goes (checkpoint_of v) (stored_of v) e).0)

pub answered_after : AnswersTold → CutsAgree → StepForgets → RunsJoined → RunGoesOn → (v w : View) (e : Event)
    → w.base ≡ v.base → w.cut ≡ v.cut → w.history ≡ v.history ++ e ∷ [] → stored_of w ≡ stored_of v ++ e ∷ []
    → w.effects ≡ v.effects ++ (step (state_of v) e).orders
    → AreAnswered v → AreAnswered w
answered_after told cuts forgets joined goes v w e base cut history stored effects h =
    let s : State = stored_state v in
    let rs : List Answered = s.replies in
    let orders : List Effect = (step s e).orders in
    let t : (given : List Answered) × ((step s e).state.replies ≡ rs ++ given) × (map (λ (a : Answered). a.call) given ≡ filter_map answered_in orders) = told s e in
    let given : List Answered = t.0 in
    let replies : (stored_state w).replies ≡ rs ++ given = ap (λ (x : State). x.replies) (stored_after goes v w e base cut history stored) ∙ t.1 in
    let same : (step (state_of v) e).orders ≡ orders =
    ap (λ (x : State). (step x e).orders) (whole_state cuts joined v)
    ∙ (forgets (state_after v.base (past_of v)).replies (state_after v.base (past_of v)).ends s e).1 in
    let all : w.effects ≡ v.effects ++ orders = effects ∙ ap (λ (es : List Effect). v.effects ++ es) same in
    let new : All (IsAnswered (rs ++ given)) orders =
    All-from_recursion (IsAnswered (rs ++ given)) orders
    (of_orders (rs ++ given) orders (subst (λ (cs : List ℕ). AreFound (rs ++ given) cs) t.2 (all_found rs given))) in
    subst (λ (es : List Effect). All (IsAnswered (stored_state w).replies) es) (sym all)
    (subst (λ (xs : List Answered). All (IsAnswered xs) (v.effects ++ orders)) (sym replies)
    (All-append (IsAnswered (rs ++ given)) v.effects orders (all_stay rs given v.effects h) new))

-- where room was made by a cut while no order waits, all stay answered
room_answered : (u : View) (n : ℕ) → (n ≡ u.cut) ⊎ (u.effects ≡ []) → AreAnswered u → AreAnswered (record u { cut = n })
room_answered u n (inl same) h = subst (λ (k : ℕ). AreAnswered (record u { cut = k })) (sym same) h
room_answered u n (inr none) h =
    let Kept : Effect → Type 0 = IsAnswered (stored_state (record u { cut = n })).replies in
    subst (λ (es : List Effect). All Kept es) (sym none) (All-nil Kept)

none_left : (es : List Effect) → (length es == 0) ≡ true → es ≡ []
none_left [] h = refl
none_left (e ∷ es) h =
    let same : length (e ∷ es) ≡ 0 = eqb-true (length (e ∷ es)) 0 h in
    absurd (omega (arith, same))

-- nothing is cut off while an order waits
cut_of : (limit : ℕ) (u : View) (n : ℕ) → n ≡ cut_before limit u → (n ≡ u.cut) ⊎ (u.effects ≡ [])
cut_of limit u n is = by (length u.effects == 0) refl
  where
    by : (b : Bool) → (length u.effects == 0) ≡ b → (n ≡ u.cut) ⊎ (u.effects ≡ [])
    by true e = inr (none_left u.effects e)
    by false e = inl (is ∙ ap (λ (b : Bool). if b then cut_after limit u else u.cut) e)

-- and so they do by an event with the room for it
pub answered_on : AnswersTold → CutsAgree → StepForgets → RunsJoined → RunGoesOn → (limit : ℕ) (e : Event) (u w : View) → Happened limit e u w → AreAnswered u → AreAnswered w
answered_on told cuts forgets joined goes limit e u w is h =
    answered_after told cuts forgets joined goes (record u { cut = w.cut }) w e is.base refl is.history is.stored is.effects
    (room_answered u w.cut (cut_of limit u w.cut is.cut) h)

pub answered_at : (v : View) (k c : ℕ) → AreAnswered v → slice_get v.effects k ≡ Some (effect.Reply c) → is_some (reply_of c (stored_state v).replies) ≡ true
answered_at v k c h at =
    subst (IsAnswered (stored_state v).replies) (get_or_from_slice_get v.effects k (effect.Reply c) (effect.Reply c) at)
    (h k (effect.Reply c) (slice_get_within v.effects k (effect.Reply c) at))

-- an answer that is there is kept
pub kept_if_answered : {R : Type 0} (shown : R → Reply) (c : ℕ) (v : View) (a : ReplyAnswer R) → IsReplyAnswer shown c v a
    → is_some (reply_of c (stored_state v).replies) ≡ true → IsKept a
kept_if_answered shown c v (Kept r) is there = tt
kept_if_answered shown c v Gone (none, _) there = absurd (false≢true (sym (ap is_some none) ∙ there))
kept_if_answered shown c v NotYet (none, _) there = absurd (false≢true (sym (ap is_some none) ∙ there))

-- and is the last one
pub last_of_reply : {R : Type 0} → CutsAgree → RunsJoined → (shown : R → Reply) (c : ℕ) (v : View) (a : ReplyAnswer R) → IsReplyAnswer shown c v a
    → IsReplyIn shown c (state_of v).replies a
last_of_reply cuts joined shown c v (Kept r) is = kept_is_last cuts joined v c (shown r) is
last_of_reply cuts joined shown c v Gone is = tt
last_of_reply cuts joined shown c v NotYet is = tt
