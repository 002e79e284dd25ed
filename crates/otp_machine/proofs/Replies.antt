-- Kept answers and their replies.
use Rattle.std.proofs.Common.{◌≡◌, ℕ, ◌-◌, ◌<◌, ◌==◌, ◌++◌, List, [], ◌∷◌, ◌∙◌, sym, Option, None, Some, ap, arith, drop, drop-cons, get_or, length, map, refl, subst, suc, true, zero}
use Rattle.std.specs.Prelude.{if◌then◌else◌, All}
use Rattle.std.proofs.lemmas.List.{get_or_default, get_or_append_left, map-append}
use Rattle.std.proofs.Math.Seq.{get_or-append_seam}
use Rattle.otp_rules.specs.declared.call.Answered.{Answered}
use Rattle.otp_rules.specs.declared.call.Reply.{Reply}
use Rattle.otp_rules.specs.declared.call.Reply.TheVariants as reply
use Rattle.otp_rules.specs.Run.{answered, reply_of}
use Rattle.otp_machine.specs.declared.stores.answers.StoredAnswer.{StoredAnswer}
use Rattle.otp_machine.specs.AnswersInside.{answer_in}

eqb-from_same : (a b : ℕ) → a ≡ b → (a == b) ≡ true
eqb-from_same a b e = grind arith

-- the last answer among the later ones is the last of all
earlier : (call i : ℕ) (replies : List Reply) (ts : List StoredAnswer) (r : Reply) → reply_of call (map (answer_in replies) (drop i ts)) ≡ Some r → reply_of call (map (answer_in replies) ts) ≡ Some r
earlier call zero replies ts r h = h
earlier call (suc i) replies [] r h = h
earlier call (suc i) replies (t ∷ ts) r h = ap (λ (later : Option Reply). answered call (answer_in replies t) later) (earlier call i replies ts r h)

-- the answer at a place is the last where none behind it is to the same call
pub found : (call j : ℕ) (replies : List Reply) (ts : List StoredAnswer) (d e : StoredAnswer) → 0 < j → j - 1 < length ts → (get_or ts (j - 1) e).call ≡ call → reply_of call (map (answer_in replies) (drop j ts)) ≡ None →
    reply_of call (map (answer_in replies) ts) ≡ Some (get_or replies (get_or ts (j - 1) d).place reply.Ok)
found call j replies ts d e some within read none =
    let at_d : (get_or ts (j - 1) d).call ≡ call = ap (λ (x : StoredAnswer). x.call) (get_or_default ts (j - 1) d e within) ∙ read in
    let same : ((get_or ts (j - 1) d).call == call) ≡ true = eqb-from_same (get_or ts (j - 1) d).call call at_d in
    let t : StoredAnswer = get_or ts (j - 1) d in
    let next : suc (j - 1) ≡ j = omega arith in
    let none_later : reply_of call (map (answer_in replies) (drop (suc (j - 1)) ts)) ≡ None = ap (λ n. reply_of call (map (answer_in replies) (drop n ts))) next ∙ none in
    earlier call (j - 1) replies ts (answer_in replies t).reply
    (ap (λ (xs : List StoredAnswer). reply_of call (map (answer_in replies) xs)) (drop-cons ts (j - 1) d within)
    ∙ ap (λ (later : Option Reply). answered call (answer_in replies t) later) none_later
    ∙ ap (λ b. if b then Some (answer_in replies t).reply else None) same)

-- replies that come later change no answer
same_replies : (rs more : List Reply) (ts : List StoredAnswer) → All (λ t. t.place < length rs) ts → map (answer_in (rs ++ more)) ts ≡ map (answer_in rs) ts
same_replies rs more [] h = refl
same_replies rs more (t ∷ ts) h =
    ap (λ (r : Reply). record { call = t.call; reply = r } ∷ map (answer_in (rs ++ more)) ts) (get_or_append_left rs more reply.Ok t.place (h 0 t (omega arith)))
    ∙ ap (λ (later : List Answered). answer_in rs t ∷ later) (same_replies rs more ts (λ k d b. h (suc k) d (omega arith)))

-- one more reply, and the answer that tells of it
pub pushed : (rs : List Reply) (r : Reply) (ts : List StoredAnswer) (call place : ℕ) → place ≡ length rs → All (λ t. t.place < length rs) ts →
    map (answer_in (rs ++ r ∷ [])) (ts ++ record { call = call; place = place } ∷ []) ≡ map (answer_in rs) ts ++ record { call = call; reply = r } ∷ []
pushed rs r ts call place e h =
    map-append (answer_in (rs ++ r ∷ [])) ts (record { call = call; place = place } ∷ [])
    ∙ ap (λ (xs : List Answered). xs ++ record { call = call; reply = get_or (rs ++ r ∷ []) place reply.Ok } ∷ []) (same_replies rs (r ∷ []) ts h)
    ∙ ap (λ (x : Reply). map (answer_in rs) ts ++ record { call = call; reply = x } ∷ []) (ap (λ n. get_or (rs ++ r ∷ []) n reply.Ok) e ∙ get_or-append_seam rs r [] reply.Ok)

-- a place that is one of the answers' lies in the list
pub within_list : (replies xs : List Reply) (told ts : List StoredAnswer) (place : ℕ) → xs ≡ replies → ts ≡ told → All (λ t. t.place < length replies) told →
    ((n : ℕ) → All (λ t. t.place < n) ts → place < n) → place < length xs
within_list replies xs told ts place same_replies same_told all h =
    subst (λ (ys : List Reply). place < length ys) (sym same_replies)
    (h (length replies) (subst (λ (us : List StoredAnswer). All (λ t. t.place < length replies) us) (sym same_told) all))
