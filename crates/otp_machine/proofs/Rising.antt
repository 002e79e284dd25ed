-- Answers to calls whose numbers rise: where the answer to a call stands, if there is one.
use Rattle.std.proofs.Common.{◌≡◌, ℕ, ◌+◌, ◌-◌, ◌<◌, ◌≤◌, ◌==◌, List, [], ◌∷◌, ◌∙◌, sym, Option, None, Some, ap, arith, drop, get_or, length, map, refl, subst, suc, inl, inr}
use Rattle.std.specs.Prelude.{Bool, true, false, AllPairs, if◌then◌else◌}
use Rattle.std.proofs.lemmas.Bool.{cases_lt, eqb-true}
use Rattle.std.proofs.lemmas.List.{get_or-drop, length-drop}
use Rattle.otp_rules.specs.declared.call.Reply.{Reply}
use Rattle.otp_rules.specs.declared.call.Reply.TheVariants as reply
use Rattle.otp_rules.specs.Run.{answered, reply_of}
use Rattle.otp_machine.specs.declared.stores.answers.StoredAnswer.{StoredAnswer}
use Rattle.otp_machine.specs.AnswersInside.{answer_in}
use Rattle.otp_table.proofs.Keyed.{key_default}
use Rattle.otp_machine.proofs.Replies.{found}

abbrev Rises : List StoredAnswer → Type 0
Rises ts = AllPairs (λ one later. one.call < later.call) ts

not_same : (a b : ℕ) → (a ≡ b → ⊥) → (a == b) ≡ false
not_same a b other = (elim (a == b) as (λ v. (a == b) ≡ v → v ≡ false) [ true ↦ λ e. absurd (other (eqb-true a b e)) | false ↦ λ e. refl ]) refl

-- no answer is to a call that none of them has
none_of : (call : ℕ) (ts : List StoredAnswer) → ((k : ℕ) (d : StoredAnswer) → k < length ts → (get_or ts k d).call ≡ call → ⊥) → (replies : List Reply) → reply_of call (map (answer_in replies) ts) ≡ None
none_of call [] other replies = refl
none_of call (t ∷ ts) other replies =
    ap (λ (later : Option Reply). answered call (answer_in replies t) later) (none_of call ts (λ k d within e. other (suc k) d (omega (arith, within)) e) replies)
    ∙ ap (λ (b : Bool). if b then Some (answer_in replies t).reply else None) (not_same t.call call (λ e. other 0 t (omega arith) e))

-- the answer at a place that has the call is the last to it
pub found_at : (call : ℕ) (ts : List StoredAnswer) → Rises ts → (i : ℕ) (e : StoredAnswer) → i < length ts → (get_or ts i e).call ≡ call → (replies : List Reply) →
    reply_of call (map (answer_in replies) ts) ≡ Some (get_or replies (get_or ts i e).place reply.Ok)
found_at call ts rise i e within has replies =
    let back : suc i - 1 ≡ i = omega arith in
    found call (suc i) replies ts e e (omega arith) (omega (arith, within)) (subst (λ n. (get_or ts n e).call ≡ call) (sym back) has)
    (none_of call (drop (suc i) ts) (λ k d inside same.
    let there : (get_or (drop (suc i) ts) k d).call ≡ (get_or ts (suc i + k) d).call = ap (λ (t : StoredAnswer). t.call) (get_or-drop (suc i) ts k d) in
    let here : (get_or ts i d).call ≡ (get_or ts i e).call = key_default (λ (t : StoredAnswer). t.call) ts i d e within in
    elim (cases_lt (suc i + k) (length ts)) [
      | inl lt ↦ let less : (get_or ts i d).call < (get_or ts (suc i + k) d).call = rise i (suc i + k) d (omega arith) lt in omega (arith, less, there, here, has, same)
      | inr ge ↦ let short : length (drop (suc i) ts) ≡ length ts - suc i = length-drop (suc i) ts in omega (arith, short, inside, ge)
    ]) replies)
    ∙ ap (λ n. Some (get_or replies (get_or ts n e).place reply.Ok)) back

-- where all before a place are below the call's number, all from it on aren't, and the one there isn't the call's, none is
pub none_at : (call : ℕ) (ts : List StoredAnswer) → Rises ts → (i : ℕ) (e : StoredAnswer) → ((k : ℕ) (d : StoredAnswer) → k < i → (get_or ts k d).call < call) →
    ((k : ℕ) (d : StoredAnswer) → i ≤ k → k < length ts → call ≤ (get_or ts k d).call) → (i < length ts → (get_or ts i e).call ≡ call → ⊥) →
    (replies : List Reply) → reply_of call (map (answer_in replies) ts) ≡ None
none_at call ts rise i e less more other replies =
    none_of call ts (λ k d within same.
    elim (cases_lt k i) [
      | inl lt ↦ let below : (get_or ts k d).call < call = less k d lt in omega (arith, below, same)
      | inr ge ↦ elim (cases_lt i k) [
        | inl gt ↦ let first : call ≤ (get_or ts i d).call = more i d (omega arith) (omega (arith, gt, within)) in
            let later : (get_or ts i d).call < (get_or ts k d).call = rise i k d gt within in omega (arith, first, later, same)
        | inr le ↦ let at : k ≡ i = omega (arith, ge, le) in
            let here : (get_or ts i e).call ≡ (get_or ts i d).call = key_default (λ (t : StoredAnswer). t.call) ts i e d (subst (λ n. n < length ts) at within) in
            other (subst (λ n. n < length ts) at within) (here ∙ subst (λ n. (get_or ts n d).call ≡ call) at same)
      ]
    ]) replies
