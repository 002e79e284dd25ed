use Rattle.std.proofs.Common.{◌≡◌, ◌++◌, ◌∙◌, List, OnOk, ap, append_assoc, codes, subst, ℕ}
use Rattle.otp_costs.specs.Words.{needs_text, reason_text, steady_text}
use Rattle.otp_costs.proofs.words.write_needs.Goals as goal

pub returns : goal.returns
unfolding needs_text
returns c =
    let out : List ℕ = c.args.out.now.items in
    let needs : List ℕ = codes "  OTP    needs " in
    let steady : List ℕ = steady_text c.args.seconds in
    let one : c.extend_from_slice.new.self.items ≡ out ++ needs = c.in_ok-extend_from_slice.ensures.items in
    let two : c.write_steady.new.out.items ≡ (out ++ needs) ++ steady = c.in_ok-write_steady.ensures ∙ ap (λ (xs : List ℕ). xs ++ steady) one in
    let all : c.write_steady.new.out.items ++ reason_text ≡ out ++ (needs ++ (steady ++ reason_text)) =
    ap (λ (xs : List ℕ). xs ++ reason_text) two ∙ append_assoc (out ++ needs) steady reason_text ∙ append_assoc out needs (steady ++ reason_text) in
    subst (λ (xs : List ℕ). OnOk c.write_reason.result (c.write_reason.new.out.items ≡ xs)) all c.write_reason.ensures
