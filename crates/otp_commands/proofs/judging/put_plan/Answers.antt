use Rattle.std.proofs.Common.{◌≡◌, ◌++◌, ◌∙◌, List, OnOk, ap, append_assoc, codes, decimal, subst, ℕ}
use Rattle.otp_commands.specs.Judged.{plan_text}
use Rattle.otp_commands.proofs.judging.put_plan.Goals as goal

pub returns : goal.returns
unfolding plan_text
returns c =
    let out : List ℕ = c.args.out.now.items in
    let head : List ℕ = codes "TAP version 13\n1.." in
    let number : List ℕ = decimal c.args.count in
    let ends : List ℕ = codes "\n" in
    let one : c.extend_from_slice.new.self.items ≡ out ++ head = c.in_ok-extend_from_slice.ensures.items in
    let two : c.write_number.new.out.items ≡ (out ++ head) ++ number = c.in_ok-write_number.ensures ∙ ap (λ (xs : List ℕ). xs ++ number) one in
    let all : c.write_number.new.out.items ++ ends ≡ out ++ (head ++ (number ++ ends)) =
    ap (λ (xs : List ℕ). xs ++ ends) two ∙ append_assoc (out ++ head) number ends ∙ append_assoc out head (number ++ ends) in
    subst (λ (xs : List ℕ). OnOk c.put_line_end.result (c.put_line_end.new.out.items ≡ xs)) all c.put_line_end.ensures
