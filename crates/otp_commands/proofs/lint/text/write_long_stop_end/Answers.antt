use Rattle.std.proofs.Common.{◌≡◌, ◌++◌, ◌∙◌, List, OnOk, ap, append_assoc, codes, decimal, subst, ℕ}
use Rattle.otp_commands.specs.Texts.{long_stop_end, long_stop_why}
use Rattle.otp_commands.proofs.lint.text.write_long_stop_end.Goals as goal

pub returns : goal.returns
unfolding long_stop_end
returns c =
    let out : List ℕ = c.args.out.now.items in
    let head : List ℕ = codes " ms, longer than its supervisor's period of " in
    let period : List ℕ = decimal c.args.period in
    let last : List ℕ = long_stop_why in
    let one : c.extend_from_slice.new.self.items ≡ out ++ head = c.in_ok-extend_from_slice.ensures.items in
    let two : c.write_number.new.out.items ≡ (out ++ head) ++ period = c.in_ok-write_number.ensures ∙ ap (λ (xs : List ℕ). xs ++ period) one in
    let all : c.write_number.new.out.items ++ last ≡ out ++ (head ++ (period ++ last)) =
    ap (λ (xs : List ℕ). xs ++ last) two ∙ append_assoc (out ++ head) period last ∙ append_assoc out head (period ++ last) in
    subst (λ (xs : List ℕ). OnOk c.write_long_stop_why.result (c.write_long_stop_why.new.out.items ≡ xs)) all c.write_long_stop_why.ensures
