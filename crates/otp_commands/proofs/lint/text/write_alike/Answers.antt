use Rattle.std.proofs.Common.{◌≡◌, ◌++◌, ◌∙◌, List, OnOk, ap, append_assoc, codes, subst, ℕ}
use Rattle.otp_reason.specs.Names.{name_bytes}
use Rattle.otp_commands.specs.Texts.{alike_end, alike_text}
use Rattle.otp_commands.proofs.lint.text.write_alike.Goals as goal

pub returns : goal.returns
unfolding alike_text
returns c =
    let out : List ℕ = c.args.out.now.items in
    let head : List ℕ = codes "its id looks like " in
    let name : List ℕ = name_bytes c.args.other.now in
    let one : c.extend_from_slice.new.self.items ≡ out ++ head = c.in_ok-extend_from_slice.ensures.items in
    let two : c.write_name.new.out.items ≡ (out ++ head) ++ name = c.in_ok-write_name.ensures ∙ ap (λ (xs : List ℕ). xs ++ name) one in
    let all : c.write_name.new.out.items ++ alike_end ≡ out ++ (head ++ (name ++ alike_end)) =
    ap (λ (xs : List ℕ). xs ++ alike_end) two ∙ append_assoc (out ++ head) name alike_end ∙ append_assoc out head (name ++ alike_end) in
    subst (λ (xs : List ℕ). OnOk c.write_alike_end.result (c.write_alike_end.new.out.items ≡ xs)) all c.write_alike_end.ensures
