use Rattle.std.proofs.Common.{◌≡◌, ◌++◌, ◌∙◌, ℕ, Bool, List, [], Err, Ok, OnOk, Result, ap, if◌then◌else◌, rules, subst, sym}
use Rattle.std.proofs.lemmas.Bool.{lt-leb}
use Rattle.std.proofs.lemmas.List.{append_assoc}
use Rattle.std.specs.Prelude.{codes, decimal, is_ok, nat_le}
use Rattle.std.specs.declared.alloc.AllocError.{AllocError}
use Rattle.otp_pages.specs.Costs.{count_html}
use Rattle.otp_pages.proofs.row.put_count.Goals as goal

pub returns : goal.returns
unfolding count_html
returns c =
    let out : List ℕ = c.args.out.now.items in
    let small : List ℕ = codes "<small>" in
    let number : List ℕ = decimal c.args.processes in
    let rest : List ℕ = codes " with those below</small>" in
    let new : List ℕ = c.extend_from_slice-2.new.self.items in
    let one : c.extend_from_slice.new.self.items ≡ out ++ small = search rules in
    let two : c.write_number.new.out.items ≡ c.extend_from_slice.new.self.items ++ number = search rules in
    let text : c.write_number.new.out.items ++ rest ≡ out ++ (small ++ number ++ rest) =
    ap (λ (l : List ℕ). l ++ rest) (two ∙ ap (λ (l : List ℕ). l ++ number) one ∙ append_assoc out small number) ∙ append_assoc out (small ++ number) rest in
    let wanted : List ℕ = if nat_le c.args.processes c.args.children then [] else small ++ number ++ rest in
    let is : wanted ≡ small ++ number ++ rest = ap (λ (b : Bool). if b then [] else small ++ number ++ rest) (lt-leb c.args.processes c.args.children c.if-processes-children.false) in
    let whole : c.write_number.new.out.items ++ rest ≡ out ++ wanted = text ∙ ap (λ (l : List ℕ). out ++ l) (sym is) in
    (elim c.extend_from_slice-2.result as (λ r. new ≡ (if is_ok r then c.write_number.new.out.items ++ rest else c.write_number.new.out.items) → OnOk r (new ≡ out ++ wanted)) [
      | Ok u ↦ λ h. h ∙ whole
      | Err e ↦ λ h. tt
    ])
    c.extend_from_slice-2.ensures.items
