use Rattle.std.proofs.Common.{◌≡◌, ◌++◌, ◌∙◌, List, OnOk, ap, append_assoc, codes, subst, ℕ}
use Rattle.otp_commands.specs.Texts.{ends_text, no_restart_end, no_restart_text}
use Rattle.otp_commands.proofs.lint.text.write_no_restart.Goals as goal

pub returns : goal.returns
unfolding no_restart_text
returns c =
    let out : List ℕ = c.args.out.now.items in
    let head : List ℕ = codes "intensity = 0: " in
    let ends : List ℕ = ends_text c.args.children in
    let one : c.extend_from_slice.new.self.items ≡ out ++ head = c.in_ok-extend_from_slice.ensures.items in
    let two : c.write_ends.new.out.items ≡ (out ++ head) ++ ends = c.in_ok-write_ends.ensures ∙ ap (λ (xs : List ℕ). xs ++ ends) one in
    let all : c.write_ends.new.out.items ++ no_restart_end ≡ out ++ (head ++ (ends ++ no_restart_end)) =
    ap (λ (xs : List ℕ). xs ++ no_restart_end) two ∙ append_assoc (out ++ head) ends no_restart_end ∙ append_assoc out head (ends ++ no_restart_end) in
    subst (λ (xs : List ℕ). OnOk c.write_no_restart_end.result (c.write_no_restart_end.new.out.items ≡ xs)) all c.write_no_restart_end.ensures
