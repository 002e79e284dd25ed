use Rattle.std.proofs.Common.{◌≡◌, ◌++◌, ◌∙◌, List, OnOk, ap, append_assoc, codes, subst, ℕ}
use Rattle.otp_objects.specs.Suggested.{clock_text, clocks_text}
use Rattle.otp_objects.proofs.suggested.write_clocks.Goals as goal

pub returns : goal.returns
unfolding clocks_text
returns c =
    let out : List ℕ = c.args.out.now.items in
    let ours : List ℕ = clock_text (codes "milliseconds") c.args.said.now.ours in
    let theirs : List ℕ = clock_text (codes "seconds") c.args.said.now.theirs in
    let one : c.write_clock.new.out.items ≡ out ++ ours = c.in_ok-write_clock.ensures in
    let all : c.write_clock.new.out.items ++ theirs ≡ out ++ (ours ++ theirs) = ap (λ (xs : List ℕ). xs ++ theirs) one ∙ append_assoc out ours theirs in
    subst (λ (xs : List ℕ). OnOk c.write_clock-2.result (c.write_clock-2.new.out.items ≡ xs)) all c.write_clock-2.ensures
