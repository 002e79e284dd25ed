use Rattle.std.proofs.Common.{◌≡◌, ◌++◌, ◌∙◌, List, OnOk, ap, append_assoc, codes, subst, ℕ}
use Rattle.otp_suggest.proofs.Puts.{join}
use Rattle.otp_suggest.specs.RootTold.{above_text, least_text, with_text}
use Rattle.otp_suggest.proofs.root_told.write_least.Goals as goal

pub returns : goal.returns
unfolding least_text
returns c =
    let out : List ℕ = c.args.out.now.items in
    let head : List ℕ = codes "least change: " in
    let above : List ℕ = above_text c.args.lever.now.path in
    let intensity : List ℕ = with_text c.args.lever.now.today c.args.lever.now.remedy in
    let two : c.write_above.new.out.items ≡ out ++ (head ++ above) =
    join out head above c.extend_from_slice.new.self.items c.write_above.new.out.items c.in_ok-extend_from_slice.ensures.items c.in_ok-write_above.ensures in
    let all : c.write_above.new.out.items ++ intensity ≡ out ++ (head ++ (above ++ intensity)) =
    ap (λ (xs : List ℕ). xs ++ intensity) two ∙ append_assoc out (head ++ above) intensity ∙ ap (λ (xs : List ℕ). out ++ xs) (append_assoc head above intensity) in
    subst (λ (xs : List ℕ). OnOk c.write_with.result (c.write_with.new.out.items ≡ xs)) all c.write_with.ensures
