use Rattle.std.proofs.Common.{◌≡◌, ◌++◌, ◌∙◌, List, OnOk, Bor, ap, append_assoc, codes, option_map, subst, ℕ}
use Rattle.otp_json.specs.Values.{key_text}
use Rattle.otp_suggest.specs.declared.lever.Lever.{Lever}
use Rattle.otp_objects.specs.Rooted.{best_value, least_text}
use Rattle.otp_objects.proofs.rooted.write_least.Goals as goal

pub returns : goal.returns
unfolding least_text
returns c =
    let out : List ℕ = c.args.out.now.items in
    let key : List ℕ = key_text (codes ", ") (codes "least_change") in
    let value : List ℕ = best_value (option_map (λ (l : Bor Lever). l.now) c.args.best) in
    let all : c.put_key.new.out.items ++ value ≡ out ++ (key ++ value) = ap (λ (xs : List ℕ). xs ++ value) c.in_ok-put_key.ensures ∙ append_assoc out key value in
    subst (λ (xs : List ℕ). OnOk c.write_best.result (c.write_best.new.out.items ≡ xs)) all c.write_best.ensures
