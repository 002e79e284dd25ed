use Rattle.std.proofs.Common.{◌≡◌, ◌∙◌, List, ℕ, ap, drop, false, sym}
use Rattle.std.proofs.lemmas.List.{take_rest}
use Rattle.otp_logs.specs.Objects.{is_key}
use Rattle.otp_logs.proofs.Tails.{later}
use Rattle.otp_logs.proofs.keys.from_key.Goals as goal

pub loop-place-preserved : goal.loop-place-preserved
loop-place-preserved c =
    let not_here : is_key c.args.key.now (drop c.loop-place.place c.args.line.now) ≡ false =
    ap (λ (text : List ℕ). is_key c.args.key.now text) (sym (take_rest c.args.line.now c.loop-place.place)) ∙ sym c.is_key.ensures ∙ c.if-is_key.false in
    later (λ (text : List ℕ). is_key c.args.key.now text) c.args.line.now c.loop-place.place c.loop-place-test.true not_here ∙ c.loop-place.invariant
