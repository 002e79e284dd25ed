use Rattle.std.proofs.Common.{◌≡◌, ◌∙◌, List, ℕ, ap, drop, false, sym}
use Rattle.std.proofs.lemmas.List.{take_rest}
use Rattle.otp_logs.specs.Words.{begins}
use Rattle.otp_logs.proofs.Tails.{later}
use Rattle.otp_logs.proofs.words.from_bytes.Goals as goal

pub loop-place-preserved : goal.loop-place-preserved
loop-place-preserved c =
    let not_here : begins c.args.bytes.now (drop c.loop-place.place c.args.text.now) ≡ false =
    ap (λ (rest : List ℕ). begins c.args.bytes.now rest) (sym (take_rest c.args.text.now c.loop-place.place)) ∙ sym c.begins.ensures ∙ c.if-begins.false in
    later (λ (rest : List ℕ). begins c.args.bytes.now rest) c.args.text.now c.loop-place.place c.loop-place-test.true not_here ∙ c.loop-place.invariant
