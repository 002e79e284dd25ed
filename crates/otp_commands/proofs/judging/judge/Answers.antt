use Rattle.std.proofs.lemmas.Result.{IfOk-weaker}
use native.Mathlib.Omega.{arith}
use Rattle.otp_commands.proofs.Judged.{is_judged}
use Rattle.otp_commands.proofs.judging.judge.Goals as goal

pub returns-in-Ok-play_script-clause-judged : goal.returns-in-Ok-play_script-clause-judged
returns-in-Ok-play_script-clause-judged g c =
    let at_most = (c.in-Ok.ensures {u = tt}).small in
    let whole = c.in-Ok.lines.ok.0 in
    let ran = c.in-Ok-play_script.ensures {u = tt} in
    IfOk-weaker c.verdict_of_run.result _ _
    (λ judged of. is_judged _ c.args.tree.now judged c.in-Ok.lines.items c.in-Ok-play_script.account (c.in-Ok.ensures {u = tt}).holds (omega (arith, at_most, whole)) ran of)
    c.verdict_of_run.ensures.judged
