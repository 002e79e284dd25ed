use Rattle.std.proofs.Common.{◌+◌, List, refl, subst, sym, take}
use Rattle.otp_commands.specs.Judged.{AreJudged}
use Rattle.otp_commands.specs.declared.judging.Judged.{Judged}
use Rattle.otp_commands.proofs.Judged.{judged_next}
use Rattle.otp_commands.proofs.judging.judge_each.Goals as goal

pub loop-script-preserved : goal.loop-script-preserved
loop-script-preserved g c =
    let holds = (g.F.TreeFiles.known c.args.files.now).holds in
    subst (λ (all : List Judged). AreJudged holds c.args.tree.now (take (c.loop-script.script-index + 1) c.args.scripts.now) all) (sym (c.in-Ok-push.ensures {u = tt}).items)
    (judged_next holds c.args.tree.now c.args.scripts.now c.loop-script.all.items c.loop-script.script-index _ _ c.loop-script-test.true c.loop-script.invariant refl
    (c.in-Ok.ensures {u = tt}).judged)
