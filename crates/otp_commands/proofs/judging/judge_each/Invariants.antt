use Rattle.std.proofs.Common.{take}
use Rattle.otp_commands.specs.Judged.{AreJudged}
use Rattle.otp_commands.proofs.judging.judge_each.Given as goal

abbrev pub invariant-loop-script : goal.invariant-loop-script
invariant-loop-script g l = AreJudged (g.F.TreeFiles.known l.files).holds l.tree (take l.script-index l.scripts) l.all.items
