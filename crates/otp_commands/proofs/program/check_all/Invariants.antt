use Rattle.std.proofs.Common.{take}
use Rattle.otp_commands.specs.Runs.{ChecksEach}
use Rattle.otp_exit.specs.declared.ending.ProgramEnd.TheVariants.{Done}
use Rattle.otp_commands.proofs.program.check_all.Given as goal

abbrev pub invariant-loop-name : goal.invariant-loop-name
invariant-loop-name g l =
    ChecksEach l.checking (λ name. (g.F.TreeFiles.known l.files).holds name.now) (λ name. name.now) (take l.name-index l.names) Done l.ending
    (g.W.Output.seen l.fn.output)
    (g.W.Output.seen l.output)
