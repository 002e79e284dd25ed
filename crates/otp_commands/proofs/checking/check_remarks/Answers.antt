use Rattle.std.proofs.Common.{List, rules, subst, sym}
use Rattle.otp_commands.specs.Found.{Finds}
use Rattle.otp_commands.specs.declared.lint.found.LintFinding.{LintFinding}
use Rattle.otp_commands.proofs.Written.{lawful_plain, remarked_on, some_of}
use Rattle.otp_commands.proofs.checking.check_remarks.Goals as goal

pub returns-in-empty : goal.returns-in-empty
returns-in-empty g c =
    lawful_plain c.args.checking c.args.name.now c.args.file.now c.in-Ok.remarks.items c.write_lawful-in-empty.result (g.W.Output.seen c.args.output.now) (g.W.Output.seen c.write_lawful-in-empty.new.output)
    c.requires.lawful c.in-Ok.ensures.any (search rules) (search rules) c.write_lawful-in-empty.ensures

pub returns : goal.returns
returns g c =
    remarked_on c.args.checking c.args.name.now c.args.file.now c.as_slice.result.now c.write_remarks.result (g.W.Output.seen c.args.output.now) (g.W.Output.seen c.write_remarks.new.output)
    c.requires.lawful (search rules)
    (subst (λ (found : List LintFinding). Finds found c.args.file.now) (sym c.as_slice.ensures.value) c.in-Ok.ensures.texts)
    (some_of c.as_slice.result.now (search rules)) c.write_remarks.ensures
