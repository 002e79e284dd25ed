use Rattle.std.proofs.Common.{◌+◌, ℕ, List, Bor, rules, subst, sym, take, arith}
use Rattle.otp_commands.proofs.Checked.{checked_all, checked_first, checked_next}
use Rattle.otp_commands.specs.Runs.{ChecksEach}
use Rattle.otp_exit.specs.declared.ending.ProgramEnd.{ProgramEnd}
use Rattle.otp_exit.specs.declared.ending.ProgramEnd.TheVariants.{Done}
use Rattle.otp_commands.proofs.program.check_all.Goals as goal

pub loop-name-preserved : goal.loop-name-preserved
loop-name-preserved g c =
    subst (λ (ending : ProgramEnd). ChecksEach c.args.checking (λ (name : Bor (List ℕ)). (g.F.TreeFiles.known c.args.files.now).holds name.now) (λ (name : Bor (List ℕ)). name.now) (take (c.loop-name.name-index + 1) c.args.names.now) Done ending
    (g.W.Output.seen c.args.output.now)
    (g.W.Output.seen c.check_named-next.new.output))
    (sym c.worse-ending.ensures)
    (checked_next c.args.checking (λ (name : Bor (List ℕ)). (g.F.TreeFiles.known c.args.files.now).holds name.now) (λ (name : Bor (List ℕ)). name.now) c.args.names.now c.loop-name.name-index _ c.loop-name.ending
    c.check_named-next.result _ _ _ c.loop-name-test.true c.loop-name.invariant (search rules) c.check_named-next.ensures)

pub returns-then-not-goes_on : goal.returns-then-not-goes_on
returns-then-not-goes_on g c =
    checked_first c.args.checking (λ (name : Bor (List ℕ)). (g.F.TreeFiles.known c.args.files.now).holds name.now) (λ (name : Bor (List ℕ)). name.now) c.args.names.now c.loop-name.name-index _ c.loop-name.ending
    c.check_named-next.result _ _ _ c.loop-name-test.true c.loop-name.invariant (search rules) c.check_named-next.ensures

pub returns : goal.returns
returns g c =
    checked_all c.args.checking (λ (name : Bor (List ℕ)). (g.F.TreeFiles.known c.args.files.now).holds name.now) (λ (name : Bor (List ℕ)). name.now) c.args.names.now c.loop-name.name-index c.loop-name.ending
    _ _ (omega arith) c.loop-name.invariant
