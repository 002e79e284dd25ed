use Rattle.std.proofs.Common.{◌≡◌, List, ℕ, OnOk, ◌++◌, codes, subst, sym}
use Rattle.std.specs.Io.KnownBytes.{Appends}
use Rattle.otp_exit.specs.Statuses.{sentence_of}
use Rattle.otp_exit.specs.declared.ending.ProgramEnd.{ProgramEnd}
use Rattle.otp_exit.proofs.ending.write_sentence.Goals as goal

pub returns-in-UnknownStart-clause-ok : goal.returns-in-UnknownStart-clause-ok
returns-in-UnknownStart-clause-ok g c =
    subst (λ (ending : ProgramEnd). OnOk c.write_three.result (Appends (g.E.Output.seen c.args.errors.now).bytes (g.E.Output.seen c.write_three.new.errors).bytes (sentence_of ending)))
    (sym c.in-UnknownStart.is)
    (subst (λ (name : List ℕ). OnOk c.write_three.result (Appends (g.E.Output.seen c.args.errors.now).bytes (g.E.Output.seen c.write_three.new.errors).bytes (codes "unknown start " ++ name ++ codes "\n")))
    c.as_bytes.ensures c.write_three.ensures.ok)

pub returns-in-HistoryFull-clause-ok : goal.returns-in-HistoryFull-clause-ok
returns-in-HistoryFull-clause-ok g c =
    subst (λ (ending : ProgramEnd). OnOk c.write_all-in-HistoryFull.result (Appends (g.E.Output.seen c.args.errors.now).bytes (g.E.Output.seen c.write_all-in-HistoryFull.new.output).bytes (sentence_of ending)))
    (sym c.in-HistoryFull.is) c.write_all-in-HistoryFull.ensures.ok

pub returns-in-InputFailed-clause-ok : goal.returns-in-InputFailed-clause-ok
returns-in-InputFailed-clause-ok g c =
    subst (λ (ending : ProgramEnd). OnOk c.write_all-in-InputFailed.result (Appends (g.E.Output.seen c.args.errors.now).bytes (g.E.Output.seen c.write_all-in-InputFailed.new.output).bytes (sentence_of ending)))
    (sym c.in-InputFailed.is) c.write_all-in-InputFailed.ensures.ok
