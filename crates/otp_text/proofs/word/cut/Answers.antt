use Rattle.std.proofs.Common.{arith, sym}
use Rattle.std.proofs.lemmas.Grind.{common_steps}
use Rattle.otp_text.proofs.Cuts.{one_word, first_cut}
use Rattle.otp_text.proofs.word.cut.Goals as goal

pub returns-in-None : goal.returns-in-None
returns-in-None c = one_word c.args.line.now (sym c.in-None.ensures.found)

pub returns-in-Some : goal.returns-in-Some
returns-in-Some c =
    let split = first_cut c.args.line.now c.in-Some.end (sym c.in-Some.ensures.found) in
    grind (arith, common_steps)
