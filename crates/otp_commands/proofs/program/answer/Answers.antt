use Rattle.std.proofs.Common.{subst, sym}
use Rattle.otp_commands.specs.Words.{EndsFor}
use Rattle.otp_cli.specs.declared.words.WordsFault.{WordsFault}
use Rattle.otp_commands.proofs.program.answer.Goals as goal

pub returns-in-Clap-clause-ending : goal.returns-in-Clap-clause-ending
returns-in-Clap-clause-ending g c = subst (λ (fault : WordsFault). EndsFor fault c.show.result) (sym c.in-Clap.is) c.show.ensures.ending
