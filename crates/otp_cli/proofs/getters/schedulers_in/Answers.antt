use Rattle.std.specs.Str.Parse.{ParsesUnsigned, ExplainsUnsignedError, HasUnsignedDigitsIfOk}
use Rattle.clap.specs.Words.{found_of}
use Rattle.otp_cli.proofs.Readings.{number_read}
use Rattle.otp_cli.proofs.getters.schedulers_in.Goals as goal

pub returns : goal.returns
returns c =
    number_read _ (λ bs r. ParsesUnsigned 8 10 bs r × ExplainsUnsignedError 10 bs r × HasUnsignedDigitsIfOk bs r) 8 (found_of c.args.found.now) _
    c.get_one.result (λ text r given. given.0) c.get_one.ensures.none c.get_one.ensures.value
