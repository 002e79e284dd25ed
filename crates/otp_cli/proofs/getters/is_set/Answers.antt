use Rattle.clap.specs.Words.{found_of}
use Rattle.otp_cli.proofs.Readings.{flag_read}
use Rattle.otp_cli.proofs.getters.is_set.Goals as goal

pub returns : goal.returns
returns c =
    flag_read (found_of c.args.found.now) c.args.id.now c.get_flag.result c.get_flag.ensures.none c.get_flag.ensures.value c.get_flag.ensures.other
