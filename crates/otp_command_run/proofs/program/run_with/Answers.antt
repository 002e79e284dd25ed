use Rattle.otp_exit.proofs.Told.{told_last}
use Rattle.otp_command_run.proofs.program.run_with.Goals as goal

pub returns : goal.returns
returns g c =
    let obeyed = c.obey_with-ending.ensures.obeyed in record {
      ending = c.obey_with-ending.result;
      drawn = obeyed.drawn;
      why = c.unwritten.result;
      status_is = c.tell.ensures.status;
      done = obeyed.done;
      told = told_last obeyed.drawn c.unwritten.result c.obey_with-ending.result _ _ _ c.obey_with-ending.ensures.kept c.tell.ensures.kept obeyed.first c.tell.ensures.told;
    }
