-- What a world stands for.
use Rattle.otp_trial.specs.World.{Around}
use Rattle.otp_trial.specs.declared.processes.world.World.TheInside.{Inside}

abbrev pub around_of : Inside → Around
around_of w = record { links = w.links.items; starts = w.starts.items; inits = w.inits.items; hanging = w.hanging.items; late = w.late.items; deeds = w.deeds.items; line = w.line }
