-- How the program ends by what came of a run of `sim` (own).
use Rattle.otp_sim.specs.declared.engine.SimEnd.{SimEnd}
use Rattle.otp_sim.specs.declared.engine.SimEnd.TheVariants as sim
use Rattle.otp_exit.specs.declared.ending.ProgramEnd.{ProgramEnd}
use Rattle.otp_exit.specs.declared.ending.ProgramEnd.TheVariants.{Done, LineRefused, HistoryFull, InputFailed, OutputFailed, OutOfMemory}

-- how the program ends that ran `sim`
abbrev pub ending_of : SimEnd → ProgramEnd
ending_of sim.Done = Done
ending_of (sim.LineRefused line why) = LineRefused line why
ending_of sim.HistoryFull = HistoryFull
ending_of sim.InputFailed = InputFailed
ending_of sim.OutputFailed = OutputFailed
ending_of sim.Memory = OutOfMemory
