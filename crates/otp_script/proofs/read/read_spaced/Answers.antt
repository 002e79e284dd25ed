use Rattle.std.proofs.Common.{arith, refl}
use Rattle.otp_script.specs.Spaced.{spaced, spaced_behind}
use Rattle.otp_script.specs.declared.spaced.TheConstants.{ROOM}
use Rattle.otp_script.proofs.Lines.{line_cut}
use Rattle.otp_script.proofs.read.read_spaced.Goals as goal

pub returns : goal.returns
unfolding spaced
returns c = rw (c.read_line.ensures.line, c.as_slice.ensures, c.of.ensures.words) (line_cut ROOM (spaced_behind 32 c.args.line.now) (omega arith))
