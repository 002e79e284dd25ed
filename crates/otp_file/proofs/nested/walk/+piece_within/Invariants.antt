use Rattle.std.proofs.Common.{take}
use Rattle.otp_file.specs.Nested.{AreSubs, IsPiece}
use Rattle.otp_file.proofs.nested.walk.+piece_within.Given as goal

abbrev pub decreases-piece_within : goal.decreases-piece_within
decreases-piece_within g l = l.levels

abbrev pub invariant-loop-number : goal.invariant-loop-number
invariant-loop-number g l =
    AreSubs (IsPiece (g.T.TableWriter.written l.writer) l.left) l.path l.specs (take l.number l.nested) (take l.number l.trees) l.each.items
