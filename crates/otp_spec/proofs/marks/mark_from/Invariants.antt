use Rattle.std.proofs.Common.{◌≡◌, ◌<◌, drop}
use Rattle.otp_spec.specs.declared.marks.TheConstants.{MARKS}
use Rattle.otp_spec.specs.Marks.{mark_from}
use Rattle.otp_spec.proofs.marks.mark_from.Given as goal

-- what is left of the bytes leads where all of them do
abbrev pub invariant-loop-byte : goal.invariant-loop-byte
invariant-loop-byte l =
    record {
      rest : mark_from l.mark (drop l.byte-index l.bytes) ≡ mark_from 0 l.fn.bytes;
      within : l.mark < MARKS;
    }
