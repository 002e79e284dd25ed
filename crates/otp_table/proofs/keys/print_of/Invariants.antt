use Rattle.std.proofs.Common.{◌≡◌, drop}
use Rattle.otp_table.specs.declared.keys.TheConstants.{FNV_START}
use Rattle.otp_table.specs.Keys.{print_of}
use Rattle.otp_table.proofs.keys.print_of.Given as goal

-- what is left of the bytes leads where all of them do
abbrev pub invariant-loop-byte : goal.invariant-loop-byte
invariant-loop-byte l = print_of l.print (drop l.byte-index l.bytes) ≡ print_of FNV_START l.fn.bytes
