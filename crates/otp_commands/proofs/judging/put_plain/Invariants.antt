use Rattle.std.proofs.Common.{◌≡◌, ◌++◌, drop}
use Rattle.std.specs.List.{flat_map}
use Rattle.otp_commands.specs.Judged.{plain_byte}
use Rattle.otp_commands.proofs.judging.put_plain.Given as goal

abbrev pub invariant-loop-byte : goal.invariant-loop-byte
invariant-loop-byte l = l.out.items ++ flat_map plain_byte (drop l.byte-index l.name) ≡ l.fn.out.items ++ flat_map plain_byte l.name
