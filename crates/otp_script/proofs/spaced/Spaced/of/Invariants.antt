use Rattle.std.proofs.Common.{◌≡◌, ◌≤◌, ◌++◌, drop, take}
use Rattle.otp_script.specs.Spaced.{spaced_behind}
use Rattle.otp_script.specs.declared.spaced.TheConstants.{ROOM}
use Rattle.otp_script.proofs.spaced.Spaced.of.Given as goal

abbrev pub invariant-loop-byte : goal.invariant-loop-byte
invariant-loop-byte l = record {
  words : take ROOM (spaced_behind 32 l.line) ≡ take ROOM (take l.spaced.length l.spaced.bytes ++ spaced_behind l.before (drop l.byte-index l.line));
  room : l.spaced.length ≤ ROOM;
}
