use Rattle.std.proofs.Common.{◌≡◌, drop}
use Rattle.otp_try_pages.specs.Names.{names_from}
use Rattle.otp_try_pages.proofs.names.add_names.Given as goal

abbrev pub invariant-loop-byte : goal.invariant-loop-byte
invariant-loop-byte l = names_from l.line.items l.names (drop l.byte-index l.told) ≡ names_from l.fn.line.items l.fn.names l.told
