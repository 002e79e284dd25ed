use Rattle.std.proofs.Common.{◌≡◌, ◌++◌, drop}
use Rattle.otp_file.proofs.WalkLemmas.{places_from}
use Rattle.otp_file.proofs.supervisor.nested_of.Given as goal

-- the places so far, and those from here on
abbrev pub invariant-loop-index : goal.invariant-loop-index
invariant-loop-index l = l.places.items ++ places_from l.index (drop l.index l.children) ≡ places_from 0 l.children
