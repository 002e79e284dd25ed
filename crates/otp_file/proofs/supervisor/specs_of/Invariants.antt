use Rattle.std.proofs.Common.{◌≡◌, ◌++◌, drop, map}
use Rattle.otp_file.proofs.ChildLemmas.{faults_from, said}
use Rattle.otp_file.proofs.supervisor.specs_of.Given as goal
use Rattle.otp_file.specs.Children.{children_faults}
use Rattle.toml.specs.View.{view}

-- no fault stands before this place, and the specifications before it are read
abbrev pub invariant-loop-index : goal.invariant-loop-index
invariant-loop-index l = record {
  faults : children_faults (map view l.values) ≡ faults_from l.values l.index;
  specs : l.specs.items ++ said (drop l.index l.values) ≡ said l.values;
}
