use Rattle.std.proofs.Common.{◌≡◌, ◌++◌, drop}
use Rattle.std.specs.List.{flat_map}
use Rattle.otp_pages.specs.Names.{next_path}
use Rattle.otp_pages.proofs.names.put_next_paths.Given as goal

abbrev pub invariant-loop-path : goal.invariant-loop-path
invariant-loop-path l = l.out.items ++ flat_map next_path (drop l.path-index l.paths) ≡ l.fn.out.items ++ flat_map next_path l.paths
