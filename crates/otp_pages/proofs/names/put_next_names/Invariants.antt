use Rattle.std.proofs.Common.{◌≡◌, ◌++◌, drop}
use Rattle.std.specs.List.{flat_map}
use Rattle.otp_pages.specs.Names.{next_name}
use Rattle.otp_pages.proofs.names.put_next_names.Given as goal

abbrev pub invariant-loop-name : goal.invariant-loop-name
invariant-loop-name l =
    l.out.items ++ flat_map (next_name l.path) (drop l.name-index l.names) ≡ l.fn.out.items ++ flat_map (next_name l.path) l.names
