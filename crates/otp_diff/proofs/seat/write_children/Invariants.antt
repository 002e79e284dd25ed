use Rattle.std.proofs.Common.{◌≡◌, ◌++◌, drop}
use Rattle.std.specs.List.{flat_map}
use Rattle.otp_diff.specs.Changes.{child_text}
use Rattle.otp_diff.proofs.seat.write_children.Given as goal

abbrev pub invariant-loop-spec : goal.invariant-loop-spec
invariant-loop-spec l =
    l.out.items ++ flat_map (child_text l.form l.path l.others) (drop l.spec-index l.specs) ≡ l.fn.out.items ++ flat_map (child_text l.form l.path l.others) l.specs
