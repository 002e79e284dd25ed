use Rattle.std.proofs.Common.{◌≡◌, ◌++◌, drop}
use Rattle.std.specs.List.{flat_map}
use Rattle.otp_diff.specs.Changes.{new_text}
use Rattle.otp_diff.proofs.seat.write_all_new.Given as goal

abbrev pub invariant-loop-spec : goal.invariant-loop-spec
invariant-loop-spec l =
    l.out.items ++ flat_map (new_text l.form l.path l.olds) (drop l.spec-index l.specs) ≡ l.fn.out.items ++ flat_map (new_text l.form l.path l.olds) l.specs
