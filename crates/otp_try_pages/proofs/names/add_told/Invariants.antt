use Rattle.std.proofs.Common.{◌≡◌, ◌++◌, drop}
use Rattle.std.specs.List.{flat_map}
use Rattle.otp_try.specs.declared.account.account.Played.{Played}
use Rattle.otp_try_pages.proofs.names.add_told.Given as goal

abbrev pub invariant-loop-one : goal.invariant-loop-one
invariant-loop-one l =
    l.told.items ++ flat_map (λ (one : Played). one.told.items) (drop l.one-index l.lines)
    ≡ l.fn.told.items ++ flat_map (λ (one : Played). one.told.items) l.lines
