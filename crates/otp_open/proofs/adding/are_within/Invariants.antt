use Rattle.std.proofs.Common.{take}
use Rattle.std.specs.List.{AllPass}
use Rattle.std.specs.Prelude.{All}
use Rattle.otp_draft.specs.Plans.{IsNear}
use Rattle.otp_open.specs.Adds.{is_within}
use Rattle.otp_open.proofs.adding.are_within.Given as goal

abbrev pub invariant-loop-place : goal.invariant-loop-place
invariant-loop-place g l =
    record {
      near : All IsNear (take l.place l.bodies);
      within : AllPass (is_within l.count) (take l.place l.bodies);
    }
