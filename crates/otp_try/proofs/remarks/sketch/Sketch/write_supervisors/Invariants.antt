use Rattle.std.proofs.Common.{◌≡◌, ◌++◌, drop}
use Rattle.otp_try.specs.Sketched.{supervisors_text}
use Rattle.otp_try.proofs.remarks.sketch.Sketch.write_supervisors.Given as goal

abbrev pub invariant-loop-place : goal.invariant-loop-place
invariant-loop-place l =
    l.out.items ++ supervisors_text l.self.is_coloured l.self.moments.items l.place (drop l.place l.seats)
    ≡ l.fn.out.items ++ supervisors_text l.self.is_coloured l.self.moments.items 0 l.seats
