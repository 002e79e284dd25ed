use Prim.Native.Nat.{suc}
use Rattle.std.proofs.Common.{◌≡◌, ◌+◌, ◌∙◌, List, Some, ℕ, ap, arith, refl, slice_get, subst, sym}
use Rattle.otp_trial.specs.Played.{Seated}
use Rattle.otp_costs.specs.Falls.{FallsOften, FallsOnce, process_at}
use Rattle.otp_costs.proofs.limits.fall.crash_often.Goals as goal

pub loop-count-init : goal.loop-count-init
unfolding FallsOften
loop-count-init c = (refl, c.requires.runs)

pub loop-count-preserved : goal.loop-count-preserved
unfolding FallsOften
loop-count-preserved c =
    let next : c.loop-count.count + 1 ≡ suc c.loop-count.count = omega arith in
    let runs : process_at c.args.id.now (slice_get c.loop-count.trial.seats c.args.place) ≡ Some c.in-Some.process =
    ap (λ (s : List Seated). process_at c.args.id.now (slice_get s c.args.place)) (sym c.seats.ensures) ∙ sym c.process_at.ensures.value ∙ c.in-Some.is in
    let once : FallsOnce c.args.place c.args.id.now c.loop-count.trial c.end_number.new.self =
    record { process = c.in-Some.process; runs = runs; ends = c.in_ok-end_number.ensures.first; time = c.in_ok-end_number.ensures.time } in (
      subst (λ (n : ℕ). FallsOften c.args.place c.args.id.now n c.args.trial.now c.end_number.new.self) (sym next)
          (c.loop-count.trial, (c.loop-count.invariant.0, once)),
      sym c.has_ended.ensures ∙ c.if-has_ended.false,
    )
