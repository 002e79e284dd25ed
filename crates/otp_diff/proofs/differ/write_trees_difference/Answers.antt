use Rattle.std.proofs.Common.{List, true, subst, sym}
use Rattle.otp_costs.specs.Rows.{AreRows}
use Rattle.otp_costs.specs.declared.alike.Grain.TheVariants.{Alike}
use Rattle.otp_costs.specs.declared.pick.Pick.TheVariants.{All}
use Rattle.otp_costs.specs.declared.rows.Row.{Row}
use Rattle.otp_trial.specs.Played.{IsPlanted, Seated}
use Rattle.otp_diff.proofs.differ.write_trees_difference.Goals as goal

pub returns-in-Ok-told : goal.returns-in-Ok-told
returns-in-Ok-told c =
    record {
      seats = c.as_slice.result.now;
      others = c.as_slice-2.result.now;
      planted = subst (λ (seats : List Seated). IsPlanted true c.args.old.now seats) (sym c.as_slice.ensures.value) c.in_ok-seats.ensures;
      planted_too = subst (λ (seats : List Seated). IsPlanted true c.args.new.now seats) (sym c.as_slice-2.ensures.value) c.in-Ok.ensures;
      rows = c.as_slice-3.result.now;
      other_rows = c.as_slice-4.result.now;
      are = subst (λ (rows : List Row). AreRows Alike All c.args.old.now rows) (sym c.as_slice-3.ensures.value) c.in-Ok-find_rows.ensures;
      are_too = subst (λ (rows : List Row). AreRows Alike All c.args.new.now rows) (sym c.as_slice-4.ensures.value) c.in-Ok-find_rows-2.ensures;
      told = c.in-Ok-told.ensures;
    }
