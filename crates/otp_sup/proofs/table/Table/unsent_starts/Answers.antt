use Rattle.std.proofs.Common.{arith}
use Rattle.otp_sup.proofs.Unsent.{few_to_start}
use Rattle.otp_sup.proofs.table.Table.unsent_starts.Goals as goal

pub returns-clause-few : goal.returns-clause-few
returns-clause-few g c =
    let few = few_to_start _ _ c.self.invariant.bodies.one_start in
    let count = c.unsent_starts.ensures in
    omega arith
