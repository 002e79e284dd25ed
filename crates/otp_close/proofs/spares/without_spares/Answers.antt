use Rattle.std.proofs.Common.{◌≡◌, ◌≤◌, length, subst}
use Rattle.std.specs.Prelude.{min}
use Rattle.otp_close.specs.Spares.{AreUnusedFrom}
use Rattle.otp_close.proofs.spares.without_spares.Goals as goal

pub returns-clause-tables : goal.returns-clause-tables
returns-clause-tables g c =
    let tables = c.args.report.tables.items in
    let value = c.as_slice.ensures.value in
    let used = c.count_used-count.ensures in
    record {
      count = c.count_used-count.result;
      are = c.truncate.ensures.items;
      few = subst (λ l. c.count_used-count.result ≤ length l) value used.few;
      many = subst (λ l. min c.args.known (length l) ≤ c.count_used-count.result) value used.many;
      unused = subst (λ l. AreUnusedFrom c.count_used-count.result l) value used.unused;
    }
