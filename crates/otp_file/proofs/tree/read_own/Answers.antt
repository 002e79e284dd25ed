use Rattle.std.proofs.Common.{◌≡◌, Err, ap, sym, ◌∙◌}
use Rattle.otp_file.specs.declared.fault.TableFault.{TableFault}
use Rattle.otp_file.specs.declared.fault.TreeFault.TheVariants.{NotToml}
use Rattle.otp_file.proofs.TreeLemmas.{supervisor_of-toml}
use Rattle.otp_file.proofs.tree.read_own.Goals as goal
use Rattle.toml.specs.View.{table_view}

pub returns-in-Err-clause-toml : goal.returns-in-Err-clause-toml
returns-in-Err-clause-toml c = λ same.
    let is : c.in-Err.fault ≡ NotToml = ap (λ (why : TableFault). why.fault) (sym c.at-in-Err.ensures) ∙ same in
    supervisor_of-toml (table_view c.args.table.now) (c.in-Err.ensures.fault (λ memory. cc) ∙ ap Err is)
