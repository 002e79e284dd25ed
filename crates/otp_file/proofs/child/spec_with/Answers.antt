use Rattle.std.proofs.Common.{◌≡◌, ℕ, Ok, Err, ap, sym, ◌∙◌, rules}
use Rattle.otp_spec.specs.declared.child.ChildSpec.{ChildSpec}
use Rattle.otp_file.specs.Children.{kind_in, plain_faults, shutdown_in, spec_with, tree_key_faults}
use Rattle.otp_file.specs.Faults.{answer_of}
use Rattle.otp_file.proofs.ChildLemmas.{answer_of-stop, answer_of-next, answer_of-empty, answer_of-value}
use Rattle.otp_file.proofs.TreeLemmas.{nothing, other_value}
use Rattle.otp_file.proofs.child.spec_with.Goals as goal
use Rattle.toml.specs.Data.{Members}
use Rattle.toml.specs.View.{table_view}

-- what a test of the tree says of the specification that was read, it says of the one that the table says
tested : (place : ℕ) (table : Members) (said spec : ChildSpec) → answer_of (plain_faults place table) said ≡ Ok spec →
    answer_of (tree_key_faults place table said.kind said.shutdown) nothing
    ≡ answer_of (tree_key_faults place table spec.kind spec.shutdown) nothing
tested place table said spec read =
    ap (λ (now : ChildSpec). answer_of (tree_key_faults place table now.kind now.shutdown) nothing)
    (answer_of-value (plain_faults place table) said spec read)

pub returns-in_err-spec : goal.returns-in_err-spec
returns-in_err-spec c =
    let t = table_view c.args.table.now in
    let said = spec_with c.args.id c.args.start t in
    let failed : c.from_residual.result ≡ Err c.in_err-spec.field-0.0 = search rules in
    failed ∙ sym (answer_of-stop (plain_faults c.args.index t) (tree_key_faults c.args.index t (kind_in t) (shutdown_in t)) said said c.in_err-spec.field-0.0 (sym c.in_err-spec.ensures))

pub returns-in_err-check_tree : goal.returns-in_err-check_tree
returns-in_err-check_tree c =
    let t = table_view c.args.table.now in
    let said = spec_with c.args.id c.args.start t in
    let tree = tree_key_faults c.args.index t (kind_in t) (shutdown_in t) in
    let failed : c.from_residual-in_err-check_tree.result ≡ Err c.in_err-check_tree.field-0.0 = search rules in
    failed
    ∙ sym (answer_of-next (plain_faults c.args.index t) tree said c.in_ok-spec.spec said (sym c.in_ok-spec.ensures)
    ∙ other_value tree nothing said c.in_err-check_tree.field-0.0 (tested c.args.index t said c.in_ok-spec.spec (sym c.in_ok-spec.ensures) ∙ sym c.in_err-check_tree.ensures))

pub returns : goal.returns
returns c =
    let t = table_view c.args.table.now in
    let said = spec_with c.args.id c.args.start t in
    let tree = tree_key_faults c.args.index t (kind_in t) (shutdown_in t) in
    sym (answer_of-next (plain_faults c.args.index t) tree said c.in_ok-spec.spec said (sym c.in_ok-spec.ensures)
    ∙ ap (λ faults. answer_of faults said) (answer_of-empty tree nothing nothing (tested c.args.index t said c.in_ok-spec.spec (sym c.in_ok-spec.ensures) ∙ sym c.in_ok-check_tree.ensures))
    ∙ ap Ok (answer_of-value (plain_faults c.args.index t) said c.in_ok-spec.spec (sym c.in_ok-spec.ensures)))
