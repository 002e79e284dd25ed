use Rattle.std.proofs.Common.{◌≡◌, length, Err, ap, ◌∙◌, sym, rules}
use Rattle.otp_file.proofs.TreeLemmas.{flags_stop, children_stop, count_stop, list_stop, all_read_tree}
use Rattle.std.specs.Prelude.{is_some}
use Rattle.std.specs.List.{list_any}
use Rattle.otp_file.specs.Children.{tree_of}
use Rattle.otp_file.specs.Tree.{has_trees}
use Rattle.otp_file.proofs.supervisor.supervisor_in.Goals as goal
use Rattle.toml.specs.Data.{get_member}
use Rattle.toml.specs.View.{table_view}

pub returns-in_err-flags-clause-fault : goal.returns-in_err-flags-clause-fault
returns-in_err-flags-clause-fault c =
    let failed : c.from_residual.result ≡ Err c.in_err-flags.field-0.0 = search rules in
    rw failed (λ _. flags_stop (table_view c.args.table.now) c.in_err-flags.field-0.0 (sym c.in_err-flags.ensures.answer))

pub returns-in_err-specs-clause-fault : goal.returns-in_err-specs-clause-fault
returns-in_err-specs-clause-fault c =
    let failed : c.from_residual-in_err-specs.result ≡ Err c.in_err-specs.field-0.0 = search rules in
    let found = c.value_at.ensures ∙ ap (λ key. get_member key (table_view c.args.table.now)) c.name.ensures in
    rw failed (λ kept.
    children_stop (table_view c.args.table.now) c.in_ok-flags.flags c.in_err-specs.field-0.0 (sym c.in_ok-flags.ensures.answer)
    (rw (← found) (c.in_err-specs.ensures.fault kept)))

pub returns-in_err-check_count-clause-fault : goal.returns-in_err-check_count-clause-fault
returns-in_err-check_count-clause-fault c =
    let found = c.value_at.ensures ∙ ap (λ key. get_member key (table_view c.args.table.now)) c.name.ensures in
    let counted : c.len.result ≡ length c.in_ok-specs.specs.items = search rules in
    let nested : c.has_trees.result ≡ has_trees (table_view c.args.table.now) =
    c.has_trees.ensures ∙ ap (λ children. list_any (λ child. is_some (tree_of child)) children) c.children_in.ensures in
    let failed : c.from_residual-in_err-check_count.result ≡ Err c.in_err-check_count.field-0.0 = search rules in
    rw failed (λ _.
    count_stop (table_view c.args.table.now) c.in_ok-flags.flags c.in_ok-specs.specs.items c.in_err-check_count.field-0.0
    (sym c.in_ok-flags.ensures.answer)
    (rw (← found) c.in_ok-specs.ensures.specs)
    (rw (← counted, ← nested) (sym c.in_err-check_count.ensures.answer)))

pub returns-in_err-check_specs-clause-fault : goal.returns-in_err-check_specs-clause-fault
returns-in_err-check_specs-clause-fault c =
    let found = c.value_at.ensures ∙ ap (λ key. get_member key (table_view c.args.table.now)) c.name.ensures in
    let counted : c.len.result ≡ length c.in_ok-specs.specs.items = search rules in
    let nested : c.has_trees.result ≡ has_trees (table_view c.args.table.now) =
    c.has_trees.ensures ∙ ap (λ children. list_any (λ child. is_some (tree_of child)) children) c.children_in.ensures in
    let failed : c.from_residual-in_err-check_specs.result ≡ Err c.in_err-check_specs.field-0.0 = search rules in
    rw failed (λ _.
    list_stop (table_view c.args.table.now) c.in_ok-flags.flags c.in_ok-specs.specs.items c.in_err-check_specs.field-0.0
    (sym c.in_ok-flags.ensures.answer)
    (rw (← found) c.in_ok-specs.ensures.specs)
    (rw (← counted, ← nested) (sym c.in_ok-check_count.ensures.answer))
    (rw (← c.as_slice.ensures.value) (sym c.in_err-check_specs.ensures.answer)))

pub returns-clause-supervisor : goal.returns-clause-supervisor
returns-clause-supervisor c =
    let found = c.value_at.ensures ∙ ap (λ key. get_member key (table_view c.args.table.now)) c.name.ensures in
    let counted : c.len.result ≡ length c.in_ok-specs.specs.items = search rules in
    let nested : c.has_trees.result ≡ has_trees (table_view c.args.table.now) =
    c.has_trees.ensures ∙ ap (λ children. list_any (λ child. is_some (tree_of child)) children) c.children_in.ensures in
    rw c.new.ensures
    (all_read_tree (table_view c.args.table.now) c.in_ok-flags.flags c.in_ok-specs.specs.items
    (sym c.in_ok-flags.ensures.answer)
    (rw (← found) c.in_ok-specs.ensures.specs)
    (rw (← counted, ← nested) (sym c.in_ok-check_count.ensures.answer))
    (rw (← c.as_slice.ensures.value) (sym c.in_ok-check_specs.ensures.answer)))
