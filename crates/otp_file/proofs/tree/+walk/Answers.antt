use Rattle.std.proofs.Common.{◌≡◌, ℕ, ◌+◌, ◌-◌, ◌<◌, List, [], ◌∷◌, ◌++◌, map, drop, length, get_or, Some, None, Ok, Err, arith, refl, sym, ap, ◌∙◌, append-nil, rules}
use Rattle.std.specs.List.{flat_map}
use Rattle.otp_file.specs.Children.{tree_of}
use Rattle.otp_file.specs.Trees.{Table, children_in, said_from, tables_from, tables_of, tables_under, trees_of}
use Rattle.otp_file.proofs.WalkLemmas.{all_said, below_stops, first_stops, own_stops, tables_counted, under, under_all, under_some, walked_none, walked_some}
use Rattle.otp_file.proofs.tree.+walk.Goals as goal
use Rattle.otp_file.proofs.tree.+walk.Goals.{read_trees-in-Some+in_ok-tree+else-is_err, read_trees-in_default}
use Rattle.toml.specs.View.{table_view, view}

pub read_table-returns-in_err-supervisor-clause-fault : goal.read_table-returns-in_err-supervisor-clause-fault
read_table-returns-in_err-supervisor-clause-fault t c =
    let failed : c.from_residual.result ≡ Err c.in_err-supervisor.field-0.0 = search rules in
    rw failed (λ kept. own_stops c.args.next.now c.args.levels (table_view c.args.table.now) c.in_err-supervisor.field-0.0 (c.in_err-supervisor.ensures.fault kept))

pub read_table-returns-in_err-trees-clause-fault : goal.read_table-returns-in_err-trees-clause-fault
read_table-returns-in_err-trees-clause-fault t c =
    let own : Table = record { flags = c.in_ok-supervisor.supervisor.flags; specs = c.in_ok-supervisor.supervisor.specs; nested = c.in_ok-supervisor.nested.items } in
    let failed : c.from_residual-in_err-trees.result ≡ Err c.in_err-trees.field-0.0 = search rules in
    rw failed (λ kept.
    below_stops c.args.next.now c.args.levels (table_view c.args.table.now) own c.in_err-trees.field-0.0
    c.in_ok-supervisor.ensures.levels c.in_ok-supervisor.ensures.own
    (rw (← c.children_in.ensures) (c.in_err-trees.ensures.fault kept)))

pub read_table-returns-clause-tree : goal.read_table-returns-clause-tree
read_table-returns-clause-tree t c =
    let own : Table = record { flags = c.in_ok-supervisor.supervisor.flags; specs = c.in_ok-supervisor.supervisor.specs; nested = c.in_ok-supervisor.nested.items } in
    all_said c.args.next.now c.args.levels (table_view c.args.table.now) own (flat_map tables_of c.in_ok-trees.trees.items)
    c.in_ok-supervisor.ensures.levels c.in_ok-supervisor.ensures.own
    (rw (← c.children_in.ensures) c.in_ok-trees.ensures.trees)

pub read_table-returns-clause-next : goal.read_table-returns-clause-next
read_table-returns-clause-next t c =
    let counted = tables_counted c.args.levels (table_view c.args.table.now) c.in_ok-supervisor.ensures.levels in
    let grown : c.read_trees.new.next ≡ (c.args.next.now + 1) + length (tables_under (c.args.levels - 1) (trees_of (children_in (table_view c.args.table.now)))) =
    rw (← c.children_in.ensures) c.in_ok-trees.ensures.next in
    omega (arith, grown, counted)

pub read_trees-returns-in_err-tree-clause-fault : goal.read_trees-returns-in_err-tree-clause-fault
read_trees-returns-in_err-tree-clause-fault t c =
    let vs = c.args.children.now in
    let i = c.loop-child.child-index in
    let v = c.child-item.result in
    let some : tree_of (view (get_or vs i v)) ≡ Some (table_view c.in-Some.table.now) =
    rw (← c.child-item.is) (sym c.tree_of.ensures ∙ rw c.in-Some.is) in
    let failed : c.from_residual.result ≡ Err c.in_err-tree.field-0.0 = search rules in
    rw failed (λ kept.
    c.loop-child.invariant.stops c.in_err-tree.field-0.0
    (ap (said_from c.loop-child.next) (under_some c.args.levels vs i v (table_view c.in-Some.table.now) c.loop-child-test.true some)
    ∙ first_stops c.loop-child.next (tables_from c.args.levels (table_view c.in-Some.table.now)) (under c.args.levels (drop (i + 1) vs)) c.in_err-tree.field-0.0 (c.in_err-tree.ensures.fault kept)))

pub read_trees-loop-child-preserved : goal.read_trees-loop-child-preserved
read_trees-loop-child-preserved t c =
    let vs = c.args.children.now in
    let i = c.loop-child.child-index in
    let v = c.child-item.result in
    elim c.match-tree_of.branch [
      | read_trees-in-Some+in_ok-tree+else-is_err w ↦
          let some : tree_of (view (get_or vs i v)) ≡ Some (table_view w.in-Some.table.now) =
          rw (← c.child-item.is) (sym c.tree_of.ensures ∙ rw w.in-Some.is) in
          let pushed : w.push.new.self.items ≡ c.loop-child.trees.items ++ w.in_ok-tree.tree ∷ [] = search rules in
          rw (w.next-is, w.trees-is, pushed)
          (walked_some c.args.levels vs c.args.next.now c.loop-child.next w.read_table.new.next i v (table_view w.in-Some.table.now)
          c.loop-child.trees.items w.in_ok-tree.tree c.loop-child-test.true some w.in_ok-tree.ensures.tree w.in_ok-tree.ensures.next c.loop-child.invariant)
      | read_trees-in_default w ↦
          let none : tree_of (view (get_or vs i v)) ≡ None =
          rw (← c.child-item.is) (sym c.tree_of.ensures ∙ rw w.in_default.is) in
          rw (w.next-is, w.trees-is)
          (walked_none c.args.levels vs c.args.next.now c.loop-child.next i v c.loop-child.trees.items c.loop-child-test.true none c.loop-child.invariant)
    ]

pub read_trees-returns-clause-trees : goal.read_trees-returns-clause-trees
read_trees-returns-clause-trees t c =
    c.loop-child.invariant.said [] (ap (said_from c.loop-child.next) (under_all c.args.levels c.args.children.now c.loop-child.child-index c.loop-child-test.false))
    ∙ ap Ok (append-nil (flat_map tables_of c.loop-child.trees.items))
