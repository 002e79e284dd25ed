use Prim.Native.Nat.{suc}
use Rattle.std.proofs.Common.{◌≡◌, ◌+◌, ◌++◌, List, [], ◌∷◌, ◌∙◌, ap, append-nil, arith, ℕ, get_or, subst, sym, take}
use Rattle.std.proofs.Math.Seq.{take-suc}
use Rattle.std.proofs.lemmas.List.{take_all}
use Rattle.std.specs.List.{flat_map}
use Rattle.std.specs.Prelude.{◌≤◌, Option, Some, length, slice_get}
use Rattle.otp_file.specs.Trees.{Table, Tree, tables_of}
use Rattle.otp_spec.specs.declared.child.ChildSpec.{ChildSpec}
use Rattle.otp_trial.specs.Paths.{path_under, paths_under}
use Rattle.otp_trial.specs.Played.{AddsTables, Seated, paths_in}
use Rattle.otp_trial.proofs.Pathings.{AddedUnder, added_all, added_more, none_yet, root_table}
use Rattle.otp_trial.proofs.Plantings.{adds-then, is_behind, tables_more}
use Rattle.otp_trial.proofs.planting.Plants.+add_tree.Goals as goal

pub loop-number-preserved : goal.loop-number-preserved
loop-number-preserved t c =
    let trees : List Tree = c.trees-trees.result.now in
    let tree : Tree = c.index-trees-number.result in
    let number : ℕ = c.loop-number.number in
    let next : number + 1 ≡ suc number = omega arith in
    let is : get_or trees number tree ≡ tree = sym c.index-trees-number.is in
    let more : take (number + 1) trees ≡ take number trees ++ tree ∷ [] =
    ap (λ (n : ℕ). take n trees) next ∙ take-suc trees number tree c.loop-number-test.true ∙ ap (λ (x : Tree). take number trees ++ x ∷ []) is in
    let tables : flat_map tables_of (take number trees) ++ tables_of tree ≡ flat_map tables_of (take (number + 1) trees) =
    sym (ap (λ (xs : List Tree). flat_map tables_of xs) more ∙ tables_more (take number trees) tree) in
    let before : List Seated = c.add.new.self.seats.items in
    let mid : List Seated = c.loop-number.self.seats.items in
    let after : List Seated = c.add_tree.new.self.seats.items in
    let path : List ℕ = c.args.path.now in
    let table : Table = root_table c.args.tree.now in
    let at = c.in-Some-spec_of.ensures in
    let nested : slice_get table.nested number ≡ Some at.0 = ap (λ (xs : List ℕ). slice_get xs number) (sym c.nested.ensures) ∙ at.1 in
    let spec : slice_get table.specs at.0 ≡ Some c.in-Some-spec_of.spec =
    ap (λ (xs : List ChildSpec). slice_get xs at.0) (sym c.supervisor-in-loop-number.ensures.specs) ∙ at.2 in
    let below : c.as_slice.result.now ≡ path_under path (slice_get table.specs at.0) =
    c.as_slice.ensures.value ∙ (c.in_ok-below.ensures ∙ ap (λ (o : Option ChildSpec). path_under path o) (sym spec)) in (
      subst (λ (ts : List Table). AddsTables c.args.tells ts before after) tables
          (adds-then c.args.tells c.as_slice.result.now tree (flat_map tables_of (take number trees)) before mid after c.loop-number.invariant.0 c.in_ok-add_tree.ensures.tree),
      subst (λ (ts : List Table). AddedUnder path (number + 1) table ts (paths_in before) (paths_in after)) tables
          (added_more path number table (flat_map tables_of (take number trees)) tree (paths_in before) (paths_in mid) (paths_in after) c.as_slice.result.now at.0
          nested below c.loop-number.invariant.1 c.in_ok-add_tree.ensures.paths),
    )

pub loop-number-init : goal.loop-number-init
loop-number-init t c = (
  ([], sym (append-nil c.add.new.self.seats.items), tt),
  ([], sym (append-nil (paths_in c.add.new.self.seats.items)), none_yet (paths_under c.args.path.now (root_table c.args.tree.now))),
)

pub returns-clause-paths : goal.returns-clause-paths
returns-clause-paths t c =
    let trees : List Tree = c.trees-trees.result.now in
    let number : ℕ = c.loop-number.number in
    let path : List ℕ = c.args.path.now in
    let old : List Seated = c.args.self.now.seats.items in
    let begun : List Seated = c.add.new.self.seats.items in
    let behind : paths_in begun ≡ paths_in old ++ path ∷ [] =
    is_behind c.args.tells path c.supervisor.result.now.flags c.supervisor.result.now.specs old begun c.in_ok-seat.seat c.in_ok-seat.ensures c.in_ok-place.ensures in
    let all : length trees ≤ number = c.loop-number-test.false in
    let children : length c.nested-children.result.now ≡ length c.args.tree.now.nested = ap (λ (xs : List ℕ). length xs) c.nested-children.ensures in
    let nested : length c.args.tree.now.nested ≤ number = omega (arith, all, children, c.if-trees-children.false) in
    let tables : flat_map tables_of (take number trees) ≡ c.args.tree.now.below =
    ap (λ (ts : List Tree). flat_map tables_of ts) (take_all number trees all) ∙ c.trees-trees.ensures in
    added_all path number c.args.tree.now (paths_in old) (paths_in begun) (paths_in c.loop-number.self.seats.items) (flat_map tables_of (take number trees))
    behind nested tables c.loop-number.invariant.1
