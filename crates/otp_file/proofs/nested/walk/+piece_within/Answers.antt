use Prim.Native.Nat.{suc}
use Rattle.std.proofs.Common.{rules, ◌≡◌, ◌+◌, ◌++◌, ◌<◌, List, [], ◌∷◌, ◌∙◌, ap, arith, ℕ, get_or, length, refl, subst, sym, take}
use Rattle.std.proofs.Math.Seq.{take-suc}
use Rattle.otp_file.specs.Trees.{Tree}
use Rattle.otp_spec.specs.declared.child.ChildSpec.{ChildSpec}
use Rattle.otp_file.specs.Nested.{AreSubs, IsPiece, Written, path_below}
use Rattle.std.proofs.lemmas.List.{take_all}
use Rattle.std.specs.Prelude.{◌≤◌}
use Rattle.otp_file.proofs.Subs.{all_said, subs_more}
use Rattle.otp_file.proofs.nested.walk.+piece_within.Goals as goal

pub loop-number-preserved : goal.loop-number-preserved
loop-number-preserved g t c =
    let written : Written = g.T.TableWriter.written c.args.writer.now in
    let path : List ℕ = c.args.path.now in
    let specs : List ChildSpec = c.specs-specs.result.now in
    let trees : List Tree = c.trees-trees.result.now in
    let nested : List ℕ = c.nested-nested.result.now in
    let left : ℕ = c.in-Some.left in
    let number : ℕ = c.loop-number.number in
    let tree : Tree = c.index-trees-number.result in
    let place : ℕ = get_or nested number 0 in
    let next : number + 1 ≡ suc number = omega arith in
    let tree_is : get_or trees number tree ≡ tree = sym c.index-trees-number.is in
    let more_trees : take (number + 1) trees ≡ take number trees ++ tree ∷ [] =
    ap (λ (n : ℕ). take n trees) next ∙ take-suc trees number tree c.loop-number-test.true ∙ ap (λ (x : Tree). take number trees ++ x ∷ []) tree_is in
    let inside : number < length nested = omega arith in
    let more_places : take (number + 1) nested ≡ take number nested ++ place ∷ [] =
    ap (λ (n : ℕ). take n nested) next ∙ take-suc nested number 0 inside in
    let said : IsPiece written left (path_below path specs place) tree c.in_ok-piece.piece = search rules in
    let more : AreSubs (IsPiece written left) path specs (take number nested ++ place ∷ []) (take number trees ++ tree ∷ []) (c.loop-number.each.items ++ c.in_ok-piece.piece ∷ []) =
    subs_more (IsPiece written left) path specs (take number nested) (take number trees) c.loop-number.each.items place tree c.in_ok-piece.piece
    c.loop-number.invariant said in
    let pushed : c.push.new.self.items ≡ c.loop-number.each.items ++ c.in_ok-piece.piece ∷ [] = search rules in
    subst (λ (es : List (List ℕ)). AreSubs (IsPiece written left) path specs (take (number + 1) nested) (take (number + 1) trees) es) (sym pushed)
    (subst (λ (ts : List Tree). AreSubs (IsPiece written left) path specs (take (number + 1) nested) ts (c.loop-number.each.items ++ c.in_ok-piece.piece ∷ [])) (sym more_trees)
    (subst (λ (ps : List ℕ). AreSubs (IsPiece written left) path specs ps (take number trees ++ tree ∷ []) (c.loop-number.each.items ++ c.in_ok-piece.piece ∷ [])) (sym more_places) more))

pub returns : goal.returns
returns g t c =
    let written : Written = g.T.TableWriter.written c.args.writer.now in
    let path : List ℕ = c.args.path.now in
    let specs : List ChildSpec = c.specs-specs.result.now in
    let trees : List Tree = c.trees-trees.result.now in
    let nested : List ℕ = c.nested-nested.result.now in
    let number : ℕ = c.loop-number.number in
    let left : ℕ = c.in-Some.left in
    let all : length trees ≤ number = c.loop-number-test.false in
    let all_nested : length nested ≤ number = omega arith in
    let levels_is : c.args.levels ≡ suc left = omega arith in
    let subs : AreSubs (IsPiece written left) path specs (take number nested) (take number trees) c.loop-number.each.items = c.loop-number.invariant in
    let own : AreSubs (IsPiece written left) path specs (take number nested) trees c.loop-number.each.items =
    subst (λ (ts : List Tree). AreSubs (IsPiece written left) path specs (take number nested) ts c.loop-number.each.items) (take_all number trees all) subs in
    let whole : AreSubs (IsPiece written left) path specs nested trees c.loop-number.each.items =
    subst (λ (ns : List ℕ). AreSubs (IsPiece written left) path specs ns trees c.loop-number.each.items) (take_all number nested all_nested) own in
    let said : c.new.result ≡ written path c.args.tree.now.flags specs nested c.loop-number.each.items = search rules in
    all_said written c.args.levels left path c.args.tree.now c.args.tree.now.flags specs nested trees c.loop-number.each.items
    c.new.result levels_is refl (search rules) c.nested-nested.ensures c.trees-trees.ensures whole said
