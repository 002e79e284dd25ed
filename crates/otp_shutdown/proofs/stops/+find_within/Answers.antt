use Prim.Native.Nat.{suc}
use Rattle.std.proofs.Common.{rules, ◌≡◌, ◌+◌, ◌++◌, ◌<◌, List, [], ◌∷◌, ◌∙◌, ap, ap₂, arith, ℕ, get_or, length, refl, subst, sym, take, slice_get}
use Rattle.std.proofs.Math.Seq.{take-suc}
use Rattle.otp_file.specs.Trees.{Tree}
use Rattle.otp_spec.specs.declared.child.ChildSpec.{ChildSpec}
use Rattle.otp_shutdown.specs.Stops.{AreStopsWithin, AreSubs, path_in, stops_from}
use Rattle.otp_shutdown.specs.declared.stop.Stop.{Stop}
use Rattle.std.proofs.lemmas.List.{take_all}
use Rattle.std.specs.Prelude.{◌≤◌, Bool}
use Rattle.otp_spec.specs.Flags.{is_simple}
use Rattle.otp_shutdown.proofs.Subs.{all_stops, subs_more}
use Rattle.otp_shutdown.proofs.stops.+find_within.Goals as goal

pub loop-number-preserved : goal.loop-number-preserved
loop-number-preserved t c =
    let trees : List Tree = c.trees-trees.result.now in
    let nested : List ℕ = c.nested-nested.result.now in
    let specs : List ChildSpec = c.specs-specs.result.now in
    let left : ℕ = c.in-Some.left in
    let number : ℕ = c.loop-number.number in
    let tree : Tree = c.index-trees-number.result in
    let place : ℕ = get_or nested number 0 in
    let next : number + 1 ≡ suc number = omega arith in
    let tree_is : get_or trees number tree ≡ tree = sym c.index-trees-number.is in
    let more_trees : take (number + 1) trees ≡ take number trees ++ tree ∷ [] =
    ap (λ (n : ℕ). take n trees) next ∙ take-suc trees number tree c.loop-number-test.true ∙ ap (λ (x : Tree). take number trees ++ x ∷ []) tree_is in
    let inside : number < length nested = omega arith in
    let more_places : take (number + 1) nested ≡ take number nested ++ place ∷ [] =
    ap (λ (n : ℕ). take n nested) next ∙ take-suc nested number 0 inside in
    let below_is : c.as_slice.result.now ≡ path_in c.args.path.now (slice_get specs place) = search rules in
    let stops_are : AreStopsWithin left (path_in c.args.path.now (slice_get specs place)) tree c.in_ok-stops.stops =
    subst (λ (p : List ℕ). AreStopsWithin left p tree c.in_ok-stops.stops) below_is c.in_ok-stops.ensures in
    let more : AreSubs (AreStopsWithin left) c.args.path.now specs (take number nested ++ place ∷ []) (take number trees ++ tree ∷ []) (c.loop-number.each.items ++ c.in_ok-stops.stops ∷ []) =
    subs_more (AreStopsWithin left) c.args.path.now specs (take number nested) (take number trees) c.loop-number.each.items place tree c.in_ok-stops.stops
    c.loop-number.invariant stops_are in
    let pushed : c.push.new.self.items ≡ c.loop-number.each.items ++ c.in_ok-stops.stops ∷ [] = search rules in
    subst (λ (es : List (List Stop)). AreSubs (AreStopsWithin left) c.args.path.now specs (take (number + 1) nested) (take (number + 1) trees) es) (sym pushed)
    (subst (λ (ts : List Tree). AreSubs (AreStopsWithin left) c.args.path.now specs (take (number + 1) nested) ts (c.loop-number.each.items ++ c.in_ok-stops.stops ∷ [])) (sym more_trees)
    (subst (λ (ps : List ℕ). AreSubs (AreStopsWithin left) c.args.path.now specs ps (take number trees ++ tree ∷ []) (c.loop-number.each.items ++ c.in_ok-stops.stops ∷ [])) (sym more_places) more))

pub returns : goal.returns
returns t c =
    let trees : List Tree = c.trees-trees.result.now in
    let nested : List ℕ = c.nested-nested.result.now in
    let specs : List ChildSpec = c.specs-specs.result.now in
    let number : ℕ = c.loop-number.number in
    let left : ℕ = c.in-Some.left in
    let all : length trees ≤ number = c.loop-number-test.false in
    let all_nested : length nested ≤ number = omega arith in
    let levels_is : c.args.levels ≡ suc left = omega arith in
    let subs : AreSubs (AreStopsWithin left) c.args.path.now specs (take number nested) (take number trees) c.loop-number.each.items = c.loop-number.invariant in
    let own : AreSubs (AreStopsWithin left) c.args.path.now specs (take number nested) trees c.loop-number.each.items =
    subst (λ (ts : List Tree). AreSubs (AreStopsWithin left) c.args.path.now specs (take number nested) ts c.loop-number.each.items) (take_all number trees all) subs in
    let whole : AreSubs (AreStopsWithin left) c.args.path.now specs nested trees c.loop-number.each.items =
    subst (λ (ns : List ℕ). AreSubs (AreStopsWithin left) c.args.path.now specs ns trees c.loop-number.each.items) (take_all number nested all_nested) own in
    let specs_are : specs ≡ c.args.tree.now.specs = search rules in
    let are : c.put_stops.new.out ≡ stops_from (is_simple c.args.tree.now.flags.strategy) c.args.path.now nested c.loop-number.each.items 0 specs = search rules in
    all_stops c.args.levels left (is_simple c.args.tree.now.flags.strategy) c.args.path.now c.args.tree.now specs nested trees c.loop-number.each.items
    c.put_stops.new.out levels_is refl specs_are c.nested-nested.ensures c.trees-trees.ensures whole are
