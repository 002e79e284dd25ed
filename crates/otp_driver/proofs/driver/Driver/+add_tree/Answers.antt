use Prim.Native.Nat.{suc}
use Rattle.std.proofs.Common.{◌≡◌, ◌+◌, ◌++◌, List, [], ◌∷◌, ◌∙◌, ap, append-nil, arith, ℕ, get_or, refl, subst, sym, take}
use Rattle.std.proofs.Math.Seq.{take-suc}
use Rattle.std.specs.List.{flat_map}
use Rattle.otp_file.specs.Trees.{Table, Tree, tables_of}
use Rattle.otp_driver.specs.Opened.{AddsTables, links_under}
use Rattle.otp_driver.specs.Driven.{Driven}
use Rattle.otp_driver.specs.Links.{first_link}
use Rattle.otp_driver.specs.declared.driven.link.Link.{Link}
use Rattle.otp_driver.proofs.Linkings.{AddedUnder, added_all, added_more, none_yet, root_table}
use Rattle.otp_spec.specs.declared.child.ChildSpec.{ChildSpec}
use Rattle.std.proofs.lemmas.List.{length-append, take_all}
use Rattle.std.specs.Prelude.{◌≤◌, Option, Some, length, slice_get}
use Rattle.otp_driver.proofs.Plantings.{adds_more, tables_more}
use Rattle.otp_driver.proofs.driver.Driver.+add_tree.Goals as goal

pub loop-number-preserved : goal.loop-number-preserved
loop-number-preserved t c =
    let trees : List Tree = c.trees-trees.result.now in
    let tree : Tree = c.index-trees-number.result in
    let number : ℕ = c.loop-number.number in
    let next : number + 1 ≡ suc number = omega arith in
    let is : get_or trees number tree ≡ tree = sym c.index-trees-number.is in
    let more : take (number + 1) trees ≡ take number trees ++ tree ∷ [] =
    ap (λ (n : ℕ). take n trees) next ∙ take-suc trees number tree c.loop-number-test.true ∙ ap (λ (x : Tree). take number trees ++ x ∷ []) is in
    let tables_added : AddsTables (flat_map tables_of (take (number + 1) trees)) c.add.new.self c.add_tree.new.self =
    subst (λ (ts : List Table). AddsTables ts c.add.new.self c.add_tree.new.self)
    (sym (ap (λ (xs : List Tree). flat_map tables_of xs) more ∙ tables_more (take number trees) tree))
    (adds_more (flat_map tables_of (take number trees)) tree c.add.new.self c.loop-number.self c.add_tree.new.self c.loop-number.invariant.0 c.in_ok-add_tree.ensures.tree) in
    let place : ℕ = c.len-place.result in
    let table : Table = root_table c.args.tree.now in
    let at = c.in-Some-spec_of.ensures in
    let nested : slice_get table.nested number ≡ Some at.0 =
    ap (λ (xs : List ℕ). slice_get xs number) (sym c.nested.ensures) ∙ at.1 in
    let spec : slice_get table.specs at.0 ≡ Some c.in-Some-spec_of.spec =
    ap (λ (xs : List ChildSpec). slice_get xs at.0) (sym c.supervisor-in-loop-number.ensures.specs) ∙ at.2 in
    let link : c.new.result ≡ first_link place (slice_get table.specs at.0) = c.new.ensures ∙ ap (λ (o : Option ChildSpec). first_link place o) (sym spec) in
    let behind : c.add.new.self.links ≡ c.args.self.now.links ++ c.args.link ∷ [] = ap (λ (d : Driven). d.links) c.in_ok-add.ensures.ok in
    let longer : length c.add.new.self.links ≡ length c.args.self.now.links + 1 =
    ap (λ (ls : List Link). length ls) behind ∙ length-append c.args.self.now.links (c.args.link ∷ []) in
    let seen : length c.self.inside.links.items ≡ length c.args.self.now.links = ap (λ (d : Driven). length d.links) c.self.view_is in
    let count : length c.add.new.self.links ≡ place + 1 = omega (arith, longer, seen, c.self.invariant.links, c.len-place.ensures) in (
      tables_added,
      subst (λ (ts : List Table). AddedUnder place (number + 1) table ts c.add.new.self.links c.add_tree.new.self.links)
          (sym (ap (λ (xs : List Tree). flat_map tables_of xs) more ∙ tables_more (take number trees) tree))
          (added_more place number table (flat_map tables_of (take number trees)) tree c.add.new.self.links c.loop-number.self.links c.add_tree.new.self.links
          c.new.result at.0 count nested link c.loop-number.invariant.1 c.in_ok-add_tree.ensures.links),
    )

pub loop-number-init : goal.loop-number-init
loop-number-init t c = (
  ([], sym (append-nil c.add.new.self.members), tt, (refl, refl, refl)),
  ([], sym (append-nil c.add.new.self.links), none_yet (c.len-place.result + 1) (links_under c.len-place.result (root_table c.args.tree.now))),
)

pub returns-clause-links : goal.returns-clause-links
returns-clause-links t c =
    let trees : List Tree = c.trees-trees.result.now in
    let number : ℕ = c.loop-number.number in
    let behind : c.add.new.self.links ≡ c.args.self.now.links ++ c.args.link ∷ [] = ap (λ (d : Driven). d.links) c.in_ok-add.ensures.ok in
    let seen : length c.self.inside.links.items ≡ length c.args.self.now.links = ap (λ (d : Driven). length d.links) c.self.view_is in
    let count : length c.args.self.now.links ≡ c.len-place.result = omega (arith, seen, c.self.invariant.links, c.len-place.ensures) in
    let all : length trees ≤ number = c.loop-number-test.false in
    let children : length c.nested-children.result.now ≡ length c.args.tree.now.nested = ap (λ (xs : List ℕ). length xs) c.nested-children.ensures in
    let nested : length c.args.tree.now.nested ≤ number = omega (arith, all, children, c.if-trees-children.false) in
    let tables : flat_map tables_of (take number trees) ≡ c.args.tree.now.below =
    ap (λ (ts : List Tree). flat_map tables_of ts) (take_all number trees all) ∙ c.trees-trees.ensures in
    added_all c.len-place.result number c.args.tree.now c.args.link c.args.self.now.links c.add.new.self.links c.loop-number.self.links
    (flat_map tables_of (take number trees)) count behind nested tables c.loop-number.invariant.1
