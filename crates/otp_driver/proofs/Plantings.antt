-- Supervisors that are put behind others.
use Rattle.std.specs.Prelude.{◌≡◌, List, [], ◌∷◌, ◌++◌, refl}
use Rattle.std.specs.List.{flat_map}
use Rattle.std.proofs.Common.{◌∙◌, ap, append_assoc, append-nil}
use Rattle.std.proofs.lemmas.Grind.{flat_map-append}
use Rattle.otp_file.specs.Trees.{Table, Tree, tables_of}
use Rattle.otp_driver.specs.Members.{Member, unopened}
use Rattle.otp_driver.specs.Driven.{Driven}
use Rattle.otp_driver.specs.Opened.{AddsTables, AddsTree, ArePlanted}

planted-append : (ts us : List Table) (xs ys : List Member) → ArePlanted ts xs → ArePlanted us ys → ArePlanted (ts ++ us) (xs ++ ys)
planted-append [] us [] ys first second = second
planted-append [] us (x ∷ xs) ys first second = absurd first
planted-append (t ∷ ts) us [] ys first second = absurd first
planted-append (t ∷ ts) us (x ∷ xs) ys (here, rest) second = (here, planted-append ts us xs ys rest second)

-- the tables of these trees, and of one more
pub tables_more : (trees : List Tree) (tree : Tree) → flat_map tables_of (trees ++ tree ∷ []) ≡ flat_map tables_of trees ++ tables_of tree
tables_more trees tree = flat_map-append tables_of trees (tree ∷ []) ∙ ap (λ (ts : List Table). flat_map tables_of trees ++ ts) (append-nil (tables_of tree))

-- a tree was added behind what was added before
pub adds_more : (tables : List Table) (tree : Tree) (a b c : Driven) → AddsTables tables a b → AddsTree tree b c → AddsTables (tables ++ tables_of tree) a c
adds_more tables tree a b c (xs, ab, first, (r, l, n)) (ys, bc, below, (r', l', n')) =
    let root : Member = unopened tree.flags tree.specs in (
      xs ++ root ∷ ys,
      bc ∙ ap (λ (s : List Member). s ++ root ∷ ys) ab ∙ append_assoc a.members xs (root ∷ ys),
      planted-append tables (tables_of tree) xs (root ∷ ys) first (refl, below),
      (r' ∙ r, l' ∙ l, n' ∙ n),
    )
