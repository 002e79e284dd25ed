-- What is said of one tree more.
use Prim.Native.Nat.{suc}
use Rattle.std.specs.Prelude.{◌≡◌, ℕ, List, [], ◌∷◌, ◌++◌}
use Rattle.std.specs.List.{flat_map}
use Rattle.std.proofs.Common.{ap, ◌∙◌, subst, sym}
use Rattle.otp_file.specs.Trees.{Tree, tables_of}
use Rattle.otp_spec.specs.declared.child.ChildSpec.{ChildSpec}
use Rattle.otp_spec.specs.declared.flags.SupFlags.{SupFlags}
use Rattle.otp_file.specs.Nested.{AreSubs, IsPiece, Written, path_below}

pub subs_more : (Is : List ℕ → Tree → List ℕ → Type 0) (path : List ℕ) (specs : List ChildSpec) (places : List ℕ) (trees : List Tree)
    (each : List (List ℕ)) (place : ℕ) (tree : Tree) (piece : List ℕ) → AreSubs Is path specs places trees each
    → Is (path_below path specs place) tree piece → AreSubs Is path specs (places ++ place ∷ []) (trees ++ tree ∷ []) (each ++ piece ∷ [])
subs_more Is path specs [] [] [] place tree piece are is = (is, tt)
subs_more Is path specs [] [] (e ∷ es) place tree piece are is = absurd are
subs_more Is path specs [] (t ∷ ts) each place tree piece are is = absurd are
subs_more Is path specs (p ∷ ps) [] each place tree piece are is = absurd are
subs_more Is path specs (p ∷ ps) (t ∷ ts) [] place tree piece are is = absurd are
subs_more Is path specs (p ∷ ps) (t ∷ ts) (e ∷ es) place tree piece (here, rest) is = (here, subs_more Is path specs ps ts es place tree piece rest is)

-- what is said of a tree, from what is said of the trees below it
pub all_said : (written : Written) (levels left : ℕ) (path : List ℕ) (tree : Tree) (flags : SupFlags) (specs : List ChildSpec)
    (nested : List ℕ) (trees : List Tree) (each : List (List ℕ)) (piece : List ℕ)
    → levels ≡ suc left → flags ≡ tree.flags → specs ≡ tree.specs → nested ≡ tree.nested → flat_map tables_of trees ≡ tree.below
    → AreSubs (IsPiece written left) path specs nested trees each → piece ≡ written path flags specs nested each
    → IsPiece written levels path tree piece
all_said written levels left path tree flags specs nested trees each piece is flags_are specs_are nested_are below subs said =
    let placed : AreSubs (IsPiece written left) path specs tree.nested trees each =
    subst (λ (ns : List ℕ). AreSubs (IsPiece written left) path specs ns trees each) nested_are subs in
    let own : AreSubs (IsPiece written left) path tree.specs tree.nested trees each =
    subst (λ (ss : List ChildSpec). AreSubs (IsPiece written left) path ss tree.nested trees each) specs_are placed in
    let all : piece ≡ written path tree.flags tree.specs tree.nested each =
    said ∙ ap (λ (f : SupFlags). written path f specs nested each) flags_are
    ∙ ap (λ (ss : List ChildSpec). written path tree.flags ss nested each) specs_are
    ∙ ap (λ (ns : List ℕ). written path tree.flags tree.specs ns each) nested_are in
    subst (λ (n : ℕ). IsPiece written n path tree piece) (sym is) (trees, each, below, own, all)
