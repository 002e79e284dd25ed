-- The stops of one tree more.
use Prim.Native.Nat.{suc}
use Rattle.std.specs.Prelude.{◌≡◌, ℕ, Bool, List, [], ◌∷◌, ◌++◌, slice_get}
use Rattle.std.specs.List.{flat_map}
use Rattle.std.proofs.Common.{ap, ◌∙◌, subst, sym}
use Rattle.otp_file.specs.Trees.{Tree, tables_of}
use Rattle.otp_spec.specs.Flags.{is_simple}
use Rattle.otp_spec.specs.declared.child.ChildSpec.{ChildSpec}
use Rattle.otp_shutdown.specs.Stops.{AreStopsWithin, AreSubs, path_in, stops_from}
use Rattle.otp_shutdown.specs.declared.stop.Stop.{Stop}

pub subs_more : (Are : List ℕ → Tree → List Stop → Type 0) (path : List ℕ) (specs : List ChildSpec) (places : List ℕ) (trees : List Tree) (each : List (List Stop))
    (place : ℕ) (tree : Tree) (stops : List Stop) → AreSubs Are path specs places trees each → Are (path_in path (slice_get specs place)) tree stops
    → AreSubs Are path specs (places ++ place ∷ []) (trees ++ tree ∷ []) (each ++ stops ∷ [])
subs_more Are path specs [] [] [] place tree stops are is = (is, tt)
subs_more Are path specs [] [] (e ∷ es) place tree stops are is = absurd are
subs_more Are path specs [] (t ∷ ts) each place tree stops are is = absurd are
subs_more Are path specs (p ∷ ps) [] each place tree stops are is = absurd are
subs_more Are path specs (p ∷ ps) (t ∷ ts) [] place tree stops are is = absurd are
subs_more Are path specs (p ∷ ps) (t ∷ ts) (e ∷ es) place tree stops (here, rest) is = (here, subs_more Are path specs ps ts es place tree stops rest is)

-- the stops of a tree, from those of the trees below it
pub all_stops : (levels left : ℕ) (simple : Bool) (path : List ℕ) (tree : Tree) (specs : List ChildSpec) (nested : List ℕ) (trees : List Tree)
    (each : List (List Stop)) (stops : List Stop)
    → levels ≡ suc left → simple ≡ is_simple tree.flags.strategy → specs ≡ tree.specs → nested ≡ tree.nested → flat_map tables_of trees ≡ tree.below
    → AreSubs (AreStopsWithin left) path specs nested trees each → stops ≡ stops_from simple path nested each 0 specs
    → AreStopsWithin levels path tree stops
all_stops levels left simple path tree specs nested trees each stops is simple_is specs_is nested_is below subs are =
    let own : AreSubs (AreStopsWithin left) path tree.specs nested trees each =
    subst (λ (ss : List ChildSpec). AreSubs (AreStopsWithin left) path ss nested trees each) specs_is subs in
    let whole : AreSubs (AreStopsWithin left) path tree.specs tree.nested trees each =
    subst (λ (ns : List ℕ). AreSubs (AreStopsWithin left) path tree.specs ns trees each) nested_is own in
    let all : stops ≡ stops_from (is_simple tree.flags.strategy) path tree.nested each 0 tree.specs =
    are ∙ ap (λ (b : Bool). stops_from b path nested each 0 specs) simple_is
    ∙ ap (λ (ns : List ℕ). stops_from (is_simple tree.flags.strategy) path ns each 0 specs) nested_is
    ∙ ap (λ (ss : List ChildSpec). stops_from (is_simple tree.flags.strategy) path tree.nested each 0 ss) specs_is in
    subst (λ (n : ℕ). AreStopsWithin n path tree stops) (sym is) (trees, each, below, whole, all)
