-- The links of a tree, as they are awaited.
use Rattle.std.specs.Prelude.{◌≡◌, ◌+◌, ℕ, List, [], ◌∷◌, ◌++◌, Option, None, Some, ◌≤◌, drop, length, map, slice_get}
use Rattle.std.specs.Option.{option_map}
use Rattle.std.proofs.Common.{◌∙◌, ap, append_assoc, append-nil, arith, subst, sym}
use Rattle.std.proofs.lemmas.List.{drop_all, drop_more, length-append, length-map}
use Rattle.std.proofs.lemmas.Option.{get_or_from_slice_get, slice_get-map, slice_get_within}
use Rattle.otp_file.specs.Trees.{Table, Tree, tables_of}
use Rattle.otp_driver.specs.declared.driven.link.Link.{Link}
use Rattle.otp_driver.specs.Links.{first_link}
use Rattle.otp_driver.specs.Driven.{Driven}
use Rattle.otp_driver.specs.Opened.{AddsLinks, AddsTree, AreLinks, IsPlanted, links_from, links_of, links_under, nothing}

-- of the links that are awaited from a number on, those that are left are still awaited after these tables
abbrev pub AreLinksUnder : ℕ → List Link → List Link → List Table → List Link → Type 0
AreLinksUnder number awaited left tables links =
    (rest : List Link) (more : List Table)
    → links_from number (awaited ++ rest) (tables ++ more) ≡ links ++ links_from (number + length links) (left ++ rest) more

-- what the root of a tree says
abbrev pub root_table : Tree → Table
root_table t = record { flags = t.flags; specs = t.specs; nested = t.nested }

-- nothing was walked yet
pub none_yet : (number : ℕ) (awaited : List Link) → AreLinksUnder number awaited awaited [] []
none_yet number awaited rest more =
    let e : number ≡ number + 0 = omega arith in
    ap (λ (n : ℕ). links_from n (awaited ++ rest) more) e

-- the next link is that of the child that has the tree of this number
pub next_awaited : (number k place : ℕ) (t : Table) → slice_get t.nested k ≡ Some place
    → drop k (links_under number t) ≡ first_link number (slice_get t.specs place) ∷ drop (k + 1) (links_under number t)
next_awaited number k place t at =
    let f : ℕ → Link = λ p. first_link number (slice_get t.specs p) in
    let here : slice_get (map f t.nested) k ≡ Some (f place) = slice_get-map f t.nested k ∙ ap (λ (o : Option ℕ). option_map f o) at in
    drop_more (map f t.nested) k (f place) (slice_get_within (map f t.nested) k (f place) here)
    ∙ ap (λ (l : Link). l ∷ drop (k + 1) (map f t.nested)) (get_or_from_slice_get (map f t.nested) k (f place) (f place) here)

-- one more tree was walked
pub one_more : (number : ℕ) (awaited left : List Link) (link : Link) (later : List Link) (tables : List Table) (tree : Tree) (links more_links : List Link) (at : ℕ)
    → AreLinksUnder number awaited left tables links → left ≡ link ∷ later → at ≡ number + length links → AreLinks at link tree more_links
    → AreLinksUnder number awaited later (tables ++ tables_of tree) (links ++ more_links)
one_more number awaited left link later tables tree links more_links at before is_next at_is walk rest more =
    let us : List Table = tables_of tree in
    let n : ℕ = number + length links in
    let m : ℕ = at + length more_links in
    let all : length (links ++ more_links) ≡ length links + length more_links = length-append links more_links in
    let lengths : m ≡ number + length (links ++ more_links) = omega (arith, all, at_is) in
    ap (λ (ts : List Table). links_from number (awaited ++ rest) ts) (append_assoc tables us more)
    ∙ before rest (us ++ more)
    ∙ ap (λ (ls : List Link). links ++ links_from n (ls ++ rest) (us ++ more)) is_next
    ∙ ap (λ (a : ℕ). links ++ links_from a (link ∷ (later ++ rest)) (us ++ more)) (sym at_is)
    ∙ ap (λ (ls : List Link). links ++ ls) (walk (later ++ rest) more)
    ∙ sym (append_assoc links more_links (links_from m (later ++ rest) more))
    ∙ ap (λ (a : ℕ). (links ++ more_links) ++ links_from a (later ++ rest) more) lengths

-- all trees of a supervisor's children were walked, and so its own
pub whole_tree : (number : ℕ) (link : Link) (tree : Tree) (left links : List Link)
    → left ≡ [] → AreLinksUnder (number + 1) (links_under number (root_table tree)) left tree.below links
    → AreLinks number link tree (link ∷ links)
whole_tree number link tree left links none under rest more =
    let n : (number + 1) + length links ≡ number + length (link ∷ links) = omega arith in
    ap (λ (ls : List Link). link ∷ ls)
    (under rest more
    ∙ ap (λ (ls : List Link). links ++ links_from ((number + 1) + length links) (ls ++ rest) more) none
    ∙ ap (λ (a : ℕ). links ++ links_from a rest more) n)

-- no link is left once as many trees were walked as there are children that have one
pub none_left : (number k : ℕ) (t : Table) → length t.nested ≤ k → drop k (links_under number t) ≡ []
none_left number k t all =
    let f : ℕ → Link = λ p. first_link number (slice_get t.specs p) in
    let same : length (map f t.nested) ≡ length t.nested = length-map t.nested f in
    let within : length (map f t.nested) ≤ k = omega (arith, same, all) in
    drop_all k (map f t.nested) within

-- the links of a file's tree
pub all_links : (root : Link) (tree : Tree) (links : List Link) → root ≡ first_link 0 None → AreLinks 0 root tree links → links ≡ links_of (tables_of tree)
unfolding links_of
all_links root tree links is_root walk =
    sym
    (ap (λ (l : Link). links_from 0 (l ∷ []) (tables_of tree)) (sym is_root)
    ∙ (ap (λ (ts : List Table). links_from 0 (root ∷ []) ts) (sym (append-nil (tables_of tree)))
    ∙ (walk [] [] ∙ append-nil links)))

-- the links of these tables, the first trees of the children of a supervisor, were added behind its own
abbrev pub AddedUnder : ℕ → ℕ → Table → List Table → List Link → List Link → Type 0
AddedUnder place number table tables before after =
    (links : List Link) × (after ≡ before ++ links) × AreLinksUnder (place + 1) (links_under place table) (drop number (links_under place table)) tables links

pub added_more : (place number : ℕ) (t : Table) (tables : List Table) (tree : Tree) (before mid after : List Link) (link : Link) (at : ℕ)
    → length before ≡ place + 1 → slice_get t.nested number ≡ Some at → link ≡ first_link place (slice_get t.specs at)
    → AddedUnder place number t tables before mid
    → (more : List Link) × (after ≡ mid ++ more) × AreLinks (length mid) link tree more
    → AddedUnder place (number + 1) t (tables ++ tables_of tree) before after
added_more place number t tables tree before mid after link at count nested is (links, mid_is, under) (more, after_is, walk) =
    let awaited : List Link = links_under place t in
    let later : List Link = drop (number + 1) awaited in
    let next : drop number awaited ≡ link ∷ later = next_awaited place number at t nested ∙ ap (λ (l : Link). l ∷ later) (sym is) in
    let whole : length mid ≡ length before + length links = ap (λ (ls : List Link). length ls) mid_is ∙ length-append before links in
    let here : length mid ≡ (place + 1) + length links = omega (arith, whole, count) in (
      links ++ more,
      after_is ∙ (ap (λ (ls : List Link). ls ++ more) mid_is ∙ append_assoc before links more),
      one_more (place + 1) awaited (drop number awaited) link later tables tree links more (length mid) under next here walk,
    )

pub added_all : (place number : ℕ) (tree : Tree) (link : Link) (old before after : List Link) (tables : List Table)
    → length old ≡ place → before ≡ old ++ link ∷ [] → length tree.nested ≤ number → tables ≡ tree.below
    → AddedUnder place number (root_table tree) tables before after
    → (links : List Link) × (after ≡ old ++ links) × AreLinks (length old) link tree links
added_all place number tree link old before after tables count before_is all all_tables (links, after_is, under) =
    let awaited : List Link = links_under place (root_table tree) in
    let below : AreLinksUnder (place + 1) awaited (drop number awaited) tree.below links =
    subst (λ (ts : List Table). AreLinksUnder (place + 1) awaited (drop number awaited) ts links) all_tables under in (
      link ∷ links,
      after_is ∙ (ap (λ (ls : List Link). ls ++ links) before_is ∙ append_assoc old (link ∷ []) links),
      subst (λ (n : ℕ). AreLinks n link tree (link ∷ links)) (sym count)
          (whole_tree place link tree (drop number awaited) links (none_left place number (root_table tree) all) below),
    )

pub planted : (tree : Tree) (link : Link) (old new : Driven) → old ≡ nothing → link ≡ first_link 0 None → AddsTree tree old new → AddsLinks tree link old new → IsPlanted tree new
planted tree link old new none root adds links =
    let l : AddsLinks tree link nothing new = subst (λ (d : Driven). AddsLinks tree link d new) none links in
    (subst (λ (d : Driven). AddsTree tree d new) none adds, l.1 ∙ all_links link tree l.0 root l.2)
