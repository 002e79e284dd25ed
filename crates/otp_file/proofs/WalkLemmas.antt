-- The walk over the tables of a tree: what tables say that are walked one after the other, and the trees of children.
use Rattle.std.proofs.Common.{◌≡◌, ℕ, suc, zero, ◌+◌, ◌-◌, ◌<◌, ◌≤◌, Bool, ◌||◌, List, [], ◌∷◌, ◌++◌, map, drop, length, get_or, Option, Some, None, Ok, Err, arith, refl, sym, ap, subst, ◌∙◌, append_assoc, append-nil, length-append}
use Rattle.std.specs.List.{cons_option, enumerate_from, filter_map, flat_map, list_any}
use Rattle.std.proofs.lemmas.Grind.{flat_map-append}
use Rattle.std.proofs.lemmas.List.{at_drop_more, drop_all, map-append}
use Rattle.otp_file.specs.declared.fault.TableFault.{TableFault}
use Rattle.otp_file.specs.Children.{tree_of}
use Rattle.otp_file.specs.Faults.{answer_of}
use Rattle.otp_file.specs.Trees.{Table, Tree, children_in, faults_at, faults_in, place_of, said_from, table_said, tables_from, tables_of, tables_said, tables_under, trees_of}
use Rattle.otp_file.proofs.ChildLemmas.{answer_of-stop, answer_of-next, answer_of-empty, answer_of-value}
use Rattle.otp_file.proofs.TreeLemmas.{other_value}
use Rattle.toml.specs.Data.{Data, Members}
use Rattle.toml.specs.View.{view}
use Rattle.toml.specs.declared.value.Value.{Value}

-- the faults of tables, and then of those after them
faults_in-append : (n : ℕ) (xs ys : List (ℕ × Members)) → faults_in n (xs ++ ys) ≡ faults_in n xs ++ faults_in (n + length xs) ys
faults_in-append n [] ys = let same : n ≡ n + 0 = omega arith in ap (λ k. faults_in k ys) same
faults_in-append n (x ∷ xs) ys =
    let here : List TableFault = faults_at n x.0 x.1 in
    let same : (n + 1) + length xs ≡ n + length (x ∷ xs) = omega arith in
    ap (λ rest. here ++ rest) (faults_in-append (n + 1) xs ys)
    ∙ ap (λ k. here ++ (faults_in (n + 1) xs ++ faults_in k ys)) same
    ∙ sym (append_assoc here (faults_in (n + 1) xs) (faults_in (n + length (x ∷ xs)) ys))

-- a fault in the first tables is that of all
pub first_stops : (n : ℕ) (xs ys : List (ℕ × Members)) (why : TableFault) → said_from n xs ≡ Err why → said_from n (xs ++ ys) ≡ Err why
first_stops n xs ys why found =
    ap (λ faults. answer_of faults (tables_said (xs ++ ys))) (faults_in-append n xs ys)
    ∙ answer_of-stop (faults_in n xs) (faults_in (n + length xs) ys) (tables_said xs) (tables_said (xs ++ ys)) why found

-- after tables without one, a fault in the next ones is
pub next_stops : (n : ℕ) (xs ys : List (ℕ × Members)) (first : List Table) (why : TableFault) →
    said_from n xs ≡ Ok first → said_from (n + length xs) ys ≡ Err why → said_from n (xs ++ ys) ≡ Err why
next_stops n xs ys first why said found =
    ap (λ faults. answer_of faults (tables_said (xs ++ ys))) (faults_in-append n xs ys)
    ∙ ap (λ none. answer_of (none ++ faults_in (n + length xs) ys) (tables_said (xs ++ ys))) (answer_of-empty (faults_in n xs) (tables_said xs) first said)
    ∙ other_value (faults_in (n + length xs) ys) (tables_said ys) (tables_said (xs ++ ys)) why found

-- where neither has one, both are said
pub both_said : (n : ℕ) (xs ys : List (ℕ × Members)) (first next : List Table) →
    said_from n xs ≡ Ok first → said_from (n + length xs) ys ≡ Ok next → said_from n (xs ++ ys) ≡ Ok (first ++ next)
both_said n xs ys first next said then =
    let none : faults_in n xs ≡ [] = answer_of-empty (faults_in n xs) (tables_said xs) first said in
    let none_then : faults_in (n + length xs) ys ≡ [] = answer_of-empty (faults_in (n + length xs) ys) (tables_said ys) next then in
    ap (λ faults. answer_of faults (tables_said (xs ++ ys)))
    (faults_in-append n xs ys ∙ ap (λ before. before ++ faults_in (n + length xs) ys) none ∙ none_then)
    ∙ ap Ok
    (map-append (λ (placed : ℕ × Members). table_said placed.1) xs ys
    ∙ ap (λ a. a ++ tables_said ys) (answer_of-value (faults_in n xs) (tables_said xs) first said)
    ∙ ap (λ b. first ++ b) (answer_of-value (faults_in (n + length xs) ys) (tables_said ys) next then))

-- the table itself comes first
pub own_stops : (n levels : ℕ) (table : Members) (why : TableFault) →
    answer_of (faults_at n levels table) (table_said table) ≡ Err why → said_from n (tables_from levels table) ≡ Err why
unfolding tables_from
own_stops n zero table why found =
    answer_of-stop (faults_at n zero table) [] (table_said table) (table_said table ∷ []) why found
own_stops n (suc levels) table why found =
    let rest : List (ℕ × Members) = tables_under levels (trees_of (children_in table)) in
    answer_of-stop (faults_at n (suc levels) table) (faults_in (n + 1) rest) (table_said table) (table_said table ∷ tables_said rest) why found

below_stops_here : (n levels : ℕ) (table : Members) (own : Table) (why : TableFault) →
    answer_of (faults_at n (suc levels) table) (table_said table) ≡ Ok own →
    said_from (n + 1) (tables_under levels (trees_of (children_in table))) ≡ Err why →
    said_from n (tables_from (suc levels) table) ≡ Err why
unfolding tables_from
below_stops_here n levels table own why said found =
    let rest : List (ℕ × Members) = tables_under levels (trees_of (children_in table)) in
    answer_of-next (faults_at n (suc levels) table) (faults_in (n + 1) rest) (table_said table) own (table_said table ∷ tables_said rest) said
    ∙ other_value (faults_in (n + 1) rest) (tables_said rest) (table_said table ∷ tables_said rest) why found

all_said_here : (n levels : ℕ) (table : Members) (own : Table) (below : List Table) →
    answer_of (faults_at n (suc levels) table) (table_said table) ≡ Ok own →
    said_from (n + 1) (tables_under levels (trees_of (children_in table))) ≡ Ok below →
    said_from n (tables_from (suc levels) table) ≡ Ok (own ∷ below)
unfolding tables_from
all_said_here n levels table own below said then =
    let rest : List (ℕ × Members) = tables_under levels (trees_of (children_in table)) in
    answer_of-next (faults_at n (suc levels) table) (faults_in (n + 1) rest) (table_said table) own (table_said table ∷ tables_said rest) said
    ∙ ap (λ faults. answer_of faults (table_said table ∷ tables_said rest)) (answer_of-empty (faults_in (n + 1) rest) (tables_said rest) below then)
    ∙ ap (λ a. Ok (a ∷ tables_said rest)) (answer_of-value (faults_at n (suc levels) table) (table_said table) own said)
    ∙ ap (λ b. Ok (own ∷ b)) (answer_of-value (faults_in (n + 1) rest) (tables_said rest) below then)

counted_here : (levels : ℕ) (table : Members) →
    length (tables_from (suc levels) table) ≡ length (tables_under levels (trees_of (children_in table))) + 1
unfolding tables_from
counted_here levels table = let same : (k : ℕ) → suc k ≡ k + 1 = λ k. omega arith in same (length (tables_under levels (trees_of (children_in table))))

-- a level above the last has one below it
one_less : (levels : ℕ) → 0 < levels → suc (levels - 1) ≡ levels
one_less levels some = omega (arith, some)

pub below_stops : (n levels : ℕ) (table : Members) (own : Table) (why : TableFault) → 0 < levels →
    answer_of (faults_at n levels table) (table_said table) ≡ Ok own →
    said_from (n + 1) (tables_under (levels - 1) (trees_of (children_in table))) ≡ Err why →
    said_from n (tables_from levels table) ≡ Err why
below_stops n levels table own why some said found =
    let At : ℕ → Type 0 = λ k. answer_of (faults_at n k table) (table_said table) ≡ Ok own → said_from n (tables_from k table) ≡ Err why in
    subst At (one_less levels some) (λ here. below_stops_here n (levels - 1) table own why here found) said

pub all_said : (n levels : ℕ) (table : Members) (own : Table) (below : List Table) → 0 < levels →
    answer_of (faults_at n levels table) (table_said table) ≡ Ok own →
    said_from (n + 1) (tables_under (levels - 1) (trees_of (children_in table))) ≡ Ok below →
    said_from n (tables_from levels table) ≡ Ok (own ∷ below)
all_said n levels table own below some said then =
    let At : ℕ → Type 0 = λ k. answer_of (faults_at n k table) (table_said table) ≡ Ok own → said_from n (tables_from k table) ≡ Ok (own ∷ below) in
    subst At (one_less levels some) (λ here. all_said_here n (levels - 1) table own below here then) said

-- how many tables a tree has
pub tables_counted : (levels : ℕ) (table : Members) → 0 < levels →
    length (tables_from levels table) ≡ length (tables_under (levels - 1) (trees_of (children_in table))) + 1
tables_counted levels table some =
    let At : ℕ → Type 0 = λ k. length (tables_from k table) ≡ length (tables_under (levels - 1) (trees_of (children_in table))) + 1 in
    subst At (one_less levels some) (counted_here (levels - 1) table)

-- the tables of the trees of these values
abbrev pub under : ℕ → List Value → List (ℕ × Members)
under levels values = tables_under levels (trees_of (map view values))

step_none : (levels : ℕ) (tree : Option Members) (rest : List Members) → tree ≡ None →
    tables_under levels (cons_option tree rest) ≡ tables_under levels rest
step_none levels tree rest none = rw none refl

step_some : (levels : ℕ) (tree : Option Members) (table : Members) (rest : List Members) → tree ≡ Some table →
    tables_under levels (cons_option tree rest) ≡ tables_from levels table ++ tables_under levels rest
step_some levels tree table rest some = rw some refl

pub under_none : (levels : ℕ) (values : List Value) (place : ℕ) (other : Value) → place < length values →
    tree_of (view (get_or values place other)) ≡ None →
    under levels (drop place values) ≡ under levels (drop (place + 1) values)
under_none levels values place other within none =
    at_drop_more (under levels) values place other within
    ∙ step_none levels (tree_of (view (get_or values place other))) (trees_of (map view (drop (place + 1) values))) none

pub under_some : (levels : ℕ) (values : List Value) (place : ℕ) (other : Value) (table : Members) → place < length values →
    tree_of (view (get_or values place other)) ≡ Some table →
    under levels (drop place values) ≡ tables_from levels table ++ under levels (drop (place + 1) values)
under_some levels values place other table within some =
    at_drop_more (under levels) values place other within
    ∙ step_some levels (tree_of (view (get_or values place other))) table (trees_of (map view (drop (place + 1) values))) some

pub under_all : (levels : ℕ) (values : List Value) (place : ℕ) → length values ≤ place → under levels (drop place values) ≡ []
under_all levels values place past = ap (under levels) (drop_all place values past)

-- the trees so far and one more
pub trees_more : (trees : List Tree) (tree : Tree) → flat_map tables_of (trees ++ tree ∷ []) ≡ flat_map tables_of trees ++ tables_of tree
trees_more trees tree = flat_map-append tables_of trees (tree ∷ []) ∙ ap (λ last. flat_map tables_of trees ++ last) (append-nil (tables_of tree))

-- what is said of the trees of the rest is said of all, behind what is read; and so is a fault
pub record IsWalked (levels : ℕ) (values : List Value) (first next : ℕ) (rest : List Value) (trees : List Tree) : Type 0 where
  pub said : (list : List Table) → said_from next (under levels rest) ≡ Ok list
      → said_from first (under levels values) ≡ Ok (flat_map tables_of trees ++ list)
  pub stops : (why : TableFault) → said_from next (under levels rest) ≡ Err why → said_from first (under levels values) ≡ Err why
  pub count : next + length (under levels rest) ≡ first + length (under levels values)

pub walked_none : (levels : ℕ) (values : List Value) (first next : ℕ) (place : ℕ) (other : Value) (trees : List Tree) →
    place < length values → tree_of (view (get_or values place other)) ≡ None →
    IsWalked levels values first next (drop place values) trees →
    IsWalked levels values first next (drop (place + 1) values) trees
walked_none levels values first next place other trees within none before =
    let same = under_none levels values place other within none in
    record {
      said = λ list h. before.said list (ap (said_from next) same ∙ h);
      stops = λ why h. before.stops why (ap (said_from next) same ∙ h);
      count = ap (λ tables. next + length tables) (sym same) ∙ before.count;
    }

pub walked_some : (levels : ℕ) (values : List Value) (first next later : ℕ) (place : ℕ) (other : Value) (table : Members) (trees : List Tree) (tree : Tree) →
    place < length values → tree_of (view (get_or values place other)) ≡ Some table →
    said_from next (tables_from levels table) ≡ Ok (tables_of tree) →
    later ≡ next + length (tables_from levels table) →
    IsWalked levels values first next (drop place values) trees →
    IsWalked levels values first later (drop (place + 1) values) (trees ++ tree ∷ [])
walked_some levels values first next later place other table trees tree within some here grown before =
    let rest : List (ℕ × Members) = under levels (drop (place + 1) values) in
    let split = under_some levels values place other table within some in
    record {
      said = λ list h.
          before.said (tables_of tree ++ list)
          (ap (said_from next) split ∙ both_said next (tables_from levels table) rest (tables_of tree) list here (ap (λ n. said_from n rest) (sym grown) ∙ h))
          ∙ ap Ok (sym (append_assoc (flat_map tables_of trees) (tables_of tree) list) ∙ ap (λ whole. whole ++ list) (sym (trees_more trees tree)));
      stops = λ why h.
          before.stops why
          (ap (said_from next) split ∙ next_stops next (tables_from levels table) rest (tables_of tree) why here (ap (λ n. said_from n rest) (sym grown) ∙ h));
      count =
          let whole : length (under levels (drop place values)) ≡ length (tables_from levels table) + length rest = ap length split ∙ length-append (tables_from levels table) rest in
          omega (arith, whole, grown, before.count);
    }

-- the places of those of these values that have a tree, from this place on
abbrev pub places_from : ℕ → List Value → List ℕ
places_from place values = filter_map (λ (at, child). place_of at (tree_of child)) (enumerate_from place (map view values))

-- a test of values as data
pub list_any-view : (test : Data → Bool) (values : List Value) → list_any test (map view values) ≡ list_any (λ value. test (view value)) values
list_any-view test [] = refl
list_any-view test (value ∷ rest) = ap (λ later. test (view value) || later) (list_any-view test rest)
