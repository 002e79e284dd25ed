-- Tables that are taken from the end: the starts of the last, and the sizes of the trees behind it.
use Rattle.std.proofs.Common.{◌≡◌, ℕ, suc, zero, ◌+◌, ◌-◌, ◌<◌, List, [], ◌∷◌, ◌++◌, map, drop, get_or, length, Option, Some, None, arith, refl, sym, ap, ◌∙◌, append_assoc, length-append, rules}
use Rattle.std.proofs.lemmas.List.{at_drop_more, map-append}
use Rattle.otp_file.specs.Trees.{Table}
use Rattle.otp_job.specs.declared.body.Body.{Body}
use Rattle.otp_spec.specs.declared.child.ChildSpec.{ChildSpec}
use Rattle.otp_jobs.specs.declared.body.Calm.{Calm}
use Rattle.otp_jobs.specs.declared.worker.WorkedJob.{WorkedJob}
use Rattle.otp_file.specs.RolesFaults.{first_unknown, or_else, unknown_at, unknown_from}
use Rattle.otp_jobs.specs.Plans.{bodies_from, joined, total, tree_sizes}

-- neither of two is there where not one is
pub neither : {A : Type 0} (a b : Option A) → or_else a b ≡ None → (a ≡ None) × (b ≡ None)
neither None b h = (refl, h)
neither (Some a) b h = search rules

-- where no start is unknown, none is in the tables before the last, and none in the last
pub all_known : (xs : List Table) (t : Table) → first_unknown (xs ++ t ∷ []) ≡ None → (first_unknown xs ≡ None) × (unknown_from t.nested 0 t.specs ≡ None)
all_known [] t h = (refl, (neither (unknown_from t.nested 0 t.specs) None h).0)
all_known (x ∷ xs) t h =
    let both = neither (unknown_from x.nested 0 x.specs) (first_unknown (xs ++ t ∷ [])) h in
    let rest = all_known xs t both.1 in
    (ap (λ a. or_else a (first_unknown xs)) both.0 ∙ rest.0, rest.1)

-- joining keeps the number of tables
pub total-joined : (size count : ℕ) (sizes : List ℕ) → total (joined size count sizes) ≡ size + total sizes
total-joined size zero sizes = refl
total-joined size (suc count) [] = refl
total-joined size (suc count) (first ∷ sizes) =
    let rest = total-joined (size + first) count sizes in
    omega (arith, rest)

-- the trees that begin in tables have these tables, and no others
pub total-tree_sizes : (tables : List Table) → total (tree_sizes tables) ≡ length tables
total-tree_sizes [] = refl
total-tree_sizes (t ∷ tables) =
    let here = total-joined 1 (length t.nested) (tree_sizes tables) in
    let rest = total-tree_sizes tables in
    omega (arith, here, rest)

-- the body of the next child stands last among the bodies so far
pub next_body : (nested : List ℕ) (next later : ℕ) (sizes left : List ℕ) (place : ℕ) (specs : List ChildSpec) (d : ChildSpec)
    (bodies : List (Body WorkedJob Calm)) (body : Body WorkedJob Calm) (all : List (Option (Body WorkedJob Calm))) →
    place < length specs →
    map Some bodies ++ bodies_from nested next sizes place (drop place specs) ≡ all →
    ((rest : List ChildSpec) → bodies_from nested next sizes place (get_or specs place d ∷ rest) ≡ Some body ∷ bodies_from nested later left (place + 1) rest) →
    map Some (bodies ++ body ∷ []) ++ bodies_from nested later left (place + 1) (drop (place + 1) specs) ≡ all
next_body nested next later sizes left place specs d bodies body all inside so_far here =
    let after : List (Option (Body WorkedJob Calm)) = bodies_from nested later left (place + 1) (drop (place + 1) specs) in
    let last : map Some (bodies ++ body ∷ []) ≡ map Some bodies ++ Some body ∷ [] = map-append Some bodies (body ∷ []) in
    ap (λ front. front ++ after) last
    ∙ append_assoc (map Some bodies) (Some body ∷ []) after
    ∙ ap (λ rest. map Some bodies ++ rest)
    (sym (at_drop_more (bodies_from nested next sizes place) specs place d inside ∙ here (drop (place + 1) specs)))
    ∙ so_far

-- the children that are left have no unknown start where those before them had none
pub known_after : (nested : List ℕ) (place : ℕ) (specs : List ChildSpec) → place < length specs →
    unknown_from nested place (drop place specs) ≡ None → unknown_from nested (place + 1) (drop (place + 1) specs) ≡ None
known_after nested place [] inside known = absurd (omega (arith, inside))
known_after nested place (first ∷ others) inside known =
    let specs : List ChildSpec = first ∷ others in
    (neither (unknown_at nested place (get_or specs place first)) (unknown_from nested (place + 1) (drop (place + 1) specs))
    (sym (at_drop_more (unknown_from nested place) specs place first inside) ∙ known)).1

-- one tree more is joined
pub join_next : (size count counter first : ℕ) (others : List ℕ) → counter < count →
    joined (size + first) (count - (counter + 1)) others ≡ joined size (count - counter) (first ∷ others)
join_next size count counter first others inside =
    let more : count - counter ≡ suc (count - (counter + 1)) = omega (arith, inside) in
    sym (ap (λ n. joined size n (first ∷ others)) more)

-- the last table is the next one that is taken
pub take_next : (left : List Table) (last : Table) (taken all : List Table) → (left ++ last ∷ []) ++ taken ≡ all → left ++ (last ∷ taken) ≡ all
take_next left last taken all so_far = sym (append_assoc left (last ∷ []) taken) ∙ so_far

-- how many tables are left, and how many were taken
pub counted : (left : List Table) (last : Table) (taken all : List Table) → (left ++ last ∷ []) ++ taken ≡ all →
    (length left + 1) + length taken ≡ length all
counted left last taken all so_far =
    let inner = length-append left (last ∷ []) in
    let outer = length-append (left ++ last ∷ []) taken in
    let whole : length ((left ++ last ∷ []) ++ taken) ≡ length all = ap length so_far in
    omega (arith, inner, outer, whole)
