use Rattle.std.proofs.Common.{◌≡◌, ℕ, ◌+◌, ◌-◌, ◌*◌, ◌≤◌, ◌<◌, Bool, true, false, cond, ◌&&◌, nat_le, nat_lt, List, [], ◌∷◌, ◌++◌, length, get_or, take, drop, refl, ap, ◌∙◌, sym, arith, ⊎_elim, All, count_by, length-take, length-drop}
use Rattle.std.proofs.lemmas.Bool.{cases_Bool, lt-ltb, le-ltb, lt-leb, leb-true, leb-false, ltb-true, ltb-false, le-leb, both_ways, and_parts, and_from, false_from_ne_true}
use Rattle.std.proofs.lemmas.List.{drop-append-le, drop-drop, get_or-take, get_or-drop, get_or_append_left, length-append}
use Rattle.std.proofs.lemmas.List.Elements.{All-head, All-tail, All-from_get_or, All-push}
use Rattle.std.proofs.lemmas.List.Sorted.{IsNonDecreasingBy-push}
use Rattle.std.proofs.lemmas.List.Sums.{sum_by-append, sum_by-cons, sum_by-take-drop, sum_by-drop_more, count_by-le-length}
use Rattle.std.specs.List.Sorted.{IsNonDecreasing}
use Rattle.std.specs.Prelude.{if◌then◌else◌}
use Rattle.otp_window.specs.Answer.{within}
use Rattle.otp_window.specs.Kept.{kept_of}
use Rattle.otp_window.specs.declared.Within.{Within}
use Rattle.otp_window.specs.declared.Within.TheVariants.{Ok, Exceeded}
use Rattle.otp_window.specs.Period.{in_period}

count_all : (p : ℕ → Bool) (xs : List ℕ) → All (λ x. p x ≡ true) xs → count_by p xs ≡ length xs
count_all p [] each = refl
count_all p (x ∷ xs) each =
    let first : ◌≡◌ {A = ℕ} (cond (p x) 1 0) 1 = ap (λ b. cond b 1 0) (All-head (λ y. p y ≡ true) x xs each) in
    omega (arith, first, sum_by-cons (λ y. cond (p y) 1 0) x xs, count_all p xs (All-tail (λ y. p y ≡ true) x xs each))

count_none : (p : ℕ → Bool) (xs : List ℕ) → All (λ x. p x ≡ false) xs → count_by p xs ≡ 0
count_none p [] each = refl
count_none p (x ∷ xs) each =
    let first : ◌≡◌ {A = ℕ} (cond (p x) 1 0) 0 = ap (λ b. cond b 1 0) (All-head (λ y. p y ≡ false) x xs each) in
    omega (arith, first, sum_by-cons (λ y. cond (p y) 1 0) x xs, count_none p xs (All-tail (λ y. p y ≡ false) x xs each))

-- what follows an element that passes passes too
abbrev PassesOn : (ℕ → Bool) → List ℕ → Type 0
PassesOn p xs = (i j : ℕ) → i ≤ j → j < length xs → p (get_or xs i 0) ≡ true → p (get_or xs j 0) ≡ true

passes_after : (p : ℕ → Bool) (xs : List ℕ) (k : ℕ) → PassesOn p xs → p (get_or xs k 0) ≡ true → All (λ x. p x ≡ true) (drop k xs)
passes_after p xs k on passes =
    All-from_get_or (λ x. p x ≡ true) (drop k xs) 0
    (λ i h. rw get_or-drop (on k (k + i) (omega arith) (omega (arith, length-drop k xs)) passes))

fails_before : (p : ℕ → Bool) (xs : List ℕ) (k : ℕ) → k < length xs → PassesOn p xs → p (get_or xs k 0) ≡ false → All (λ x. p x ≡ false) (take k xs)
fails_before p xs k within on fails =
    All-from_get_or (λ x. p x ≡ false) (take k xs) 0
    (λ i h.
    let early : i < k = omega (arith, length-take k xs) in
    rw get_or-take
    (false_from_ne_true _ (λ passes. both_ways _ fails (on i k (omega arith) within passes))))

-- where what passes stands last, more than n pass exactly if the element n places before the last does
passes_from : (p : ℕ → Bool) (xs : List ℕ) (k : ℕ) → k < length xs → PassesOn p xs
    → p (get_or xs k 0) ≡ nat_lt (length xs - 1 - k) (count_by p xs)
passes_from p xs k within on =
    let parts : count_by p (take k xs) + count_by p (drop k xs) ≡ count_by p xs = sum_by-take-drop (λ x. cond (p x) 1 0) xs k in
    ⊎_elim
    (λ passes.
    let all : count_by p (drop k xs) ≡ length (drop k xs) = count_all p (drop k xs) (passes_after p xs k on passes) in
    let many : length xs - 1 - k < count_by p xs = omega (arith, length-drop k xs) in
    passes ∙ sym (lt-ltb _ _ many))
    (λ fails.
    let none : count_by p (take k xs) ≡ 0 = count_none p (take k xs) (fails_before p xs k within on fails) in
    let here : ◌≡◌ {A = ℕ} (cond (p (get_or xs k 0)) 1 0) 0 = ap (λ b. cond b 1 0) fails in
    let rest : count_by p (drop k xs) ≡ cond (p (get_or xs k 0)) 1 0 + count_by p (drop (k + 1) xs) = sum_by-drop_more (λ x. cond (p x) 1 0) xs k 0 within in
    let few : count_by p xs ≤ length xs - 1 - k = omega (arith, length-drop (k + 1) xs, count_by-le-length p (drop (k + 1) xs)) in
    fails ∙ sym (le-ltb _ _ few))
    (cases_Bool (p (get_or xs k 0)))

-- the stamp lies in the period that ends at t
abbrev is_near : ℕ → ℕ → ℕ → Bool
is_near period t s = nat_le s t && nat_le (t - s) (1000 * period)

later_is_nearer : (period t : ℕ) (stamps : List ℕ) → IsNonDecreasing stamps → All (λ s. s ≤ t) stamps → PassesOn (is_near period t) stamps
later_is_nearer period t stamps ordered latest i j le within near =
    let rises : get_or stamps i 0 ≤ get_or stamps j 0 = ordered i j 0 le within in
    let past : get_or stamps j 0 ≤ t = latest j 0 within in
    let far : t - get_or stamps i 0 ≤ 1000 * period = leb-true (t - get_or stamps i 0) (1000 * period) (and_parts (nat_le (get_or stamps i 0) t) _ near).1 in
    and_from _ _ (le-leb _ _ past) (le-leb _ _ (omega arith))

-- of stamps that never fall, more than `limit` lie in the period that ends at t
-- exactly if the one `limit` places before the last does
pub crowded : (limit period t : ℕ) (stamps : List ℕ) → limit < length stamps → IsNonDecreasing stamps → All (λ s. s ≤ t) stamps
    → nat_le (t - get_or stamps (length stamps - 1 - limit) 0) (1000 * period) ≡ nat_lt limit (in_period period stamps t)
crowded limit period t stamps enough ordered latest =
    let k : ℕ = length stamps - 1 - limit in
    let within : k < length stamps = omega arith in
    let past : nat_le (get_or stamps k 0) t ≡ true = le-leb _ _ (latest k 0 within) in
    let near : is_near period t (get_or stamps k 0) ≡ nat_le (t - get_or stamps k 0) (1000 * period) = ap (λ b. b && nat_le (t - get_or stamps k 0) (1000 * period)) past in
    let back : length stamps - 1 - k ≡ limit = omega arith in
    sym near ∙ passes_from (is_near period t) stamps k within (later_is_nearer period t stamps ordered latest) ∙ ap (λ n. nat_lt n (in_period period stamps t)) back

-- the last stamp lies in the period that it ends
ends_itself : (period t : ℕ) (stamps : List ℕ) → 0 < in_period period (stamps ++ t ∷ []) t
ends_itself period t stamps =
    let parts : in_period period (stamps ++ t ∷ []) t ≡ in_period period stamps t + in_period period (t ∷ []) t = sum_by-append (λ s. cond (is_near period t s) 1 0) stamps (t ∷ []) in
    let one : in_period period (t ∷ []) t ≡ cond (is_near period t t) 1 0 + in_period period [] t = sum_by-cons (λ s. cond (is_near period t s) 1 0) t [] in
    let near : is_near period t t ≡ true = and_from _ _ (le-leb t t (omega arith)) (le-leb (t - t) (1000 * period) (omega arith)) in
    let here : ◌≡◌ {A = ℕ} (cond (is_near period t t) 1 0) 1 = ap (λ b. cond b 1 0) near in
    omega (arith, parts, one, here)

-- with no restart allowed, each is one too many
pub crowded_at_zero : (period t : ℕ) (stamps : List ℕ) → nat_lt 0 (in_period period (stamps ++ t ∷ []) t) ≡ true
crowded_at_zero period t stamps = lt-ltb _ _ (ends_itself period t stamps)

-- so many stamps aren't more
pub crowded_below : (limit period t : ℕ) (stamps : List ℕ) → length stamps < limit → nat_lt limit (in_period period (stamps ++ t ∷ []) t) ≡ false
crowded_below limit period t stamps few =
    let all : in_period period (stamps ++ t ∷ []) t ≤ length (stamps ++ t ∷ []) = count_by-le-length (is_near period t) (stamps ++ t ∷ []) in
    le-ltb _ _ (omega (arith, all, length-append stamps (t ∷ [])))

-- a last stamp that is no earlier: still none falls
pub rising_push : (stamps : List ℕ) (t : ℕ) → IsNonDecreasing stamps → All (λ s. s ≤ t) stamps → IsNonDecreasing (stamps ++ t ∷ [])
rising_push stamps t ordered latest = IsNonDecreasingBy-push (λ s. s) stamps t ordered (λ d some. latest (length stamps - 1) d (omega arith))

-- one stamp more, the last, that is no earlier
pub crowded_with : (limit period t : ℕ) (stamps : List ℕ) → 0 < limit → limit ≤ length stamps → IsNonDecreasing stamps → All (λ s. s ≤ t) stamps
    → nat_le (t - get_or stamps (length stamps - limit) 0) (1000 * period) ≡ nat_lt limit (in_period period (stamps ++ t ∷ []) t)
crowded_with limit period t stamps some enough ordered latest =
    let all : List ℕ = stamps ++ t ∷ [] in
    let long : length all ≡ length stamps + 1 = length-append stamps (t ∷ []) in
    let place : length all - 1 - limit ≡ length stamps - limit = omega (arith, long) in
    let same : get_or all (length all - 1 - limit) 0 ≡ get_or stamps (length stamps - limit) 0 = ap (λ i. get_or all i 0) place ∙ get_or_append_left stamps (t ∷ []) 0 (length stamps - limit) (omega arith) in
    ap (λ s. nat_le (t - s) (1000 * period)) (sym same)
    ∙ crowded limit period t all (omega (arith, long)) (rising_push stamps t ordered latest) (All-push (λ s. s ≤ t) stamps t latest (omega arith))

-- what is kept are the last stamps: the same at the same distance from the end
kept_at : (limit back : ℕ) (stamps : List ℕ) → 0 < back → back ≤ length (kept_of limit stamps)
    → get_or (kept_of limit stamps) (length (kept_of limit stamps) - back) 0 ≡ get_or stamps (length stamps - back) 0
kept_at limit back stamps some within =
    let from : ℕ = length stamps - (limit + 1) in
    let long : length (drop from stamps) ≡ length stamps - from = length-drop from stamps in
    let place : from + (length (drop from stamps) - back) ≡ length stamps - back = omega (arith, long, within) in
    get_or-drop from stamps (length (drop from stamps) - back) 0 ∙ ap (λ i. get_or stamps i 0) place

-- more than `limit` lie in the period, with one stamp more, exactly if the one `limit` places before that does
pub kept_crowded : (limit period t : ℕ) (kept stamps : List ℕ) → kept ≡ kept_of limit stamps → 0 < limit → limit ≤ length kept → IsNonDecreasing stamps → All (λ s. s ≤ t) stamps
    → nat_le (t - get_or kept (length kept - limit) 0) (1000 * period) ≡ nat_lt limit (in_period period (stamps ++ t ∷ []) t)
kept_crowded limit period t kept stamps is some enough ordered latest =
    let same : length kept ≡ length (kept_of limit stamps) = ap length is in
    let long : length (kept_of limit stamps) ≡ length stamps - (length stamps - (limit + 1)) = length-drop (length stamps - (limit + 1)) stamps in
    let from_kept : get_or kept (length kept - limit) 0 ≡ get_or stamps (length stamps - limit) 0 =
    ap (λ (xs : List ℕ). get_or xs (length xs - limit) 0) is ∙ kept_at limit limit stamps some (omega (arith, same, enough)) in
    ap (λ (s : ℕ). nat_le (t - s) (1000 * period)) from_kept ∙ crowded_with limit period t stamps some (omega (arith, same, long, enough)) ordered latest

-- where fewer than `limit` are kept, they are all that there are
pub kept_below : (limit period t : ℕ) (kept stamps : List ℕ) → kept ≡ kept_of limit stamps → length kept < limit → nat_lt limit (in_period period (stamps ++ t ∷ []) t) ≡ false
kept_below limit period t kept stamps is few =
    let same : length kept ≡ length (kept_of limit stamps) = ap length is in
    let long : length (kept_of limit stamps) ≡ length stamps - (length stamps - (limit + 1)) = length-drop (length stamps - (limit + 1)) stamps in
    crowded_below limit period t stamps (omega (arith, same, long, few))

-- no stamp that is kept is later than any
pub kept_latest : (limit t : ℕ) (kept stamps : List ℕ) (place : ℕ) → kept ≡ kept_of limit stamps → place < length kept → All (λ s. s ≤ t) stamps → get_or kept place 0 ≤ t
kept_latest limit t kept stamps place is within latest =
    let from : ℕ = length stamps - (limit + 1) in
    let same : length kept ≡ length (drop from stamps) = ap length is in
    let long : length (drop from stamps) ≡ length stamps - from = length-drop from stamps in
    let value : get_or kept place 0 ≡ get_or stamps (from + place) 0 = ap (λ (xs : List ℕ). get_or xs place 0) is ∙ get_or-drop from stamps place 0 in
    let past : get_or stamps (from + place) 0 ≤ t = latest (from + place) 0 (omega (arith, same, long, within)) in
    omega (arith, value, past)

-- with room below the limit all stay
pub kept_pushed : (limit t : ℕ) (kept : List ℕ) → length kept ≤ limit → kept ++ t ∷ [] ≡ kept_of limit (kept ++ t ∷ [])
kept_pushed limit t kept few =
    let none : length (kept ++ t ∷ []) - (limit + 1) ≡ 0 = omega (arith, few, length-append kept (t ∷ [])) in
    sym (ap (λ (n : ℕ). drop n (kept ++ t ∷ [])) none)

-- at the limit the oldest goes
pub kept_moved : (limit t : ℕ) (kept : List ℕ) → length kept ≡ limit + 1 → drop 1 kept ++ t ∷ [] ≡ kept_of limit (kept ++ t ∷ [])
kept_moved limit t kept full =
    let one : length (kept ++ t ∷ []) - (limit + 1) ≡ 1 = omega (arith, full, length-append kept (t ∷ [])) in
    sym (ap (λ (n : ℕ). drop n (kept ++ t ∷ [])) one ∙ drop-append-le 1 kept (t ∷ []) (omega (arith, full)))

-- what is kept of what was kept and one stamp more is what is kept of all
pub kept_on : (limit t : ℕ) (stamps : List ℕ) → kept_of limit (kept_of limit stamps ++ t ∷ []) ≡ kept_of limit (stamps ++ t ∷ [])
kept_on limit t stamps =
    let from : ℕ = length stamps - (limit + 1) in
    let all : List ℕ = stamps ++ t ∷ [] in
    let part : drop from stamps ++ t ∷ [] ≡ drop from all = sym (drop-append-le from stamps (t ∷ []) (omega arith)) in
    let long : length all ≡ length stamps + 1 = length-append stamps (t ∷ []) in
    let rest : length (drop from all) ≡ length all - from = length-drop from all in
    let place : from + (length (drop from all) - (limit + 1)) ≡ length all - (limit + 1) = omega (arith, long, rest) in
    ap (λ (xs : List ℕ). kept_of limit xs) part ∙ drop-drop (length (drop from all) - (limit + 1)) from all ∙ ap (λ (n : ℕ). drop n all) place

alike_by : (limit period t : ℕ) (one other : List ℕ) → kept_of limit one ≡ kept_of limit other → IsNonDecreasing one → All (λ s. s ≤ t) one → IsNonDecreasing other → All (λ s. s ≤ t) other
    → (none : Bool) → none ≡ nat_le limit 0 → (few : Bool) → few ≡ nat_lt (length (kept_of limit one)) limit
    → nat_lt limit (in_period period (one ++ t ∷ []) t) ≡ nat_lt limit (in_period period (other ++ t ∷ []) t)
alike_by limit period t one other is ordered latest other_ordered other_latest true zero few fewer =
    let nothing : limit ≡ 0 = omega (arith, leb-true limit 0 (sym zero)) in
    ap (λ (n : ℕ). nat_lt n (in_period period (one ++ t ∷ []) t)) nothing ∙ crowded_at_zero period t one
    ∙ sym (ap (λ (n : ℕ). nat_lt n (in_period period (other ++ t ∷ []) t)) nothing ∙ crowded_at_zero period t other)
alike_by limit period t one other is ordered latest other_ordered other_latest false some true fewer =
    let below : length (kept_of limit one) < limit = ltb-true _ _ (sym fewer) in
    kept_below limit period t (kept_of limit one) one refl below
    ∙ sym (kept_below limit period t (kept_of limit one) other is below)
alike_by limit period t one other is ordered latest other_ordered other_latest false some false enough =
    let many : limit ≤ length (kept_of limit one) = ltb-false _ _ (sym enough) in
    let any : 0 < limit = omega (arith, leb-false limit 0 (sym some)) in
    sym (kept_crowded limit period t (kept_of limit one) one refl any many ordered latest)
    ∙ kept_crowded limit period t (kept_of limit one) other is any many other_ordered other_latest

-- where the same stamps are kept, the next restart is one too many for both or for neither
pub kept_alike : (limit period t : ℕ) (one other : List ℕ) → kept_of limit one ≡ kept_of limit other → IsNonDecreasing one → All (λ s. s ≤ t) one → IsNonDecreasing other → All (λ s. s ≤ t) other
    → nat_lt limit (in_period period (one ++ t ∷ []) t) ≡ nat_lt limit (in_period period (other ++ t ∷ []) t)
kept_alike limit period t one other is ordered latest other_ordered other_latest =
    alike_by limit period t one other is ordered latest other_ordered other_latest (nat_le limit 0) refl (nat_lt (length (kept_of limit one)) limit) refl

by_lt : (limit n : ℕ) (b : Bool) → nat_lt limit n ≡ b → ◌≡◌ {A = Within} (if nat_le n limit then Ok else Exceeded) (if b then Exceeded else Ok)
by_lt limit n true is = ap (λ (b : Bool). if b then Ok else Exceeded) (lt-leb _ _ (ltb-true _ _ is))
by_lt limit n false is = ap (λ (b : Bool). if b then Ok else Exceeded) (le-leb _ _ (ltb-false _ _ is))

-- so the answer is the same
pub within_alike : (limit period t : ℕ) (one other : List ℕ) (b : Bool) → nat_lt limit (in_period period (one ++ t ∷ []) t) ≡ b → kept_of limit one ≡ kept_of limit other
    → IsNonDecreasing one → All (λ s. s ≤ t) one → IsNonDecreasing other → All (λ s. s ≤ t) other
    → ◌≡◌ {A = Within} (if b then Exceeded else Ok) (within limit period (other ++ t ∷ []) t)
within_alike limit period t one other b is same ordered latest other_ordered other_latest =
    sym (by_lt limit (in_period period (other ++ t ∷ []) t) b (sym (kept_alike limit period t one other same ordered latest other_ordered other_latest) ∙ is))
