-- Marks whose numbers rise.
use Rattle.std.proofs.Common.{◌≡◌, ℕ, ◌+◌, ◌-◌, ◌<◌, ◌≤◌, ◌⊎◌, List, [], ◌∷◌, ◌++◌, ◌∙◌, sym, ap, arith, drop, take, get_or, length, length-drop, length-take, refl, subst, suc, zero, inl, inr, take-append-drop}
use Rattle.std.specs.Prelude.{map, All, if◌then◌else◌, nat_lt}
use Rattle.std.proofs.lemmas.Bool.{cases_lt}
use Rattle.std.proofs.lemmas.List.{get_or-drop, get_or-map, get_or-take, drop_more, length-map, take_at}
use Rattle.std.proofs.lemmas.List.Elements.{All-append, All-cons}
use Rattle.std.proofs.lemmas.List.Kept.{AllPairs-cons}
use Rattle.otp_table.specs.declared.marks.Mark.{Mark}
use Rattle.otp_table.proofs.Keyed.{upto}
use Rattle.otp_table.specs.Marks.{IsPut, IsTaken, IsUnder, Rises, moved}

abbrev pub AllBefore : ℕ → ℕ → List Mark → Type 0
AllBefore key first ms = (k : ℕ) (d : Mark) → k < first → (get_or ms k d).key < key

abbrev pub AllFrom : ℕ → ℕ → List Mark → Type 0
AllFrom key first ms = (k : ℕ) (d : Mark) → first ≤ k → k < length ms → key ≤ (get_or ms k d).key

abbrev Less : Mark → Mark → Type 0
Less one later = one.key < later.key

under_cases : (n p : ℕ) (xs ys : List Mark) → IsUnder n p (xs ++ ys) → IsUnder n p xs ⊎ IsUnder n p ys
under_cases n p [] ys h = inr h
under_cases n p (x ∷ xs) ys (inl here) = inl (inl here)
under_cases n p (x ∷ xs) ys (inr there) = elim (under_cases n p xs ys there) [ inl h ↦ inl (inr h) | inr h ↦ inr h ]

under_left : (n p : ℕ) (xs ys : List Mark) → IsUnder n p xs → IsUnder n p (xs ++ ys)
under_left n p [] ys h = absurd h
under_left n p (x ∷ xs) ys (inl here) = inl here
under_left n p (x ∷ xs) ys (inr there) = inr (under_left n p xs ys there)

under_right : (n p : ℕ) (xs ys : List Mark) → IsUnder n p ys → IsUnder n p (xs ++ ys)
under_right n p [] ys h = h
under_right n p (x ∷ xs) ys h = inr (under_right n p xs ys h)

pub under_at : (ms : List Mark) (i : ℕ) (d : Mark) → i < length ms → IsUnder (get_or ms i d).key (get_or ms i d).place ms
under_at [] i d h = absurd (omega (arith, h))
under_at (m ∷ ms) zero d h = inl (refl, refl)
under_at (m ∷ ms) (suc i) d h = inr (under_at ms i d (omega (arith, h)))

-- where a place that stands under a key is among the marks
abbrev IsAt : ℕ → ℕ → List Mark → ℕ → Type 0
IsAt n p ms i = (i < length ms) × ((d : Mark) → ((get_or ms i d).key ≡ n) × ((get_or ms i d).place ≡ p))

pub index_of : (n p : ℕ) (ms : List Mark) → IsUnder n p ms → (i : ℕ) × IsAt n p ms i
index_of n p [] h = absurd h
index_of n p (m ∷ ms) (inl here) = (0, (omega arith, λ d. here))
index_of n p (m ∷ ms) (inr there) = let i : (i : ℕ) × IsAt n p ms i = index_of n p ms there in (suc i.0, (omega (arith, i.1.0), λ d. i.1.1 d))

-- a key stands once
once : (ms : List Mark) → Rises ms → (i j : ℕ) (d : Mark) → i < length ms → j < length ms → (get_or ms i d).key ≡ (get_or ms j d).key → i ≡ j
once ms rise i j d iw jw same =
    elim (cases_lt i j) [
      | inl lt ↦ let less : (get_or ms i d).key < (get_or ms j d).key = rise i j d lt jw in absurd (omega (arith, less, same))
      | inr ge ↦ elim (cases_lt j i) [
        | inl gt ↦ let less : (get_or ms j d).key < (get_or ms i d).key = rise j i d gt iw in absurd (omega (arith, less, same))
        | inr le ↦ omega (arith, ge, le)
      ]
    ]

pub same_place : (n p q : ℕ) (ms : List Mark) (d : Mark) → Rises ms → IsUnder n p ms → IsUnder n q ms → p ≡ q
same_place n p q ms d rise one other =
    let i : (i : ℕ) × IsAt n p ms i = index_of n p ms one in
    let j : (j : ℕ) × IsAt n q ms j = index_of n q ms other in
    let at : i.0 ≡ j.0 = once ms rise i.0 j.0 d i.1.0 j.1.0 ((i.1.1 d).0 ∙ sym (j.1.1 d).0) in
    sym (i.1.1 d).1 ∙ ap (λ (k : ℕ). (get_or ms k d).place) at ∙ (j.1.1 d).1

-- where the key at the first place that isn't below is another, nothing stands under this one
pub none_under : (key first : ℕ) (ms : List Mark) (d : Mark) → Rises ms → ((k : ℕ) (d : Mark) → k < first → (get_or ms k d).key < key) → ((k : ℕ) (d : Mark) → first ≤ k → k < length ms → key ≤ (get_or ms k d).key)
    → (first < length ms → (get_or ms first d).key ≡ key → ⊥) → (p : ℕ) → IsUnder key p ms → ⊥
none_under key first ms d rise less more other p under =
    let i : (i : ℕ) × IsAt key p ms i = index_of key p ms under in
    let has : (get_or ms i.0 d).key ≡ key = (i.1.1 d).0 in
    elim (cases_lt i.0 first) [
      | inl lt ↦ let below : (get_or ms i.0 d).key < key = less i.0 d lt in omega (arith, below, has)
      | inr ge ↦ let within : first < length ms = omega (arith, ge, i.1.0) in
          let up : (get_or ms first d).key ≤ (get_or ms i.0 d).key = upto (λ (m : Mark). m.key) ms rise first i.0 d ge i.1.0 in
          let low : key ≤ (get_or ms first d).key = more first d (omega arith) within in
          other within (omega (arith, up, low, has))
    ]

pairs_tail : (x : Mark) (xs : List Mark) → Rises (x ∷ xs) → Rises xs
pairs_tail x xs h = λ i j d lt w. h (suc i) (suc j) d (omega (arith, lt)) (omega (arith, w))

-- two lists that rise, the second above the first
rises_append : (xs ys : List Mark) → Rises xs → Rises ys → All (λ x. All (Less x) ys) xs → Rises (xs ++ ys)
rises_append [] ys one other apart = other
rises_append (x ∷ xs) ys one other apart =
    let later : All (Less x) xs = λ k d w. one 0 (suc k) d (omega arith) (omega (arith, w)) in
    let above : All (Less x) ys = apart 0 x (omega arith) in
    let rest : All (λ y. All (Less y) ys) xs = λ k d w. apart (suc k) d (omega (arith, w)) in
    AllPairs-cons Less x (xs ++ ys) (All-append (Less x) xs ys later above) (rises_append xs ys (pairs_tail x xs one) other rest)

rises_take : (ms : List Mark) (i : ℕ) → Rises ms → Rises (take i ms)
rises_take ms i rise = λ a b d lt w. let early : b < i = omega (arith, length-take i ms, w) in
    let sooner : a < i = omega (arith, early, lt) in
    rw (get_or-take i ms a d sooner, get_or-take i ms b d early) (rise a b d lt (omega (arith, length-take i ms, w)))

rises_drop : (ms : List Mark) (i : ℕ) → Rises ms → Rises (drop i ms)
rises_drop ms i rise = λ a b d lt w. rw (get_or-drop i ms a d, get_or-drop i ms b d) (rise (i + a) (i + b) d (omega (arith, lt)) (omega (arith, length-drop i ms, w)))

rises_join : (xs ys : List Mark) (m : Mark) → Rises xs → Rises ys → All (λ x. Less x m) xs → All (λ y. Less m y) ys → Rises (xs ++ m ∷ ys)
rises_join xs ys m one other low high =
    rises_append xs (m ∷ ys) one (AllPairs-cons Less m ys high other)
    (λ k d w. let below : Less (get_or xs k d) m = low k d w in
    All-cons (λ y. Less (get_or xs k d) y) m ys below (λ j e v. let above : Less m (get_or ys j e) = high j e v in omega (arith, below, above)))

free_above : (key first : ℕ) (ms : List Mark) → ((p : ℕ) → IsUnder key p ms → ⊥) → ((k : ℕ) (d : Mark) → first ≤ k → k < length ms → key ≤ (get_or ms k d).key) → All (λ y. key < y.key) (drop first ms)
free_above key first ms free more k d w =
    let within : first + k < length ms = omega (arith, length-drop first ms, w) in
    let there : (get_or (drop first ms) k d).key ≡ (get_or ms (first + k) d).key = ap (λ (m : Mark). m.key) (get_or-drop first ms k d) in
    let low : key ≤ (get_or ms (first + k) d).key = more (first + k) d (omega arith) within in
    elim (cases_lt key (get_or ms (first + k) d).key) [
      | inl lt ↦ omega (arith, lt, there)
      | inr ge ↦ let same : (get_or ms (first + k) d).key ≡ key = omega (arith, ge, low) in
          absurd (free (get_or ms (first + k) d).place (subst (λ n. IsUnder n (get_or ms (first + k) d).place ms) same (under_at ms (first + k) d within)))
    ]

all_below : (key first : ℕ) (ms : List Mark) → ((k : ℕ) (d : Mark) → k < first → (get_or ms k d).key < key) → All (λ x. x.key < key) (take first ms)
all_below key first ms less k d w =
    let early : k < first = omega (arith, length-take first ms, w) in
    let there : (get_or (take first ms) k d).key ≡ (get_or ms k d).key = ap (λ (m : Mark). m.key) (get_or-take first ms k d early) in
    let below : (get_or ms k d).key < key = less k d early in omega (arith, there, below)

-- a key that none stands under is put in its order
pub put_rises : (key place first : ℕ) (ms : List Mark) → Rises ms → ((p : ℕ) → IsUnder key p ms → ⊥) → ((k : ℕ) (d : Mark) → k < first → (get_or ms k d).key < key)
    → ((k : ℕ) (d : Mark) → first ≤ k → k < length ms → key ≤ (get_or ms k d).key) → Rises (take first ms ++ record { key = key; place = place } ∷ drop first ms)
put_rises key place first ms rise free less more =
    rises_join (take first ms) (drop first ms) (record { key = key; place = place }) (rises_take ms first rise) (rises_drop ms first rise) (all_below key first ms less) (free_above key first ms free more)

-- and then it stands there too, and all else stays
pub put_is : (key place first : ℕ) (ms : List Mark) → IsPut key place ms (take first ms ++ record { key = key; place = place } ∷ drop first ms)
put_is key place first ms n p =
    let m : Mark = record { key = key; place = place } in
    let parts : take first ms ++ drop first ms ≡ ms = take-append-drop first ms in (
      (λ h. elim (under_cases n p (take first ms) (m ∷ drop first ms) h) [
        | inl a ↦ inr (subst (IsUnder n p) parts (under_left n p (take first ms) (drop first ms) a))
        | inr b ↦ elim b [ inl here ↦ inl here | inr there ↦ inr (subst (IsUnder n p) parts (under_right n p (take first ms) (drop first ms) there)) ]
      ]),
      λ h. elim h [
        | inl here ↦ under_right n p (take first ms) (m ∷ drop first ms) (inl here)
        | inr u ↦ elim (under_cases n p (take first ms) (drop first ms) (subst (IsUnder n p) (sym parts) u)) [
          | inl a ↦ under_left n p (take first ms) (m ∷ drop first ms) a
          | inr b ↦ under_right n p (take first ms) (m ∷ drop first ms) (inr b)
        ]
      ],
    )

apart : (key first : ℕ) (ms : List Mark) (d : Mark) → Rises ms → first < length ms → (get_or ms first d).key ≡ key → (n p i : ℕ) → IsAt n p ms i → (i ≡ first → ⊥) → n ≡ key → ⊥
apart key first ms d rise within has n p i at other same = other (once ms rise i first d at.0 within ((at.1 d).0 ∙ same ∙ sym has))

-- the mark under the key is taken out
pub taken_is : (key first : ℕ) (ms : List Mark) (d : Mark) → Rises ms → first < length ms → (get_or ms first d).key ≡ key → IsTaken key ms (take first ms ++ drop (suc first) ms)
taken_is key first ms d rise within has n p =
    let next : suc first ≡ first + 1 = omega arith in
    let rest : drop first ms ≡ get_or ms first d ∷ drop (suc first) ms = drop_more ms first d within ∙ ap (λ (k : ℕ). get_or ms first d ∷ drop k ms) (sym next) in
    let parts : take first ms ++ drop first ms ≡ ms = take-append-drop first ms in (
      (λ h. elim (under_cases n p (take first ms) (drop (suc first) ms) h) [
        | inl a ↦ (
          subst (IsUnder n p) parts (under_left n p (take first ms) (drop first ms) a),
          let at : (i : ℕ) × IsAt n p (take first ms) i = index_of n p (take first ms) a in
              let early : at.0 < first = omega (arith, length-take first ms, at.1.0) in
              apart key first ms d rise within has n p at.0
              ((omega (arith, early, within), λ e. rw (← get_or-take first ms at.0 e early) (at.1.1 e))) (λ same. omega (arith, same, early)),
        )
        | inr b ↦ (
          subst (IsUnder n p) parts (under_right n p (take first ms) (drop first ms) (subst (IsUnder n p) (sym rest) (inr b))),
          let at : (i : ℕ) × IsAt n p (drop (suc first) ms) i = index_of n p (drop (suc first) ms) b in
              apart key first ms d rise within has n p (suc first + at.0)
              ((omega (arith, length-drop (suc first) ms, at.1.0), λ e. rw (← get_or-drop (suc first) ms at.0 e) (at.1.1 e))) (λ same. omega (arith, same)),
        )
      ]),
      λ u other. elim (under_cases n p (take first ms) (drop first ms) (subst (IsUnder n p) (sym parts) u)) [
        | inl a ↦ under_left n p (take first ms) (drop (suc first) ms) a
        | inr b ↦ elim (subst (IsUnder n p) rest b) [
          | inl here ↦ absurd (other (sym here.0 ∙ has))
          | inr there ↦ under_right n p (take first ms) (drop (suc first) ms) there
        ]
      ],
    )

-- where nothing stands under the key, nothing has to be taken out
pub none_taken : (key : ℕ) (ms : List Mark) → ((p : ℕ) → IsUnder key p ms → ⊥) → IsTaken key ms ms
none_taken key ms none n p = ((λ h. (h, λ same. none p (subst (λ k. IsUnder k p ms) same h))), λ h other. h)

-- where a place goes once the row at another is taken out
abbrev pub shifted : ℕ → ℕ → ℕ
shifted place p = if nat_lt place p then p - 1 else p

pub moved_under : (place n p : ℕ) (ms : List Mark) → IsUnder n p ms → IsUnder n (shifted place p) (map (moved place) ms)
moved_under place n p [] h = absurd h
moved_under place n p (m ∷ ms) (inl here) = inl (here.0, ap (shifted place) here.1)
moved_under place n p (m ∷ ms) (inr there) = inr (moved_under place n p ms there)

pub under_moved : (place n q : ℕ) (ms : List Mark) → IsUnder n q (map (moved place) ms) → (p : ℕ) × (IsUnder n p ms × (shifted place p ≡ q))
under_moved place n q [] h = absurd h
under_moved place n q (m ∷ ms) (inl here) = (m.place, (inl (here.0, refl), here.1))
under_moved place n q (m ∷ ms) (inr there) = let h : (p : ℕ) × (IsUnder n p ms × (shifted place p ≡ q)) = under_moved place n q ms there in (h.0, (inr h.1.0, h.1.1))

pub moved_rises : (place : ℕ) (ms : List Mark) → Rises ms → Rises (map (moved place) ms)
moved_rises place ms rise = λ i j d lt w.
    let within : j < length ms = omega (arith, length-map ms (moved place), w) in
    let at_i : (get_or (map (moved place) ms) i d).key ≡ (get_or ms i d).key = ap (λ (m : Mark). m.key) (get_or-map (moved place) ms i d d (omega (arith, within, lt))) in
    let at_j : (get_or (map (moved place) ms) j d).key ≡ (get_or ms j d).key = ap (λ (m : Mark). m.key) (get_or-map (moved place) ms j d d within) in
    let less : (get_or ms i d).key < (get_or ms j d).key = rise i j d lt within in
    omega (arith, at_i, at_j, less)

-- what was written over a whole list
pub whole : (xs ys : List Mark) (n : ℕ) → length ys ≡ length xs → n ≡ length xs → take n (ys ++ drop (length ys) xs) ≡ ys
whole xs ys n same all =
    let at : n ≡ length ys = omega (arith, same, all) in
    ap (λ (k : ℕ). take k (ys ++ drop (length ys) xs)) at ∙ take_at ys (drop (length ys) xs) (length ys) refl
