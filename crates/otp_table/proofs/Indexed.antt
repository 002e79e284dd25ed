-- Marks that tell of each row, from one change to the next.
use Rattle.std.proofs.Common.{◌≡◌, ℕ, ◌-◌, ◌<◌, ◌≤◌, ◌==◌, ◌⊎◌, List, [], ◌∷◌, ◌++◌, ◌∙◌, sym, Option, None, Some, ap, arith, get_or, length, refl, subst, suc, zero, inl, inr, set}
use Rattle.std.specs.Prelude.{Bool, true, false, MatchOption, cond, map, nat_lt, position, if◌then◌else◌, unwrap_or, ⊤}
use Rattle.std.specs.List.{position_or_len, remove}
use Rattle.std.proofs.lemmas.Bool.{both_ways, cases_lt, eq-eqb, eqb-true, false_from_ne_true, lt-ltb, le-ltb, ne_eqb}
use Rattle.std.proofs.lemmas.List.Sums.{position_or_len_is}
use Rattle.std.proofs.lemmas.Slice.Eq.{bytes_eq-Decides}
use Rattle.std.specs.Option.{option_eq}
use Rattle.std.specs.Ordering.{on}
use Rattle.std.specs.Str.{bytes_eq}
use Rattle.otp_reason.specs.declared.name.Name.{Name}
use Rattle.otp_reason.specs.Names.{name_bytes}
use Rattle.otp_table.specs.declared.keys.TheConstants.{FNV_START}
use Rattle.otp_table.specs.declared.marks.Mark.{Mark}
use Rattle.otp_table.specs.declared.row.Row.{Row}
use Rattle.otp_table.specs.declared.row.RowState.{RowState}
use Rattle.otp_table.specs.declared.row.RowState.TheVariants.{Undefined, Starting, Up, Asked, Killed, Restarting}
use Rattle.otp_table.specs.Keys.{fingerprint, id_key, print_if, print_of}
use Rattle.otp_table.specs.Marks.{AreMarks, IsChanged, IsGone, IsPut, IsTaken, IsUnder, Rises, key_at, moved, number_key}
use Rattle.otp_table.specs.Rows.{awaits_retry, has_id, has_number, has_process, number_of, row_has}
use Rattle.otp_table.proofs.Rising.{moved_under, same_place, shifted, under_moved}

pub none_some : (n : ℕ) → ◌≡◌ {A = Option ℕ} None (Some n) → ⊥
none_some n e = subst (λ (o : Option ℕ). MatchOption o ⊤ (λ _. ⊥)) e tt

pub some_is : (n m : ℕ) → ◌≡◌ {A = Option ℕ} (Some n) (Some m) → n ≡ m
some_is n m e = ap (λ (o : Option ℕ). unwrap_or o 0) e

pub same_or : (p q : ℕ) → (p ≡ q) ⊎ (p ≡ q → ⊥)
same_or p q =
    elim (cases_lt p q) [
      | inl lt ↦ inr (λ e. omega (arith, e, lt))
      | inr ge ↦ elim (cases_lt q p) [
        | inl gt ↦ inr (λ e. omega (arith, e, gt))
        | inr le ↦ inl (omega (arith, ge, le))
      ]
    ]

-- a place that has the same key as before
pub unchanged : (place : ℕ) (o : Option ℕ) (ms : List Mark) → IsChanged place o o ms ms
unchanged place o ms f g are old new same n p =
    let alike : g p ≡ f p = elim (same_or p place) [
      | inl e ↦ ap g e ∙ new ∙ sym old ∙ sym (ap f e)
      | inr other ↦ same p other
    ] in
    ((λ u. alike ∙ (are n p).0 u), λ e. (are n p).1 (sym alike ∙ e))

pub put_changed : (place key : ℕ) (ms after : List Mark) → IsPut key place ms after → IsChanged place None (Some key) ms after
put_changed place key ms after put f g are old new same n p = (
  (λ u. elim ((put n p).0 u) [
    | inl here ↦ ap g (sym here.1) ∙ new ∙ ap (λ (k : ℕ). Some k) here.0
    | inr there ↦ let has : f p ≡ Some n = (are n p).0 there in
        same p (λ e. none_some n (sym old ∙ sym (ap f e) ∙ has)) ∙ has
  ]),
  λ e. elim (same_or p place) [
    | inl is ↦ (put n p).1 (inl (some_is key n (sym new ∙ sym (ap g is) ∙ e), sym is))
    | inr other ↦ (put n p).1 (inr ((are n p).1 (sym (same p other) ∙ e)))
  ],
)

pub take_changed : (place key : ℕ) (ms after : List Mark) → Rises ms → IsTaken key ms after → IsChanged place (Some key) None ms after
take_changed place key ms after rise taken f g are old new same n p =
    let d : Mark = record { key = 0; place = 0 } in (
      (λ u. let there : IsUnder n p ms × (n ≡ key → ⊥) = (taken n p).0 u in
          let has : f p ≡ Some n = (are n p).0 there.0 in
          same p (λ e. there.1 (some_is n key (sym has ∙ ap f e ∙ old))) ∙ has),
      λ e. let other : p ≡ place → ⊥ = λ is. none_some n (sym new ∙ sym (ap g is) ∙ e) in
          let has : IsUnder n p ms = (are n p).1 (sym (same p other) ∙ e) in
          (taken n p).1 has (λ is. other (same_place n p place ms d rise has (subst (λ k. IsUnder k place ms) (sym is) ((are key place).1 old)))),
    )

-- the keys without that of one place
abbrev without : ℕ → (ℕ → Option ℕ) → ℕ → Option ℕ
without place f q = if q == place then None else f q

without_at : (place : ℕ) (f : ℕ → Option ℕ) → without place f place ≡ None
without_at place f = ap (λ (b : Bool). if b then None else f place) (eq-eqb place place refl)

without_other : (place q : ℕ) (f : ℕ → Option ℕ) → (q ≡ place → ⊥) → without place f q ≡ f q
without_other place q f other = ap (λ (b : Bool). if b then None else f q) (ne_eqb q place other)

-- one change after the other
pub changed_on : (place : ℕ) (old new : Option ℕ) (ms middle after : List Mark) → IsChanged place old None ms middle → IsChanged place None new middle after → IsChanged place old new ms after
changed_on place old new ms middle after first second f g are was is same =
    let h : ℕ → Option ℕ = without place f in
    second h g (first f h are was (without_at place f) (λ q other. without_other place q f other)) (without_at place f) is
    (λ q other. same q other ∙ sym (without_other place q f other))

shifted_above : (place p : ℕ) → place < p → shifted place p ≡ p - 1
shifted_above place p lt = ap (λ (b : Bool). if b then p - 1 else p) (lt-ltb place p lt)

shifted_below : (place p : ℕ) → p ≤ place → shifted place p ≡ p
shifted_below place p le = ap (λ (b : Bool). if b then p - 1 else p) (le-ltb place p le)

-- a row that has no key is taken out
gap : (place : ℕ) (ms : List Mark) → IsGone place None ms (map (moved place) ms)
gap place ms f g are none below above n q = (
  (λ u. let from : (p : ℕ) × (IsUnder n p ms × (shifted place p ≡ q)) = under_moved place n q ms u in
      let p : ℕ = from.0 in
      let has : f p ≡ Some n = (are n p).0 from.1.0 in
      elim (cases_lt p place) [
        | inl lt ↦ let is : q ≡ p = sym from.1.1 ∙ shifted_below place p (omega (arith, lt)) in
            ap g is ∙ below p lt ∙ has
        | inr ge ↦ elim (cases_lt place p) [
          | inl gt ↦ let is : suc q ≡ p = omega (arith, gt, from.1.1, shifted_above place p gt) in
              above q (omega (arith, is, gt)) ∙ ap f is ∙ has
          | inr le ↦ let at : p ≡ place = omega (arith, ge, le) in
              absurd (none_some n (sym none ∙ sym (ap f at) ∙ has))
        ]
      ]),
  λ e. elim (cases_lt q place) [
    | inl lt ↦ subst (λ k. IsUnder n k (map (moved place) ms)) (shifted_below place q (omega (arith, lt))) (moved_under place n q ms ((are n q).1 (sym (below q lt) ∙ e)))
    | inr ge ↦ let is : shifted place (suc q) ≡ q = shifted_above place (suc q) (omega (arith, ge)) ∙ omega arith in
        subst (λ k. IsUnder n k (map (moved place) ms)) is (moved_under place n (suc q) ms ((are n (suc q)).1 (sym (above q ge) ∙ e)))
  ],
)

pub gone_on : (place : ℕ) (old : Option ℕ) (ms middle : List Mark) → IsChanged place old None ms middle → IsGone place old ms (map (moved place) middle)
gone_on place old ms middle first f g are was below above =
    let h : ℕ → Option ℕ = without place f in
    gap place middle h g (first f h are was (without_at place f) (λ q other. without_other place q f other)) (without_at place f)
    (λ q lt. below q lt ∙ sym (without_other place q f (λ e. omega (arith, e, lt))))
    (λ q ge. above q ge ∙ sym (without_other place (suc q) f (λ e. omega (arith, e, ge))))

-- rows and their keys
pub key_get : (key : Row → Option ℕ) (rows : List Row) (p : ℕ) (d : Row) → p < length rows → key_at key rows p ≡ key (get_or rows p d)
key_get key [] p d h = absurd (omega (arith, h))
key_get key (row ∷ rows) zero d h = refl
key_get key (row ∷ rows) (suc p) d h = key_get key rows p d (omega (arith, h))

pub key_within : (key : Row → Option ℕ) (rows : List Row) (p n : ℕ) → key_at key rows p ≡ Some n → p < length rows
key_within key [] p n e = absurd (none_some n e)
key_within key (row ∷ rows) zero n e = omega arith
key_within key (row ∷ rows) (suc p) n e = let rest : p < length rows = key_within key rows p n e in omega (arith, rest)

pub key_past : (key : Row → Option ℕ) (rows : List Row) → key_at key rows (length rows) ≡ None
key_past key [] = refl
key_past key (row ∷ rows) = key_past key rows

pub pushed_at : (key : Row → Option ℕ) (rows : List Row) (row : Row) → key_at key (rows ++ row ∷ []) (length rows) ≡ key row
pushed_at key [] row = refl
pushed_at key (r ∷ rows) row = pushed_at key rows row

pub pushed_other : (key : Row → Option ℕ) (rows : List Row) (row : Row) (q : ℕ) → (q ≡ length rows → ⊥) → key_at key (rows ++ row ∷ []) q ≡ key_at key rows q
pushed_other key [] row zero other = absurd (other refl)
pushed_other key [] row (suc q) other = refl
pushed_other key (r ∷ rows) row zero other = refl
pushed_other key (r ∷ rows) row (suc q) other = pushed_other key rows row q (λ e. other (ap suc e))

pub set_at : (key : Row → Option ℕ) (rows : List Row) (p : ℕ) (row : Row) → p < length rows → key_at key (set rows p row) p ≡ key row
set_at key [] p row h = absurd (omega (arith, h))
set_at key (r ∷ rows) zero row h = refl
set_at key (r ∷ rows) (suc p) row h = set_at key rows p row (omega (arith, h))

pub set_other : (key : Row → Option ℕ) (rows : List Row) (p : ℕ) (row : Row) (q : ℕ) → (q ≡ p → ⊥) → key_at key (set rows p row) q ≡ key_at key rows q
set_other key [] p row q other = refl
set_other key (r ∷ rows) zero row zero other = absurd (other refl)
set_other key (r ∷ rows) zero row (suc q) other = refl
set_other key (r ∷ rows) (suc p) row zero other = refl
set_other key (r ∷ rows) (suc p) row (suc q) other = set_other key rows p row q (λ e. other (ap suc e))

pub removed_below : (key : Row → Option ℕ) (rows : List Row) (p q : ℕ) → q < p → key_at key (remove rows p) q ≡ key_at key rows q
removed_below key [] zero q h = refl
removed_below key [] (suc p) q h = refl
removed_below key (r ∷ rows) zero q h = absurd (omega (arith, h))
removed_below key (r ∷ rows) (suc p) zero h = refl
removed_below key (r ∷ rows) (suc p) (suc q) h = removed_below key rows p q (omega (arith, h))

pub removed_above : (key : Row → Option ℕ) (rows : List Row) (p q : ℕ) → p ≤ q → key_at key (remove rows p) q ≡ key_at key rows (suc q)
removed_above key [] zero q h = refl
removed_above key [] (suc p) q h = refl
removed_above key (r ∷ rows) zero q h = refl
removed_above key (r ∷ rows) (suc p) zero h = absurd (omega (arith, h))
removed_above key (r ∷ rows) (suc p) (suc q) h = removed_above key rows p q (omega (arith, h))

-- a row that passes has the key
abbrev pub Tells : (Row → Option ℕ) → (Row → Bool) → ℕ → Type 0
Tells key test n = (row : Row) → test row ≡ true → key row ≡ Some n

-- the row that has the key is the first that passes
first_at : (key : Row → Option ℕ) (test : Row → Bool) (n p : ℕ) (rows : List Row) (ms : List Mark) (d : Row) → Rises ms → AreMarks (key_at key rows) ms → Tells key test n → IsUnder n p ms
    → test (get_or rows p d) ≡ true → position test rows ≡ Some p
first_at key test n p rows ms d rise are tells under passes =
    let within : p < length rows = key_within key rows p n ((are n p).0 under) in
    let mark : Mark = record { key = 0; place = 0 } in
    let first : position_or_len test rows ≡ p = position_or_len_is test rows p d (omega (arith, within))
    (λ k lt. false_from_ne_true _ (λ e. let has : key_at key rows k ≡ Some n = key_get key rows k d (omega (arith, lt, within)) ∙ tells (get_or rows k d) e in
    let same : k ≡ p = same_place n k p ms mark rise ((are n k).1 has) under in omega (arith, same, lt)))
    (λ _. passes) in
    ap (λ (i : ℕ). cond (nat_lt i (length rows)) (Some i) None) first ∙ ap (λ (b : Bool). cond b (Some p) None) (lt-ltb p (length rows) within)

pub found_first : (key : Row → Option ℕ) (test : Row → Bool) (n p : ℕ) (rows : List Row) (ms : List Mark) → Rises ms → AreMarks (key_at key rows) ms → Tells key test n → IsUnder n p ms
    → ((d : Row) → test (get_or rows p d) ≡ true) → position test rows ≡ Some p
found_first key test n p [] ms rise are tells under passes = let has : p < 0 = key_within key [] p n ((are n p).0 under) in absurd (omega (arith, has))
found_first key test n p (row ∷ rows) ms rise are tells under passes = first_at key test n p (row ∷ rows) ms row rise are tells under (passes row)

-- where no row passes there is none
none_at : (test : Row → Bool) (rows : List Row) (d : Row) → ((k : ℕ) → k < length rows → test (get_or rows k d) ≡ false) → position test rows ≡ None
none_at test rows d fails =
    let none : position_or_len test rows ≡ length rows = position_or_len_is test rows (length rows) d (omega arith) fails (λ lt. absurd (omega (arith, lt))) in
    ap (λ (i : ℕ). cond (nat_lt i (length rows)) (Some i) None) none ∙ ap (λ (b : Bool). cond b (Some (length rows)) None) (le-ltb (length rows) (length rows) (omega arith))

found_none : (test : Row → Bool) (rows : List Row) → ((k : ℕ) (d : Row) → k < length rows → test (get_or rows k d) ≡ false) → position test rows ≡ None
found_none test [] fails = refl
found_none test (row ∷ rows) fails = none_at test (row ∷ rows) row (λ k. fails k row)

-- so there is none where nothing stands under the key
pub none_marked : (key : Row → Option ℕ) (test : Row → Bool) (n : ℕ) (rows : List Row) (ms : List Mark) → AreMarks (key_at key rows) ms → Tells key test n → ((p : ℕ) → IsUnder n p ms → ⊥) → position test rows ≡ None
none_marked key test n rows ms are tells none =
    found_none test rows (λ k d lt. false_from_ne_true _ (λ e. none k ((are n k).1 (key_get key rows k d lt ∙ tells (get_or rows k d) e))))

-- and where the one that does doesn't pass
pub none_passes : (key : Row → Option ℕ) (test : Row → Bool) (n p : ℕ) (rows : List Row) (ms : List Mark) → Rises ms → AreMarks (key_at key rows) ms → Tells key test n → IsUnder n p ms
    → ((d : Row) → test (get_or rows p d) ≡ false) → position test rows ≡ None
none_passes key test n p rows ms rise are tells under fails =
    let mark : Mark = record { key = 0; place = 0 } in
    found_none test rows (λ k d lt. false_from_ne_true _ (λ e.
    let has : key_at key rows k ≡ Some n = key_get key rows k d lt ∙ tells (get_or rows k d) e in
    let same : k ≡ p = same_place n k p ms mark rise ((are n k).1 has) under in
    both_ways _ (ap (λ (i : ℕ). test (get_or rows i d)) same ∙ fails d) e))

number_state : (n : ℕ) (s : RowState) → has_number n s ≡ true → number_of s ≡ Some n
number_state n Undefined e = absurd (both_ways false refl e)
number_state n (Starting p k) e = ap (λ (m : ℕ). Some m) (eqb-true p n e)
number_state n (Up p) e = ap (λ (m : ℕ). Some m) (eqb-true p n e)
number_state n (Asked p t) e = ap (λ (m : ℕ). Some m) (eqb-true p n e)
number_state n (Killed p) e = ap (λ (m : ℕ). Some m) (eqb-true p n e)
number_state n (Restarting k) e = ap (λ (m : ℕ). Some m) (eqb-true k n e)

process_state : (n : ℕ) (s : RowState) → has_process n s ≡ true → number_of s ≡ Some n
process_state n Undefined e = absurd (both_ways false refl e)
process_state n (Starting p k) e = ap (λ (m : ℕ). Some m) (eqb-true p n e)
process_state n (Up p) e = ap (λ (m : ℕ). Some m) (eqb-true p n e)
process_state n (Asked p t) e = ap (λ (m : ℕ). Some m) (eqb-true p n e)
process_state n (Killed p) e = ap (λ (m : ℕ). Some m) (eqb-true p n e)
process_state n (Restarting k) e = absurd (both_ways false refl e)

retry_state : (n : ℕ) (s : RowState) → awaits_retry n s ≡ true → number_of s ≡ Some n
retry_state n Undefined e = absurd (both_ways false refl e)
retry_state n (Starting p k) e = absurd (both_ways false refl e)
retry_state n (Up p) e = absurd (both_ways false refl e)
retry_state n (Asked p t) e = absurd (both_ways false refl e)
retry_state n (Killed p) e = absurd (both_ways false refl e)
retry_state n (Restarting k) e = ap (λ (m : ℕ). Some m) (eqb-true k n e)

pub number_tells : (n : ℕ) → Tells number_key (row_has (has_number n)) n
number_tells n row e = number_state n row.state e

pub process_tells : (n : ℕ) → Tells number_key (row_has (has_process n)) n
process_tells n row e = process_state n row.state e

pub retry_tells : (n : ℕ) → Tells number_key (row_has (awaits_retry n)) n
retry_tells n row e = retry_state n row.state e

same_print : (one other : Name) → bytes_eq (name_bytes one) (name_bytes other) ≡ true → fingerprint one ≡ fingerprint other
unfolding fingerprint
same_print one other e = ap (λ (bytes : List ℕ). print_of FNV_START bytes) ((bytes_eq-Decides (name_bytes one) (name_bytes other)).0 e)

id_if : (id : Name) (other : Option Name) → option_eq (on name_bytes bytes_eq) other (Some id) ≡ true → print_if other ≡ Some (fingerprint id)
id_if id None e = absurd (both_ways false refl e)
id_if id (Some other) e = ap (λ (n : ℕ). Some n) (same_print other id e)

-- ids that are equal have one fingerprint
pub id_tells : (id : Name) → Tells id_key (has_id id) (fingerprint id)
id_tells id row e = id_if id row.id e

-- a state that has the number passes the test for it
pub numbered_passes : (n : ℕ) (s : RowState) → number_of s ≡ Some n → has_number n s ≡ true
numbered_passes n Undefined e = absurd (none_some n e)
numbered_passes n (Starting p k) e = eq-eqb p n (some_is p n e)
numbered_passes n (Up p) e = eq-eqb p n (some_is p n e)
numbered_passes n (Asked p t) e = eq-eqb p n (some_is p n e)
numbered_passes n (Killed p) e = eq-eqb p n (some_is p n e)
numbered_passes n (Restarting k) e = eq-eqb k n (some_is k n e)

pub marked_within : (key : Row → Option ℕ) (n p : ℕ) (rows : List Row) (ms : List Mark) → AreMarks (key_at key rows) ms → IsUnder n p ms → p < length rows
marked_within key n p rows ms are under = key_within key rows p n ((are n p).0 under)

-- the marks of rows with one more, the last
pub pushed_marks : (key : Row → Option ℕ) (rows all : List Row) (row : Row) (p : ℕ) (new : Option ℕ) (before after : List Mark) → all ≡ rows ++ row ∷ [] → p ≡ length rows → new ≡ key row → AreMarks (key_at key rows) before
    → IsChanged p None new before after → AreMarks (key_at key all) after
pushed_marks key rows all row p new before after is last has are changed =
    subst (λ (xs : List Row). AreMarks (key_at key xs) after) (sym is)
    (changed (key_at key rows) (key_at key (rows ++ row ∷ [])) are (ap (key_at key rows) last ∙ key_past key rows) (ap (key_at key (rows ++ row ∷ [])) last ∙ pushed_at key rows row ∙ sym has)
    (λ q other. pushed_other key rows row q (λ e. other (e ∙ sym last))))

-- of rows where one is another
pub set_marks : (key : Row → Option ℕ) (rows : List Row) (p : ℕ) (row : Row) (old new : Option ℕ) (before after : List Mark) → p < length rows → old ≡ key_at key rows p → new ≡ key row → AreMarks (key_at key rows) before
    → IsChanged p old new before after → AreMarks (key_at key (set rows p row)) after
set_marks key rows p row old new before after within had has are changed =
    changed (key_at key rows) (key_at key (set rows p row)) are (sym had) (set_at key rows p row within ∙ sym has) (λ q other. set_other key rows p row q other)

-- where one is another with the same key
pub kept_marks : (key : Row → Option ℕ) (rows : List Row) (p : ℕ) (row : Row) (ms : List Mark) → p < length rows → key row ≡ key (get_or rows p row) → AreMarks (key_at key rows) ms → AreMarks (key_at key (set rows p row)) ms
kept_marks key rows p row ms within same are =
    set_marks key rows p row (key_at key rows p) (key_at key rows p) ms ms within refl (key_get key rows p row within ∙ sym same) are (unchanged p (key_at key rows p) ms)

-- and of rows where one was taken out
pub removed_marks : (key : Row → Option ℕ) (rows all : List Row) (p : ℕ) (old : Option ℕ) (before after : List Mark) → all ≡ remove rows p → old ≡ key_at key rows p → AreMarks (key_at key rows) before
    → IsGone p old before after → AreMarks (key_at key all) after
removed_marks key rows all p old before after is had are gone =
    subst (λ (xs : List Row). AreMarks (key_at key xs) after) (sym is)
    (gone (key_at key rows) (key_at key (remove rows p)) are (sym had) (λ q lt. removed_below key rows p q lt) (λ q le. removed_above key rows p q le))

-- the same rows and marks
pub same_marks : (key : Row → Option ℕ) (rows all : List Row) (before after : List Mark) → all ≡ rows → after ≡ before → AreMarks (key_at key rows) before → AreMarks (key_at key all) after
same_marks key rows all before after same alike are =
    subst (λ (xs : List Row). AreMarks (key_at key xs) after) (sym same) (subst (λ (ms : List Mark). AreMarks (key_at key rows) ms) (sym alike) are)
