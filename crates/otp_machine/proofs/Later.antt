-- The first row that passes a test, where none of the first does.
use Rattle.std.proofs.Common.{◌≡◌, ℕ, ◌+◌, ◌-◌, ◌<◌, ◌≤◌, List, [], ◌∷◌, ◌∙◌, None, Option, Some, ap, arith, cond, drop, get_or, inl, inr, length, length-drop, refl, suc, sym, take, zero}
use Rattle.std.specs.Prelude.{Bool, true, false, not, nat_lt, option_map, position}
use Rattle.std.specs.List.{position_or_len}
use Rattle.std.proofs.lemmas.Bool.{and_parts, both_ways, cases_lt, false_from_ne_true, le-ltb, lt-ltb}
use Rattle.std.proofs.lemmas.List.{get_or-drop, take_all}
use Rattle.std.proofs.lemmas.List.Sums.{fails_before_first, passes_at_first, position_or_len_is, prefix_len-le-length}
use Rattle.otp_rules.specs.declared.work.Due.{Due}
use Rattle.otp_rules.specs.Starts.{is_due}
use Rattle.otp_table.specs.declared.row.Row.{Row}
use Rattle.otp_table.specs.Rows.{AreDefined, is_undefined}

later_at : (test : Row → Bool) (rows : List Row) (n : ℕ) (d : Row) → n ≤ length rows → ((k : ℕ) → k < n → test (get_or rows k d) ≡ false) → position_or_len test rows ≡ n + position_or_len test (drop n rows)
later_at test rows n d within fails =
    let j : ℕ = position_or_len test (drop n rows) in
    let long : length (drop n rows) ≡ length rows - n = length-drop n rows in
    let few : j ≤ length (drop n rows) = prefix_len-le-length (λ x. not (test x)) (drop n rows) in
    position_or_len_is test rows (n + j) d (omega (arith, within, long, few))
    (λ k lt. elim (cases_lt k n) [
      | inl early ↦ fails k early
      | inr late ↦ let at : n + (k - n) ≡ k = omega (arith, late) in
          sym (ap test (get_or-drop n rows (k - n) d ∙ ap (λ (i : ℕ). get_or rows i d) at)) ∙ fails_before_first test (drop n rows) (k - n) d (omega (arith, lt, late))
    ])
    (λ lt. sym (ap test (get_or-drop n rows j d)) ∙ passes_at_first test (drop n rows) d (omega (arith, lt, long)))

same_test : (i j n m : ℕ) → i ≡ n + j → (j < m → i < n + m) → (i < n + m → j < m) → nat_lt i (n + m) ≡ nat_lt j m
same_test i j n m is one other =
    elim (cases_lt j m) [
      | inl lt ↦ lt-ltb i (n + m) (one lt) ∙ sym (lt-ltb j m lt)
      | inr ge ↦ le-ltb i (n + m) (omega (arith, is, ge)) ∙ sym (le-ltb j m ge)
    ]

mapped : (b : Bool) (n i j : ℕ) → i ≡ n + j → cond b (Some i) None ≡ option_map (λ (k : ℕ). n + k) (cond b (Some j) None)
mapped true n i j is = ap (λ (k : ℕ). Some k) is
mapped false n i j is = refl

moved_on : (test : Row → Bool) (rows : List Row) (n : ℕ) → n ≤ length rows → position_or_len test rows ≡ n + position_or_len test (drop n rows) → position test rows ≡ option_map (λ (k : ℕ). n + k) (position test (drop n rows))
moved_on test rows n within is =
    let i : ℕ = position_or_len test rows in
    let j : ℕ = position_or_len test (drop n rows) in
    let long : length rows ≡ n + length (drop n rows) = omega (arith, length-drop n rows, within) in
    ap (λ (m : ℕ). cond (nat_lt i m) (Some i) None) long
    ∙ ap (λ (b : Bool). cond b (Some i) None) (same_test i j n (length (drop n rows)) is (λ lt. omega (arith, lt, is)) (λ lt. omega (arith, lt, is)))
    ∙ mapped (nat_lt j (length (drop n rows))) n i j is

not_due : (due : Due) (row : Row) → is_undefined row.state ≡ false → is_due due row ≡ false
not_due due row defined = false_from_ne_true _ (λ e. both_ways _ defined (and_parts _ _ e).1)

-- the first row to start is the first of those after rows that have a process
pub due_later : (due : Due) (rows : List Row) (n : ℕ) → n ≤ length rows → AreDefined n rows → position (is_due due) rows ≡ option_map (λ (k : ℕ). n + k) (position (is_due due) (drop n rows))
due_later due [] zero within defined = moved_on (is_due due) [] zero within refl
due_later due [] (suc n) within defined = absurd (omega (arith, within))
due_later due (row ∷ rows) n within defined =
    moved_on (is_due due) (row ∷ rows) n within
    (later_at (is_due due) (row ∷ rows) n row within (λ k lt. not_due due (get_or (row ∷ rows) k row) (defined k row lt (omega (arith, lt, within)))))

-- so it is found where only those after them are looked at
pub found_later : (due : Due) (rows : List Row) (defined n : ℕ) (found : Option ℕ) → (n ≤ length rows) × (n ≤ defined) → AreDefined defined rows → found ≡ position (is_due due) (take (length rows - n) (drop n rows))
    → option_map (λ (k : ℕ). n + k) found ≡ position (is_due due) rows
found_later due rows defined n found few are is =
    let rest : take (length rows - n) (drop n rows) ≡ drop n rows = take_all (length rows - n) (drop n rows) (omega (arith, length-drop n rows)) in
    ap (λ (o : Option ℕ). option_map (λ (k : ℕ). n + k) o) (is ∙ ap (λ (xs : List Row). position (is_due due) xs) rest) ∙ sym (due_later due rows n few.0 (λ k d lt w. are k d (omega (arith, lt, few.1)) w))
