-- The child that has a process is the only one.
use Rattle.std.proofs.Common.{◌≡◌, ◌∙◌, ◌<◌, ◌≤◌, ℕ, List, None, Some, ap, arith, get_or, length, take}
use Rattle.std.specs.Prelude.{Bool, true, false, All, ◌+◌, cond, count_by, nat_lt, position, slice_get}
use Rattle.std.specs.List.{position_or_len, sum_by}
use Rattle.std.proofs.lemmas.Bool.{false_from_ne_true, lt-ltb}
use Rattle.std.proofs.lemmas.List.{get_or-take, length-take-le}
use Rattle.std.proofs.lemmas.List.Sums.{get_or-le-sum_by, position_or_len_is, sum_by_more_le}
use Rattle.std.proofs.lemmas.Option.{get_or_from_slice_get, slice_get_within}
use Rattle.otp_driver.proofs.DrivenChanged.{owned_after}
use Rattle.otp_rules.specs.Fit.{IsDistinct}
use Rattle.otp_rules.specs.Needs.{IsLawfulHistory, numbers_of}
use Rattle.otp_rules.specs.Processes.{ProcessesStayOwned}
use Rattle.otp_rules.specs.Run.{state_after}
use Rattle.otp_rules.specs.State.{State}
use Rattle.otp_rules.specs.declared.event.Event.{Event}
use Rattle.otp_table.specs.Rows.{has_process, row_has}
use Rattle.otp_table.specs.declared.row.Row.{Row}
use Rattle.otp_driver.specs.Members.{row_at, row_in}

abbrev bit : Bool → ℕ
bit b = cond b 1 0

one : (b : Bool) → b ≡ true → ◌≡◌ {A = ℕ} (bit b) 1
one b is = ap bit is

-- where one row at the most passes, none passes before one that does
none_before : (test : Row → Bool) (rows : List Row) (k j : ℕ) (row : Row) → count_by test rows ≤ 1 → k < length rows → test (get_or rows k row) ≡ true → j < k
    → test (get_or rows j row) ≡ false
none_before test rows k j row few inside passes before =
    let f : Row → ℕ = λ x. bit (test x) in
    let here : ◌≡◌ {A = ℕ} (f (get_or rows k row)) 1 = one (test (get_or rows k row)) passes in
    let all : sum_by f (take k rows) + f (get_or rows k row) ≤ sum_by f rows = sum_by_more_le f rows k row inside in
    let short : length (take k rows) ≡ k = length-take-le k rows (omega (arith, inside)) in
    let part : f (get_or (take k rows) j row) ≤ sum_by f (take k rows) = get_or-le-sum_by f (take k rows) j row (omega (arith, before, short)) in
    let same : get_or (take k rows) j row ≡ get_or rows j row = get_or-take k rows j row before in
    let there : f (get_or (take k rows) j row) ≡ f (get_or rows j row) = ap f same in
    false_from_ne_true (test (get_or rows j row)) (λ holds.
    let it : ◌≡◌ {A = ℕ} (f (get_or rows j row)) 1 = one (test (get_or rows j row)) holds in
    absurd (omega (arith, few, here, all, part, there, it)))

only_place : (test : Row → Bool) (rows : List Row) (k : ℕ) (row : Row) → count_by test rows ≤ 1 → slice_get rows k ≡ Some row → test row ≡ true → position test rows ≡ Some k
only_place test rows k row few at passes =
    let inside : k < length rows = slice_get_within rows k row at in
    let there : test (get_or rows k row) ≡ true = ap test (get_or_from_slice_get rows k row row at) ∙ passes in
    let first : position_or_len test rows ≡ k =
    position_or_len_is test rows k row (omega (arith, inside)) (λ j. none_before test rows k j row few inside there) (λ _. there) in
    ap (λ (i : ℕ). cond (nat_lt i (length rows)) (Some i) None) first ∙ ap (λ (b : Bool). cond b (Some k) None) (lt-ltb k (length rows) inside)

-- of a supervisor each of whose processes was one child's before its events, which give no number of these
pub only_row : ProcessesStayOwned → (base : State) (history : List Event) (given last k q : ℕ) (row : Row)
    → IsDistinct (given + 1) base → All (λ n. given < n) (numbers_of history)
    → IsLawfulHistory base history → given < last → All (λ n. n < last) (numbers_of history)
    → slice_get (state_after base history).rows k ≡ Some row → has_process q row.state ≡ true
    → row_at (state_after base history).rows q ≡ Some row
unfolding row_at
only_row owned base history given last k q row apart above lawful low numbers at passes =
    let here : IsDistinct last (state_after base history) = owned_after owned base history given last apart above lawful low numbers in
    ap (row_in (state_after base history).rows) (only_place (row_has (has_process q)) (state_after base history).rows k row (here.0 q) at passes) ∙ at
