-- The walk over what is still to stop, asked of rows and numbers without using an end.
use Rattle.std.specs.Prelude.{◌≡◌, ℕ, ◌+◌, ◌<◌, Bool, true, false, ◌==◌, ◌&&◌, List, [], ◌∷◌, ◌++◌, Some, refl, count_by, nat_le, reverse, slice_get}
use Rattle.std.specs.List.{list_all, cons_option}
use Rattle.std.proofs.Common.{◌∙◌, ap, sym, arith, cond}
use Rattle.std.proofs.lemmas.List.{reverse-append}
use Rattle.std.proofs.lemmas.Bool.{false≢true}
use Rattle.std.proofs.lemmas.List.Folds.{list_all-append}
use Rattle.std.proofs.lemmas.Option.{none-some, same_Some}
use Rattle.std.proofs.lemmas.List.Sums.{sum_by-append, sum_by-cons}
use Rattle.otp_reason.specs.declared.reason.Reason.{Reason}
use Rattle.otp_reason.specs.declared.note.Note.TheVariants as note
use Rattle.otp_rules.specs.declared.event.Item.TheVariants as item
use Rattle.otp_rules.specs.declared.event.Waiting.TheVariants as waiting
use Rattle.otp_table.specs.declared.row.Row.{Row}
use Rattle.otp_table.specs.declared.row.RowState.{RowState}
use Rattle.otp_table.specs.declared.row.RowState.TheVariants.{Undefined, Starting, Up, Asked, Killed, Restarting}
use Rattle.otp_table.specs.Rows.{up_number}
use Rattle.otp_rules.specs.declared.event.Waiting.{Waiting}
use Rattle.otp_rules.specs.Fit.{runs_as, times}
use Rattle.otp_rules.specs.Needs.{ends_wait}
use Rattle.otp_rules.specs.Restarts.{running}
use Rattle.otp_rules.specs.Stops.{is_exit}
use Rattle.otp_needs.specs.Ups.{ends_counted, passes}
use Rattle.otp_needs.proofs.Walk.{walk_counted}

count_state : (n : ℕ) (state : RowState) (numbers : List ℕ) → times n (cons_option (up_number state) numbers) ≡ cond (runs_as n state) 1 0 + times n numbers
count_state n Undefined numbers = omega arith
count_state n (Starting _ _) numbers = omega arith
count_state n (Up p) numbers = sum_by-cons (λ q. cond (q == n) 1 0) p numbers
count_state n (Asked _ _) numbers = omega arith
count_state n (Killed _) numbers = omega arith
count_state n (Restarting _) numbers = omega arith

-- so many children run under the number as the list of those that run names it
pub count_running : (n : ℕ) (rows : List Row) → count_by (λ row. runs_as n row.state) rows ≡ count_by (λ q. q == n) (running rows)
count_running n [] = refl
count_running n (row ∷ rows) =
    let rest : count_by (λ row. runs_as n row.state) rows ≡ times n (running rows) = count_running n rows in
    sum_by-cons (λ row. cond (runs_as n row.state) 1 0) row rows
    ∙ ap (λ k. cond (runs_as n row.state) 1 0 + k) rest
    ∙ sym (count_state n row.state (running rows))

all_state : (test : ℕ → Bool) (state : RowState) (numbers : List ℕ) → list_all test (cons_option (up_number state) numbers) ≡ (passes test (up_number state) && list_all test numbers)
all_state test Undefined numbers = refl
all_state test (Starting _ _) numbers = refl
all_state test (Up p) numbers = refl
all_state test (Asked _ _) numbers = refl
all_state test (Killed _) numbers = refl
all_state test (Restarting _) numbers = refl

-- a test of each child that runs is one of each number
all_running : (test : ℕ → Bool) (rows : List Row) → list_all (λ row. passes test (up_number row.state)) rows ≡ list_all test (running rows)
all_running test [] = refl
all_running test (row ∷ rows) = ap (λ b. passes test (up_number row.state) && b) (all_running test rows) ∙ sym (all_state test row.state (running rows))

pub all_same : {X : Type 0} (p q : X → Bool) (xs : List X) → ((x : X) → p x ≡ q x) → list_all p xs ≡ list_all q xs
all_same p q [] h = refl
all_same p q (x ∷ xs) h = ap (λ b. b && list_all p xs) (h x) ∙ ap (λ b. q x && b) (all_same p q xs h)

-- how many of both lists of children run under the number
abbrev both_up : List Row → List Row → ℕ → ℕ
both_up front back p = count_by (λ row. runs_as p row.state) front + count_by (λ row. runs_as p row.state) back

both_counted : (front back : List Row) (p : ℕ) → both_up front back p ≡ times p (running front ++ running back)
both_counted front back p =
    ap (λ k. k + count_by (λ row. runs_as p row.state) back) (count_running p front)
    ∙ ap (λ k. times p (running front) + k) (count_running p back)
    ∙ sym (sum_by-append (λ q. cond (q == p) 1 0) (running front) (running back))

-- ends for two lists of children, one after another
pub ends_for_both : (front back : List Row) (items : List Waiting) →
    (list_all (λ row. passes (λ p. nat_le (both_up front back p) (count_by (is_exit p) items)) (up_number row.state)) front
    && list_all (λ row. passes (λ p. nat_le (both_up front back p) (count_by (is_exit p) items)) (up_number row.state)) back)
    ≡ ends_wait (running front ++ running back) items
ends_for_both front back items =
    let enough : ℕ → Bool = λ p. nat_le (both_up front back p) (count_by (is_exit p) items) in
    let wanted : ℕ → Bool = λ p. nat_le (times p (running front ++ running back)) (count_by (is_exit p) items) in
    ap (λ b. b && list_all (λ row. passes enough (up_number row.state)) back) (all_running enough front)
    ∙ ap (λ b. list_all enough (running front) && b) (all_running enough back)
    ∙ sym (list_all-append enough (running front) (running back))
    ∙ all_same enough wanted (running front ++ running back) (λ p. ap (λ k. nat_le k (count_by (is_exit p) items)) (both_counted front back p))
    ∙ sym (walk_counted (running front ++ running back) items)

-- each of these children has ended
abbrev each_ended : List Row → List Row → List Row → List Waiting → Bool
each_ended rows front back items = list_all (λ row. passes (λ p. nat_le (both_up front back p) (count_by (is_exit p) items)) (up_number row.state)) rows

then_both : (x y z : Bool) → (x && y) ≡ z → x ≡ true → y ≡ z
then_both true y z h e = h
then_both false y z h e = absurd (false≢true e)

else_both : (x y z : Bool) → (x && y) ≡ z → x ≡ false → x ≡ z
else_both true y z h e = absurd (false≢true (sym e))
else_both false y z h e = h

pub ends_then : (front back : List Row) (items : List Waiting) (x y : Bool) → x ≡ each_ended front front back items → y ≡ each_ended back front back items
    → x ≡ true → y ≡ ends_wait (running front ++ running back) items
ends_then front back items x y h k e =
    then_both x y (ends_wait (running front ++ running back) items) (ap (λ b. b && y) h ∙ ap (λ b. each_ended front front back items && b) k ∙ ends_for_both front back items) e

pub ends_else : (front back : List Row) (items : List Waiting) (x : Bool) → x ≡ each_ended front front back items → x ≡ false → x ≡ ends_wait (running front ++ running back) items
ends_else front back items x h e =
    else_both x (each_ended back front back items) (ends_wait (running front ++ running back) items) (ap (λ b. b && each_ended back front back items) h ∙ ends_for_both front back items) e

count_reversed : (n : ℕ) (numbers : List ℕ) → times n (reverse numbers) ≡ times n numbers
count_reversed n [] = refl
count_reversed n (p ∷ ps) =
    let rest : times n (reverse ps) ≡ times n ps = count_reversed n ps in
    let last : times n (reverse ps ++ p ∷ []) ≡ times n (reverse ps) + times n (p ∷ []) = sum_by-append (λ q. cond (q == n) 1 0) (reverse ps) (p ∷ []) in
    let one : times n (p ∷ []) ≡ cond (p == n) 1 0 + times n [] = sum_by-cons (λ q. cond (q == n) 1 0) p [] in
    let all : times n (p ∷ ps) ≡ cond (p == n) 1 0 + times n ps = sum_by-cons (λ q. cond (q == n) 1 0) p ps in
    ap (λ xs. times n xs) (reverse-append (p ∷ []) ps) ∙ omega (arith, rest, last, one, all)

and_swap : (a b : Bool) → (a && b) ≡ (b && a)
and_swap true true = refl
and_swap true false = refl
and_swap false true = refl
and_swap false false = refl

and_true : (a : Bool) → (a && true) ≡ a
and_true true = refl
and_true false = refl

all_reversed : (test : ℕ → Bool) (numbers : List ℕ) → list_all test (reverse numbers) ≡ list_all test numbers
all_reversed test [] = refl
all_reversed test (p ∷ ps) =
    ap (λ xs. list_all test xs) (reverse-append (p ∷ []) ps)
    ∙ list_all-append test (reverse ps) (p ∷ [])
    ∙ ap (λ b. b && (test p && true)) (all_reversed test ps)
    ∙ ap (λ b. list_all test ps && b) (and_true (test p))
    ∙ and_swap (list_all test ps) (test p)

-- in whatever order the processes are stopped
pub ends_reversed : (numbers : List ℕ) (items : List Waiting) → ends_wait (reverse numbers) items ≡ ends_counted numbers items
ends_reversed numbers items =
    let wanted : ℕ → Bool = λ p. nat_le (times p (reverse numbers)) (count_by (is_exit p) items) in
    let asked : ℕ → Bool = λ p. nat_le (times p numbers) (count_by (is_exit p) items) in
    walk_counted (reverse numbers) items ∙ all_reversed wanted numbers ∙ all_same wanted asked numbers (λ p. ap (λ k. nat_le k (count_by (is_exit p) items)) (count_reversed p numbers))

-- an end of q that comes last is one more of q
exits_with : (p q : ℕ) (r : Reason) (items : List Waiting) → count_by (is_exit p) (items ++ waiting.Item (item.Note (note.Exit q r)) ∷ []) ≡ count_by (is_exit p) items + cond (q == p) 1 0
exits_with p q r items =
    let last : Waiting = waiting.Item (item.Note (note.Exit q r)) in
    let one : count_by (is_exit p) (last ∷ []) ≡ cond (q == p) 1 0 + count_by (is_exit p) [] = sum_by-cons (λ x. cond (is_exit p x) 1 0) last [] in
    let none : count_by (is_exit p) [] ≡ 0 = refl in
    sum_by-append (λ x. cond (is_exit p x) 1 0) items (last ∷ []) ∙ ap (λ k. count_by (is_exit p) items + k) (one ∙ omega (arith, none))

pub ends_with_last : (numbers : List ℕ) (q : ℕ) (r : Reason) (items : List Waiting) →
    list_all (λ p. nat_le (count_by (λ q. q == p) numbers) (count_by (is_exit p) items + cond (q == p) 1 0)) numbers
    ≡ ends_wait (reverse numbers) (items ++ waiting.Item (item.Note (note.Exit q r)) ∷ [])
ends_with_last numbers q r items =
    let all : List Waiting = items ++ waiting.Item (item.Note (note.Exit q r)) ∷ [] in
    all_same (λ p. nat_le (times p numbers) (count_by (is_exit p) items + cond (q == p) 1 0)) (λ p. nat_le (times p numbers) (count_by (is_exit p) all)) numbers
    (λ p. ap (λ k. nat_le (times p numbers) k) (sym (exits_with p q r items)))
    ∙ sym (ends_reversed numbers all)

-- an end that waits first is counted
pub first_counted : (p : ℕ) (items : List Waiting) (x : Waiting) → slice_get items 0 ≡ Some x → is_exit p x ≡ true → 0 < count_by (is_exit p) items
first_counted p [] x h e = absurd (none-some x h)
first_counted p (y ∷ ys) x h e =
    let one : ◌≡◌ {A = ℕ} (cond (is_exit p y) 1 0) 1 = ap (λ (b : Bool). cond {A = ℕ} b 1 0) (ap (is_exit p) (same_Some y x h) ∙ e) in
    omega (arith, one, sum_by-cons (λ z. cond (is_exit p z) 1 0) y ys)
