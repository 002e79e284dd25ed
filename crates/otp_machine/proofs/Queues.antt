-- Kept items that wait, and their calls.
use Rattle.std.proofs.Common.{◌≡◌, ℕ, ◌+◌, ◌-◌, ◌<◌, ◌≤◌, ◌++◌, List, [], ◌∷◌, ◌∙◌, None, Option, Some, ap, arith, cond, drop, get_or, length, refl, subst, suc, sym, take, zero}
use Rattle.std.specs.Prelude.{Bool, true, false, count_by, nat_lt, not, position, remove}
use Rattle.std.specs.List.{cons_option, filter_map, position_or_len}
use Rattle.std.proofs.lemmas.Bool.{false≢true}
use Rattle.std.proofs.lemmas.List.{get_or_append_left, length-append, length-drop, take_more}
use Rattle.std.proofs.lemmas.List.Quantifiers.{position-Some}
use Rattle.std.proofs.lemmas.List.Sums.{sum_by-append, sum_by-cons, sum_by-remove, sum_by-take-drop}
use Rattle.std.proofs.Math.Seq.{drop-append_seam, drop-nil}
use Rattle.otp_rules.specs.declared.call.Call.{Call}
use Rattle.otp_rules.specs.declared.call.Call.TheVariants as call
use Rattle.otp_rules.specs.declared.event.Item.TheVariants as item
use Rattle.otp_rules.specs.declared.event.Waiting.{Waiting}
use Rattle.otp_rules.specs.declared.event.Waiting.TheVariants as waiting
use Rattle.otp_rules.specs.Ends.{refusal, refused}
use Rattle.otp_rules.specs.Stops.{is_exit}
use Rattle.otp_rules.specs.Cuts.{is_call_of}
use Rattle.std.specs.List.{list_any}
use Rattle.std.specs.Prelude.{◌||◌, ◌==◌}
use Rattle.otp_machine.specs.declared.stores.waits.ShortItem.{ShortItem}
use Rattle.otp_machine.specs.declared.stores.waits.ShortItem.TheVariants as short
use Rattle.otp_machine.specs.WaitsInside.{calls_behind, calls_of, is_call, short_item, whole_item, whole_items}

abbrev pub count_calls : List ShortItem → ℕ
count_calls xs = count_by is_call xs

count-cons : (x : ShortItem) (xs : List ShortItem) → count_calls (x ∷ xs) ≡ cond (is_call x) 1 0 + count_calls xs
count-cons x xs = sum_by-cons (λ y. cond (is_call y) 1 0) x xs

pub length_whole : (xs : List ShortItem) (cs : List Call) → length (whole_items xs cs) ≡ length xs
length_whole [] cs = refl
length_whole (x ∷ xs) cs = ap suc (length_whole xs (calls_behind x cs))

same_drop : (n m : ℕ) (cs : List Call) → n ≡ m → drop n cs ≡ drop m cs
same_drop n m cs h = ap (λ (k : ℕ). drop k cs) h

-- the calls of those behind others are those after the others' calls
dropped : (x : ShortItem) (n : ℕ) (cs : List Call) → drop n (calls_behind x cs) ≡ drop (cond (is_call x) 1 0 + n) cs
dropped (short.Note _) n cs = same_drop n (0 + n) cs (omega arith)
dropped (short.Retry _) n cs = same_drop n (0 + n) cs (omega arith)
dropped (short.Call _) n [] = drop-nil n ∙ sym (drop-nil (1 + n))
dropped (short.Call _) n (c ∷ cs) = same_drop (suc n) (1 + n) (c ∷ cs) (omega arith)

whole-append : (xs ys : List ShortItem) (cs : List Call) → whole_items (xs ++ ys) cs ≡ whole_items xs cs ++ whole_items ys (drop (count_calls xs) cs)
whole-append [] ys cs = refl
whole-append (x ∷ xs) ys cs =
    ap (λ (rest : List Waiting). whole_item x cs ∷ rest)
    (whole-append xs ys (calls_behind x cs)
    ∙ ap (λ (ds : List Call). whole_items xs (calls_behind x cs) ++ whole_items ys ds)
    (dropped x (count_calls xs) cs ∙ ap (λ (n : ℕ). drop n cs) (sym (count-cons x xs))))

-- calls that come later are no matter to those that have theirs
same_item : (x : ShortItem) (cs more : List Call) → cond (is_call x) 1 0 ≤ length cs → whole_item x (cs ++ more) ≡ whole_item x cs
same_item (short.Note _) cs more h = refl
same_item (short.Retry _) cs more h = refl
same_item (short.Call n) cs more h = ap (λ (c : Call). waiting.Item (item.Call n c)) (get_or_append_left cs more call.WhichChildren 0 (omega (arith, h)))

behind-append : (x : ShortItem) (cs more : List Call) → cond (is_call x) 1 0 ≤ length cs → calls_behind x (cs ++ more) ≡ calls_behind x cs ++ more
behind-append (short.Note _) cs more h = refl
behind-append (short.Retry _) cs more h = refl
behind-append (short.Call n) [] more h = absurd (omega (arith, h))
behind-append (short.Call n) (c ∷ cs) more h = refl

less_none : (n : ℕ) → n ≡ n - 0
less_none n = omega arith

length-behind : (x : ShortItem) (cs : List Call) → length (calls_behind x cs) ≡ length cs - cond (is_call x) 1 0
length-behind (short.Note _) cs = less_none (length cs)
length-behind (short.Retry _) cs = less_none (length cs)
length-behind (short.Call n) cs = length-drop 1 cs

whole_with_more : (xs : List ShortItem) (cs more : List Call) → count_calls xs ≤ length cs → whole_items xs (cs ++ more) ≡ whole_items xs cs
whole_with_more [] cs more h = refl
whole_with_more (x ∷ xs) cs more h =
    let enough : cond (is_call x) 1 0 + count_calls xs ≤ length cs = subst (λ (n : ℕ). n ≤ length cs) (count-cons x xs) h in
    let one : cond (is_call x) 1 0 ≤ length cs = omega (arith, enough) in
    let rest : count_calls xs ≤ length (calls_behind x cs) = omega (arith, enough, length-behind x cs) in
    ap (λ (y : Waiting). y ∷ whole_items xs (calls_behind x (cs ++ more))) (same_item x cs more one)
    ∙ ap (λ (ds : List Call). whole_item x cs ∷ whole_items xs ds) (behind-append x cs more one)
    ∙ ap (λ (ys : List Waiting). whole_item x cs ∷ ys) (whole_with_more xs (calls_behind x cs) more rest)

whole_short : (x : Waiting) → whole_item (short_item x) (calls_of x) ≡ x
whole_short (waiting.Item (item.Note n)) = refl
whole_short (waiting.Item (item.Call n c)) = refl
whole_short (waiting.Retry k) = refl

one_call : (x : Waiting) → cond (is_call (short_item x)) 1 0 ≡ length (calls_of x)
one_call (waiting.Item (item.Note n)) = refl
one_call (waiting.Item (item.Call n c)) = refl
one_call (waiting.Retry k) = refl

-- one item more
pub pushed : (xs : List ShortItem) (cs : List Call) (x : Waiting) → count_calls xs ≡ length cs → whole_items (xs ++ short_item x ∷ []) (cs ++ calls_of x) ≡ whole_items xs cs ++ x ∷ []
pushed xs cs x h =
    whole-append xs (short_item x ∷ []) (cs ++ calls_of x)
    ∙ ap (λ (ys : List Waiting). ys ++ whole_items (short_item x ∷ []) (drop (count_calls xs) (cs ++ calls_of x))) (whole_with_more xs cs (calls_of x) (omega (arith, h)))
    ∙ ap (λ (ds : List Call). whole_items xs cs ++ whole_item (short_item x) ds ∷ []) (ap (λ (n : ℕ). drop n (cs ++ calls_of x)) h ∙ drop-append_seam cs (calls_of x))
    ∙ ap (λ (y : Waiting). whole_items xs cs ++ y ∷ []) (whole_short x)

pub calls_pushed : (xs : List ShortItem) (cs : List Call) (x : Waiting) → count_calls xs ≡ length cs → count_calls (xs ++ short_item x ∷ []) ≡ length (cs ++ calls_of x)
calls_pushed xs cs x h =
    let none : count_calls [] ≡ 0 = refl in
    let both : count_calls (xs ++ short_item x ∷ []) ≡ count_calls xs + count_calls (short_item x ∷ []) = sum_by-append (λ y. cond (is_call y) 1 0) xs (short_item x ∷ []) in
    omega (arith, none, both, count-cons (short_item x) [], one_call x, h, length-append cs (calls_of x))

-- one item more of those from the first on, with its call
pub whole_more : (xs : List ShortItem) (cs : List Call) (i : ℕ) (d : ShortItem) → i < length xs →
    whole_items (take (i + 1) xs) cs ≡ whole_items (take i xs) cs ++ whole_item (get_or xs i d) (drop (count_calls (take i xs)) cs) ∷ []
whole_more xs cs i d within = ap (λ (ys : List ShortItem). whole_items ys cs) (take_more xs i d within) ∙ whole-append (take i xs) (get_or xs i d ∷ []) cs

-- and the calls among them
pub calls_more : (xs : List ShortItem) (i : ℕ) (d : ShortItem) → i < length xs → count_calls (take (i + 1) xs) ≡ count_calls (take i xs) + cond (is_call (get_or xs i d)) 1 0
calls_more xs i d within =
    let none : count_calls [] ≡ 0 = refl in
    let both : count_calls (take i xs ++ get_or xs i d ∷ []) ≡ count_calls (take i xs) + count_calls (get_or xs i d ∷ []) = sum_by-append (λ y. cond (is_call y) 1 0) (take i xs) (get_or xs i d ∷ []) in
    omega (arith, ap (λ (ys : List ShortItem). count_calls ys) (take_more xs i d within), both, count-cons (get_or xs i d) [], none)

-- where the item is a call, a call is left for it
pub call_left : (xs : List ShortItem) (i : ℕ) (d : ShortItem) → i < length xs → is_call (get_or xs i d) ≡ true → count_calls (take i xs) < count_calls xs
call_left xs i d within call =
    let one : ◌≡◌ {A = ℕ} (cond (is_call (get_or xs i d)) 1 0) 1 = ap (λ (b : Bool). cond {A = ℕ} b 1 0) call in
    omega (arith, calls_more xs i d within, sum_by-take-drop (λ y. cond (is_call y) 1 0) xs (i + 1), one)

-- what doesn't look at what a call asks is seen without it
seen_from : (test : Waiting → Bool) (xs : List ShortItem) (cs : List Call) → ((x : ShortItem) (ds : List Call) → test (whole_item x ds) ≡ test (whole_item x []))
    → position_or_len test (whole_items xs cs) ≡ position_or_len (λ x. test (whole_item x [])) xs
seen_from test [] cs blind = refl
seen_from test (x ∷ xs) cs blind =
    ap (λ (b : Bool). cond (not b) (1 + position_or_len test (whole_items xs (calls_behind x cs))) 0) (blind x cs)
    ∙ ap (λ (n : ℕ). cond (not (test (whole_item x []))) (1 + n) 0) (seen_from test xs (calls_behind x cs) blind)

counted : (test : Waiting → Bool) (xs : List ShortItem) (cs : List Call) → ((x : ShortItem) (ds : List Call) → test (whole_item x ds) ≡ test (whole_item x []))
    → count_by test (whole_items xs cs) ≡ count_by (λ x. test (whole_item x [])) xs
counted test [] cs blind = refl
counted test (x ∷ xs) cs blind =
    sum_by-cons (λ y. cond (test y) 1 0) (whole_item x cs) (whole_items xs (calls_behind x cs))
    ∙ ap (λ (b : Bool). cond b 1 0 + count_by test (whole_items xs (calls_behind x cs))) (blind x cs)
    ∙ ap (λ (n : ℕ). cond (test (whole_item x [])) 1 0 + n) (counted test xs (calls_behind x cs) blind)
    ∙ sym (sum_by-cons (λ y. cond (test (whole_item y [])) 1 0) x xs)

pub given : {Y : Type 0} (give : Waiting → Option Y) (xs : List ShortItem) (cs : List Call) → ((x : ShortItem) (ds : List Call) → give (whole_item x ds) ≡ give (whole_item x []))
    → filter_map give (whole_items xs cs) ≡ filter_map (λ x. give (whole_item x [])) xs
given {Y} give [] cs blind = refl
given {Y} give (x ∷ xs) cs blind =
    ap (λ (o : Option Y). cons_option o (filter_map give (whole_items xs (calls_behind x cs)))) (blind x cs)
    ∙ ap (λ (ys : List Y). cons_option (give (whole_item x [])) ys) (given give xs (calls_behind x cs) blind)

exit_seen : (p : ℕ) (x : ShortItem) (ds : List Call) → is_exit p (whole_item x ds) ≡ is_exit p (whole_item x [])
exit_seen p (short.Note _) ds = refl
exit_seen p (short.Call _) ds = refl
exit_seen p (short.Retry _) ds = refl

pub refused_seen : (x : ShortItem) (ds : List Call) → refused (whole_item x ds) ≡ refused (whole_item x [])
refused_seen (short.Note _) ds = refl
refused_seen (short.Call _) ds = refl
refused_seen (short.Retry _) ds = refl

pub refusal_seen : (x : ShortItem) (ds : List Call) → refusal (whole_item x ds) ≡ refusal (whole_item x [])
refusal_seen (short.Note _) ds = refl
refusal_seen (short.Call _) ds = refl
refusal_seen (short.Retry _) ds = refl

pub exits_counted : (p : ℕ) (xs : List ShortItem) (cs : List Call) → count_by (is_exit p) (whole_items xs cs) ≡ count_by (λ x. is_exit p (whole_item x [])) xs
exits_counted p xs cs = counted (is_exit p) xs cs (exit_seen p)

pub exit_found : (p : ℕ) (xs : List ShortItem) (cs : List Call) → position (is_exit p) (whole_items xs cs) ≡ position (λ x. is_exit p (whole_item x [])) xs
exit_found p xs cs =
    let i : ℕ = position_or_len (is_exit p) (whole_items xs cs) in
    ap (λ (n : ℕ). cond (nat_lt i n) (Some i) None) (length_whole xs cs)
    ∙ ap (λ (j : ℕ). cond (nat_lt j (length xs)) (Some j) None) (seen_from (is_exit p) xs cs (exit_seen p))

-- an end of a process is no call
no_call : (p : ℕ) (x : ShortItem) → is_exit p (whole_item x []) ≡ true → is_call x ≡ false
no_call p (short.Note _) h = refl
no_call p (short.Retry _) h = refl
no_call p (short.Call _) h = absurd (false≢true h)

same_behind : (x : ShortItem) (cs : List Call) → is_call x ≡ false → calls_behind x cs ≡ cs
same_behind (short.Note _) cs h = refl
same_behind (short.Retry _) cs h = refl
same_behind (short.Call _) cs h = absurd (false≢true (sym h))

-- where an item that is no call is taken, the calls stay as they are
left_at : (xs : List ShortItem) (cs : List Call) (i : ℕ) (d : ShortItem) → i < length xs → is_call (get_or xs i d) ≡ false → whole_items (remove xs i) cs ≡ remove (whole_items xs cs) i
left_at [] cs i d within h = absurd (omega (arith, within))
left_at (x ∷ xs) cs zero d within h = ap (λ (ds : List Call). whole_items xs ds) (sym (same_behind x cs h))
left_at (x ∷ xs) cs (suc i) d within h = ap (λ (ys : List Waiting). whole_item x cs ∷ ys) (left_at xs (calls_behind x cs) i d (omega (arith, within)) h)

-- an end of a process is taken
pub exit_taken : (p : ℕ) (xs : List ShortItem) (cs : List Call) (place : ℕ) → position (is_exit p) (whole_items xs cs) ≡ Some place →
    (place < length xs) × (count_calls (remove xs place) ≡ count_calls xs) × (whole_items (remove xs place) cs ≡ remove (whole_items xs cs) place)
exit_taken p xs cs place h =
    let d : ShortItem = short.Retry 0 in
    let at = position-Some (λ x. is_exit p (whole_item x [])) xs place d (sym (exit_found p xs cs) ∙ h) in
    let other : is_call (get_or xs place d) ≡ false = no_call p (get_or xs place d) at.1 in
    let one : ◌≡◌ {A = ℕ} (cond (is_call (get_or xs place d)) 1 0) 0 = ap (λ (b : Bool). cond {A = ℕ} b 1 0) other in
    let few : count_calls (remove xs place) + cond (is_call (get_or xs place d)) 1 0 ≡ count_calls xs = sum_by-remove (λ y. cond (is_call y) 1 0) xs place d at.0 in
    (at.0, omega (arith, one, few), left_at xs cs place d at.0 other)

pub calls_found : (n : ℕ) (xs : List ShortItem) (cs : List Call) → list_any (is_call_of n) (whole_items xs cs) ≡ list_any (λ x. is_call_of n (whole_item x [])) xs
calls_found n [] cs = refl
calls_found n (short.Note _ ∷ xs) cs = calls_found n xs cs
calls_found n (short.Retry _ ∷ xs) cs = calls_found n xs cs
calls_found n (short.Call m ∷ xs) cs = ap (λ (b : Bool). (m == n) || b) (calls_found n xs (drop 1 cs))
