-- What came in its order, and as often as it was sent, is what was sent.
use Rattle.std.proofs.Common.{◌≡◌, ℕ, zero, suc, ◌≤◌, true, false, Bool, List, [], ◌∷◌, length, length-append, append-nil, refl, ap, sym, ◌∙◌, arith}
use Rattle.std.specs.Prelude.{sum_by}
use Rattle.std.proofs.lemmas.List.Sums.{sum_by-cons}
use Rattle.otp_inbox.specs.Lists.{AsOften, InOrder, EachInOrder, chosen}
use Rattle.otp_inbox.specs.Tokens.{SenderState, all_sent, sent_lists}
use Rattle.otp_uses.specs.Numbers.{numbers_below, SentAll}

chosen_few : (mask : List Bool) (ys : List ℕ) → length (chosen mask ys) ≤ length ys
chosen_few [] ys = omega arith
chosen_few (b ∷ bs) [] = omega arith
chosen_few (true ∷ bs) (y ∷ ys) = let f = chosen_few bs ys in omega arith
chosen_few (false ∷ bs) (y ∷ ys) = let f = chosen_few bs ys in omega arith

chosen_all : (mask : List Bool) (ys : List ℕ) → length mask ≡ length ys → length (chosen mask ys) ≡ length ys → chosen mask ys ≡ ys
chosen_all [] [] l e = refl
chosen_all [] (y ∷ ys) l e = absurd (omega arith)
chosen_all (b ∷ bs) [] l e = refl
chosen_all (true ∷ bs) (y ∷ ys) l e = ap (λ zs. y ∷ zs) (chosen_all bs ys (omega arith) (omega arith))
chosen_all (false ∷ bs) (y ∷ ys) l e = absurd (let f = chosen_few bs ys in omega arith)

pub whole : (xs ys : List ℕ) → InOrder xs ys → length xs ≡ length ys → ys ≡ xs
whole xs ys o l = sym (chosen_all o.0 ys o.1 (ap (λ zs. length zs) o.2 ∙ l)) ∙ o.2

ones : (xs : List ℕ) → sum_by (λ (x : ℕ). 1) xs ≡ length xs
ones [] = refl
ones (x ∷ xs) = let o = ones xs in let c = sum_by-cons (λ (x : ℕ). 1) x xs in omega arith

pub as_long : (xs ys : List ℕ) → AsOften xs ys → length xs ≡ length ys
as_long xs ys o = sym (ones xs) ∙ o (λ x. 1) ∙ ones ys

pub count_below : (n : ℕ) → length (numbers_below n) ≡ n
count_below zero = refl
count_below (suc n) = length-append (numbers_below n) (n ∷ []) ∙ (let c = count_below n in omega arith)

pub count_sent : (inbox count : ℕ) (sender : SenderState ℕ) → SentAll inbox count sender → length (all_sent sender) ≡ count
count_sent inbox count sender s = ap (λ v. length (all_sent v)) s ∙ ap (λ l. length l) (append-nil (numbers_below count)) ∙ count_below count

-- what was taken and what was left is what the one sender sent
pub all_came : (inbox count : ℕ) (sender : SenderState ℕ) (line : List ℕ) → SentAll inbox count sender → AsOften (all_sent sender) line → EachInOrder (sent_lists sender) line → line ≡ numbers_below count
all_came inbox count sender line s often order =
    let sent : sender.sent ≡ numbers_below count = ap (λ v. v.sent) s in
    let long : length (all_sent sender) ≡ length line = as_long (all_sent sender) line often in
    let few : length sender.sent ≡ length line = ap (λ l. length l) sent ∙ count_below count ∙ sym (count_sent inbox count sender s) ∙ long in
    whole sender.sent line order.0 few ∙ sent
