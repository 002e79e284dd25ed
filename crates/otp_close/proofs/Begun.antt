-- Starts that were credited to senders, and processes that began.
use Rattle.std.proofs.Common.{◌≡◌, ℕ, zero, suc, ◌+◌, ◌<◌, List, [], ◌∷◌, ◌++◌, drop, length, map, refl, sym, ap, ◌∙◌, subst, arith}
use Rattle.std.specs.Prelude.{sum_by}
use Rattle.std.proofs.lemmas.List.Sums.{sum_by-append, sum_by-cons, sum_by_push}
use Rattle.otp_inbox.specs.Tokens.{SenderState}
use Rattle.otp_bodies.specs.declared.letter.Message.{Message}
use Rattle.otp_run.proofs.Places.{each_at, map-append, map_at}
use Rattle.otp_run.specs.Gathers.{IsAll, begun_of}
use Rattle.otp_run.specs.Lists.{AllAt}
use Rattle.otp_run.specs.Schedulers.{SchedulerState}
use Rattle.otp_hand.specs.Begun.{root_at, start_share, starts_credited}
use Rattle.otp_close.specs.Totals.{starts_of, unsent_of}
use Rattle.otp_close.specs.Closes.{all_senders}
use Rattle.otp_hand.specs.Hands.{TreeClientView, HandView, senders_of}
use Rattle.otp_close.specs.declared.parting.Rest.{Rest}
use Rattle.otp_close.specs.declared.report.report.TableReport.{TableReport}
use Rattle.otp_close.specs.Partings.{ArePaired}
use Rattle.otp_close.specs.Settlings.{senders_in}

-- the senders of one hand more
pub hand_push : {N J S : Type 0} (f : List (SenderState Message) → ℕ) (rs : List (Rest N J S)) (r : Rest N J S) → sum_by f (map senders_in (rs ++ r ∷ [])) ≡ sum_by f (map senders_in rs) + f r.senders
hand_push f rs r = ap (sum_by f) (map-append senders_in rs (r ∷ [])) ∙ sum_by_push f (map senders_in rs) r.senders

-- hands that reach as far as the client

module _ {N J S : Type 0} (count : ℕ) (r : Rest N J S) (rest : List (Rest N J S)) where
  far_here : (rs : List (Rest N J S)) → AllAt (λ _ others. length others ≡ count) (map senders_in (rs ++ r ∷ rest)) → length r.senders ≡ count
  far_here [] h = h 0
  far_here (x ∷ xs) h = far_here xs (λ k. h (suc k))

  pub reaches_as_far : (before all : List (Rest N J S)) → before ++ r ∷ rest ≡ all → AllAt (λ _ others. length others ≡ count) (map senders_in all) → length r.senders ≡ count
  reaches_as_far before all is far = far_here before (subst (λ l. AllAt (λ _ others. length others ≡ count) (map senders_in l)) (sym is) far)

pub as_far_as : (n m : ℕ) (lists : List (List (SenderState Message))) → n ≡ m → AllAt (λ _ senders. length senders ≡ n) lists → AllAt (λ _ senders. length senders ≡ m) lists
as_far_as n m lists is far = subst (λ k. AllAt (λ _ senders. length senders ≡ k) lists) is far

pub others_as_far : (n : ℕ) (first : List (SenderState Message)) (others : List (List (SenderState Message))) → AllAt (λ _ senders. length senders ≡ n) (first ∷ others) → AllAt (λ _ senders. length senders ≡ n) others
others_as_far n first others far = λ k. far (suc k)

module _ {J S : Type 0} where
  at_map : (n : ℕ) (hands : List (HandView J S)) → AllAt (λ _ h. length (senders_of h) ≡ n) hands → AllAt (λ _ senders. length senders ≡ n) (map senders_of hands)
  at_map n [] all k = tt
  at_map n (h ∷ hs) all zero = all zero
  at_map n (h ∷ hs) all (suc k) = at_map n hs (λ j. all (suc j)) k

  pub hands_as_far : (tables count : ℕ) (client : TreeClientView) (hands : List (HandView J S)) → tables + 1 ≡ count → AllAt (λ _ senders. length senders ≡ tables + 1) (all_senders client hands) → AllAt (λ _ h. length (senders_of h) ≡ count) hands
  hands_as_far tables count client hands is far = map_at senders_of (λ _ senders. length senders ≡ count) hands (as_far_as (tables + 1) count (map senders_of hands) is (others_as_far (tables + 1) client.senders (map senders_of hands) far))

  pub all_as_far : (tables count : ℕ) (client : TreeClientView) (hands : List (HandView J S)) → count ≡ length client.senders → length client.senders ≡ tables + 1 → AllAt (λ _ h. length (senders_of h) ≡ count) hands → AllAt (λ _ senders. length senders ≡ tables + 1) (all_senders client hands)
  all_as_far tables count client hands is reach far zero = reach
  all_as_far tables count client hands is reach far (suc k) = as_far_as count (tables + 1) (map senders_of hands) (is ∙ reach) (at_map count hands far) k

-- all hands together

abbrev pub root_of : SchedulerState → ℕ
root_of s = root_at s.own.index

pub begun_together : {N J S : Type 0} (ss : List SchedulerState) (rs : List (Rest N J S)) → ArePaired ss rs → length ss ≡ length rs → sum_by begun_of ss ≡ sum_by root_of ss + sum_by starts_credited (map senders_in rs)
begun_together [] [] paired many = refl
begun_together [] (r ∷ rs) paired many = absurd (omega (arith, many))
begun_together (s ∷ ss) [] paired many = absurd paired
begun_together (s ∷ ss) (r ∷ rs) paired many =
    let begun = sum_by-cons begun_of s ss in
    let root = sum_by-cons root_of s ss in
    let credited = sum_by-cons starts_credited r.senders (map senders_in rs) in
    let one = paired.0.credited in
    let rest = begun_together ss rs paired.1 (omega (arith, many)) in
    omega (arith, begun, root, credited, one, rest)

-- one of all schedulers is the first
pub one_root : (ss : List SchedulerState) → IsAll ss → sum_by root_of ss ≡ 1
one_root [] all = absurd (let some = all.0 in omega (arith, some))
one_root (s ∷ ss) all =
    let order = all.1 in
    let index : s.own.index ≡ 0 = (order 0).0 in
    let first : root_of s ≡ 1 = ap root_at index in
    let sum = sum_by-cons root_of s ss in
    let rest = no_root ss (each_at (λ k (t : SchedulerState). (t.own.index ≡ suc k) × (t.count ≡ length (s ∷ ss))) (λ k t. 0 < t.own.index) ss (λ k. order (suc k)) (λ j t within is. let at = is.0 in omega (arith, at))) in
    omega (arith, first, sum, rest)
  where
    not_first : (n : ℕ) → 0 < n → root_at n ≡ 0
    not_first zero some = absurd (omega (arith, some))
    not_first (suc n) some = refl

    no_root : (ts : List SchedulerState) → AllAt (λ k t. 0 < t.own.index) ts → sum_by root_of ts ≡ 0
    no_root [] h = refl
    no_root (t ∷ ts) h =
        let sum = sum_by-cons root_of t ts in
        let one = not_first t.own.index (h 0) in
        let rest = no_root ts (λ k. h (suc k)) in
        omega (arith, sum, one, rest)

-- one more supervisor was taken apart
pub apart_starts : (all next : List (SenderState Message)) (rest : List (SenderState Message)) (ts ts' : List TableReport) (t : TableReport) (x : SenderState Message) → ts' ≡ ts ++ t ∷ [] → rest ≡ x ∷ next → start_share x + unsent_of t ≡ starts_of t
    → starts_credited all + sum_by unsent_of ts ≡ sum_by starts_of ts + starts_credited rest → starts_credited all + sum_by unsent_of ts' ≡ sum_by starts_of ts' + starts_credited next
apart_starts all next rest ts ts' t x one its own so_far =
    let unsent = ap (sum_by unsent_of) one ∙ sum_by-append unsent_of ts (t ∷ []) in
    let starts = ap (sum_by starts_of) one ∙ sum_by-append starts_of ts (t ∷ []) in
    let unsent_one = sum_by-cons unsent_of t [] in
    let starts_one = sum_by-cons starts_of t [] in
    let left = ap starts_credited its ∙ sum_by-cons start_share x next in
    omega (arith, unsent, starts, unsent_one, starts_one, left, own, so_far)

-- and all were
pub none_left : (xs : List (SenderState Message)) (n : ℕ) (rest : List (SenderState Message)) → length xs ≡ n → drop n xs ≡ rest → starts_credited rest ≡ 0
none_left xs n rest many behind = sym (ap starts_credited behind) ∙ ap (λ k. starts_credited (drop k xs)) (sym many) ∙ past xs
  where
    past : (ys : List (SenderState Message)) → starts_credited (drop (length ys) ys) ≡ 0
    past [] = refl
    past (y ∷ ys) = past ys
