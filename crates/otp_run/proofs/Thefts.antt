-- Tries at other deques, one after another, and what they leave of the ledger.
use Rattle.std.proofs.Common.{get_or, add-one, ◌≡◌, ℕ, zero, suc, ◌+◌, ◌<◌, List, [], ◌∷◌, ◌++◌, length, set, map, refl, sym, ap, ◌∙◌, arith, length-append}
use Rattle.otp_job.specs.declared.process.Ticket.{Ticket}
use Rattle.otp_run.specs.Deques.{VictimState, index_of, stolen, missed, robbed, TakenFrom}

-- a try at the next, which gave nothing
missed_next : (vs : List VictimState) (k : ℕ) (d : VictimState) → k < length vs → set (missed k vs) k (record (get_or (missed k vs) k d) { misses = (get_or (missed k vs) k d).misses + 1 }) ≡ missed (suc k) vs
missed_next [] k d within = absurd (omega arith)
missed_next (v ∷ vs) zero d within = refl
missed_next (v ∷ vs) (suc k) d within = ap (λ l. record v { misses = v.misses + 1 } ∷ l) (missed_next vs k d (omega arith))

pub missed_one_more : (vs : List VictimState) (k : ℕ) (d : VictimState) → k < length vs → set (missed k vs) k (record (get_or (missed k vs) k d) { misses = (get_or (missed k vs) k d).misses + 1 }) ≡ missed (k + 1) vs
missed_one_more vs k d within = missed_next vs k d within ∙ ap (λ n. missed n vs) (sym (add-one k))

-- a try at the next, which gave a process
pub robbed_next : (vs : List VictimState) (k : ℕ) (t : Ticket) (d : VictimState) → k < length vs → set (missed k vs) k (record (get_or (missed k vs) k d) { taken = (get_or (missed k vs) k d).taken ++ t ∷ [] }) ≡ robbed k t vs
robbed_next [] k t d within = absurd (omega arith)
robbed_next (v ∷ vs) zero t d within = refl
robbed_next (v ∷ vs) (suc k) t d within = ap (λ l. record v { misses = v.misses + 1 } ∷ l) (robbed_next vs k t d (omega arith))

pub indexes-missed : (k : ℕ) (vs : List VictimState) → map index_of (missed k vs) ≡ map index_of vs
indexes-missed zero vs = refl
indexes-missed (suc k) [] = refl
indexes-missed (suc k) (v ∷ vs) = ap (λ l. v.index ∷ l) (indexes-missed k vs)

pub indexes-robbed : (k : ℕ) (t : Ticket) (vs : List VictimState) → map index_of (robbed k t vs) ≡ map index_of vs
indexes-robbed k t [] = refl
indexes-robbed zero t (v ∷ vs) = refl
indexes-robbed (suc k) t (v ∷ vs) = ap (λ l. v.index ∷ l) (indexes-robbed k t vs)

pub stolen-missed : (k : ℕ) (vs : List VictimState) → stolen (missed k vs) ≡ stolen vs
stolen-missed zero vs = refl
stolen-missed (suc k) [] = refl
stolen-missed (suc k) (v ∷ vs) = ap (λ l. v.taken ++ l) (stolen-missed k vs)

pub length-stolen-robbed : (k : ℕ) (t : Ticket) (vs : List VictimState) → k < length vs → length (stolen (robbed k t vs)) ≡ length (stolen vs) + 1
length-stolen-robbed k t [] within = absurd (omega arith)
length-stolen-robbed zero t (v ∷ vs) within = omega (arith, length-append (v.taken ++ t ∷ []) (stolen vs), length-append v.taken (t ∷ []), length-append v.taken (stolen vs))
length-stolen-robbed (suc k) t (v ∷ vs) within =
    let p = length-stolen-robbed k t vs (omega arith) in
    omega (arith, length-append v.taken (stolen (robbed k t vs)), length-append v.taken (stolen vs))

module _ (vs xs : List VictimState) (k : ℕ) (v w : VictimState) (so_far : xs ≡ missed k vs) (within : k < length vs) (is : v ≡ get_or xs k v) where
  -- the next is what it was
  next_is : v ≡ get_or (missed k vs) k v
  next_is = is ∙ ap (λ l. get_or l k v) so_far

  pub tried : w ≡ record v { misses = v.misses + 1 } → set xs k w ≡ missed (k + 1) vs
  tried now =
      ap (λ (l : List VictimState). set l k w) so_far
      ∙ ap (λ (u : VictimState). set (missed k vs) k u) (now ∙ ap (λ (u : VictimState). record u { misses = u.misses + 1 }) next_is)
      ∙ missed_one_more vs k v within

  pub taken_from : (t : Ticket) → w ≡ record v { taken = v.taken ++ t ∷ [] } → TakenFrom vs t (set xs k w)
  taken_from t now = record {
    at = k;
    there = within;
    changed =
        ap (λ (l : List VictimState). set l k w) so_far
        ∙ ap (λ (u : VictimState). set (missed k vs) k u) (now ∙ ap (λ (u : VictimState). record u { taken = u.taken ++ t ∷ [] }) next_is)
        ∙ robbed_next vs k t v within;
  }
