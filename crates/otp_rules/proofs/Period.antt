-- One restart more, at the last stamp, keeps the bound of every period where the period that ends there keeps it.
use Rattle.std.proofs.Common.{◌≡◌, ℕ, ◌+◌, ◌-◌, ◌*◌, ◌≤◌, ◌<◌, true, false, cond, nat_le, List, [], ◌∷◌, ◌++◌, arith, ⊎_elim, All}
use Rattle.std.proofs.lemmas.Bool.{cases_lt, leb-true, le-leb, lt-leb, cond_both, and_parts, and_left}
use Rattle.std.proofs.lemmas.List.Elements.{All-head, All-tail, All-push}
use Rattle.std.proofs.lemmas.List.Sums.{sum_by-append, sum_by-cons}
use Rattle.otp_spec.specs.declared.flags.SupFlags.{SupFlags}
use Rattle.otp_window.specs.Period.{in_period, is_in_period}
use Rattle.otp_rules.specs.Rate.{IsBounded}

-- a later period counts no more of the stamps up to t
counts-later : (period t u s : ℕ) → s ≤ t → t ≤ u → cond (is_in_period period u s) 1 0 ≤ cond (is_in_period period t s) 1 0
counts-later period t u s h k =
    cond_both (is_in_period period u s) 1 0 (λ x. x ≤ cond (is_in_period period t s) 1 0)
    (λ e.
    let near : u - s ≤ 1000 * period = leb-true _ _ (and_parts _ _ e).1 in
    let here : nat_le s t ≡ true = le-leb s t h in
    let still : nat_le (t - s) (1000 * period) ≡ true = le-leb _ _ (omega arith) in
    rw (here, still) (omega arith))
    (λ e. omega arith)

later : (period t u : ℕ) (stamps : List ℕ) → All (λ s. s ≤ t) stamps → t ≤ u → in_period period stamps u ≤ in_period period stamps t
later period t u [] b h = omega arith
later period t u (s ∷ stamps) b h =
    let split : (v : ℕ) → in_period period (s ∷ stamps) v ≡ cond (is_in_period period v s) 1 0 + in_period period stamps v = λ v. sum_by-cons (λ x. cond (is_in_period period v x) 1 0) s stamps in
    omega (arith, split t, split u, counts-later period t u s (All-head (λ x. x ≤ t) s stamps b) h, later period t u stamps (All-tail (λ x. x ≤ t) s stamps b) h)

-- before t a stamp t counts nothing
before : (period t u : ℕ) → u < t → is_in_period period u t ≡ false
before period t u h = and_left _ _ (lt-leb t u h)

pub IsBounded-push : (flags : SupFlags) (stamps : List ℕ) (t : ℕ) → All (λ s. s ≤ t) stamps → IsBounded flags stamps → in_period flags.period (stamps ++ t ∷ []) t ≤ flags.intensity → IsBounded flags (stamps ++ t ∷ [])
IsBounded-push flags stamps t b bounded fits u =
    ⊎_elim
    (λ lt. rw (sum_by-append, before flags.period t u lt) (omega (arith, bounded u)))
    (λ ge. omega (arith, fits, later flags.period t u (stamps ++ t ∷ []) (All-push (λ s. s ≤ t) stamps t b (omega arith)) ge))
    (cases_lt u t)
