use Rattle.std.proofs.Common.{◌≡◌, ◌+◌, ◌-◌, ◌<◌, ◌≤◌, ℕ, List, arith, get_or, length}
use Rattle.std.specs.Prelude.{AllPairs}
use Rattle.std.proofs.lemmas.Bool.{ltb-true}
use Rattle.otp_machine.specs.declared.stores.answers.StoredAnswer.{StoredAnswer}
use Rattle.otp_table.proofs.Keyed.{key_default, upto}
use Rattle.otp_machine.proofs.stores.answers.is_above.Goals as goal

-- all up to a key below this one are below it
before : {X : Type 0} (key : X → ℕ) (n : ℕ) (xs : List X) → AllPairs (λ one later. key one < key later) xs
    → (m : ℕ) (e : X) → m < length xs → key (get_or xs m e) < n → (k : ℕ) (d : X) → k < m + 1 → key (get_or xs k d) < n
before key n xs rise m e within less k d below =
    let same : key (get_or xs m d) ≡ key (get_or xs m e) = key_default key xs m d e within in
    let up : key (get_or xs k d) ≤ key (get_or xs m d) = upto key xs rise k m d (omega (arith, below)) within in
    omega (arith, up, same, less)

pub returns-else-is_empty : goal.returns-else-is_empty
returns-else-is_empty c = λ less k d within.
    before (λ (t : StoredAnswer). t.call) c.args.call c.args.told.now c.requires (length c.args.told.now - 1) (record { call = 0; place = 0 }) (omega (arith, within)) (ltb-true _ _ less) k d (omega (arith, within))
