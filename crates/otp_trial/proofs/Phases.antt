-- At which phase of the second most restarts lie in the period by whole seconds: where the second ends as it is now.
use Rattle.std.proofs.Common.{◌≡◌, ℕ, zero, suc, ◌+◌, ◌-◌, ◌*◌, ◌%◌, ◌<◌, ◌≤◌, Bool, true, false, ◌&&◌, cond, List, nat_le, nat_lt, count_by, refl, arith, sym, subst, le-leb, leb-true, lt-ltb, ltb-true, le-ltb, ltb-false, eq-or-lt_of_le, ⊎_elim, le_of_suc-le-suc}
use Rattle.std.proofs.lemmas.Bool.{and_from, and_parts, or_from, or_left, or_right}
use Rattle.std.proofs.lemmas.List.Sums.{sum_by-le-sum_by}
use Rattle.otp_spec.specs.declared.flags.SupFlags.{SupFlags}
use Rattle.otp_trial.specs.Strains.{is_in_seconds, is_too_many, is_too_many_below, may_give_up, second}

abbrev is_near : ℕ → ℕ → ℕ → Bool
is_near period now stamp = nat_le stamp now && nat_le (now - stamp) (1000 * period + 999)

-- what whole seconds show in the period lies near
shown_near : (phase period now stamp : ℕ) → stamp ≤ now → second (now + phase) - second (stamp + phase) ≤ 1000 * period → now - stamp ≤ 1000 * period + 999
shown_near phase period now stamp before shown = omega (arith, before, shown)

in_near : (phase period now stamp : ℕ) → is_in_seconds phase period now stamp ≡ true → is_near period now stamp ≡ true
in_near phase period now stamp e =
    let both = and_parts _ _ e in
    let shown = and_parts _ _ both.1 in
    and_from _ _ both.0 (le-leb _ _ (shown_near phase period now stamp (leb-true _ _ both.0) (leb-true _ _ shown.1)))

-- the phase at which the second ends as it is now
abbrev latest : ℕ → ℕ
latest now = 999 - now % 1000

-- what lies near is shown in the period there
near_before : (now stamp : ℕ) → stamp ≤ now → second (stamp + latest now) ≤ second (now + latest now)
near_before now stamp before = omega (arith, before)

near_shown : (period now stamp : ℕ) → stamp ≤ now → now - stamp ≤ 1000 * period + 999
    → second (now + latest now) - second (stamp + latest now) ≤ 1000 * period
near_shown period now stamp before near = omega (arith, before, near)

near_in : (period now stamp : ℕ) → is_near period now stamp ≡ true → is_in_seconds (latest now) period now stamp ≡ true
near_in period now stamp e =
    let both = and_parts _ _ e in
    let before : stamp ≤ now = leb-true _ _ both.0 in
    and_from _ _ both.0 (and_from _ _
    (le-leb _ _ (near_before now stamp before))
    (le-leb _ _ (near_shown period now stamp before (leb-true _ _ both.1))))

cond_le : (b c : Bool) → (b ≡ true → c ≡ true) → cond b 1 0 ≤ cond c 1 0
cond_le true c h = subst (λ (x : Bool). 1 ≤ cond x 1 0) (sym (h refl)) (omega arith)
cond_le false c h = omega arith

-- of two tests the second passes wherever the first does
count_le : (p q : ℕ → Bool) (stamps : List ℕ) → ((s : ℕ) → p s ≡ true → q s ≡ true) → count_by p stamps ≤ count_by q stamps
count_le p q stamps more = sum_by-le-sum_by (λ (s : ℕ). cond (p s) 1 0) (λ (s : ℕ). cond (q s) 1 0) stamps (λ s. cond_le (p s) (q s) (more s))

abbrev near_many : SupFlags → List ℕ → ℕ → Bool
near_many flags stamps now = nat_lt flags.intensity (count_by (λ stamp. is_near flags.period now stamp) stamps)

-- where few lie near, whole seconds show no more at any phase
few : (phase : ℕ) (flags : SupFlags) (stamps : List ℕ) (now : ℕ) → near_many flags stamps now ≡ false → is_too_many phase flags stamps now ≡ false
few phase flags stamps now e =
    let limit = ltb-false _ _ e in
    let less = count_le (is_in_seconds phase flags.period now) (λ stamp. is_near flags.period now stamp) stamps (in_near phase flags.period now) in
    le-ltb _ _ (omega (arith, limit, less))

-- where many do, they show them at the latest
many : (flags : SupFlags) (stamps : List ℕ) (now : ℕ) → near_many flags stamps now ≡ true → is_too_many (latest now) flags stamps now ≡ true
many flags stamps now e =
    let limit = ltb-true _ _ e in
    let more = count_le (λ stamp. is_near flags.period now stamp) (is_in_seconds (latest now) flags.period now) stamps (near_in flags.period now) in
    lt-ltb _ _ (omega (arith, limit, more))

none_below : (phases : ℕ) (flags : SupFlags) (stamps : List ℕ) (now : ℕ) → near_many flags stamps now ≡ false → is_too_many_below phases flags stamps now ≡ false
none_below zero flags stamps now e = refl
none_below (suc phase) flags stamps now e = or_from _ _ (few phase flags stamps now e) (none_below phase flags stamps now e)

some_below : (phases phase : ℕ) (flags : SupFlags) (stamps : List ℕ) (now : ℕ) → phase < phases → is_too_many phase flags stamps now ≡ true
    → is_too_many_below phases flags stamps now ≡ true
some_below zero phase flags stamps now less e = absurd (omega (arith, less))
some_below (suc last) phase flags stamps now less e =
    ⊎_elim
    (λ same. or_left _ _ (subst (λ (k : ℕ). is_too_many k flags stamps now ≡ true) same e))
    (λ below. or_right (is_too_many last flags stamps now) _ (some_below last phase flags stamps now below e))
    (eq-or-lt_of_le (le_of_suc-le-suc less))

by_test : (b c : Bool) → (b ≡ true → c ≡ true) → (b ≡ false → c ≡ false) → b ≡ c
by_test true c one other = sym (one refl)
by_test false c one other = sym (other refl)

-- there is a phase at which whole seconds show too many exactly where too many lie near
pub may_is : (flags : SupFlags) (stamps : List ℕ) (now : ℕ)
    → nat_lt flags.intensity (count_by (λ stamp. nat_le stamp now && nat_le (now - stamp) (1000 * flags.period + 999)) stamps) ≡ may_give_up flags stamps now
unfolding may_give_up
may_is flags stamps now =
    by_test _ _
    (λ e. some_below 1000 (latest now) flags stamps now (omega arith) (many flags stamps now e))
    (none_below 1000 flags stamps now)
