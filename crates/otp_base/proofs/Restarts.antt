-- Lawful restarts: what follows of the state that has them.
use Rattle.std.proofs.Common.{◌≡◌, ℕ, ◌+◌, ◌-◌, ◌*◌, ◌≤◌, ◌<◌, Bool, true, false, cond, ◌&&◌, nat_le, nat_lt, List, [], ◌∷◌, ◌++◌, length, get_or, take, drop, refl, ap, ◌∙◌, sym, arith, subst, ⊎_elim, inl, inr, All, count_by, length-take, Option, None, Some}
use Rattle.std.specs.Prelude.{◌⊎◌}
use Rattle.std.specs.List.{Contains}
use Rattle.std.specs.List.Sorted.{IsNonDecreasing}
use Rattle.std.proofs.lemmas.Bool.{cases_Bool, leb-true, leb-false, ltb-true, ltb-false, and_parts, false≢true, false_from_ne_true}
use Rattle.std.proofs.lemmas.List.{get_or-take, take_all, take_more}
use Rattle.std.proofs.lemmas.Grind.{get_or_default_zero}
use Rattle.std.proofs.lemmas.List.Sums.{sum_by-cons, count_by-le-length, count_by_more_no}
use Rattle.otp_spec.specs.declared.flags.SupFlags.{SupFlags}
use Rattle.otp_window.specs.Period.{is_in_period}
use Rattle.otp_rules.specs.declared.ending.Ending.TheVariants.{Intensity, Significant, Asked, InitFailed}
use Rattle.otp_rules.specs.declared.work.Phase.{Phase}
use Rattle.otp_rules.specs.declared.work.Phase.TheVariants.{Unopened, Open, Ended}
use Rattle.otp_rules.specs.declared.work.Sequel.{Sequel}
use Rattle.otp_rules.specs.declared.work.Sequel.TheVariants as sequel
use Rattle.otp_rules.specs.Ends.{last_stamps}
use Rattle.otp_rules.specs.Evidence.{IsShowing, IsTooMany}
use Rattle.otp_rules.specs.Rate.{EndsByIntensity, IsBounded, IsExceeded, IsRated}
use Rattle.otp_rules.specs.State.{State}
use Rattle.otp_base.specs.Lawful.{ends_by_intensity, is_crowded, AreRestarts}

-- no more stamps than the intensity are too many in no period
few_bounded : (flags : SupFlags) (stamps : List ℕ) → length stamps ≤ flags.intensity → IsBounded flags stamps
few_bounded flags stamps few t = omega (arith, few, count_by-le-length (is_in_period flags.period t) stamps)

-- a stamp that lies outside doesn't count
count_front : (p : ℕ → Bool) (x : ℕ) (xs : List ℕ) → p x ≡ false → count_by p (x ∷ xs) ≤ length xs
count_front p x xs out =
    let none : ◌≡◌ {A = ℕ} (cond (p x) 1 0) 0 = ap (λ (b : Bool). cond {A = ℕ} b 1 0) out in
    omega (arith, none, sum_by-cons (λ y. cond (p y) 1 0) x xs, count_by-le-length p xs)

-- more than a period lies between the first stamp and the last, and there is one more than the intensity at most
spread_bounded : (flags : SupFlags) (stamps : List ℕ) → length stamps ≤ flags.intensity + 1 → 1000 * flags.period < get_or stamps (length stamps - 1) 0 - get_or stamps 0 0 → IsBounded flags stamps
spread_bounded flags [] few far t = omega arith
spread_bounded flags (x ∷ xs) few far t =
    let p : ℕ → Bool = is_in_period flags.period t in
    let all : List ℕ = x ∷ xs in
    let k : ℕ = length all - 1 in
    let last : ℕ = get_or all k 0 in
    let long : length all ≡ length xs + 1 = omega arith in
    ⊎_elim
    (λ (near : p x ≡ true).
    let begun : t - x ≤ 1000 * flags.period = leb-true (t - x) (1000 * flags.period) (and_parts (nat_le x t) _ near).1 in
    let out : p last ≡ false = false_from_ne_true _ (λ (h : p last ≡ true). let past : last ≤ t = leb-true last t (and_parts (nat_le last t) _ h).0 in omega (arith, past, begun, far)) in
    let less : count_by p (take (k + 1) all) ≡ count_by p (take k all) = count_by_more_no p all k 0 (omega (arith, long)) out in
    let whole : count_by p (take (k + 1) all) ≡ count_by p all = ap (λ (ys : List ℕ). count_by p ys) (take_all (k + 1) all (omega (arith, long))) in
    omega (arith, less, whole, count_by-le-length p (take k all), length-take k all, few, long))
    (λ (far_off : p x ≡ false). omega (arith, count_front p x xs far_off, few, long))
    (cases_Bool (p x))

calm_bounded : (flags : SupFlags) (stamps : List ℕ) → length stamps ≤ flags.intensity + 1 → is_crowded flags.intensity flags.period stamps ≡ false → IsBounded flags stamps
calm_bounded flags stamps few calm =
    let spread : ℕ = get_or stamps (length stamps - 1) 0 - get_or stamps 0 0 in
    ⊎_elim
    (λ (many : nat_lt flags.intensity (length stamps) ≡ true).
    let wide : nat_le spread (1000 * flags.period) ≡ false = sym (ap (λ (b : Bool). b && nat_le spread (1000 * flags.period)) many) ∙ calm in
    spread_bounded flags stamps few (leb-false spread (1000 * flags.period) wide))
    (λ (enough : nat_lt flags.intensity (length stamps) ≡ false). few_bounded flags stamps (ltb-false flags.intensity (length stamps) enough))
    (cases_Bool (nat_lt flags.intensity (length stamps)))

ends : (follows : Option Sequel) (phase : Phase) → ends_by_intensity follows phase ≡ true → (follows ≡ Some (sequel.End Intensity)) ⊎ ((own : ℕ) × (follows ≡ None) × (phase ≡ Ended own Intensity))
ends (Some (sequel.End Intensity)) phase h = inl refl
ends (Some (sequel.End (Significant _))) phase h = absurd (false≢true h)
ends (Some (sequel.End Asked)) phase h = absurd (false≢true h)
ends (Some (sequel.End (InitFailed _))) phase h = absurd (false≢true h)
ends (Some sequel.Ready) phase h = absurd (false≢true h)
ends (Some sequel.Nothing) phase h = absurd (false≢true h)
ends (Some (sequel.Added _)) phase h = absurd (false≢true h)
ends (Some (sequel.Restarted _)) phase h = absurd (false≢true h)
ends (Some (sequel.Stopped _)) phase h = absurd (false≢true h)
ends None Unopened h = absurd (false≢true h)
ends None (Open _) h = absurd (false≢true h)
ends None (Ended own Intensity) h = inr (own, refl, refl)
ends None (Ended own (Significant _)) h = absurd (false≢true h)
ends None (Ended own Asked) h = absurd (false≢true h)
ends None (Ended own (InitFailed _)) h = absurd (false≢true h)

-- where they are crowded, there is one more than the intensity
count_crowded : (intensity period : ℕ) (stamps : List ℕ) → length stamps ≤ intensity + 1 → is_crowded intensity period stamps ≡ true → length stamps ≡ intensity + 1
count_crowded intensity period stamps few crowded =
    let many : intensity < length stamps = ltb-true intensity (length stamps) (and_parts (nat_lt intensity (length stamps)) _ crowded).0 in
    omega (arith, many, few)

exceeded : (s : State) → length s.stamps ≡ s.flags.intensity + 1 → EndsByIntensity s → IsExceeded s
exceeded s count ending =
    let n : ℕ = s.flags.intensity in
    let parts : s.stamps ≡ take n s.stamps ++ get_or s.stamps n 0 ∷ [] = sym (take_all (n + 1) s.stamps (omega (arith, count))) ∙ take_more s.stamps n 0 (omega (arith, count)) in
    (take n s.stamps, get_or s.stamps n 0, parts, few_bounded s.flags (take n s.stamps) (omega (arith, length-take n s.stamps)), ending)

-- lawful restarts keep the rate
pub rated : (s : State) → AreRestarts s.flags s.stamps s.last s.follows s.phase → IsRated s
rated s r =
    ⊎_elim
    (λ (ending : ends_by_intensity s.follows s.phase ≡ true). inr (exceeded s (count_crowded s.flags.intensity s.flags.period s.stamps r.few (r.rate ∙ ending)) (ends s.follows s.phase ending)))
    (λ (other : ends_by_intensity s.follows s.phase ≡ false). inl (calm_bounded s.flags s.stamps r.few (r.rate ∙ other)))
    (cases_Bool (ends_by_intensity s.follows s.phase))

at_place : (xs : List ℕ) (x : ℕ) → Contains xs x → (k : ℕ) × (k < length xs) × (get_or xs k 0 ≡ x)
at_place xs x h = (h.0, h.1, sym (get_or_default_zero xs h.0 x h.1) ∙ h.2)

too_many : (intensity period : ℕ) (stamps : List ℕ) → IsNonDecreasing stamps → length stamps ≤ intensity + 1 → is_crowded intensity period stamps ≡ true → IsTooMany intensity period stamps
too_many intensity period stamps ordered few crowded =
    let count : length stamps ≡ intensity + 1 = count_crowded intensity period stamps few crowded in
    let within : get_or stamps (length stamps - 1) 0 - get_or stamps 0 0 ≤ 1000 * period = leb-true _ _ (and_parts (nat_lt intensity (length stamps)) _ crowded).1 in
    record {
      count = count;
      ordered = ordered;
      within = λ first last has_first has_last.
          let i = at_place stamps first has_first in
          let j = at_place stamps last has_last in
          let low : get_or stamps 0 0 ≤ get_or stamps i.0 0 = ordered 0 i.0 0 (omega arith) i.1 in
          let high : get_or stamps j.0 0 ≤ get_or stamps (length stamps - 1) 0 = ordered j.0 (length stamps - 1) 0 (omega (arith, j.1)) (omega (arith, count)) in
          omega (arith, low, high, within, i.2, j.2);
    }

none_cut : (n m : ℕ) → n ≤ m → n - m ≡ 0
none_cut n m few = omega (arith, few)

-- and show why the supervisor ends
pub shows : (s : State) → AreRestarts s.flags s.stamps s.last s.follows s.phase → IsShowing s
shows s r = (
  r.ordered,
  r.latest,
  λ (f : s.follows ≡ Some (sequel.End Intensity)).
      let ending : ends_by_intensity s.follows s.phase ≡ true = ap (λ (o : Option Sequel). ends_by_intensity o s.phase) f in
      let all : last_stamps s.flags.intensity s.stamps ≡ s.stamps = ap (λ (n : ℕ). drop n s.stamps) (none_cut (length s.stamps) (s.flags.intensity + 1) r.few) in
      subst (λ (xs : List ℕ). IsTooMany s.flags.intensity s.flags.period xs) (sym all) (too_many s.flags.intensity s.flags.period s.stamps r.ordered r.few (r.rate ∙ ending)),
)

-- of stamps in order none is later than one behind it
pub past_before : (stamps : List ℕ) (i d : ℕ) → IsNonDecreasing stamps → i < length stamps → All (λ s. s ≤ get_or stamps i d) (take i stamps)
past_before stamps i d ordered within = λ k e inside.
    let early : k < i = omega (arith, inside, length-take i stamps) in
    let rises : get_or stamps k e ≤ get_or stamps i e = ordered k i e (omega (arith, early)) within in
    omega (arith, get_or-take i stamps k e early, rises, get_or_default_zero stamps i e within, get_or_default_zero stamps i d within)
