-- The least deadline, where it is known of a row.
use Rattle.std.proofs.Common.{◌≡◌, ◌∙◌, ℕ, ◌<◌, ◌≤◌, List, [], ◌∷◌, Option, None, Some, ap, arith, get_or, length, refl, subst, suc, sym, zero}
use Rattle.std.specs.Prelude.{Bool, true, false, ◌||◌, MatchOption, is_some, min, nat_le, if◌then◌else◌, ⊤}
use Rattle.std.specs.List.{list_any}
use Rattle.std.proofs.lemmas.Bool.{false_from_ne_true, leb-true, ltb-false}
use Rattle.otp_table.specs.declared.row.Row.{Row}
use Rattle.otp_table.specs.declared.row.RowState.{RowState}
use Rattle.otp_table.specs.declared.row.RowState.TheVariants.{Undefined, Starting, Up, Asked, Killed, Restarting}
use Rattle.otp_table.specs.Deadlines.{AreNotBefore, is_before}
use Rattle.otp_rules.specs.Step.{is_late}
use Rattle.otp_rules.specs.Next.{deadline_from, deadline_of, earlier, next_deadline}

-- a deadline that isn't before a later moment hasn't come
not_yet : (now s : ℕ) (state : RowState) → now < s → is_before s state ≡ false → is_late now state ≡ false
not_yet now s Undefined early off = refl
not_yet now s (Starting p k) early off = refl
not_yet now s (Up p) early off = refl
not_yet now s (Asked p None) early off = refl
not_yet now s (Asked p (Some t)) early off =
    let least : s ≤ t = ltb-false t s off in
    let later : nat_le t now ≡ false = false_from_ne_true (nat_le t now) (λ come. omega (arith, leb-true t now come, least, early)) in
    ap (λ (b : Bool). is_some (if b then Some p else None)) later
not_yet now s (Killed p) early off = refl
not_yet now s (Restarting k) early off = refl

pub none_come : (now s : ℕ) (rows : List Row) → now < s → AreNotBefore s rows → list_any (λ row. is_late now row.state) rows ≡ false
none_come now s [] early are = refl
none_come now s (row ∷ rows) early are =
    ap (λ (b : Bool). b || list_any (λ (r : Row). is_late now r.state) rows) (not_yet now s row.state early (are 0 row (omega arith)))
    ∙ none_come now s rows early (λ k d within. are (suc k) d (omega (arith, within)))

-- the moment, if there is one, isn't before this one
abbrev NotBefore : ℕ → Option ℕ → Type 0
NotBefore x None = ⊤
NotBefore x (Some t) = x ≤ t

of_state : (s x : ℕ) (state : RowState) → x ≤ s → is_before s state ≡ false → NotBefore x (deadline_of state)
of_state s x Undefined le off = tt
of_state s x (Starting p k) le off = tt
of_state s x (Up p) le off = tt
of_state s x (Asked p None) le off = tt
of_state s x (Asked p (Some t)) le off = (let least : s ≤ t = ltb-false t s off in omega (arith, least, le))
of_state s x (Killed p) le off = tt
of_state s x (Restarting k) le off = tt

both_not : (x : ℕ) (one other : Option ℕ) → NotBefore x one → NotBefore x other → NotBefore x (earlier one other)
both_not x None other a b = b
both_not x (Some m) None a b = a
both_not x (Some m) (Some n) a b = omega (arith, a, b)

stays : (x : ℕ) (other : Option ℕ) → NotBefore x other → earlier (Some x) other ≡ Some x
stays x None b = refl
stays x (Some n) b = (let least : min x n ≡ x = omega (arith, b) in ap (λ (m : ℕ). Some m) least)

comes : (x : ℕ) (one : Option ℕ) → NotBefore x one → earlier one (Some x) ≡ Some x
comes x None a = refl
comes x (Some m) a = (let least : min m x ≡ x = omega (arith, a) in ap (λ (n : ℕ). Some n) least)

later : (s : ℕ) (row : Row) (rows : List Row) → AreNotBefore s (row ∷ rows) → AreNotBefore s rows
later s row rows are k d within = are (suc k) d (omega (arith, within))

stays_from : (x s : ℕ) (rows : List Row) → x ≤ s → AreNotBefore s rows → deadline_from (Some x) rows ≡ Some x
stays_from x s [] le are = refl
stays_from x s (row ∷ rows) le are =
    ap (λ (o : Option ℕ). deadline_from o rows) (stays x (deadline_of row.state) (of_state s x row.state le (are 0 row (omega arith))))
    ∙ stays_from x s rows le (later s row rows are)

known_from : (least : Option ℕ) (rows : List Row) (place x s : ℕ) → NotBefore x least → place < length rows → ((d : Row) → deadline_of (get_or rows place d).state ≡ Some x) → x ≤ s → AreNotBefore s rows → deadline_from least rows ≡ Some x
known_from least [] place x s bound within is le are = absurd (omega (arith, within))
known_from least (row ∷ rows) zero x s bound within is le are =
    ap (λ (o : Option ℕ). deadline_from (earlier least o) rows) (is row)
    ∙ ap (λ (o : Option ℕ). deadline_from o rows) (comes x least bound)
    ∙ stays_from x s rows le (later s row rows are)
known_from least (row ∷ rows) (suc place) x s bound within is le are =
    known_from (earlier least (deadline_of row.state)) rows place x s (both_not x least (deadline_of row.state) bound (of_state s x row.state le (are 0 row (omega arith)))) (omega (arith, within)) is le (later s row rows are)

-- the deadline of a row that isn't after the moment before which there is none
pub known_next : (rows : List Row) (place x s : ℕ) → place < length rows → ((d : Row) → deadline_of (get_or rows place d).state ≡ Some x) → x ≤ s → AreNotBefore s rows → next_deadline rows ≡ Some x
known_next rows place x s within is le are = known_from None rows place x s tt within is le are
