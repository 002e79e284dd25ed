-- A body that was handed in for a specification is no child's but that one's in the slot of its place; and one that waits is a call's.
use Rattle.std.specs.Prelude.{◌≡◌, ℕ, ◌==◌, ◌++◌, ◌||◌, Bool, true, false, List, [], ◌∷◌, Option, None, Some, All, is_some, refl, map}
use Rattle.std.specs.List.{cons_option, list_any}
use Rattle.std.proofs.Common.{◌∙◌, ap, rules, sym}
use Rattle.std.proofs.lemmas.Bool.{false≢true, cond_both, eqb-true, eq-eqb}
use Rattle.std.proofs.lemmas.List.Elements.{All-cons, All-head, All-map, All-nil, All-push, All-tail, All-weaker}
use Rattle.otp_table.specs.declared.row.Row.{Row}
use Rattle.otp_table.specs.Rows.{has_slot}
use Rattle.otp_bodies.specs.declared.bodies.Kept.{Kept}
use Rattle.otp_bodies.specs.declared.bodies.Origin.{Origin}
use Rattle.otp_bodies.specs.declared.bodies.Origin.TheVariants as origin
use Rattle.otp_bodies.specs.declared.bodies.BodyPlace.{BodyPlace}
use Rattle.otp_bodies.specs.declared.bodies.BodyPlace.TheVariants as placed
use Rattle.otp_bodies.specs.Bodies.{calls_waiting, came_for, has_body, home_or_free, is_at_home, is_away, is_away_from, is_home_of, is_out, is_own, is_own_place, is_waiting, is_waiting_place, move_first, opened_place, place_among, place_without_line, settled, stray, taken_up, waiting_as, waiting_call, without_first}
use Rattle.otp_bodies.specs.Loose.{is_with_call}
use Rattle.otp_bodies.proofs.Keeping.{or_false}
use Rattle.otp_bodies.proofs.Once.{isnt}

abbrev pub AreOwn : List Kept → Type 0
AreOwn kept = All (λ (b : Kept). is_own b ≡ true) kept

moved_own : (t : Kept → Bool) (to : BodyPlace) (kept : List Kept) → ((b : Kept) → t b ≡ true → is_own b ≡ true → is_own_place b.origin to ≡ true) → AreOwn kept → AreOwn (move_first t to kept)
moved_own t to [] stays own = own
moved_own t to (b ∷ bs) stays own =
    let first : is_own b ≡ true = All-head (λ (x : Kept). is_own x ≡ true) b bs own in
    let rest : AreOwn bs = All-tail (λ (x : Kept). is_own x ≡ true) b bs own in
    cond_both (t b) (record b { place = to } ∷ bs) (b ∷ move_first t to bs) AreOwn
    (λ is. All-cons (λ (x : Kept). is_own x ≡ true) (record b { place = to }) bs (stays b is first) rest)
    (λ _. All-cons (λ (x : Kept). is_own x ≡ true) b (move_first t to bs) first (moved_own t to bs stays rest))

pub without_own : (t : Kept → Bool) (kept : List Kept) → AreOwn kept → AreOwn (without_first t kept)
without_own t [] own = own
without_own t (b ∷ bs) own =
    let first : is_own b ≡ true = All-head (λ (x : Kept). is_own x ≡ true) b bs own in
    let rest : AreOwn bs = All-tail (λ (x : Kept). is_own x ≡ true) b bs own in
    cond_both (t b) bs (b ∷ without_first t bs) AreOwn (λ _. rest) (λ _. All-cons (λ (x : Kept). is_own x ≡ true) b (without_first t bs) first (without_own t bs rest))

pub mapped_own : (f : Kept → Kept) (kept : List Kept) → ((b : Kept) → is_own b ≡ true → is_own (f b) ≡ true) → AreOwn kept → AreOwn (map f kept)
mapped_own f kept stays own = All-map (λ (x : Kept). is_own x ≡ true) f kept (All-weaker (λ (x : Kept). is_own x ≡ true) (λ (x : Kept). is_own (f x) ≡ true) stays kept own)

-- a child's body stays its child's

leaves_own : (k : ℕ) (o : Origin) (at : BodyPlace) → is_home_of k at ≡ true → is_own_place o at ≡ true → is_own_place o (placed.Away k) ≡ true
leaves_own k (origin.Spec j) (placed.Home i) h own = ap (λ (n : ℕ). j == n) (sym (eqb-true i k h)) ∙ own
leaves_own k (origin.Spec j) placed.Waiting h own = absurd (false≢true h)
leaves_own k (origin.Spec j) placed.Free h own = absurd (false≢true h)
leaves_own k (origin.Spec j) (placed.Away i) h own = absurd (false≢true h)
leaves_own k (origin.Call c) at h own = refl
leaves_own k origin.Nobody at h own = refl

comes_own : (k : ℕ) (o : Origin) (at : BodyPlace) → is_away_from k at ≡ true → is_own_place o at ≡ true → is_own_place o (placed.Home k) ≡ true
comes_own k (origin.Spec j) (placed.Home i) h own = absurd (false≢true h)
comes_own k (origin.Spec j) placed.Waiting h own = absurd (false≢true h)
comes_own k (origin.Spec j) placed.Free h own = absurd (false≢true h)
comes_own k (origin.Spec j) (placed.Away i) h own = ap (λ (n : ℕ). j == n) (sym (eqb-true i k h)) ∙ own
comes_own k (origin.Call c) at h own = refl
comes_own k origin.Nobody at h own = refl

-- a body that waits is a call's
waits_own : (to : BodyPlace) (o : Origin) (at : BodyPlace) → is_some (waiting_as o at) ≡ true → is_own_place o to ≡ true
waits_own to (origin.Spec j) at h = absurd (false≢true h)
waits_own to (origin.Call c) at h = refl
waits_own to origin.Nobody at h = absurd (false≢true h)

pub left_own : (k : ℕ) (kept : List Kept) → AreOwn kept → AreOwn (move_first (is_at_home k) (placed.Away k) kept)
left_own k kept own = moved_own (is_at_home k) (placed.Away k) kept (λ b home is. leaves_own k b.origin b.place home is) own

pub put_own : (kept : List Kept) (b : Kept) → is_own b ≡ true → AreOwn kept → AreOwn (kept ++ b ∷ [])
put_own kept b is own = All-push (λ (x : Kept). is_own x ≡ true) kept b own is

pub came_own : (home : Option ℕ) (kept : List Kept) → AreOwn kept → AreOwn (came_for home kept)
came_own None kept own = put_own kept stray refl own
came_own (Some k) kept own =
    let b : Kept = record { origin = origin.Nobody; place = place_without_line k kept } in
    cond_both (list_any (is_away k) kept) (move_first (is_away k) (placed.Home k) kept) (kept ++ b ∷ []) AreOwn
    (λ _. moved_own (is_away k) (placed.Home k) kept (λ x away is. comes_own k x.origin x.place away is) own)
    (λ _. put_own kept b (cond_both (has_body k kept) placed.Free (placed.Home k) (λ (p : BodyPlace). is_own_place origin.Nobody p ≡ true) (λ _. refl) (λ _. refl)) own)

pub up_own : (is : Bool) (slot : Option ℕ) (kept : List Kept) → AreOwn kept → AreOwn (taken_up is slot kept)
up_own true slot kept own = moved_own is_waiting (home_or_free slot) kept (λ b waits _. waits_own (home_or_free slot) b.origin b.place waits) own
up_own false slot kept own = own

among_own : (rows : List Row) (any : Bool) (o : Origin) (at : BodyPlace) → is_own_place o at ≡ true → is_own_place o (place_among rows any at) ≡ true
among_own rows any (origin.Spec j) (placed.Home k) own = cond_both (list_any (has_slot k) rows) (placed.Home k) placed.Free (λ (p : BodyPlace). is_own_place (origin.Spec j) p ≡ true) (λ _. own) (λ _. refl)
among_own rows any (origin.Spec j) placed.Waiting own = absurd (false≢true own)
among_own rows any (origin.Spec j) placed.Free own = refl
among_own rows any (origin.Spec j) (placed.Away k) own = own
among_own rows any (origin.Call c) at own = refl
among_own rows any origin.Nobody (placed.Home k) own = cond_both (list_any (has_slot k) rows) (placed.Home k) placed.Free (λ (p : BodyPlace). is_own_place origin.Nobody p ≡ true) (λ _. refl) (λ _. refl)
among_own rows any origin.Nobody placed.Waiting own = absurd (false≢true own)
among_own rows any origin.Nobody placed.Free own = refl
among_own rows any origin.Nobody (placed.Away k) own = refl

pub opened_own : (rows : List Row) (o : Origin) (at : BodyPlace) → is_own_place o at ≡ true → is_own_place o (opened_place rows o at) ≡ true
opened_own rows (origin.Spec j) (placed.Home k) own = own
opened_own rows (origin.Spec j) placed.Waiting own = absurd (false≢true own)
opened_own rows (origin.Spec j) placed.Free own = cond_both (list_any (has_slot j) rows) (placed.Home j) placed.Free (λ (p : BodyPlace). is_own_place (origin.Spec j) p ≡ true) (λ _. eq-eqb j j refl) (λ _. refl)
opened_own rows (origin.Spec j) (placed.Away k) own = own
opened_own rows (origin.Call c) at own = refl
opened_own rows origin.Nobody at own = own

pub settled_own : (rows : List Row) (any : Bool) (kept : List Kept) → AreOwn kept → AreOwn (settled rows any kept)
settled_own rows any kept own = mapped_own (λ (b : Kept). record b { place = place_among rows any b.place }) kept (λ b is. among_own rows any b.origin b.place is) own

-- and at first, where none is away and none waits
first_place : (o : Origin) (at : BodyPlace) → Rattle.std.specs.Prelude.not (Rattle.otp_bodies.specs.Bodies.is_here at) ≡ false → is_own_place o (place_among [] false at) ≡ true
first_place (origin.Spec j) (placed.Home k) near = refl
first_place (origin.Spec j) placed.Waiting near = refl
first_place (origin.Spec j) placed.Free near = refl
first_place (origin.Spec j) (placed.Away k) near = absurd (false≢true (sym near))
first_place (origin.Call c) at near = refl
first_place origin.Nobody (placed.Home k) near = refl
first_place origin.Nobody placed.Waiting near = refl
first_place origin.Nobody placed.Free near = refl
first_place origin.Nobody (placed.Away k) near = absurd (false≢true (sym near))

pub first_own : (kept : List Kept) → list_any is_out kept ≡ false → AreOwn (settled [] false kept)
first_own [] near = All-nil (λ (x : Kept). is_own x ≡ true)
first_own (b ∷ bs) near =
    let parts = or_false (is_out b) (list_any is_out bs) near in
    All-cons (λ (x : Kept). is_own x ≡ true) (record b { place = place_among [] false b.place }) (settled [] false bs) (first_place b.origin b.place parts.0) (first_own bs parts.1)

-- where no call's body waits, none does

with_call : (o : Origin) (at : BodyPlace) → is_own_place o at ≡ true → is_waiting_place at ≡ true → is_some (waiting_as o at) ≡ true
with_call o (placed.Home k) own waits = absurd (false≢true waits)
with_call o placed.Free own waits = absurd (false≢true waits)
with_call o (placed.Away k) own waits = absurd (false≢true waits)
with_call (origin.Spec j) placed.Waiting own waits = absurd (false≢true own)
with_call (origin.Call c) placed.Waiting own waits = refl
with_call origin.Nobody placed.Waiting own waits = absurd (false≢true own)

pub none_waits : (kept : List Kept) → AreOwn kept → calls_waiting kept ≡ [] → list_any is_with_call kept ≡ false
none_waits [] own none = refl
none_waits (b ∷ bs) own none = by (waiting_call b) refl (none_waits bs (All-tail (λ (x : Kept). is_own x ≡ true) b bs own))
  where
    by : (x : Option ℕ) → waiting_call b ≡ x → (calls_waiting bs ≡ [] → list_any is_with_call bs ≡ false) → list_any is_with_call (b ∷ bs) ≡ false
    by (Some c) e rest = absurd (let no : ◌≡◌ {A = List ℕ} (c ∷ calls_waiting bs) [] = sym (ap (λ (x : Option ℕ). cons_option x (calls_waiting bs)) e) ∙ none in search (rules, no))
    by None e rest =
        let own_place : is_own b ≡ true = All-head (λ (x : Kept). is_own x ≡ true) b bs own in
        let here : is_with_call b ≡ false = isnt (is_with_call b) (λ waits. false≢true (sym (ap (λ (x : Option ℕ). is_some x) e) ∙ with_call b.origin b.place own_place waits)) in
        ap (λ (x : Bool). x || list_any is_with_call bs) here ∙ rest (sym (ap (λ (x : Option ℕ). cons_option x (calls_waiting bs)) e) ∙ none)
