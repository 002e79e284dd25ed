-- The slot of the row that has a process.
use Rattle.std.specs.Prelude.{◌≡◌, ℕ, ◌<◌, ◌||◌, Bool, true, false, List, [], ◌∷◌, Option, Some, None, All, count_by, refl, length, position, slice_get}
use Rattle.std.proofs.Common.{◌∙◌, ap, sym, subst, arith, ⊎_elim, get_or}
use Rattle.std.specs.List.{list_any}
use Rattle.std.proofs.lemmas.Bool.{cases_Bool, eqb-true, false≢true}
use Rattle.std.proofs.lemmas.List.Elements.{All-head, All-tail}
use Rattle.std.proofs.lemmas.Option.{slice_get_within, get_or_from_slice_get, slice_get-get_or}
use Rattle.std.proofs.lemmas.List.Quantifiers.{position-Some}
use Rattle.otp_table.specs.declared.row.Row.{Row}
use Rattle.otp_table.specs.Rows.{row_has, has_process, has_slot}
use Rattle.otp_rules.specs.Slots.{AreSlotted}
use Rattle.otp_bodies.specs.Slots.{AreBelow}
use Rattle.otp_bodies.specs.Rows.{slot_at, slot_in, slot_of}

slot_in-below : (rows : List Row) → AreSlotted rows → (row : Option Row) (place : ℕ) → slice_get rows place ≡ row → slot_in row < 256
slot_in-below rows own None place at = omega arith
slot_in-below rows own (Some row) place at =
    let within = slice_get_within rows place row at in
    subst (λ (r : Row). r.slot < 256) (get_or_from_slice_get rows place row row at) (own.below place row within)

pub slot_of-below : (rows : List Row) (n : ℕ) → AreSlotted rows → slot_of rows n < 256
slot_of-below rows n own = at (position (row_has (has_process n)) rows)
  where
    at : (place : Option ℕ) → slot_at rows place < 256
    at None = omega arith
    at (Some place) = slot_in-below rows own (slice_get rows place) place refl

pub slot_read : (rows : List Row) (n place : ℕ) (d : Row) → position (row_has (has_process n)) rows ≡ Some place → (get_or rows place d).slot ≡ slot_of rows n
slot_read rows n place d is =
    let within : place < length rows = (position-Some (row_has (has_process n)) rows place d is).0 in
    sym (ap (λ (o : Option ℕ). slot_at rows o) is ∙ ap (λ (o : Option Row). slot_in o) (slice_get-get_or rows place d within))

any_below : (rows : List Row) → All (λ (row : Row). row.slot < 256) rows → (slot : ℕ) → list_any (has_slot slot) rows ≡ true → slot < 256
any_below [] all slot h = absurd (false≢true h)
any_below (x ∷ xs) all slot h =
    ⊎_elim
    (λ (same : has_slot slot x ≡ true). subst (λ (n : ℕ). n < 256) (eqb-true x.slot slot same) (All-head (λ (row : Row). row.slot < 256) x xs all))
    (λ (other : has_slot slot x ≡ false). any_below xs (All-tail (λ (row : Row). row.slot < 256) x xs all) slot (sym (ap (λ (b : Bool). b || list_any (has_slot slot) xs) other) ∙ h))
    (cases_Bool (has_slot slot x))

-- each row's slot is one of the 256
pub are_below : (rows : List Row) → AreSlotted rows → AreBelow rows
are_below rows own = any_below rows own.below

-- a supervisor that was never opened has no rows
pub unslotted : AreSlotted []
unslotted =
    record {
      one = λ slot. let none : count_by (has_slot slot) [] ≡ 0 = refl in omega (arith, none);
      below = λ k d b. absurd (omega (arith, b));
    }
