-- Where no child has a deadline, there is none to wait for.
use Rattle.std.proofs.Common.{◌≡◌, ◌∙◌, ℕ, List, [], ◌∷◌, Option, None, Some, ap, refl}
use Rattle.std.specs.Prelude.{Bool, true, false, ◌||◌}
use Rattle.std.specs.List.{list_any}
use Rattle.std.proofs.lemmas.Bool.{both_ways}
use Rattle.otp_table.specs.declared.row.Row.{Row}
use Rattle.otp_table.specs.declared.row.RowState.{RowState}
use Rattle.otp_table.specs.declared.row.RowState.TheVariants.{Undefined, Starting, Up, Asked, Killed, Restarting}
use Rattle.otp_table.specs.Rows.{is_timed, row_has}
use Rattle.otp_rules.specs.Next.{deadline_from, deadline_of, earlier, next_deadline}

no_deadline : (s : RowState) → is_timed s ≡ false → deadline_of s ≡ None
no_deadline Undefined off = refl
no_deadline (Starting p k) off = refl
no_deadline (Up p) off = refl
no_deadline (Asked p None) off = refl
no_deadline (Asked p (Some t)) off = absurd (both_ways true off refl)
no_deadline (Killed p) off = refl
no_deadline (Restarting k) off = refl

either : (a b : Bool) → (a || b) ≡ false → (a ≡ false) × (b ≡ false)
either true b off = absurd (both_ways true off refl)
either false b off = (refl, off)

same_from : (least : Option ℕ) → earlier least None ≡ least
same_from None = refl
same_from (Some a) = refl

none_from : (least : Option ℕ) (rows : List Row) → list_any (row_has is_timed) rows ≡ false → deadline_from least rows ≡ least
none_from least [] off = refl
none_from least (row ∷ rows) off =
    let both : (is_timed row.state ≡ false) × (list_any (row_has is_timed) rows ≡ false) = either (is_timed row.state) (list_any (row_has is_timed) rows) off in
    ap (λ o. deadline_from (earlier least o) rows) (no_deadline row.state both.0) ∙ ap (λ o. deadline_from o rows) (same_from least) ∙ none_from least rows both.1

pub none_next : (rows : List Row) → list_any (row_has is_timed) rows ≡ false → next_deadline rows ≡ None
none_next rows off = none_from None rows off
