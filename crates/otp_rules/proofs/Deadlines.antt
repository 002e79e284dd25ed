-- The least deadline has come exactly when some deadline has.
use Rattle.std.specs.Prelude.{◌≡◌, ℕ, Bool, true, false, ◌||◌, List, [], ◌∷◌, Option, None, Some, refl, if◌then◌else◌, is_some, min, nat_le}
use Rattle.std.specs.List.{list_any}
use Rattle.std.proofs.Common.{◌∙◌, ap, sym, arith}
use Rattle.otp_table.specs.declared.row.Row.{Row}
use Rattle.otp_table.specs.declared.row.RowState.{RowState}
use Rattle.otp_table.specs.declared.row.RowState.TheVariants.{Undefined, Starting, Up, Asked, Killed, Restarting}
use Rattle.otp_rules.specs.Next.{DeadlinesCome, deadline_from, deadline_of, earlier, has_come}
use Rattle.otp_rules.specs.Step.{is_late, late_by}
use Rattle.otp_rules.proofs.Bits.{or_false}

or_assoc : (a b c : Bool) → ((a || b) || c) ≡ (a || (b || c))
or_assoc true b c = refl
or_assoc false b c = refl

some_late : (now p d : ℕ) → is_some (late_by now p (Some d)) ≡ nat_le d now
some_late now p d = elim (nat_le d now) as (λ b. is_some (if b then Some p else None) ≡ b) [ true ↦ refl | false ↦ refl ]

late_come : (now : ℕ) (state : RowState) → is_late now state ≡ has_come now (deadline_of state)
late_come now Undefined = refl
late_come now (Starting _ _) = refl
late_come now (Up _) = refl
late_come now (Asked p None) = refl
late_come now (Asked p (Some d)) = some_late now p d
late_come now (Killed _) = refl
late_come now (Restarting _) = refl

min_come : (now a b : ℕ) → nat_le (min a b) now ≡ (nat_le a now || nat_le b now)
min_come now a b = grind arith

earlier_come : (now : ℕ) (one other : Option ℕ) → has_come now (earlier one other) ≡ (has_come now one || has_come now other)
earlier_come now None other = refl
earlier_come now (Some a) None = sym (or_false (nat_le a now))
earlier_come now (Some a) (Some b) = min_come now a b

come_from : (now : ℕ) (least : Option ℕ) (rows : List Row) → has_come now (deadline_from least rows) ≡ (has_come now least || list_any (λ row. is_late now row.state) rows)
come_from now least [] = sym (or_false (has_come now least))
come_from now least (row ∷ rows) =
    come_from now (earlier least (deadline_of row.state)) rows
    ∙ ap (λ (b : Bool). b || list_any (λ row. is_late now row.state) rows) (earlier_come now least (deadline_of row.state))
    ∙ ap (λ (b : Bool). (has_come now least || b) || list_any (λ row. is_late now row.state) rows) (sym (late_come now row.state))
    ∙ or_assoc (has_come now least) (is_late now row.state) (list_any (λ row. is_late now row.state) rows)

pub deadlines_come_law : DeadlinesCome
deadlines_come_law now rows = sym (come_from now None rows)
