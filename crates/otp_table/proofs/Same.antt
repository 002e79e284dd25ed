-- A table whose rows and marks stay as they are, in other memory.
use Rattle.std.specs.Prelude.{◌≡◌, ℕ, List, ◌+◌, ◌≤◌, IsTrue, vec_len, vec_capacity}
use Rattle.std.proofs.Common.{subst, sym}
use Rattle.otp_spec.specs.declared.limits.TheConstants.{MAX_CHILDREN}
use Rattle.otp_table.specs.Counted.{AreCounted}
use Rattle.otp_table.specs.Keys.{id_key}
use Rattle.otp_table.specs.Marks.{Rises, number_at}
use Rattle.otp_table.specs.Numbers.{AreApart, AreWithin}
use Rattle.otp_table.specs.Deadlines.{AreNotBefore}
use Rattle.otp_table.specs.Rows.{AreDefined}
use Rattle.otp_table.specs.declared.row.Row.{Row}
use Rattle.otp_table.specs.TableInside.{IsTable}
use Rattle.otp_table.specs.declared.rows.Rows.TheInside.{Inside}
use Rattle.otp_table.proofs.Indexed.{same_marks}

-- what a table says of its memory
abbrev pub HasRoom : Inside → Type 0
HasRoom t = (vec_len t.items + t.room ≤ vec_capacity t.items) × (vec_len t.items ≤ MAX_CHILDREN) × (vec_len t.items + t.room ≤ vec_capacity t.ids)

-- what is known of the rows is the same
abbrev pub KnowsSame : Inside → Inside → Type 0
KnowsSame t u = (u.counts ≡ t.counts) × (u.defined ≡ t.defined) × (u.soonest ≡ t.soonest) × (u.greatest ≡ t.greatest) × (u.is_apart ≡ t.is_apart) × (u.is_named ≡ t.is_named)

pub same_table : (t u : Inside) → u.items.items ≡ t.items.items → u.ids.items ≡ t.ids.items → KnowsSame t u → HasRoom u → IsTable t → IsTable u
same_table t u rows ids (counts, defined, soonest, greatest, is_apart, is_named) (room, limit, ids_room) h =
    record {
      room = room;
      limit = limit;
      counted = subst (AreCounted u.counts) (sym rows) (subst (λ c. AreCounted c t.items.items) (sym counts) h.counted);
      defined = subst (AreDefined u.defined) (sym rows) (subst (λ n. AreDefined n t.items.items) (sym defined) h.defined);
      soonest = subst (AreNotBefore u.soonest) (sym rows) (subst (λ (n : ℕ). AreNotBefore n t.items.items) (sym soonest) h.soonest);
      within = subst (λ (xs : List Row). AreWithin u.greatest (number_at xs)) (sym rows) (subst (λ (n : ℕ). AreWithin n (number_at t.items.items)) (sym greatest) h.within);
      apart = λ yes. subst (λ (xs : List Row). AreApart (number_at xs)) (sym rows) (h.apart (subst (λ b. IsTrue b) is_apart yes));
      ids_room = ids_room;
      ids_rise = subst Rises (sym ids) h.ids_rise;
      named = λ yes. same_marks id_key t.items.items u.items.items t.ids.items u.ids.items rows ids (h.named (subst (λ b. IsTrue b) is_named yes));
    }
