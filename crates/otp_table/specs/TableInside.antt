use Rattle.std.specs.Prelude.{◌+◌, ◌≤◌, IsTrue, vec_len, vec_capacity}
use Rattle.otp_spec.specs.declared.limits.TheConstants.{MAX_CHILDREN}
use Rattle.otp_table.specs.Counted.{AreCounted}
use Rattle.otp_table.specs.Marks.{AreMarks, Rises, id_at, number_at}
use Rattle.otp_table.specs.Numbers.{AreApart, AreWithin}
use Rattle.otp_table.specs.Deadlines.{AreNotBefore}
use Rattle.otp_table.specs.Rows.{AreDefined}
use Rattle.otp_table.specs.Table.{Table}
use Rattle.otp_table.specs.declared.rows.Rows.TheInside.{Inside}

abbrev pub table_of : Inside → Table
table_of t = record { rows = t.items.items; room = t.room }

-- the room is there, and there are at most so many rows as a supervisor has children (own)
pub record IsTable (t : Inside) : Type 0 where
  pub room : vec_len t.items + t.room ≤ vec_capacity t.items
  pub limit : vec_len t.items ≤ MAX_CHILDREN
  -- the rows are counted
  pub counted : AreCounted t.counts t.items.items
  -- none of the first is undefined
  pub defined : AreDefined t.defined t.items.items
  -- none has an earlier deadline
  pub soonest : AreNotBefore t.soonest t.items.items
  -- no row has a number above the greatest
  pub within : AreWithin t.greatest (number_at t.items.items)
  -- no two rows have one number
  pub apart : IsTrue t.is_apart → AreApart (number_at t.items.items)
  -- the room is there for the marks of all rows' ids too
  pub ids_room : vec_len t.items + t.room ≤ vec_capacity t.ids
  -- the marks are in the order of the ids' fingerprints
  pub ids_rise : Rises t.ids.items
  -- the marks tell of exactly the rows that have an id, each once
  pub named : IsTrue t.is_named → AreMarks (id_at t.items.items) t.ids.items
