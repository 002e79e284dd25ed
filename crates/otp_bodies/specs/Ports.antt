-- What a port took.
use Rattle.std.specs.Prelude.{◌≡◌, ℕ, ◌≤◌, ◌++◌, Bool, List, Option, is_some, map, sum_by}
use Rattle.otp_reason.specs.declared.name.Name.{Name}
use Rattle.otp_reason.specs.declared.note.Note.{Note}
use Rattle.otp_rules.specs.declared.ending.SupEnd.{SupEnd}
use Rattle.otp_bodies.specs.declared.port.Launched.{Launched}
use Rattle.otp_bodies.specs.declared.port.NewProcess.{NewProcess}
use Rattle.otp_bodies.specs.declared.port.ToldNote.{ToldNote}
use Rattle.otp_bodies.specs.Letters.{one_if}

-- a process that a port took: its number, its slot, the id of its child, whether that had a process before, and whether it had a body
abbrev pub launched : ℕ → ℕ → Option Name → Bool → Bool → Launched
launched number slot id again body = record { number = number; slot = slot; id = id; again = again; body = body }

abbrev pub launched_all : {B : Type 0} → List (NewProcess B) → List Launched
launched_all processes = map (λ p. launched p.number p.slot p.id p.again (is_some p.body)) processes

-- a note that a port took, with the end that it tells, if it is that of an end
abbrev pub told : Note → Option SupEnd → ToldNote
told note end = record { note = note; end = end }

-- what a port took
pub record Taken : Type 0 where
  pub processes : List Launched
  pub notes : List ToldNote

abbrev pub taken_by : List Launched → List ToldNote → Taken
taken_by processes notes = record { processes = processes; notes = notes }

-- how many bodies a port took
abbrev pub carried : List Launched → ℕ
carried processes = sum_by (λ (p : Launched). one_if p.body) processes

-- the port took these besides, in this order, and has refused as often as before or more often
pub record TookMore (before after : Taken) (refusals later : ℕ) : Type 0 where
  pub processes : List Launched
  pub notes : List ToldNote
  pub took : after ≡ taken_by (before.processes ++ processes) (before.notes ++ notes)
  pub refused : refusals ≤ later
