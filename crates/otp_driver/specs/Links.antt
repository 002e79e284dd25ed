-- Whose child a supervisor of the tree is, and how it stands.
use Rattle.std.specs.Prelude.{ℕ, ◌+◌, ◌-◌, ◌^◌, ◌<◌, ◌==◌, All, List, ◌&&◌, ◌||◌, Bool, true, false, Option, Some, None, is_some, min, position}
use Rattle.std.specs.Ordering.{on}
use Rattle.std.specs.Str.{bytes_eq}
use Rattle.otp_reason.specs.Names.{name_bytes}
use Rattle.otp_reason.specs.declared.note.Note.{Note}
use Rattle.otp_reason.specs.declared.note.Note.TheVariants as note
use Rattle.otp_reason.specs.declared.reason.Reason.{Reason}
use Rattle.otp_rules.specs.declared.ending.Ending.{Ending}
use Rattle.otp_spec.specs.declared.child.ChildSpec.{ChildSpec}
use Rattle.otp_table.specs.declared.row.Row.{Row}
use Rattle.otp_table.specs.Rows.{has_id, is_supervisor}
use Rattle.otp_driver.specs.declared.driven.link.Link.{Link}

-- a supervisor that was not started yet: the child of this parent that has this specification
abbrev pub first_link : ℕ → Option ChildSpec → Link
first_link parent child = record { parent = parent; child = child; process = None; is_up = false; is_stopping = false; starts = 0; ended = None }

-- started under this number: not up yet, and nobody wants it to shut down
abbrev pub begun : ℕ → Link → Link
begun process link = record link { process = Some process; is_up = false; is_stopping = false; starts = min (link.starts + 1) (2 ^ 64 - 1) }

-- wanted to shut down
abbrev pub asked : Link → Link
asked link = record link { is_stopping = true }

-- it has told its parent that it is up
abbrev pub up : Link → Link
up link = record link { is_up = true }

-- it has no process any more, and ended for this, where that is known
abbrev pub gone : Option Ending → Link → Link
gone ended link = record link { process = None; is_up = false; ended = ended }

-- it has told its parent this: that it is up, or else that it has no process any more, and why it ended
unfoldable pub told : Note → Option Ending → Link → Link
told (note.Up _) ended link = up link
told _ ended link = gone ended link

-- it runs, or may: the root is nobody's child, and runs from the beginning
abbrev pub runs : ℕ → Link → Bool
runs place link = place == 0 || is_some link.process

-- the child of a row is the one that the tree file has so: a supervisor of this id and this start. Somebody may have deleted
-- that child and put another in its place (start_child/2 and delete_child/2); one that differs in these has its process outside
abbrev pub is_child_of : Row → Option ChildSpec → Bool
is_child_of row None = false
is_child_of row (Some spec) = has_id spec.id row && (on name_bytes bytes_eq row.spec.start spec.start && is_supervisor row)

-- it is a child of this parent; the root is nobody's
abbrev pub is_link_under : ℕ → Link → Bool
is_link_under parent link = link.parent == parent && is_some link.child

-- it is the child of its parent's row
abbrev pub is_link_of : ℕ → Row → Link → Bool
is_link_of parent row link = link.parent == parent && is_child_of row link.child

-- the supervisor of the tree that this child of a supervisor is
unfoldable pub nested_of : List Link → ℕ → Option Row → Option ℕ
nested_of links parent None = None
nested_of links parent (Some row) = position (is_link_of parent row) links

abbrev pub is_process : ℕ → Option ℕ → Bool
is_process number None = false
is_process number (Some process) = process == number

-- it runs as the process of this number, which its parent gave it
abbrev pub holds_process : ℕ → ℕ → Link → Bool
holds_process parent number link = link.parent == parent && is_process number link.process

-- one of both: a child of this parent, or what runs as this process
abbrev pub is_link_near : ℕ → ℕ → Link → Bool
is_link_near parent number link = is_link_under parent link || holds_process parent number link

-- what it tells its parent when it ends: before it was up its start has failed (supervisor, start_link/2,3)
abbrev pub note_of_end : Bool → ℕ → Reason → Note
note_of_end true number reason = note.Exit number reason
note_of_end false number reason = note.Failed number reason

-- the parents of these are below this number
abbrev pub HaveParents : ℕ → List Link → Type 0
HaveParents count links = All (λ l. l.parent < count) links
