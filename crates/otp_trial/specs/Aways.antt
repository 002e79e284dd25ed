-- Since when children of a supervisor are without a process, and how long they were (own).
use Rattle.std.specs.Prelude.{ℕ, Bool, List, [], ◌∷◌, ◌++◌, Option, Some, None, position, slice_get}
use Rattle.std.specs.List.{remove}
use Rattle.std.specs.Str.{bytes_eq}
use Rattle.otp_reason.specs.Names.{name_bytes}
use Rattle.otp_reason.specs.declared.name.Name.{Name}
use Rattle.otp_reason.specs.declared.note.Note.{Note}
use Rattle.otp_reason.specs.declared.note.Note.TheVariants as note
use Rattle.otp_rules.specs.declared.event.Item.TheVariants as item
use Rattle.otp_rules.specs.declared.event.Kind.{Kind}
use Rattle.otp_rules.specs.declared.event.Kind.TheVariants as kind
use Rattle.otp_table.specs.Rows.{has_process, row_has}
use Rattle.otp_table.specs.declared.row.Row.{Row}
use Rattle.otp_trial.specs.declared.story.away.Away.{Away}
use Rattle.otp_trial.specs.declared.story.away.Presence.{Presence}
use Rattle.otp_trial.specs.declared.story.away.Presence.TheVariants as presence

unfoldable pub id_in : Option Row → Option Name
id_in None = None
id_in (Some row) = row.id

unfoldable pub id_at : List Row → Option ℕ → Option Name
id_at rows None = None
id_at rows (Some place) = id_in (slice_get rows place)

-- the id of the child that has this process; a dynamic child has none
abbrev pub id_of : List Row → ℕ → Option Name
id_of rows p = id_at rows (position (row_has (has_process p)) rows)

-- this child has lost its process, if it has an id
unfoldable pub left_by : Option Name → Option Presence
left_by None = None
left_by (Some id) = Some (presence.Left id)

-- or it is up
unfoldable pub up_by : Option Name → Option Presence
up_by None = None
up_by (Some id) = Some (presence.Back id)

-- what a note says so of these children
unfoldable pub presence_in : List Row → Note → Option Presence
presence_in rows (note.Up p) = up_by (id_of rows p)
presence_in rows (note.Ignored p) = None
presence_in rows (note.Failed p r) = None
presence_in rows (note.Exit p r) = left_by (id_of rows p)

-- what an event of this kind says so of these children
unfoldable pub presence_of : List Row → Kind → Option Presence
presence_of rows (kind.Took (item.Note told)) = presence_in rows told
presence_of rows _ = None

abbrev pub is_away : Name → Away → Bool
is_away id away = bytes_eq (name_bytes away.id) (name_bytes id)

unfoldable pub away_at : List Away → Option ℕ → Option Away
away_at aways None = None
away_at aways (Some at) = slice_get aways at

unfoldable pub without_away : List Away → Option ℕ → List Away
without_away aways None = aways
without_away aways (Some at) = remove aways at

-- the process of this child ended now: it is away, where it was not before
unfoldable pub left_at : ℕ → Name → Option ℕ → List Away → List Away
left_at now id None aways = aways ++ record { id = id; since = now } ∷ []
left_at now id (Some at) aways = aways

-- which children are away after that
unfoldable pub aways_by : Option Presence → ℕ → List Away → List Away
aways_by None now aways = aways
aways_by (Some (presence.Left id)) now aways = left_at now id (position (is_away id) aways) aways
aways_by (Some (presence.Back id)) now aways = without_away aways (position (is_away id) aways)

-- the child that was away, and is up by that
unfoldable pub back_by : Option Presence → List Away → Option Away
back_by None aways = None
back_by (Some (presence.Left id)) aways = None
back_by (Some (presence.Back id)) aways = away_at aways (position (is_away id) aways)
