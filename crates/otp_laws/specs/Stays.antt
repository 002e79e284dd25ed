-- Which event takes no child away and adds none. (own)
use Rattle.std.specs.Prelude.{◌≡◌, ◌⊎◌, ◌&&◌, not, ℕ, Bool, true, false, List, [], map, option_and_then, position, slice_get}
use Rattle.std.specs.Option.{option_map_or}
use Rattle.otp_reason.specs.declared.note.Note.TheVariants as note
use Rattle.otp_reason.specs.declared.reason.Reason.{Reason}
use Rattle.otp_table.specs.declared.row.Row.{Row}
use Rattle.otp_table.specs.declared.row.RowState.{RowState}
use Rattle.otp_table.specs.declared.row.RowState.TheVariants.{Asked, Killed}
use Rattle.otp_table.specs.Rows.{has_process, row_has}
use Rattle.otp_rules.specs.declared.event.Event.{Event}
use Rattle.otp_rules.specs.declared.event.Item.TheVariants as item
use Rattle.otp_rules.specs.declared.event.Kind.TheVariants as kind
use Rattle.otp_rules.specs.Places.{is_removed}
use Rattle.otp_rules.specs.State.{State, is_over}
use Rattle.otp_rules.specs.Step.{step}

-- the slots of the rows, in their order
abbrev pub slots_in : List Row → List ℕ
slots_in rows = map (λ (row : Row). row.slot) rows

-- where nothing waits, the children stay, each in its slot, at the note that a process is up; unless the supervisor is over then
abbrev pub UpKeepsChildren : Type 0
UpKeepsChildren =
    (s : State) (e : Event) (p : ℕ) → e.kind ≡ kind.Took (item.Note (note.Up p)) → s.waiting ≡ []
    → (slots_in (step s e).state.rows ≡ slots_in s.rows) ⊎ (is_over (step s e).state.phase ≡ true)

-- the child was told to stop
abbrev pub was_told : RowState → Bool
was_told (Asked _ _) = true
was_told (Killed _) = true
was_told _ = false

-- the child was told to stop, and its row stays when its process has ended
abbrev pub stays_stopped : Row → Bool
stays_stopped row = was_told row.state && not (is_removed row)

-- the first row whose process has this number was told to stop, and stays
abbrev pub keeps_row : ℕ → List Row → Bool
keeps_row p rows = option_map_or stays_stopped (option_and_then (slice_get rows) (position (row_has (has_process p)) rows)) false

-- no row comes or goes at the note that a process has ended whose child was told to stop, if its row stays
abbrev pub StopKeepsChildren : Type 0
StopKeepsChildren =
    (s : State) (e : Event) (p : ℕ) (r : Reason) → e.kind ≡ kind.Took (item.Note (note.Exit p r)) → s.waiting ≡ [] → keeps_row p s.rows ≡ true
    → (slots_in (step s e).state.rows ≡ slots_in s.rows) ⊎ (is_over (step s e).state.phase ≡ true)
