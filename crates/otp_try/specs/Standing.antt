-- How a supervisor stands, in one line (own).
use Rattle.std.specs.Prelude.{ℕ, ◌==◌, Bool, true, false, List, [], ◌∷◌, ◌++◌, codes, count_by, decimal, if◌then◌else◌}
use Rattle.otp_spec.specs.declared.flags.SupFlags.{SupFlags}
use Rattle.otp_table.specs.declared.row.Row.{Row}
use Rattle.otp_table.specs.declared.row.RowState.{RowState}
use Rattle.otp_table.specs.declared.row.RowState.TheVariants.{Undefined, Starting, Up, Asked, Killed, Restarting}
use Rattle.otp_trial.specs.Story.{number_after}
use Rattle.otp_try.specs.declared.remarks.state.Doing.{Doing}
use Rattle.otp_try.specs.declared.remarks.state.Doing.TheVariants as doing
use Rattle.otp_window.specs.Period.{in_period}

-- what a child in this state does: one that was asked to shut down, or killed, has not ended
unfoldable pub doing_of : RowState → Doing
doing_of Undefined = doing.Down
doing_of (Starting _ _) = doing.Starting
doing_of (Up _) = doing.Up
doing_of (Asked _ _) = doing.Stopping
doing_of (Killed _) = doing.Stopping
doing_of (Restarting _) = doing.Restarting

-- the word for it
unfoldable pub doing_word : Doing → List ℕ
doing_word doing.Up = codes "up"
doing_word doing.Starting = codes "starting"
doing_word doing.Stopping = codes "stopping"
doing_word doing.Restarting = codes "restarting"
doing_word doing.Down = codes "down"

abbrev pub is_same : Doing → Doing → Bool
is_same doing.Up doing.Up = true
is_same doing.Starting doing.Starting = true
is_same doing.Stopping doing.Stopping = true
is_same doing.Restarting doing.Restarting = true
is_same doing.Down doing.Down = true
is_same _ _ = false

-- whether a child does this
abbrev pub does : Doing → Row → Bool
does doing row = is_same doing (doing_of row.state)

-- so many children, as `3 up, `; nothing where there are none
unfoldable pub count_text : ℕ → List ℕ → List ℕ
count_text count word = if count == 0 then [] else decimal count ++ codes " " ++ word ++ codes ", "

-- how many of the children do this
unfoldable pub doing_text : List Row → Doing → List ℕ
doing_text rows doing = count_text (count_by (does doing) rows) (doing_word doing)

-- how the children stand, a comma behind each count
unfoldable pub children_text : List Row → List ℕ
children_text [] = codes "no children, "
children_text (row ∷ rows) =
    doing_text (row ∷ rows) doing.Up
    ++ doing_text (row ∷ rows) doing.Starting
    ++ doing_text (row ∷ rows) doing.Stopping
    ++ doing_text (row ∷ rows) doing.Restarting
    ++ doing_text (row ∷ rows) doing.Down

-- so many restarts, and how many there may be
unfoldable pub share_text : ℕ → ℕ → List ℕ
share_text restarts intensity = decimal restarts ++ codes "/" ++ decimal intensity

-- within which time
unfoldable pub period_text : ℕ → List ℕ
period_text period = number_after (codes " restarts in ") period

-- how many restarts of a period are used up, as `2/3 restarts in 10 s`
unfoldable pub used_text : SupFlags → ℕ → List ℕ
used_text flags restarts = share_text restarts flags.intensity ++ period_text flags.period ++ codes " s"

-- how a supervisor stands now that has these children, and had restarts at these times
unfoldable pub state_text : SupFlags → List Row → List ℕ → ℕ → List ℕ
state_text flags rows stamps now = children_text rows ++ used_text flags (in_period flags.period stamps now)
