-- A child that crashes again and again, and how its supervisor fares (own).
use Rattle.std.specs.Prelude.{◌≡◌, ◌⊎◌, ℕ, ◌+◌, ◌*◌, ◌<◌, true, false, List, [], Bool, Option, Some, None, position, slice_get}
use Prim.Native.Nat.{zero, suc}
use Rattle.std.specs.Ordering.{on}
use Rattle.std.specs.Str.{bytes_eq}
use Rattle.otp_reason.specs.Names.{name_bytes}
use Rattle.otp_reason.specs.declared.name.Name.{Name}
use Rattle.otp_reason.specs.declared.note.Note.TheVariants as note
use Rattle.otp_reason.specs.declared.reason.Reason.TheVariants as reason
use Rattle.otp_rules.specs.declared.event.Item.TheVariants as item
use Rattle.otp_rules.specs.declared.event.Kind.TheVariants as kind
use Rattle.otp_rules.specs.State.{is_over}
use Rattle.otp_spec.specs.declared.child.ChildSpec.{ChildSpec}
use Rattle.otp_spec.specs.declared.flags.SupFlags.{SupFlags}
use Rattle.otp_table.specs.declared.row.Row.{Row}
use Rattle.otp_table.specs.Rows.{up_number}
use Rattle.otp_trial.specs.declared.clock.Clock.{Clock}
use Rattle.otp_costs.specs.declared.limits.fate.Fate.{Fate}
use Rattle.otp_costs.specs.declared.limits.fate.Fate.TheVariants as fate
use Rattle.otp_trial.specs.Clocks.{shown}
use Rattle.otp_costs.specs.Scene.{FillsUp, IsFull, OpeningFills, Opens, Scene, Settles, happened}

unfoldable pub running : Option Row → Option ℕ
running None = None
running (Some row) = up_number row.state

unfoldable pub running_at : List Row → Option ℕ → Option ℕ
running_at rows None = None
running_at rows (Some place) = running (slice_get rows place)

-- the row is that of a child of the specification with this id; dynamic children have no id of their own
abbrev pub is_of : Name → Row → Bool
is_of id row = on name_bytes bytes_eq row.spec.id id

-- the process of the first child of the specification with this id, if it runs
unfoldable pub process_of : Name → List Row → Option ℕ
process_of id rows = running_at rows (position (is_of id) rows)

abbrev pub cleared : Scene → Scene
cleared s = record s { orders = [] }

unfoldable pub crashed_at : ℕ → Option ℕ → Scene → Scene
crashed_at time None s = s
crashed_at time (Some p) s = happened time (kind.Took (item.Note (note.Exit p reason.Killed))) s

-- the process of this child is killed at this time; nothing happens where it has none
abbrev pub crashed : Name → ℕ → Scene → Scene
crashed id time s = crashed_at time (process_of id s.state.rows) (cleared s)

-- so many crashes of this child, so many milliseconds apart by this clock, the first at the beginning, with all that follows
-- from each
abbrev pub Crashes : Clock → Name → ℕ → ℕ → Scene → Scene → Type 0
Crashes clock id gap zero old new = new ≡ old
Crashes clock id gap (suc n) old new =
    (before : Scene) × Crashes clock id gap n old before × Settles (shown clock (n * gap)) (crashed id (shown clock (n * gap)) before) new

-- the supervisor runs after so many crashes
abbrev pub RunsAfter : Clock → Name → ℕ → ℕ → Scene → Scene → Type 0
RunsAfter clock id gap n old new = Crashes clock id gap n old new × (is_over new.state.phase ≡ false)

-- the supervisor has ended after so many crashes
abbrev pub IsOverAfter : Clock → Name → ℕ → ℕ → Scene → Type 0
IsOverAfter clock id gap n old = (new : Scene) × Crashes clock id gap n old new × (is_over new.state.phase ≡ true)

-- the next crash of this child can't be played to its end: a supervisor has no more events
abbrev pub HasNoRoom : Name → ℕ → Scene → Type 0
HasNoRoom id time s = IsFull s ⊎ FillsUp time (crashed id time s)

-- how an opened supervisor fares where a child crashes so often, at such an interval
unfoldable pub Fares : Clock → Name → ℕ → ℕ → Scene → Fate → Type 0
Fares clock id gap crashes s fate.Survived = (new : Scene) × RunsAfter clock id gap crashes s new
Fares clock id gap crashes s (fate.Ended n) = (n < crashes) × (((new : Scene) × RunsAfter clock id gap n s new) × IsOverAfter clock id gap (n + 1) s)
Fares clock id gap crashes s (fate.Gone n) = (new : Scene) × (RunsAfter clock id gap n s new × (process_of id new.state.rows ≡ None))

-- one of so many crashes can't be played to its end
pub record Fills (clock : Clock) (id : Name) (gap crashes : ℕ) (s : Scene) : Type 0 where
  pub count : ℕ
  pub inside : count < crashes
  pub before : Scene
  pub crashed : Crashes clock id gap count s before
  pub fills : HasNoRoom id (shown clock (count * gap)) before

-- so many crashes of the child, played from the opening on, end so
pub record Plays (flags : SupFlags) (specs : List ChildSpec) (clock : Clock) (id : Name) (gap crashes : ℕ) (ending : Fate) : Type 0 where
  pub opened : Scene
  pub opens : Opens flags specs opened
  pub fares : Fares clock id gap crashes opened ending

-- it can't be played: the opening ends the supervisor, or one of the crashes after it does not come to its end
pub record CrashFills (flags : SupFlags) (specs : List ChildSpec) (clock : Clock) (id : Name) (gap crashes : ℕ) : Type 0 where
  pub opened : Scene
  pub opens : Opens flags specs opened
  pub fills : (is_over opened.state.phase ≡ true) ⊎ Fills clock id gap crashes opened

-- the same, or the opening does not come to its end
abbrev pub IsUnplayed : SupFlags → List ChildSpec → Clock → Name → ℕ → ℕ → Type 0
IsUnplayed flags specs clock id gap crashes = OpeningFills flags specs ⊎ CrashFills flags specs clock id gap crashes
