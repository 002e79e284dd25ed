-- What is kept of a run: all that it tells, line by line (own).
use Rattle.std.specs.Prelude.{◌≡◌, ℕ, Bool, true, List, [], ◌∷◌, ◌++◌}
use Rattle.otp_try.specs.declared.account.account.Account.{Account}
use Rattle.otp_try.specs.declared.account.account.Played.{Played}
use Rattle.otp_file.specs.Trees.{Tree}
use Rattle.otp_rules.specs.declared.event.Kind.TheVariants as kind
use Rattle.otp_trial.specs.Played.{IsPlanted, Seated, Stand, TellsFirst, at_start, now_of}
use Rattle.otp_trial.specs.Steps.{TellsLine}
use Rattle.otp_trial.specs.declared.clock.Clock.{Clock}
use Rattle.otp_try.specs.Sketched.{moment_of}

-- the moment of a line shows how a run stands, and at what its clock shows; the root has a process
abbrev pub StandsSo : Played → Stand → Type 0
StandsSo one stand = (others : List Bool) × (one.moment ≡ moment_of one.number (now_of stand) stand.seats (true ∷ others))

-- what a line's own text says was done, as often as it says, each time when it says, and came to what is kept; what it did was told:
-- all orders of its moves, in their order
abbrev pub IsPlayed : Stand → Played → Stand → Type 0
IsPlayed old one new = TellsLine one.line.items one.outcome.taken old new [] one.told.items × StandsSo one new

-- the lines were played one after the other: no move is left out
abbrev pub RunsOn : Stand → List Played → Stand → Type 0
RunsOn stand [] after = after ≡ stand
RunsOn stand (one ∷ lines) after = (next : Stand) × (IsPlayed stand one next × RunsOn next lines after)

-- lines were played and put behind others
abbrev pub Adds : Stand → List Played → Stand → List Played → Type 0
Adds old before new after = (more : List Played) × (RunsOn old more new × (after ≡ before ++ more))

-- a run of the supervisors of a tree, of which none was ever opened: first the root is opened, with all that follows from it, and
-- then come its lines
pub record IsAccount (tree : Tree) (account : Account) : Type 0 where
  pub planted : List Seated
  pub is : IsPlanted true tree planted
  pub clock : Clock
  pub opened : Stand
  pub opens : TellsFirst 0 (kind.Opened 0) (at_start clock planted) opened [] account.opening.told.items
  pub stands : StandsSo account.opening opened
  pub ran : RunsOn opened account.lines.items account.trial
