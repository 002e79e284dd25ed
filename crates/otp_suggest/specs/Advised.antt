-- What would survive crashes of a child (own).
use Rattle.std.specs.Prelude.{◌≡◌, ◌⊎◌, ℕ, true, List, Option, Some, None, slice_index_or}
use Rattle.otp_file.specs.Trees.{Tree}
use Rattle.otp_costs.specs.Costs.{IsUnknown}
use Rattle.otp_costs.specs.Fates.{Plays}
use Rattle.otp_reason.specs.declared.name.Name.{Name}
use Rattle.otp_spec.specs.declared.child.ChildSpec.{ChildSpec}
use Rattle.otp_spec.specs.declared.child.ChildType.{ChildType}
use Rattle.otp_spec.specs.declared.child.ChildType.TheVariants.{Worker, Supervisor}
use Rattle.otp_spec.specs.declared.flags.SupFlags.{SupFlags}
use Rattle.otp_spec.specs.declared.limits.TheConstants.{MAX_INTENSITY}
use Rattle.otp_trial.specs.Played.{IsPlanted, Seated}
use Rattle.otp_trial.specs.declared.clock.Clock.{Clock}
use Rattle.otp_trial.specs.declared.clock.Clock.TheVariants.{Milliseconds, Seconds}
use Rattle.otp_suggest.specs.Courses.{IsJudgedBy, course_of}
use Rattle.otp_suggest.specs.Edges.{IsEdge, IsEdgeless, turned}
use Rattle.otp_suggest.specs.Found.{child_from}
use Rattle.otp_suggest.specs.declared.advice.Advice.{Advice}
use Rattle.otp_suggest.specs.declared.advice.Suggestion.{Suggestion}
use Rattle.otp_suggest.specs.declared.course.Course.{Course}
use Rattle.otp_suggest.specs.declared.course.Course.TheVariants.{Times}
use Rattle.otp_suggest.specs.declared.course.Question.{Question}
use Rattle.otp_suggest.specs.declared.course.Question.TheVariants.{Every, Within}
use Rattle.otp_suggest.specs.declared.dial.Dial.TheVariants.{Intensity, Period}
use Rattle.otp_suggest.specs.declared.subject.Finding.{Finding}
use Rattle.otp_suggest.specs.declared.subject.Finding.TheVariants as finding

-- what one clock says of crashes that come so: whether they are survived as the flags are, and the edge of each flag
pub record IsAdvice (clock : Clock) (flags : SupFlags) (specs : List ChildSpec) (id : Name) (course : Course) (advice : Advice) : Type 0 where
  pub today : IsJudgedBy clock flags specs id course advice.today
  pub intensity : IsEdge Intensity clock flags specs id course advice.intensity
  pub period : IsEdge Period clock flags specs id course advice.period

-- so many crashes may come all at once: nothing is closer together. By each clock that is at one time
abbrev pub IsWorst : Question → SupFlags → List ChildSpec → Name → Option Advice → Type 0
IsWorst (Every gap) flags specs id worst = worst ≡ None
IsWorst (Within count time) flags specs id worst =
    (advice : Advice) × ((worst ≡ Some advice) × IsAdvice Milliseconds flags specs id (Times count 0) advice)

-- what both clocks say, what is said of the worst, and how the supervisor fares with the greatest intensity where the child crashes
-- twice at once
pub record IsSuggestion (flags : SupFlags) (specs : List ChildSpec) (id : Name) (question : Question) (said : Suggestion) : Type 0 where
  pub twice : Plays (turned Intensity MAX_INTENSITY flags) specs Milliseconds id 0 2 said.twice
  pub worst : IsWorst question flags specs id said.worst
  pub ours : IsAdvice Milliseconds flags specs id (course_of question) said.ours
  pub theirs : IsAdvice Seconds flags specs id (course_of question) said.theirs

-- what they say can't be found: a run of crashes of this child can't be played to its end, with the flags as they are or with
-- another intensity or period
unfoldable pub IsUnadvised : SupFlags → List ChildSpec → Name → Type 0
IsUnadvised flags specs id = IsUnknown flags specs id ⊎ (IsEdgeless Intensity flags specs id ⊎ IsEdgeless Period flags specs id)

-- what is found of a child of the supervisor at this place: of a worker what would survive its crashes; a supervisor is refused
abbrev pub FindsKind : ChildType → Question → List Seated → ℕ → Name → Finding → Type 0
FindsKind Supervisor question seats place id found = found ≡ finding.IsSupervisor
FindsKind Worker question seats place id found =
    (seat : Seated) × (said : Suggestion)
    × (seat ≡ slice_index_or seats place seat)
    × IsSuggestion seat.base.flags seat.base.specs id question said
    × (found ≡ finding.Of (record { path = seat.path; flags = seat.base.flags; said = said }))

-- what is found of the child that was found, or that there is none
abbrev pub FindsOf : Question → List Seated → Option (ℕ × ChildSpec) → Finding → Type 0
FindsOf question seats None found = found ≡ finding.NoChild
FindsOf question seats (Some child) found = FindsKind child.1.kind question seats child.0 child.1.id found

-- what is found of the child of a tree with this name, whose crashes come so
pub record Finds (tree : Tree) (name : List ℕ) (question : Question) (found : Finding) : Type 0 where
  pub seats : List Seated
  pub planted : IsPlanted true tree seats
  pub finds : FindsOf question seats (child_from 0 name seats) found

-- crashes of the child with this id, of the supervisor at this place, can't be played to their end
abbrev pub IsUnadvisedAt : List Seated → ℕ → Name → Type 0
IsUnadvisedAt seats place id = (seat : Seated) × ((seat ≡ slice_index_or seats place seat) × IsUnadvised seat.base.flags seat.base.specs id)

-- crashes of the child that was found, if one was, can't be played to their end; no run is made of a supervisor's own crashes
abbrev pub IsUnadvisedIn : List Seated → Option (ℕ × ChildSpec) → Type 0
IsUnadvisedIn seats None = ⊥
IsUnadvisedIn seats (Some found) = (found.1.kind ≡ Worker) × IsUnadvisedAt seats found.0 found.1.id

-- nothing can be suggested to the child of a tree with this name
pub record IsUnsuggested (tree : Tree) (name : List ℕ) : Type 0 where
  pub seats : List Seated
  pub planted : IsPlanted true tree seats
  pub unadvised : IsUnadvisedIn seats (child_from 0 name seats)
