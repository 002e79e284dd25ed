-- A tree of supervisors that is driven, and how it goes on (own).
use Rattle.std.specs.Prelude.{◌≡◌, ℕ, ◌+◌, ◌-◌, ◌^◌, ◌<◌, ◌≤◌, ◌⊎◌, Bool, true, false, List, [], ◌∷◌, Option, Some, None, is_some, ◌||◌, length, max, slice_get, slice_index_or, slice_set, position}
use Rattle.otp_reason.specs.declared.note.Note.{Note}
use Rattle.otp_reason.specs.declared.note.Note.TheVariants as note
use Rattle.otp_rules.specs.declared.call.Call.{Call}
use Rattle.otp_rules.specs.declared.event.Effect.{Effect}
use Rattle.otp_rules.specs.declared.event.Item.TheVariants as item
use Rattle.otp_rules.specs.declared.event.Kind.{Kind}
use Rattle.otp_rules.specs.declared.event.Kind.TheVariants as kind
use Rattle.otp_rules.specs.Next.{earlier, next_deadline, next_kind}
use Rattle.otp_spec.specs.declared.limits.TheConstants.{MAX_READING}
use Rattle.otp_driver.specs.declared.driven.fault.DriveFault.{DriveFault}
use Rattle.otp_driver.specs.declared.driven.fault.DriveFault.TheVariants.{BadReading, IsNested, NoSupervisor, Spent}
use Rattle.otp_driver.specs.declared.driven.link.Link.{Link}
use Rattle.otp_driver.specs.declared.route.Route.{Route}
use Rattle.otp_driver.specs.declared.route.Route.TheVariants.{Outside, Start, Stop, Tell}
use Rattle.otp_driver.specs.Links.{asked, begun, holds_process, nested_of, runs, told}
use Rattle.otp_driver.specs.Members.{Happens, IsRefused, Member, has_order, passed, row_at, state_in}
use Rattle.otp_driver.specs.Routes.{route_of}

-- a tree: its supervisors by the numbers of their tables, whose child each is, the last reading of the clock, the last process
-- number, and the last number of a call
pub record Driven : Type 0 where
  pub members : List Member
  pub links : List Link
  pub reading : ℕ
  pub last : ℕ
  pub calls : ℕ

-- at this reading of the clock; one that falls counts as the last one
abbrev pub at_reading : ℕ → Driven → Driven
at_reading reading t = record t { reading = max t.reading reading }

-- at this place stands this supervisor
pub record IsAt (members : List Member) (place : ℕ) (member : Member) : Type 0 where
  pub inside : place < length members
  pub is : member ≡ slice_index_or members place member

-- at this place stands this link
pub record HasLink (links : List Link) (place : ℕ) (link : Link) : Type 0 where
  pub inside : place < length links
  pub is : link ≡ slice_index_or links place link

-- an event of this kind happens to the supervisor at this place, and nothing else
pub record Occurs (place : ℕ) (k : Kind) (old new : Driven) : Type 0 where
  pub before : Member
  pub after : Member
  pub last : ℕ
  pub at : IsAt old.members place before
  pub happens : Happens old.reading old.last k before after last
  pub new_is : new ≡ record old { members = slice_set old.members place after; last = last }

-- the supervisor at this place takes no event now, for this
pub record Refuses (place : ℕ) (why : DriveFault) (t : Driven) : Type 0 where
  pub member : Member
  pub at : IsAt t.members place member
  pub is : IsRefused t.last member why

abbrev pub with_link : ℕ → Link → Driven → Driven
with_link place link t = record t { links = slice_set t.links place link }

-- the link at this place becomes so
pub record Relinks (place : ℕ) (change : Link → Link) (old new : Driven) : Type 0 where
  pub link : Link
  pub has : HasLink old.links place link
  pub new_is : new ≡ with_link place (change link) old

-- the next order of the supervisor at this place is taken
pub record Takes (place : ℕ) (old new : Driven) : Type 0 where
  pub member : Member
  pub at : IsAt old.members place member
  pub new_is : new ≡ record old { members = slice_set old.members place (passed member) }

-- what an order that stays in the tree does, of the supervisor at this place: a start opens the supervisor below; what a supervisor
-- tells is an event of its parent
abbrev pub Does : Route → ℕ → Driven → Driven → Type 0
Does Outside place old new = ⊥
Does (Start below number) place old new = (mid : Driven) × Occurs below (kind.Opened number) old mid × Relinks below (begun number) mid new
Does (Stop below) place old new = Relinks below asked old new
Does (Tell parent x ended) place old new = (mid : Driven) × Occurs parent (kind.Took (item.Note x)) old mid × Relinks place (told x ended) mid new

-- the next order of a supervisor, and where it goes
pub record IsNext (t : Driven) (place : ℕ) (order : Effect) (route : Route) : Type 0 where
  pub member : Member
  pub at : IsAt t.members place member
  pub order_is : slice_get member.effects member.taken ≡ Some order
  pub route_is : route ≡ route_of t.links place (state_in member).rows order

-- whatever the order is
abbrev pub IsNextBy : Driven → ℕ → Route → Type 0
IsNextBy t place route = (order : Effect) × IsNext t place order route

-- whether it stays in the tree, and if so it is done
abbrev pub Carried : Bool → Route → ℕ → Driven → Driven → Type 0
Carried false route place old new = (route ≡ Outside) × (new ≡ old)
Carried true route place old new = Does route place old new

-- such an order is done, and taken
pub record Routed (old new : Driven) : Type 0 where
  pub place : ℕ
  pub order : Effect
  pub route : Route
  pub next : IsNext old place order route
  -- it is the first supervisor that has one
  pub first : position has_order old.members ≡ Some place
  pub mid : Driven
  pub does : Does route place old mid
  pub takes : Takes place mid new

-- what the supervisor at a place does next by itself
abbrev pub comes_if : Bool → ℕ → Member → Link → Option Kind
comes_if false reading m link = None
comes_if true reading m link = next_kind (state_in m) reading link.is_stopping

abbrev pub comes : ℕ → ℕ → Option Member → Option Link → Option Kind
comes place reading None link = None
comes place reading (Some m) None = None
comes place reading (Some m) (Some link) = comes_if (runs place link) reading m link

unfoldable pub comes_at : Driven → ℕ → Option Kind
comes_at t place = comes place t.reading (slice_get t.members place) (slice_get t.links place)

-- no supervisor has an order that was not taken
abbrev pub AllTaken : Driven → Type 0
AllTaken t = position has_order t.members ≡ None

-- what comes next by itself happens: only once all orders were taken
pub record ByItself (old new : Driven) : Type 0 where
  pub taken : AllTaken old
  pub place : ℕ
  pub kind : Kind
  pub comes : comes_at old place ≡ Some kind
  -- nothing comes by itself at the places before
  pub first : (before : ℕ) → before < place → comes_at old before ≡ None
  pub event : Occurs place kind old new

abbrev pub Step : Driven → Driven → Type 0
Step old new = Routed old new ⊎ ByItself old new

-- the tree goes on by itself so: through these trees
abbrev pub Through : Driven → List Driven → Driven → Type 0
Through old [] new = new ≡ old
Through old (t ∷ ts) new = Step old t × Through t ts new

abbrev pub GoesOn : Driven → Driven → Type 0
GoesOn old new = (ts : List Driven) × Through old ts new

-- in so many steps
abbrev pub GoesIn : ℕ → Driven → Driven → Type 0
GoesIn count old new = (ts : List Driven) × Through old ts new × (length ts ≡ count)

-- why an order that stays in the tree isn't done: the supervisor that it is an event of takes none now
abbrev pub RefusesRoute : Route → DriveFault → Driven → Type 0
RefusesRoute Outside why t = ⊥
RefusesRoute (Start below number) why t = Refuses below why t
RefusesRoute (Stop below) why t = ⊥
RefusesRoute (Tell parent x ended) why t = Refuses parent why t

-- the next order of a supervisor stays in the tree, and isn't done, for this
pub record IsHeldUp (why : DriveFault) (t : Driven) : Type 0 where
  pub place : ℕ
  pub order : Effect
  pub route : Route
  pub next : IsNext t place order route
  pub refuses : RefusesRoute route why t

-- what comes next by itself doesn't happen, for this
pub record IsPutOff (why : DriveFault) (t : Driven) : Type 0 where
  pub taken : AllTaken t
  pub place : ℕ
  pub kind : Kind
  pub comes : comes_at t place ≡ Some kind
  pub refuses : Refuses place why t

-- why the next step isn't made
abbrev pub RefusesStep : DriveFault → Driven → Type 0
RefusesStep why t = IsHeldUp why t ⊎ IsPutOff why t

-- why a tree that went on doesn't go on from there: its next step isn't made, or it has made as many as one call makes
abbrev pub RefusesMore : DriveFault → Driven → Driven → Type 0
RefusesMore why old new = RefusesStep why new ⊎ ((why ≡ Spent) × GoesIn (2 ^ 64 - 1) old new)

-- at this place, the first that has an order, an order for the outside is next
pub record IsOutside (t : Driven) (place : ℕ) : Type 0 where
  pub order : Effect
  pub next : IsNext t place order Outside
  pub first : position has_order t.members ≡ Some place

-- nothing is left to do: all orders were taken, and nothing comes by itself
pub record IsIdle (t : Driven) : Type 0 where
  pub taken : AllTaken t
  pub none : (place : ℕ) → place < length t.members → comes_at t place ≡ None

-- where the tree stands still
abbrev pub Stands : Option ℕ → Driven → Type 0
Stands None t = IsIdle t
Stands (Some place) t = IsOutside t place

-- a child's process is a supervisor of the tree: it runs as one, or is to start as one
abbrev pub is_nested_of : List Link → ℕ → ℕ → Option Member → Bool
is_nested_of links place number None = false
is_nested_of links place number (Some m) =
    is_some (position (holds_process place number) links) || is_some (nested_of links place (row_at (state_in m).rows number))

unfoldable pub is_nested : Driven → ℕ → ℕ → Bool
is_nested t place number = is_nested_of t.links place number (slice_get t.members place)

-- the process that a note is of
abbrev pub process_of : Note → ℕ
process_of (note.Up p) = p
process_of (note.Ignored p) = p
process_of (note.Failed p _) = p
process_of (note.Exit p _) = p

-- why nothing of a supervisor at this place, told with this reading, is taken before it is looked at further: there is no such reading,
-- or else there is no such supervisor
abbrev pub RefusesAt : ℕ → ℕ → DriveFault → Driven → Type 0
RefusesAt reading place why t =
    ((why ≡ BadReading) × (MAX_READING < reading)) ⊎ ((why ≡ NoSupervisor) × (reading ≤ MAX_READING) × (length t.members ≤ place))

-- why a note isn't taken
abbrev pub RefusesNote : ℕ → ℕ → Note → DriveFault → Driven → Type 0
RefusesNote reading place note why t =
    RefusesAt reading place why t
    ⊎ ((reading ≤ MAX_READING)
    × (((why ≡ IsNested) × (place < length t.members) × (is_nested t place (process_of note) ≡ true)) ⊎ Refuses place why t))

-- why a call isn't taken: beside what refuses any event the numbers of calls may be used up
abbrev pub RefusesCall : ℕ → ℕ → DriveFault → Driven → Type 0
RefusesCall reading place why t =
    RefusesAt reading place why t ⊎ ((reading ≤ MAX_READING) × (((why ≡ Spent) × (place < length t.members) × (MAX_READING ≤ t.calls)) ⊎ Refuses place why t))

-- a call comes under this number, the next of the tree
abbrev pub Called : ℕ → ℕ → Call → Driven → Driven → Type 0
Called number place call old new =
    (number ≡ old.calls + 1) × ((mid : Driven) × Occurs place (kind.Took (item.Call number call)) old mid × (new ≡ record mid { calls = number }))

-- the root is wanted to shut down
abbrev pub IsAsked : Driven → Driven → Type 0
IsAsked old new = ((old.links ≡ []) × (new ≡ old)) ⊎ Relinks 0 asked old new

-- the least deadline of these supervisors
abbrev pub deadline_after : Option ℕ → List Member → Option ℕ
deadline_after least [] = least
deadline_after least (m ∷ ms) = deadline_after (earlier least (next_deadline (state_in m).rows)) ms

abbrev pub least_deadline : List Member → Option ℕ
least_deadline members = deadline_after None members
