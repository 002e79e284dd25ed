-- A run that is cut: what came before is kept as a state, without the answers and ends that it had, and with no more
-- restarts than count (own). What happens from there on is the same.
use Rattle.std.specs.Prelude.{◌≡◌, ℕ, Bool, false, ◌||◌, ◌==◌, List, [], ◌∷◌, ◌++◌, Option, None, Some, max, nat_le, nat_lt, if◌then◌else◌}
use Rattle.std.specs.List.{list_any}
use Rattle.otp_spec.specs.declared.flags.SupFlags.{SupFlags}
use Rattle.otp_spec.specs.declared.child.ChildSpec.{ChildSpec}
use Rattle.otp_window.specs.Period.{in_period}
use Rattle.otp_rules.specs.declared.call.Answered.{Answered}
use Rattle.otp_rules.specs.declared.ending.SupEnd.{SupEnd}
use Rattle.otp_rules.specs.declared.event.Event.{Event}
use Rattle.otp_rules.specs.declared.event.Item.TheVariants as item
use Rattle.otp_rules.specs.declared.event.Kind.{Kind}
use Rattle.otp_rules.specs.declared.event.Kind.TheVariants as kind
use Rattle.otp_rules.specs.declared.event.Waiting.{Waiting}
use Rattle.otp_rules.specs.declared.event.Waiting.TheVariants as waiting
use Rattle.otp_rules.specs.declared.work.Sequel.{Sequel}
use Rattle.otp_rules.specs.declared.work.Sequel.TheVariants as sequel
use Rattle.otp_rules.specs.Ends.{last_stamps}
use Rattle.otp_rules.specs.Evidence.{IsShowing}
use Rattle.otp_rules.specs.Needs.{needs_number}
use Rattle.otp_rules.specs.State.{State, is_over}
use Rattle.otp_rules.specs.Step.{step}
use Rattle.otp_rules.specs.Run.{empty_state, orders_of, state_after}

-- what a state had earlier and no longer keeps: restarts, answers and ends (own)
pub record Earlier : Type 0 where
  pub stamps : List ℕ
  pub replies : List Answered
  pub ends : List (ℕ × SupEnd)

-- answers and ends alone
abbrev pub told_before : List Answered → List (ℕ × SupEnd) → Earlier
told_before replies ends = record { stamps = []; replies = replies; ends = ends }

-- the state in which these stand before its own
abbrev pub older : Earlier → State → State
older x s = record s { stamps = x.stamps ++ s.stamps; replies = x.replies ++ s.replies; ends = x.ends ++ s.ends }

-- what stands before after an event: no restarts where the event opens the supervisor, which begins to count anew
abbrev pub left_of : Earlier → Kind → State → Earlier
left_of x (kind.Opened own) s = if is_over s.phase then record x { stamps = [] } else x
left_of x _ s = x

-- a restart now is one too many with the older restarts exactly if it is one too many without them
abbrev pub CountsAlike : Earlier → State → Type 0
CountsAlike x s =
    nat_lt s.flags.intensity (in_period s.flags.period (x.stamps ++ (s.stamps ++ s.last ∷ [])) s.last)
    ≡ nat_lt s.flags.intensity (in_period s.flags.period (s.stamps ++ s.last ∷ []) s.last)

-- an end by the intensity shows the same restarts with the older ones as without them
abbrev pub ShowsAlike : Earlier → SupFlags → List ℕ → Type 0
ShowsAlike x flags stamps = last_stamps flags.intensity (x.stamps ++ stamps) ≡ last_stamps flags.intensity stamps

-- the base that a cut makes of a state: the state without its answers and ends
abbrev pub base_of : State → State
base_of s = record s { replies = []; ends = [] }

-- the same, with no more restarts than one more than the intensity, the last ones
abbrev pub short_base_of : State → State
short_base_of s = record (base_of s) { stamps = last_stamps s.flags.intensity s.stamps }

-- an event does the same, whatever was answered and ended before
abbrev pub StepForgets : Type 0
StepForgets =
    (replies : List Answered) (ends : List (ℕ × SupEnd)) (s : State) (e : Event)
    → ((step (older (told_before replies ends) s) e).state ≡ older (told_before replies ends) (step s e).state)
    × ((step (older (told_before replies ends) s) e).orders ≡ (step s e).orders)

-- whether an event needs a process number doesn't depend on what was answered and ended before
abbrev pub NeedForgets : Type 0
NeedForgets =
    (replies : List Answered) (ends : List (ℕ × SupEnd)) (s : State) (reading : ℕ) (kind : Kind)
    → needs_number (older (told_before replies ends) s) reading kind ≡ needs_number s reading kind

-- a run from the base: the same orders, and the same state but for the answers and ends before the cut
abbrev pub CutsAgree : Type 0
CutsAgree =
    (s : State) (events : List Event)
    → (orders_of (base_of s) events ≡ orders_of s events)
    × (state_after s events ≡ older (told_before s.replies s.ends) (state_after (base_of s) events))

-- of these restarts the same count: the last ones, one more than the intensity
abbrev pub KeepSame : ℕ → List ℕ → List ℕ → Type 0
KeepSame intensity stamps others = last_stamps intensity stamps ≡ last_stamps intensity others

-- these events go on from the short base of s as from s: the same orders, and at last the state which all events gave, but for
-- what the base no longer keeps; the restarts that count are the same
abbrev pub GoesOnFromCut : State → List Event → State → Type 0
GoesOnFromCut s events last =
    (orders_of (short_base_of s) events ≡ orders_of s events)
    × (x : Earlier) × (last ≡ older x (state_after (short_base_of s) events))
    × KeepSame last.flags.intensity last.stamps (state_after (short_base_of s) events).stamps

-- so it is from each state whose restarts are in order
abbrev pub ShortCutsAgree : Type 0
ShortCutsAgree = (s : State) (events : List Event) → IsShowing s → GoesOnFromCut s events (state_after s events)

-- a run may be cut at any place: after any past the later events go on from the short base
abbrev pub CutAnywhere : Type 0
CutAnywhere =
    (flags : SupFlags) (specs : List ChildSpec) (past events : List Event)
    → GoesOnFromCut (state_after (empty_state flags specs) past) events (state_after (empty_state flags specs) (past ++ events))

-- the greater of two numbers, where there are two
abbrev pub greater_of : Option ℕ → Option ℕ → Option ℕ
greater_of None n = n
greater_of (Some m) None = Some m
greater_of (Some m) (Some n) = Some (max m n)

-- the greatest number of a call that was answered, if one was
abbrev pub greatest_call : List Answered → Option ℕ
greatest_call [] = None
greatest_call (a ∷ later) = greater_of (Some a.call) (greatest_call later)

-- the number is no greater than this one, where there is one
abbrev pub is_at_most : ℕ → Option ℕ → Bool
is_at_most n None = false
is_at_most n (Some greatest) = nat_le n greatest

-- what waits is this call
abbrev pub is_call_of : ℕ → Waiting → Bool
is_call_of c (waiting.Item (item.Call n _)) = n == c
is_call_of c _ = false

-- the open work answers this call
abbrev pub answers_call : ℕ → Option Sequel → Bool
answers_call c (Some (sequel.Added n)) = n == c
answers_call c (Some (sequel.Restarted n)) = n == c
answers_call c (Some (sequel.Stopped n)) = n == c
answers_call c _ = false

-- the call was taken and is still to be answered
abbrev pub is_open_call : ℕ → State → Bool
is_open_call c s = answers_call c s.follows || list_any (is_call_of c) s.waiting
