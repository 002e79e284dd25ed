-- Each call is answered once, or is still open (the functions of `supervisor` are calls that wait for their answer; which of them
-- wait here, and that a supervisor which has ended answers noproc, is own).
use Rattle.std.specs.Prelude.{◌≡◌, ◌+◌, ◌++◌, ℕ, List, Option, None, Some, map}
use Rattle.std.specs.List.{filter_map}
use Rattle.otp_spec.specs.declared.child.ChildSpec.{ChildSpec}
use Rattle.otp_spec.specs.declared.flags.SupFlags.{SupFlags}
use Rattle.otp_rules.specs.declared.call.Answered.{Answered}
use Rattle.otp_rules.specs.declared.event.Event.{Event}
use Rattle.otp_rules.specs.declared.event.Item.{Item}
use Rattle.otp_rules.specs.declared.event.Item.TheVariants as item
use Rattle.otp_rules.specs.declared.event.Kind.{Kind}
use Rattle.otp_rules.specs.declared.event.Kind.TheVariants as kind
use Rattle.otp_rules.specs.declared.event.Waiting.{Waiting}
use Rattle.otp_rules.specs.declared.event.Waiting.TheVariants as waiting
use Rattle.otp_rules.specs.declared.work.Sequel.{Sequel}
use Rattle.otp_rules.specs.declared.work.Sequel.TheVariants as sequel
use Rattle.otp_rules.specs.State.{State}
use Rattle.otp_rules.specs.Run.{empty_state, state_after}
use Rattle.otp_rules.specs.Progress.{at_most_one}
use Rattle.otp_rules.specs.Fit.{times, IsSound}

-- the number of the call, if the item is one
abbrev pub call_in : Item → Option ℕ
call_in (item.Note _) = None
call_in (item.Call c _) = Some c

-- the number of the call that the event brings from the inbox
abbrev pub call_taken : Kind → Option ℕ
call_taken (kind.Took i) = call_in i
call_taken _ = None

abbrev pub call_waiting : Waiting → Option ℕ
call_waiting (waiting.Item i) = call_in i
call_waiting (waiting.Retry _) = None

-- the number of the call for which work is open
abbrev pub call_of_work : Option Sequel → Option ℕ
call_of_work (Some (sequel.Added c)) = Some c
call_of_work (Some (sequel.Restarted c)) = Some c
call_of_work (Some (sequel.Stopped c)) = Some c
call_of_work _ = None

-- the calls that the events took, in their order
abbrev pub taken_calls : List Event → List ℕ
taken_calls events = filter_map (λ e. call_taken e.kind) events

-- those that were answered
abbrev pub answered_calls : List Answered → List ℕ
answered_calls replies = map (λ a. a.call) replies

-- those that are open: that wait, or for which work is open
abbrev pub open_calls : State → List ℕ
open_calls s = filter_map call_waiting s.waiting ++ at_most_one (call_of_work s.follows)

-- from each state whose work is sound: under each number as many calls are answered or open as were before and as were taken
abbrev pub CallsAnsweredOnceFrom : Type 0
CallsAnsweredOnceFrom =
    (s : State) (events : List Event) (c : ℕ) → IsSound s
    → times c (answered_calls (state_after s events).replies) + times c (open_calls (state_after s events))
    ≡ times c (answered_calls s.replies) + times c (open_calls s) + times c (taken_calls events)

-- from the state that was never opened on, as many are answered or open as were taken
abbrev pub CallsAnsweredOnce : Type 0
CallsAnsweredOnce =
    (flags : SupFlags) (specs : List ChildSpec) (events : List Event) (c : ℕ)
    → times c (answered_calls (state_after (empty_state flags specs) events).replies) + times c (open_calls (state_after (empty_state flags specs) events)) ≡ times c (taken_calls events)
