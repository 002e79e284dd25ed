-- What a core keeps since its last cut, and what it had in all.
use Rattle.std.specs.Prelude.{◌≡◌, ◌≤◌, ◌+◌, ◌⊎◌, ℕ, Bool, true, false, ◌||◌, List, [], ◌∷◌, ◌++◌, Some, drop, length, refl, take}
use Rattle.std.proofs.Common.{◌∙◌, ap, arith, inl, inr, sym}
use Rattle.std.proofs.lemmas.Bool.{leb-true}
use Rattle.std.proofs.lemmas.List.{length-append, take-append-drop}
use Rattle.otp_core.specs.Full.{has_most_events, has_most_lines, is_full}
use Rattle.otp_core.specs.Happened.{IsEventFault}
use Rattle.otp_core.specs.declared.happening.EventFault.{EventFault}
use Rattle.otp_core.specs.View.{View, past_of, state_of, stored_of, stored_state}
use Rattle.otp_core.specs.declared.cut.TheConstants.{MAX_KEPT_LINES}
use Rattle.otp_driver.specs.Members.{HasNoRoom, IsMany, fault_of}
use Rattle.otp_driver.specs.declared.driven.fault.DriveFault.{DriveFault}
use Rattle.otp_driver.specs.declared.driven.fault.DriveFault.TheVariants.{OutOfMemory}
use Rattle.otp_rules.specs.Counts.{lines_told}
use Rattle.otp_rules.specs.Cuts.{CutsAgree, older, told_before}
use Rattle.otp_rules.specs.Run.{RunsJoined, answered, reply_of, state_after}
use Rattle.otp_rules.specs.State.{State}
use Rattle.otp_rules.specs.declared.call.Answered.{Answered}
use Rattle.otp_rules.specs.declared.call.Reply.{Reply}
use Rattle.otp_rules.specs.declared.event.Event.{Event}
use Rattle.otp_spec.specs.declared.limits.TheConstants.{MAX_EVENTS}

-- with answers before it the last one stays
pub reply_behind : (c : ℕ) (before later : List Answered) (r : Reply) → reply_of c later ≡ Some r → reply_of c (before ++ later) ≡ Some r
reply_behind c [] later r is = is
reply_behind c (a ∷ before) later r is = ap (answered c a) (reply_behind c before later r is)

-- the state that the stored events lead to, with what a cut dropped before it
pub whole_state : CutsAgree → RunsJoined → (v : View)
    → state_of v ≡ older (told_before (state_after v.base (past_of v)).replies (state_after v.base (past_of v)).ends) (stored_state v)
whole_state cuts joined v =
    let base : State = state_after v.base (past_of v) in
    ap (λ (es : List Event). state_after v.base es) (sym (take-append-drop v.cut v.history))
    ∙ ((joined v.base (past_of v) (stored_of v)).0 ∙ (cuts base (stored_of v)).1)

-- so all answers are those that a cut dropped, and those since
abbrev pub dropped_in : View → List Answered
dropped_in v = (state_after v.base (past_of v)).replies

all_replies : CutsAgree → RunsJoined → (v : View) → (state_of v).replies ≡ dropped_in v ++ (stored_state v).replies
all_replies cuts joined v = ap (λ (s : State). s.replies) (whole_state cuts joined v)

pub kept_is_last : CutsAgree → RunsJoined → (v : View) (c : ℕ) (r : Reply) → reply_of c (stored_state v).replies ≡ Some r → reply_of c (state_of v).replies ≡ Some r
kept_is_last cuts joined v c r is =
    ap (λ (rs : List Answered). reply_of c rs) (all_replies cuts joined v) ∙ reply_behind c (dropped_in v) (stored_state v).replies r is

either : (a b : Bool) → (a || b) ≡ true → (a ≡ true) ⊎ (b ≡ true)
either true b h = inl refl
either false b h = inr h

-- no fewer children are listed with the answers before
more_lines : (before later : List Answered) → lines_told later ≤ lines_told (before ++ later)
more_lines [] later = omega arith
more_lines (a ∷ before) later = let less : lines_told later ≤ lines_told (before ++ later) = more_lines before later in omega (arith, less)

-- no fewer events are there with those that were cut off
more_events : (v : View) → length (stored_of v) ≤ length v.history
more_events v =
    let all : length (take v.cut v.history) + length (drop v.cut v.history) ≡ length v.history =
    sym (length-append (take v.cut v.history) (drop v.cut v.history)) ∙ ap (λ (es : List Event). length es) (take-append-drop v.cut v.history) in
    omega (arith, all)

of_either : CutsAgree → RunsJoined → (v : View) → (has_most_events v ≡ true) ⊎ (has_most_lines v ≡ true) → IsMany v.base v.history
of_either cuts joined v (inl events) =
    let most : MAX_EVENTS ≤ length (stored_of v) = leb-true MAX_EVENTS (length (stored_of v)) events in
    let fewer : length (stored_of v) ≤ length v.history = more_events v in
    inl (let many : MAX_EVENTS ≤ length v.history = omega (arith, most, fewer) in many)
of_either cuts joined v (inr lines) =
    let most : MAX_KEPT_LINES ≤ lines_told (stored_state v).replies = leb-true MAX_KEPT_LINES (lines_told (stored_state v).replies) lines in
    let fewer : lines_told (stored_state v).replies ≤ lines_told (dropped_in v ++ (stored_state v).replies) = more_lines (dropped_in v) (stored_state v).replies in
    let same : lines_told (state_of v).replies ≡ lines_told (dropped_in v ++ (stored_state v).replies) = ap lines_told (all_replies cuts joined v) in
    inr (let many : MAX_KEPT_LINES ≤ lines_told (state_of v).replies = omega (arith, most, fewer, same) in many)

-- a core that is full has had as many events, or has listed as many children, as it keeps without a cut
pub full_is_many : CutsAgree → RunsJoined → (v : View) → is_full v ≡ true → IsMany v.base v.history
full_is_many cuts joined v full = of_either cuts joined v (either (has_most_events v) (has_most_lines v) full)

-- why a core takes no event is why the driver takes none
pub refused_as : CutsAgree → RunsJoined → (v : View) (cause : EventFault) (why : DriveFault) → why ≡ fault_of cause → IsEventFault v cause
    → (why ≡ OutOfMemory) ⊎ HasNoRoom v.base v.history v.effects why
refused_as cuts joined v cause why is (inl memory) = inl (is ∙ ap fault_of memory)
refused_as cuts joined v cause why is (inr (inl (waits, some, full))) = inr (inl (is ∙ ap fault_of waits, some, full_is_many cuts joined v full))
refused_as cuts joined v cause why is (inr (inr (spent, many))) = inr (inr (is ∙ ap fault_of spent, many))
