-- What answers no call, and opens no work for one, leaves the calls as they are.
use Rattle.std.specs.Prelude.{◌≡◌, ℕ, ◌==◌, ◌+◌, ◌<◌, ◌++◌, true, false, List, [], ◌∷◌, Option, None, Some, refl, get_or, length, position, remove}
use Rattle.std.specs.List.{cons_option, filter_map}
use Rattle.std.proofs.Common.{◌∙◌, ap, sym, arith, cond}
use Rattle.std.proofs.lemmas.Bool.{false≢true}
use Rattle.std.proofs.lemmas.List.{append-nil, map-append}
use Rattle.std.proofs.lemmas.List.Elements.{filter_map-append}
use Rattle.std.proofs.lemmas.List.Quantifiers.{position-Some}
use Prim.Native.Nat.{zero, suc}
use Rattle.otp_table.specs.declared.row.Row.{Row}
use Rattle.otp_rules.specs.declared.call.Answered.{Answered}
use Rattle.otp_rules.specs.declared.call.Reply.{Reply}
use Rattle.otp_rules.specs.declared.ending.Ending.{Ending}
use Rattle.otp_rules.specs.declared.ending.Ending.TheVariants as ending
use Rattle.otp_rules.specs.declared.event.Item.TheVariants as item
use Rattle.otp_rules.specs.declared.event.Waiting.{Waiting}
use Rattle.otp_rules.specs.declared.event.Waiting.TheVariants as waiting
use Rattle.otp_rules.specs.declared.work.Due.{Due}
use Rattle.otp_rules.specs.declared.work.Sequel.{Sequel}
use Rattle.otp_rules.specs.declared.work.Sequel.TheVariants as sequel
use Rattle.otp_rules.specs.State.{Outcome, answer, closed, is_busy, with_waiting, with_work}
use Rattle.otp_rules.specs.Places.{end_process, end_row}
use Rattle.otp_rules.specs.Restarts.{running}
use Rattle.otp_rules.specs.Starts.{is_due, start, start_row}
use Rattle.otp_rules.specs.Stops.{calm_all, is_exit, tell, tell_row, terminate, use_exit, without}
use Rattle.otp_rules.specs.Deaths.{restart, restart_rows}
use Rattle.otp_rules.specs.Step.{tick}
use Rattle.otp_rules.specs.Progress.{at_most_one}
use Rattle.otp_rules.specs.Fit.{times}
use Rattle.otp_rules.proofs.Counting.{end_row-alike, end_row-quiet, tell-alike, times-append, times-cons, use_exit-alike}
use Rattle.otp_rules.proofs.Decisions.{at_number-survives, at_row-survives}
use Rattle.otp_rules.proofs.Walks.{counted_restart, restart-by, stop_each-by, terminate-by}
use Rattle.otp_rules.proofs.WhileOpen.{no_after, terminate-follows}
use Rattle.otp_laws.specs.Once.{answered_calls, call_of_work, call_waiting}
use Rattle.otp_laws.proofs.Oks.{end-quiet, tell-quiet, terminate-quiet, use_exit-quiet}

abbrev pub waiting_calls : List Waiting → List ℕ
waiting_calls ws = filter_map call_waiting ws

abbrev pub work_calls : Option Sequel → List ℕ
work_calls f = at_most_one (call_of_work f)

-- how many calls under a number are answered, or open
abbrev pub load : ℕ → Outcome → ℕ
load c o = times c (answered_calls o.state.replies) + (times c (waiting_calls o.state.waiting) + times c (work_calls o.state.follows))

pub load-same : (c : ℕ) (o new : Outcome) → new.state.replies ≡ o.state.replies → waiting_calls new.state.waiting ≡ waiting_calls o.state.waiting → work_calls new.state.follows ≡ work_calls o.state.follows → load c new ≡ load c o
load-same c o new replies waits work =
    let a : times c (answered_calls new.state.replies) ≡ times c (answered_calls o.state.replies) = ap (λ (l : List Answered). times c (answered_calls l)) replies in
    let b : times c (waiting_calls new.state.waiting) ≡ times c (waiting_calls o.state.waiting) = ap (λ (l : List ℕ). times c l) waits in
    let d : times c (work_calls new.state.follows) ≡ times c (work_calls o.state.follows) = ap (λ (l : List ℕ). times c l) work in
    omega (arith, a, b, d)

-- an answer is one more
pub answer-load : (c n : ℕ) (r : Reply) (o : Outcome) → load c (answer n r o) ≡ load c o + cond (n == c) 1 0
unfolding answer
answer-load c n r o =
    let one : Answered = record { call = n; reply = r } in
    let a : times c (answered_calls (o.state.replies ++ one ∷ [])) ≡ times c (answered_calls o.state.replies ++ n ∷ []) = ap (λ (l : List ℕ). times c l) (map-append (λ (x : Answered). x.call) o.state.replies (one ∷ [])) in
    let nothing : times c [] ≡ 0 = refl in
    omega (arith, a, nothing, times-append c (answered_calls o.state.replies) (n ∷ []), times-cons c n [])

-- no work is open for a call, or it closes
pub closed-load : (c : ℕ) (o : Outcome) → load c (closed o) + times c (work_calls o.state.follows) ≡ load c o
closed-load c o = let none : times c [] ≡ 0 = refl in omega (arith, none)

-- what waits

pub put-calls : (ws : List Waiting) (w : Waiting) → call_waiting w ≡ None → waiting_calls (ws ++ w ∷ []) ≡ waiting_calls ws
put-calls ws w none = filter_map-append call_waiting ws (w ∷ []) ∙ ap (λ (x : Option ℕ). waiting_calls ws ++ cons_option x []) none ∙ append-nil (waiting_calls ws)

remove-calls : (ws : List Waiting) (i : ℕ) (d : Waiting) → i < length ws → call_waiting (get_or ws i d) ≡ None → waiting_calls (remove ws i) ≡ waiting_calls ws
remove-calls [] i d within none = absurd (omega (arith, within))
remove-calls (w ∷ ws) zero d within none = sym (ap (λ (x : Option ℕ). cons_option x (waiting_calls ws)) none)
remove-calls (w ∷ ws) (suc i) d within none = ap (λ (l : List ℕ). cons_option (call_waiting w) l) (remove-calls ws i d (omega (arith, within)) none)

exit_no_call : (p : ℕ) (w : Waiting) → is_exit p w ≡ true → call_waiting w ≡ None
exit_no_call p (waiting.Item (item.Note x)) h = refl
exit_no_call p (waiting.Item (item.Call c x)) h = absurd (false≢true h)
exit_no_call p (waiting.Retry k) h = refl

without-calls : (p : ℕ) (ws : List Waiting) → waiting_calls (without ws (position (is_exit p) ws)) ≡ waiting_calls ws
without-calls p ws = by_place (position (is_exit p) ws) refl
  where
    by_place : (place : Option ℕ) → position (is_exit p) ws ≡ place → waiting_calls (without ws place) ≡ waiting_calls ws
    by_place None found = refl
    by_place (Some i) found =
        let d : Waiting = waiting.Retry 0 in
        let at = position-Some (is_exit p) ws i d found in
        remove-calls ws i d at.0 (exit_no_call p (get_or ws i d) at.1)

-- the same calls wait
abbrev WaitSame : Outcome → Outcome → Type 0
WaitSame o new = waiting_calls new.state.waiting ≡ waiting_calls o.state.waiting

tell-waits : (p : ℕ) (o : Outcome) → WaitSame o (tell p o)
unfolding tell tell_row
tell-waits p o = at_number-survives (WaitSame o) p (tell_row p) o refl (λ i row at has. refl)

used-waits : (p : ℕ) (o left : Outcome) → left.state.waiting ≡ o.state.waiting → WaitSame o (use_exit p (position (is_exit p) o.state.waiting) left)
unfolding use_exit end_process
used-waits p o left same =
    let place : Option ℕ = position (is_exit p) o.state.waiting in
    let fewer : Outcome = with_waiting (without left.state.waiting place) left in
    let gone : waiting_calls (without left.state.waiting place) ≡ waiting_calls o.state.waiting = ap (λ (ws : List Waiting). waiting_calls (without ws place)) same ∙ without-calls p o.state.waiting in
    at_number-survives (WaitSame o) p end_row fewer gone (λ i row at has. ap (λ (ws : List Waiting). waiting_calls ws) (end_row-quiet i row fewer).0 ∙ gone)

terminate-waits : (e : Ending) (o : Outcome) → WaitSame o (terminate e o)
terminate-waits e o =
    terminate-by (WaitSame o) e o
    (λ _. stop_each-by (WaitSame o) (λ p x _ h. used-waits p x x refl ∙ h) (λ p x _ h. tell-waits p x ∙ h) (running o.state.rows) (calm_all (with_work [] [] (Some (sequel.End e)) o)) refl)
    (λ _. refl)

-- changes that leave the calls as they are

pub end-load : (c place : ℕ) (row : Row) (o : Outcome) → load c (end_row place row o) ≡ load c o
end-load c place row o =
    load-same c o (end_row place row o) (end-quiet place row o) (ap (λ (ws : List Waiting). waiting_calls ws) (end_row-quiet place row o).0) (ap (λ (f : Option Sequel). work_calls f) (end_row-alike place row o).4)

pub tell-load : (c p : ℕ) (o : Outcome) → load c (tell p o) ≡ load c o
tell-load c p o = load-same c o (tell p o) (tell-quiet p o) (tell-waits p o) (ap (λ (f : Option Sequel). work_calls f) (tell-alike p o).4)

pub used-load : (c p : ℕ) (o left : Outcome) → left.state.waiting ≡ o.state.waiting → left.state.replies ≡ o.state.replies → left.state.follows ≡ o.state.follows → load c (use_exit p (position (is_exit p) o.state.waiting) left) ≡ load c o
used-load c p o left waits replies follows =
    let place : Option ℕ = position (is_exit p) o.state.waiting in
    load-same c o (use_exit p place left) (use_exit-quiet p place left ∙ replies) (used-waits p o left waits) (ap (λ (f : Option Sequel). work_calls f) ((use_exit-alike p place left).4 ∙ follows))

pub start-load : (c : ℕ) (due : Due) (n : ℕ) (o : Outcome) → load c (start due n o) ≡ load c o
unfolding start start_row
start-load c due n o =
    at_row-survives (λ (x : Outcome). load c x ≡ load c o) (is_due due) o (start_row due n) o refl refl (λ i row at has. refl)

pub tick-load : (c : ℕ) (o : Outcome) → load c (tick o) ≡ load c o
unfolding tick
tick-load c o = refl

-- the supervisor ends where no call has work
pub terminate-load : (c : ℕ) (e : Ending) (o : Outcome) → work_calls o.state.follows ≡ [] → load c (terminate e o) ≡ load c o
terminate-load c e o none =
    load-same c o (terminate e o) (terminate-quiet e o) (terminate-waits e o) (ap (λ (f : Option Sequel). work_calls f) (terminate-follows e o) ∙ sym none)

pub restart-load : (c k place : ℕ) (row : Row) (o : Outcome) → work_calls o.state.follows ≡ [] → load c (restart k place row o) ≡ load c o
unfolding restart_rows
restart-load c k place row o none =
    let counted : Outcome = counted_restart place row o in
    restart-by (λ (x : Outcome). load c x ≡ load c o) k place row o
    (λ _. terminate-load c ending.Intensity counted none)
    (λ _. let e : times c (work_calls o.state.follows) ≡ times c [] = ap (λ (l : List ℕ). times c l) none in omega (arith, e))

pub idle_none : (o : Outcome) → is_busy o ≡ false → work_calls o.state.follows ≡ []
idle_none o idle = ap (λ (f : Option Sequel). work_calls f) (no_after o.state.follows idle)
