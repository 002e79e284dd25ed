-- What is told of a line that is done so often.
use Rattle.std.proofs.Common.{◌≡◌, ◌≤◌, ◌+◌, ◌∙◌, ℕ, Bool, false, List, [], ◌++◌, Option, None, Some, Result, Ok, Err, OnOk, IfOk, ap, append_assoc, append-nil, arith, max, refl, subst, sym}
use Rattle.std.proofs.lemmas.Bool.{false≢true}
use Prim.Native.Nat.{zero, suc}
use Rattle.otp_script.specs.Lines.{Saying}
use Rattle.otp_trial.specs.Played.{Makes, Move, Stand, Tells, is_root_over, story}
use Rattle.otp_trial.specs.Steps.{DoesAt, DoesDeed, DoesOften, DoesWhen, TellsAt, TellsOften, TellsTimes, TellsWhen, goes_on, time_at}
use Rattle.otp_trial.specs.declared.steps.Outcome.{Outcome}
use Rattle.otp_trial.specs.declared.trial.ActionEnd.{ActionEnd}
use Rattle.otp_trial.specs.declared.trial.ActionEnd.TheVariants.{TooLate}
use Rattle.otp_trial.specs.declared.trial.Halt.{Halt}
use Rattle.otp_trial.proofs.Tellings.{makes-append, makes_none, story-append}

-- the texts of moves, one behind the other
told_both : (x y z : List ℕ) (first more : List Move) → y ≡ x ++ story first → z ≡ y ++ story more → z ≡ x ++ story (first ++ more)
told_both x y z first more told told_more =
    told_more
    ∙ ap (λ (text : List ℕ). text ++ story more) told
    ∙ append_assoc x (story first) (story more)
    ∙ ap (λ (text : List ℕ). x ++ text) (sym (story-append first more))

-- the clock went on, and then a line was done
pub tells_at : (said : Saying) (time : ℕ) (end : ActionEnd) (a b c : Stand) (x y z : List ℕ) → Tells a b x y → b.time ≡ max a.time time → Tells b c y z → c.time ≡ b.time
    → DoesDeed said.path said.action b end c → TellsAt said time end a c x z
tells_at said time end a b c x y z (before, goes, told) time_is (acts, does, told_then) stays deed = (
  before ++ acts,
  record { before = before; mid = b; goes = goes; time_is = time_is; acts = acts; does = does; stays = stays; all = refl; deed = deed },
  told_both x y z before acts told told_then,
)

-- it was done at its time, or that has gone by
pub tells_in_time : (said : Saying) (when : Option ℕ) (time : ℕ) (end : ActionEnd) (a b : Stand) (x y : List ℕ) → when ≡ Some time → TellsAt said time end a b x y → TellsWhen said when end a b x y
tells_in_time said when time end a b x y is tells = subst (λ (w : Option ℕ). TellsWhen said w end a b x y) (sym is) tells

pub tells_too_late : (said : Saying) (when : Option ℕ) (a : Stand) (x : List ℕ) → when ≡ None → TellsWhen said when TooLate a a x x
tells_too_late said when a x is = subst (λ (w : Option ℕ). TellsWhen said w TooLate a a x x) (sym is) ([], (refl, (refl, refl)), sym (append-nil x))

does_at-makes : (said : Saying) (time : ℕ) (end : ActionEnd) (a : Stand) (ms : List Move) (b : Stand) → DoesAt said time end a ms b → Makes a ms b
does_at-makes said time end a ms b does =
    subst (λ (moves : List Move). Makes a moves b) (sym does.all) (makes-append a does.mid b does.before does.acts does.goes does.does)

does_none-makes : (a : Stand) (ms : List Move) (b : Stand) → b ≡ a → ms ≡ [] → Makes a ms b
does_none-makes a ms b same none = subst (λ (moves : List Move). Makes a moves b) (sym none) (makes_none a b same)

does_when-makes : (said : Saying) (when : Option ℕ) (end : ActionEnd) (a : Stand) (ms : List Move) (b : Stand) → DoesWhen said when end a ms b → Makes a ms b
does_when-makes said None end a ms b (late, (same, none)) = does_none-makes a ms b same none
does_when-makes said (Some time) end a ms b does = does_at-makes said time end a ms b does

does_often-makes : (said : Saying) (times : ℕ) (end : ActionEnd) (a : Stand) (ms : List Move) (b : Stand) → DoesOften said times end a ms b → Makes a ms b
does_often-makes said zero end a ms b (same, none) = does_none-makes a ms b same none
does_often-makes said (suc n) end a ms b (first, (mid, (before, (more, (often, (now, all)))))) =
    subst (λ (moves : List Move). Makes a moves b) (sym all)
    (makes-append a mid b before more (does_often-makes said n first a before mid often) (does_when-makes said (time_at mid.time said.when) end mid more b now))

-- the first time
pub often_first : (said : Saying) (end : ActionEnd) (a b : Stand) (x y : List ℕ) → TellsWhen said (time_at a.time said.when) end a b x y → TellsOften said 1 end a b x y
often_first said end a b x y (ms, now, told) = (ms, (end, (a, ([], (ms, ((refl, refl), (now, refl)))))), told)

-- once more
pub often_more : (said : Saying) (n : ℕ) (first end : ActionEnd) (a b c : Stand) (x y z : List ℕ) → TellsOften said n first a b x y → TellsWhen said (time_at b.time said.when) end b c y z
    → TellsOften said (n + 1) end a c x z
often_more said n first end a b c x y z (ms, often, told) (more, now, told_more) =
    let next : suc n ≡ n + 1 = omega arith in (
      ms ++ more,
      subst (λ (k : ℕ). DoesOften said k end a (ms ++ more) c) next (first, (b, (ms, (more, (often, (now, refl)))))),
      told_both x y z ms more told told_more,
    )

-- so often as it says
pub times_all : (said : Saying) (n : ℕ) (end : ActionEnd) (a b : Stand) (x y : List ℕ) → TellsOften said n end a b x y → n ≡ max 1 said.times → 1 ≤ n
    → TellsTimes said end a b x y
times_all said n end a b x y (ms, often, told) is once = (
  ms,
  record {
    makes = does_often-makes said n end a ms b often;
    done = n;
    does = often;
    once = once;
    most = omega (arith, is);
    all = λ h. is;
  },
  told,
)

-- or less often, since it isn't done again
pub times_some : (said : Saying) (n : ℕ) (end : ActionEnd) (a b : Stand) (x y : List ℕ) (has_ended again : Bool) → TellsOften said n end a b x y → 1 ≤ n
    → n ≤ max 1 said.times → has_ended ≡ is_root_over b.seats → again ≡ goes_on end has_ended → again ≡ false → TellsTimes said end a b x y
times_some said n end a b x y has_ended again (ms, often, told) once most ended is stops = (
  ms,
  record {
    makes = does_often-makes said n end a ms b often;
    done = n;
    does = often;
    once = once;
    most = most;
    all = λ h. absurd (false≢true (sym stops ∙ is ∙ ap (λ (e : Bool). goes_on end e) ended ∙ h));
  },
  told,
)

pub times_told : (r : Result Outcome Halt) (said : Saying) (a b : Stand) (x y : List ℕ)
    → IfOk r (λ outcome. TellsTimes said outcome.taken a b x y) → OnOk r (Tells a b x y)
times_told (Ok _) said a b x y (ms, does, told) = (ms, does.makes, told)
times_told (Err _) said a b x y h = h
