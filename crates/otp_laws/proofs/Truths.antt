-- Each answer that an event gives is true, over whole histories.
use Rattle.std.specs.Prelude.{◌≡◌, ◌⊎◌, ℕ, ◌++◌, ◌&&◌, Bool, true, false, List, [], ◌∷◌, Option, None, Some, All, Contains, map, refl, if◌then◌else◌, position, is_some, reverse, unwrap_or}
use Rattle.std.specs.List.{filter_map}
use Rattle.std.proofs.Common.{◌∙◌, ap, sym, subst, inl, inr, arith, ⊎_elim, get_or}
use Rattle.std.proofs.lemmas.Bool.{cond_both, false≢true}
use Rattle.std.proofs.lemmas.List.{append-nil, append_assoc}
use Rattle.std.proofs.lemmas.List.Elements.{All-append, All-cons, All-nil}
use Rattle.otp_table.specs.Rows.{is_awaited}
use Rattle.otp_rules.specs.declared.call.Answered.{Answered}
use Rattle.otp_rules.specs.declared.call.Reply.{Reply}
use Rattle.otp_rules.specs.declared.call.Reply.TheVariants as reply
use Rattle.otp_rules.specs.declared.event.Event.{Event}
use Rattle.otp_rules.specs.declared.event.Item.TheVariants as item
use Rattle.otp_rules.specs.declared.event.Waiting.{Waiting}
use Rattle.otp_rules.specs.declared.event.Waiting.TheVariants as waiting
use Rattle.otp_rules.specs.declared.work.Due.{Due}
use Rattle.otp_rules.specs.declared.work.Sequel.{Sequel}
use Rattle.otp_rules.specs.declared.work.Sequel.TheVariants as sequel
use Rattle.otp_spec.specs.Flags.{is_simple}
use Rattle.otp_rules.specs.State.{Outcome, State, answer, closed, with_work}
use Rattle.otp_rules.specs.Stops.{is_exit, tell, use_exit}
use Rattle.otp_rules.specs.Starts.{is_due, start, start_row}
use Rattle.otp_rules.specs.Ends.{end_all, refuse_all, refused}
use Rattle.otp_rules.specs.Work.{advance, follow, start_first}
use Rattle.otp_rules.specs.Step.{decide, stamped, step, step_on}
use Rattle.otp_rules.specs.Run.{empty_state, state_after}
use Rattle.otp_rules.specs.Progress.{Ordered, Progress, decided, ends_together, gave, heard, id_bytes, is_end, is_opened, no_progress, opened_now, processes, progress, seen, start_list, taken, went_on, IsAbout, IsPart}
use Rattle.otp_rules.specs.Fit.{times, HasPart, HasStops, HasWaiting, IsFit, IsLawfulFrom, IsListed, IsSound, Keeps, KeepsStarts}
use Rattle.otp_rules.proofs.GoesOn.{GoesOn, advance-on}
use Rattle.otp_rules.proofs.Walks.{advance-by, stop_first-by, with_stops}
use Rattle.otp_rules.proofs.Decisions.{at_row-survives, decide-survives}
use Rattle.otp_rules.proofs.Counting.{none_in, tell-alike, there, times-reverse, use_exit-alike}
use Rattle.otp_rules.proofs.InTurn.{HasDone, IsDone, all-done, used-done, used-waits}
use Rattle.otp_rules.proofs.Lawful.{along}
use Rattle.otp_rules.proofs.Sound.{IsReady, used-ready}
use Rattle.otp_rules.proofs.StartTurn.{step-lawful}
use Rattle.otp_rules.proofs.Taken.{decided-keeps}
use Rattle.otp_rules.proofs.WhileOpen.{Stays, Tracks, While, while-survives}
use Rattle.otp_laws.specs.Oks.{AnswersTrue, AnswersTrueFrom, HasComeUp, HasStopped, IsOfOpened, IsTrue, StartsAreOrdered, TellsTruth, is_call_start}
use Rattle.otp_table.specs.declared.row.Row.{Row}
use Rattle.otp_laws.proofs.Ordered.{contains_map, ordered-child, step-ordered}
use Rattle.otp_laws.proofs.Basis.{empty_basis, lawful_from_0, stays_basis}
use Rattle.otp_laws.proofs.Oks.{AtOnce, CameUp, Said, Told, answer-told, decided-answers, kept-told, start-quiet, tell-quiet, use_exit-quiet}

-- open work is the one that was opened last

-- a decision leaves what followed the open work, closes it, or opens work
pub tracked : (s : State) (e : Event) → IsSound s → Tracks s.follows (decided s e)
tracked s e sound =
    let start : Outcome = record { state = stamped e.reading s; orders = [] } in
    let Q : State → Type 0 = λ t. Unit {0} in
    let stays : Stays e.kind (is_some s.follows) Q =
    record {
      answered = λ c r o q. tt;
      call_waits = λ c x o q. tt;
      exit_waits = λ p r o noted busy q. tt;
      up = λ p place row q kept o at is same noted busy x. tt;
      ignored = λ p place row q kept o at is same noted busy x. tt;
      stopped = λ p r place row o at told noted busy x. tt;
      ticks = λ o q. tt;
    } in
    let all : While Q s.follows (decide e.kind start) = decide-survives e.kind (While Q s.follows) start (while-survives e.kind (is_some s.follows) s.follows Q refl stays) (sound, inl refl, λ opened busy. tt) in
    all.1

pub decided-of : (s : State) (e : Event) (g : Progress) → IsSound s → IsOfOpened s g → IsOfOpened (decided s e) (seen s e g)
decided-of s e g sound h =
    cond_both (is_opened s.follows (decided s e).follows) (opened_now s (taken e.kind s.waiting) (decided s e)) (went_on e.kind g) (λ (x : Progress). IsOfOpened (decided s e) x)
    (λ opened busy. refl)
    (λ isnt busy.
    ⊎_elim
    (λ (same : (decided s e).follows ≡ s.follows). h (ap (λ (f : Option Sequel). is_some f) (sym same) ∙ busy) ∙ sym same)
    (λ rest. ⊎_elim (λ (none : (decided s e).follows ≡ None). absurd (false≢true (sym (ap (λ (f : Option Sequel). is_some f) none) ∙ busy))) (λ (opened : is_opened s.follows (decided s e).follows ≡ true). absurd (false≢true (sym isnt ∙ opened))) rest)
    (tracked s e sound))

abbrev LeftOrClosed : Option Sequel → Outcome → Type 0
LeftOrClosed f o = (o.state.follows ≡ f) ⊎ (is_some o.state.follows ≡ false)

going-left : (f : Option Sequel) (n : ℕ) → GoesOn n (λ _ o. o.state.follows ≡ f) (LeftOrClosed f)
unfolding start start_row answer end_all refuse_all
going-left f n =
    record {
      uses = λ p rest o _ h. (use_exit-alike p (position (is_exit p) o.state.waiting) (with_stops rest o)).4 ∙ h;
      tells = λ p rest o _ h. inl ((tell-alike p (with_stops rest o)).4 ∙ h);
      starts = λ due dues o _ h.
          let left : Outcome = with_work o.state.to_stop dues o.state.follows o in
          inl (at_row-survives (λ (x : Outcome). x.state.follows ≡ f) (is_due due) left (start_row due n) left h h (λ i row at has. h));
      closes = λ x o last other h. inr refl;
      answers = λ c r x o last other h. inr refl;
      ready = λ o last h. inr refl;
      ends = λ x o last h. inr refl;
    }

step-left : (s : State) (e : Event) → ((step s e).state.follows ≡ (decided s e).follows) ⊎ (is_some (step s e).state.follows ≡ false)
unfolding step step_on
step-left s e =
    let d : Outcome = decide e.kind (record { state = stamped e.reading s; orders = [] }) in
    advance-on (unwrap_or e.number 0) (λ _ o. o.state.follows ≡ d.state.follows) (LeftOrClosed d.state.follows) (going-left d.state.follows (unwrap_or e.number 0)) d (λ _. inl refl) (λ _ _. refl)

step-of : (s : State) (e : Event) (g : Progress) → IsSound s → IsOfOpened s g → IsOfOpened (step s e).state (gave (step s e).orders (seen s e g))
step-of s e g sound h busy =
    ⊎_elim
    (λ (same : (step s e).state.follows ≡ (decided s e).follows). decided-of s e g sound h (ap (λ (f : Option Sequel). is_some f) (sym same) ∙ busy) ∙ sym same)
    (λ (none : is_some (step s e).state.follows ≡ false). absurd (false≢true (sym none ∙ busy)))
    (step-left s e)

run-of : (m : ℕ) (s : State) (g : Progress) (events : List Event) → IsFit m s g → IsOfOpened s g → StartsAreOrdered s g → IsLawfulFrom m s events → IsOfOpened (state_after s events) (progress s g events) × StartsAreOrdered (state_after s events) (progress s g events)
run-of m s g events fit h ordered lawful =
    (along (λ n t x. IsFit n t x × (IsOfOpened t x × StartsAreOrdered t x)) (λ n t x all. all.0.2)
    (λ n k t e x all distinct. (step-lawful n k t e x all.0 distinct, (step-of t e x all.0.0.0 all.1.0, step-ordered t e x all.0.0.0 (tracked t e all.0.0.0) (step-left t e) all.1.1)))
    m s g events (fit, (h, ordered)) lawful).1

-- the work that goes on

abbrev Truth : State → Event → Progress → Answered → Type 0
Truth s e g a = IsTrue s e g a.call a.reply

noproc-true : (s : State) (e : Event) (g : Progress) (ws : List Waiting) → All (Truth s e g) (filter_map refused ws)
noproc-true s e g [] = All-nil (Truth s e g)
noproc-true s e g (waiting.Item (item.Note x) ∷ ws) = noproc-true s e g ws
noproc-true s e g (waiting.Item (item.Call c x) ∷ ws) = All-cons (Truth s e g) (record { call = c; reply = reply.NoProc }) (filter_map refused ws) tt (noproc-true s e g ws)
noproc-true s e g (waiting.Retry k ∷ ws) = noproc-true s e g ws

-- what was to be stopped has ended
stopped-true : (s : State) (e : Event) (g : Progress) (c : ℕ) (o : Outcome) → (decided s e).follows ≡ o.state.follows → g.opened.follows ≡ o.state.follows → o.state.follows ≡ Some (sequel.Stopped c) → HasDone g [] o → HasStopped s e g c
stopped-true s e g c o now same is done =
    let apart : ends_together o.state ≡ false = ap (λ (f : Option Sequel). is_end f && is_simple o.state.flags.strategy) is in
    let d : IsDone g [] = done apart in
    let listed : IsListed g = d.0 in
    let all : reverse (processes listed.0) ≡ d.1 = sym listed.6 ∙ d.2 ∙ append-nil d.1 in
    record {
      follows = same ∙ is;
      now = now ∙ is;
      part = listed.0;
      is = listed.1;
      ended = λ q i. d.3 q (let e : times q (reverse (processes listed.0)) ≡ times q d.1 = ap (λ (ps : List ℕ). times q ps) all in omega (arith, i, e, times-reverse q (processes listed.0)));
    }

follow-true : (s : State) (e : Event) (g : Progress) (f : Option Sequel) (o : Outcome) → (decided s e).follows ≡ o.state.follows → o.state.follows ≡ f → g.opened.follows ≡ o.state.follows → HasDone g [] o → Told (Truth s e g) s.replies o → Told (Truth s e g) s.replies (follow f o)
unfolding follow end_all refuse_all
follow-true s e g None o now is same done h = h
follow-true s e g (Some sequel.Ready) o now is same done h = h
follow-true s e g (Some sequel.Nothing) o now is same done h = h
follow-true s e g (Some (sequel.Added c)) o now is same done h = answer-told (Truth s e g) s.replies c reply.OkUndefined (closed o) tt h
follow-true s e g (Some (sequel.Restarted c)) o now is same done h = answer-told (Truth s e g) s.replies c reply.OkUndefined (closed o) tt h
follow-true s e g (Some (sequel.Stopped c)) o now is same done h = answer-told (Truth s e g) s.replies c reply.Ok (closed o) (inr (stopped-true s e g c o now same is done)) h
follow-true s e g (Some (sequel.End x)) o now is same done h =
    let more : List Answered = filter_map refused o.state.waiting in
    (h.0 ++ more, ap (λ (l : List Answered). l ++ more) h.1 ∙ append_assoc s.replies h.0 more, All-append (Truth s e g) h.0 more h.2 (noproc-true s e g o.state.waiting))

start_first-true : (s : State) (e : Event) (g : Progress) (dues : List Due) (n : ℕ) (o : Outcome) → (decided s e).follows ≡ o.state.follows → g.opened.follows ≡ o.state.follows → HasDone g [] o → Told (Truth s e g) s.replies o → Told (Truth s e g) s.replies (start_first dues n o)
unfolding start_first
start_first-true s e g [] n o now same done h = follow-true s e g o.state.follows o now refl same done h
start_first-true s e g (due ∷ dues) n o now same done h =
    let left : Outcome = with_work o.state.to_stop dues o.state.follows o in
    kept-told (Truth s e g) s.replies left (start due n left) (start-quiet due n left) h

-- so many are still to be stopped
abbrev Going : State → Event → Progress → List ℕ → Outcome → Type 0
Going s e g ps o = IsReady ps o × HasWaiting o.state g × HasDone g ps o × (g.opened.follows ≡ o.state.follows) × Told (Truth s e g) s.replies o × ((decided s e).follows ≡ o.state.follows)

advance-true : (s : State) (e : Event) (g : Progress) (n : ℕ) (o : Outcome) → (decided s e).follows ≡ o.state.follows → IsSound o.state → Keeps o.state g → IsOfOpened o.state g → Told (Truth s e g) s.replies o → Told (Truth s e g) s.replies (advance n o)
advance-true s e g n o now sound keeps opened told =
    advance-by (Told (Truth s e g) s.replies) n o (λ _. told)
    (λ busy none.
    let zero = none_in is_awaited o.state.rows none in
    let had : HasWaiting o.state g × HasStops o.state g = keeps busy in
    stop_first-by (Going s e g) (Told (Truth s e g) s.replies) n (λ x h. start_first-true s e g x.state.to_start n x h.5 h.3 h.2 h.4)
    (λ p rest x waits h.
    let place : Option ℕ = position (is_exit p) x.state.waiting in
    let left : Outcome = with_stops rest x in (
      used-ready p rest place x h.0,
      used-waits g p rest x h.1,
      used-done g p rest place x (h.1 p (there (is_exit p) x.state.waiting (waiting.Retry 0) waits)) h.2,
      h.3 ∙ sym (use_exit-alike p place left).4,
      kept-told (Truth s e g) s.replies x (use_exit p place left) (use_exit-quiet p place left) h.4,
      h.5 ∙ sym (use_exit-alike p place left).4,
    ))
    (λ p rest x _ h. let left : Outcome = with_stops rest x in kept-told (Truth s e g) s.replies left (tell p left) (tell-quiet p left) h.4) o.state.to_stop o
    ((sound, zero, refl, busy), had.0, (λ apart. all-done o.state g zero (had.1 apart)), opened busy, told, now))

at_once-true : (s : State) (e : Event) (g : Progress) (c : ℕ) (r : Reply) → AtOnce s e.kind c r → IsTrue s e g c r
at_once-true s e g c reply.Ok h = inl h
at_once-true s e g c (reply.OkProcess p) h = absurd h
at_once-true s e g c reply.OkUndefined h = tt
at_once-true s e g c reply.NoProc h = tt
at_once-true s e g c (reply.Refused _) h = tt
at_once-true s e g c (reply.Which _) h = tt
at_once-true s e g c (reply.Count _) h = tt
at_once-true s e g c (reply.Spec _) h = tt

-- the lists of open work are those of the children that it is about
listed_of : (s : State) (g : Progress) → Keeps s g → is_some s.follows ≡ true → is_end s.follows ≡ false → IsListed g
listed_of s g keeps busy other =
    let apart : ends_together s ≡ false = ap (λ (b : Bool). b && is_simple s.flags.strategy) other in
    let part : HasPart s g = (keeps busy).1 apart in
    part.0

-- a child that a call starts came up
came-up-true : (s : State) (e : Event) (g : Progress) → Keeps s g → KeepsStarts s g → IsOfOpened s g → StartsAreOrdered s g → CameUp s e.kind (step s e) → TellsTruth s e (seen s e g)
came-up-true s e g keeps starts opened ordered h =
    ⊎_elim
    (λ (is : s.follows ≡ Some (sequel.Added h.c)). told (Some (sequel.Added h.c)) is refl refl refl (λ x. refl) (inl refl) (λ p about. (about.row, about.is)) (λ p. refl))
    (λ (is : s.follows ≡ Some (sequel.Restarted h.c)). told (Some (sequel.Restarted h.c)) is refl refl refl (λ x. refl) (inr refl) (λ p about. (about.row, about.is)) (λ p. refl))
    h.work
  where
    told : (f : Option Sequel) → s.follows ≡ f → is_some f ≡ true → is_end f ≡ false → is_call_start f ≡ true → ((x : Option Sequel) → is_opened f x ≡ false) → (f ≡ Some (sequel.Added h.c)) ⊎ (f ≡ Some (sequel.Restarted h.c))
        → ((part : List Row) → IsAbout g.took g.before f g.opened part → (child : Row) × (part ≡ child ∷ [])) → ((part : List Row) → start_list f part ≡ part) → TellsTruth s e (seen s e g)
    told f is some other calls never which single all =
        let isnt : is_opened s.follows (decided s e).follows ≡ false = ap (λ (x : Option Sequel). is_opened x (decided s e).follows) is ∙ never (decided s e).follows in
        let same : seen s e g ≡ went_on e.kind g = ap (λ (b : Bool). if b then opened_now s (taken e.kind s.waiting) (decided s e) else went_on e.kind g) isnt in
        let busy : is_some s.follows ≡ true = ap (λ (x : Option Sequel). is_some x) is ∙ some in
        let work : g.opened.follows ≡ f = opened busy ∙ is in
        let listed : IsListed g = listed_of s g keeps busy (ap is_end is ∙ other) in
        let part : List Row = listed.0 in
        let child : (child : Row) × (part ≡ child ∷ []) = single part (subst (λ (x : Option Sequel). IsAbout g.took g.before x g.opened part) work listed.1) in
        let ids : map (λ (y : Due). id_bytes y.id) g.opened.to_start ≡ map (λ (y : Row). id_bytes y.id) part =
        listed.7 ∙ ap (λ (x : Option Sequel). map (λ (y : Row). id_bytes y.id) (start_list x part)) work ∙ ap (λ (l : List Row). map (λ (y : Row). id_bytes y.id) l) (all part) in
        let order : (x : Ordered) × Contains g.ordered x × (id_bytes x.id ≡ id_bytes h.was.id) × (x.number ≡ h.p) = ordered (ap is_call_start is ∙ calls) h.was h.p h.there h.started in
        let named : id_bytes order.0.id ≡ id_bytes child.0.id = ordered-child s g order.0 child.0 part (starts busy) ids child.1 order.1 in
        let one : Answered = record { call = h.c; reply = reply.OkProcess h.p } in
        let true_one : HasComeUp s e (went_on e.kind g) h.c h.p =
        record {
          now = is ∙ sym work;
          follows = ⊎_elim (λ (x : f ≡ Some (sequel.Added h.c)). inl (work ∙ x)) (λ (x : f ≡ Some (sequel.Restarted h.c)). inr (work ∙ x)) which;
          child = child.0;
          is = subst (λ (l : List Row). IsPart g l) child.1 listed.1;
          takes = h.takes;
          start = heard e.kind order.0;
          since = contains_map (heard e.kind) g.ordered order.0 order.1;
          number = order.3;
          row = h.row;
          among = h.among;
          up = h.up;
          same = ap id_bytes h.same ∙ sym order.2 ∙ named;
        } in
        subst (λ (x : Progress). TellsTruth s e x) (sym same) (one ∷ [], h.told, All-cons (Truth s e (went_on e.kind g)) one [] true_one (All-nil (Truth s e (went_on e.kind g))))

-- work that is closed rests
rests-up : (s : State) (e : Event) → CameUp s e.kind (decide e.kind (record { state = stamped e.reading s; orders = [] })) → CameUp s e.kind (step s e)
unfolding step step_on
rests-up s e h =
    let d : Outcome = decide e.kind (record { state = stamped e.reading s; orders = [] }) in
    advance-by (CameUp s e.kind) (unwrap_or e.number 0) d (λ _. h) (λ busy none. absurd (false≢true (sym h.idle ∙ busy)))

said-true : (s : State) (e : Event) (g : Progress) → IsSound (decided s e) → Keeps (decided s e) (seen s e g) → IsOfOpened (decided s e) (seen s e g) → Said s e.kind (decide e.kind (record { state = stamped e.reading s; orders = [] })) → TellsTruth s e (seen s e g)
unfolding step step_on
said-true s e g sound keeps opened h =
    let d : Outcome = decide e.kind (record { state = stamped e.reading s; orders = [] }) in
    advance-true s e (seen s e g) (unwrap_or e.number 0) d refl sound keeps opened (h.0, h.1, λ i x within. at_once-true s e (seen s e g) (get_or h.0 i x).call (get_or h.0 i x).reply (h.2 i x within))

step-true : (s : State) (e : Event) (g : Progress) → IsSound s → Keeps s g → KeepsStarts s g → IsOfOpened s g → StartsAreOrdered s g → TellsTruth s e (seen s e g)
step-true s e g sound keeps starts opened ordered =
    let mid : IsSound (decided s e) × Keeps (decided s e) (seen s e g) = decided-keeps s e g sound keeps in
    ⊎_elim
    (λ (said : Said s e.kind (decide e.kind (record { state = stamped e.reading s; orders = [] }))). said-true s e g mid.0 mid.1 (decided-of s e g sound opened) said)
    (λ (came : CameUp s e.kind (decide e.kind (record { state = stamped e.reading s; orders = [] }))). came-up-true s e g keeps starts opened ordered (rests-up s e came))
    (decided-answers s e)

pub answers_true_from_law : AnswersTrueFrom
answers_true_from_law m s g events e h opened ordered lawful =
    let now = stays_basis m s g events h lawful in
    let both = run-of m s g events h.0 opened ordered lawful in
    step-true (state_after s events) e (progress s g events) now.0.0.0 now.0.0.1 now.0.3 both.0 both.1

pub answers_true_law : AnswersTrue
answers_true_law flags specs events e lawful =
    let base : State = empty_state flags specs in
    answers_true_from_law 0 base (no_progress base) events e (empty_basis flags specs) (λ busy. absurd (false≢true busy)) (λ call row q among starts. absurd (omega (arith, among.1))) (lawful_from_0 base events lawful)
