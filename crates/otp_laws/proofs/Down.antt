-- After an ok to delete_child or terminate_child the child is down, over whole histories.
use Rattle.std.specs.Prelude.{◌≡◌, ℕ, ◌≤◌, ◌<◌, ◌++◌, true, false, List, [], ◌∷◌, Option, None, Some, All, refl, get_or, length, position, is_some, unwrap_or}
use Rattle.std.specs.List.{filter_map}
use Rattle.std.proofs.Common.{◌∙◌, ap, sym, subst, inl, inr, arith, ⊎_elim}
use Rattle.std.proofs.lemmas.Bool.{false≢true}
use Rattle.std.proofs.lemmas.List.{append_assoc}
use Rattle.std.proofs.lemmas.List.Elements.{All-append, All-cons, All-nil}
use Rattle.otp_spec.specs.declared.child.ChildSpec.{ChildSpec}
use Rattle.otp_spec.specs.declared.limits.TheConstants.{MAX_CHILDREN}
use Rattle.otp_table.specs.declared.row.Row.{Row}
use Rattle.otp_table.specs.Rows.{has_id, has_slot, is_awaited}
use Rattle.otp_rules.specs.declared.call.Answered.{Answered}
use Rattle.otp_rules.specs.declared.call.Call.{Call}
use Rattle.otp_rules.specs.declared.call.Call.TheVariants as call
use Rattle.otp_rules.specs.declared.call.Reply.TheVariants as reply
use Rattle.otp_rules.specs.declared.event.Event.{Event}
use Rattle.otp_rules.specs.declared.event.Item.TheVariants as item
use Rattle.otp_rules.specs.declared.event.Kind.{Kind}
use Rattle.otp_rules.specs.declared.event.Waiting.{Waiting}
use Rattle.otp_rules.specs.declared.event.Waiting.TheVariants as waiting
use Rattle.otp_rules.specs.declared.work.Due.{Due}
use Rattle.otp_rules.specs.declared.work.Sequel.{Sequel}
use Rattle.otp_rules.specs.declared.work.Sequel.TheVariants as sequel
use Rattle.otp_rules.specs.State.{Outcome, State, answer, closed, is_busy, with_work}
use Rattle.otp_rules.specs.Stops.{is_exit, tell, use_exit}
use Rattle.otp_rules.specs.Starts.{is_due, start, start_row}
use Rattle.otp_rules.specs.Ends.{end_all, refuse_all, refused}
use Rattle.otp_rules.specs.Work.{advance, follow, start_first}
use Rattle.otp_rules.specs.Step.{decide, stamped, step, step_on}
use Rattle.otp_rules.specs.Run.{empty_state, state_after}
use Rattle.otp_rules.specs.Needs.{numbers_of}
use Rattle.otp_rules.specs.Progress.{Progress, decided, gave, no_progress, progress, seen, IsCall}
use Rattle.otp_rules.specs.Fit.{next_number, rows_in, IsLawfulFrom, IsSound}
use Rattle.otp_rules.specs.InOrder.{is_stop, IsCalm, IsInOrder}
use Rattle.otp_rules.proofs.Calm.{decided-calm}
use Rattle.otp_rules.proofs.Counting.{none_in, tell-alike, use_exit-alike}
use Rattle.otp_rules.proofs.Decisions.{at_row-survives}
use Rattle.otp_rules.proofs.Finishing.{AreOne, decided-finishing}
use Rattle.otp_rules.proofs.Keeps.{step_keeps_plan_law}
use Rattle.otp_rules.proofs.Numbers.{use_exit-no_more}
use Rattle.otp_rules.proofs.Slots.{slots_stay_owned_law}
use Rattle.otp_rules.proofs.Sound.{IsReady, used-ready}
use Rattle.otp_rules.proofs.Walks.{Rests, advance-by, stop_first-by, with_stops}
use Rattle.otp_laws.specs.Basis.{IsBasis}
use Rattle.otp_laws.specs.Down.{AreApart, IsAsked, IsSinking, LeavesDown, OkLeavesDown, OkLeavesDownFrom, StopsItsChild}
use Rattle.otp_laws.specs.Ids.{AreSpecsApart}
use Rattle.otp_laws.specs.Oks.{IsDownAlready}
use Rattle.otp_laws.proofs.Basis.{empty_basis, lawful_from_0, split_lawful, stays_basis}
use Rattle.otp_laws.proofs.Done.{Apart, NotOk, Silent, at_once-done, not_ok}
use Rattle.otp_laws.proofs.Ids.{ids_stay_apart_law}
use Rattle.otp_laws.proofs.Oks.{AtOnce, CameUp, Said, Told, answer-told, decided-answers, kept-told, start-quiet, tell-quiet, use_exit-quiet}
use Rattle.otp_laws.proofs.Sinks.{sunk, tell-sinks, used-sinks}
use Rattle.otp_laws.proofs.Specs.{few_specs, specs_apart}
use Rattle.otp_laws.proofs.Stopped.{mid-stops, sinking-map}

-- the answer is not ok, or what its call asked for is done
abbrev Fin : State → Event → Progress → List Row → Answered → Type 0
Fin s e g rows a = a.reply ≡ reply.Ok → (asked : Call) × (old : List Row) × IsAsked s e g a.call asked old × LeavesDown asked old rows

abbrev Result : State → Event → Progress → Outcome → Type 0
Result s e g o = Told (Fin s e g o.state.rows) s.replies o × StopsItsChild o.state g

-- so many are still to be stopped
abbrev Sinks : Progress → List ℕ → Outcome → Type 0
Sinks g ps o = (c : ℕ) → o.state.follows ≡ Some (sequel.Stopped c) → (o.state.to_start ≡ []) × (asked : Call) × IsCall g.took c asked × IsSinking asked g.before.rows ps o.state.rows

abbrev Goes : State → Event → Progress → List ℕ → Outcome → Type 0
Goes s e g ps o = IsReady ps o × AreOne o × ((decided s e).follows ≡ o.state.follows) × Silent s.replies o × Sinks g ps o

silent-fin : (s : State) (e : Event) (g : Progress) (rows : List Row) (o : Outcome) → Silent s.replies o → Told (Fin s e g rows) s.replies o
silent-fin s e g rows o h = (h.0, h.1, λ i x within ok. absurd (h.2 i x within ok))

-- no child is stopped for a call any more
shut-stops : (g : Progress) (t : State) → is_stop t.follows ≡ false → StopsItsChild t g
shut-stops g t shut c is = absurd (false≢true (sym shut ∙ ap is_stop is))

leaves-down : (asked : Call) (old rows : List Row) → rows_in is_awaited rows ≡ 0 → IsSinking asked old [] rows → LeavesDown asked old rows
leaves-down (call.TerminateChild id) old rows calm h = sunk (has_id id) rows calm h
leaves-down (call.TerminateProcess p) old rows calm h = (h.0, h.1, h.2, sunk (has_slot h.1.slot) rows calm h.3)
leaves-down (call.StartChild _) old rows calm h = absurd h
leaves-down call.StartDynamic old rows calm h = absurd h
leaves-down (call.RestartChild _) old rows calm h = absurd h
leaves-down (call.DeleteChild _) old rows calm h = absurd h
leaves-down call.WhichChildren old rows calm h = absurd h
leaves-down call.CountChildren old rows calm h = absurd h
leaves-down (call.GetChildspec _) old rows calm h = absurd h

noproc-fin : (s : State) (e : Event) (g : Progress) (rows : List Row) (ws : List Waiting) → All (Fin s e g rows) (filter_map refused ws)
noproc-fin s e g rows [] = All-nil (Fin s e g rows)
noproc-fin s e g rows (waiting.Item (item.Note x) ∷ ws) = noproc-fin s e g rows ws
noproc-fin s e g rows (waiting.Item (item.Call c x) ∷ ws) = All-cons (Fin s e g rows) (record { call = c; reply = reply.NoProc }) (filter_map refused ws) (λ ok. cc) (noproc-fin s e g rows ws)
noproc-fin s e g rows (waiting.Retry k ∷ ws) = noproc-fin s e g rows ws

follow-down : (s : State) (e : Event) (g : Progress) (f : Option Sequel) (o : Outcome) → o.state.follows ≡ f → Goes s e g [] o → Result s e g (follow f o)
unfolding follow answer end_all refuse_all
follow-down s e g None o is h = absurd (false≢true (sym (ap (λ (f : Option Sequel). is_some f) is) ∙ h.0.3))
follow-down s e g (Some sequel.Ready) o is h = (silent-fin s e g o.state.rows o h.3, shut-stops g (closed o).state refl)
follow-down s e g (Some sequel.Nothing) o is h = (silent-fin s e g o.state.rows o h.3, shut-stops g (closed o).state refl)
follow-down s e g (Some (sequel.Added c)) o is h =
    (answer-told (Fin s e g o.state.rows) s.replies c reply.OkUndefined (closed o) (λ ok. cc) (silent-fin s e g o.state.rows o h.3), shut-stops g (closed o).state refl)
follow-down s e g (Some (sequel.Restarted c)) o is h =
    (answer-told (Fin s e g o.state.rows) s.replies c reply.OkUndefined (closed o) (λ ok. cc) (silent-fin s e g o.state.rows o h.3), shut-stops g (closed o).state refl)
follow-down s e g (Some (sequel.Stopped c)) o is h =
    let k = h.4 c is in (
      answer-told (Fin s e g o.state.rows) s.replies c reply.Ok (closed o)
          (λ ok. (k.1, g.before.rows, inr (k.2, h.2 ∙ is, refl), leaves-down k.1 g.before.rows o.state.rows h.0.1 k.3)) (silent-fin s e g o.state.rows o h.3),
      shut-stops g (closed o).state refl,
    )
follow-down s e g (Some (sequel.End x)) o is h =
    let more : List Answered = filter_map refused o.state.waiting in
    let none : Told (Fin s e g []) s.replies o = silent-fin s e g [] o h.3 in (
      (none.0 ++ more, ap (λ (l : List Answered). l ++ more) none.1 ∙ append_assoc s.replies none.0 more, All-append (Fin s e g []) none.0 more none.2 (noproc-fin s e g [] o.state.waiting)),
      λ c no. absurd (false≢true (ap is_stop no)),
    )

start-follows : (due : Due) (n : ℕ) (o : Outcome) → (start due n o).state.follows ≡ o.state.follows
unfolding start start_row
start-follows due n o = at_row-survives (λ (x : Outcome). x.state.follows ≡ o.state.follows) (is_due due) o (start_row due n) o refl refl (λ i row at has. refl)

start_first-down : (s : State) (e : Event) (g : Progress) (dues : List Due) (n : ℕ) (o : Outcome) → o.state.to_start ≡ dues → Goes s e g [] o → Result s e g (start_first dues n o)
unfolding start_first
start_first-down s e g [] n o is h = follow-down s e g o.state.follows o refl h
start_first-down s e g (due ∷ dues) n o is h =
    let left : Outcome = with_work o.state.to_stop dues o.state.follows o in
    let new : Outcome = start due n left in (
      silent-fin s e g new.state.rows new (kept-told NotOk s.replies left new (start-quiet due n left) h.3),
      λ c stops. absurd (let no : due ∷ dues ≡ [] = sym is ∙ (h.4 c (sym (start-follows due n left) ∙ stops)).0 in cc),
    )

used-goes : (s : State) (e : Event) (g : Progress) (p : ℕ) (rest : List ℕ) (o : Outcome) → Goes s e g (p ∷ rest) o → Goes s e g rest (use_exit p (position (is_exit p) o.state.waiting) (with_stops rest o))
used-goes s e g p rest o h =
    let place : Option ℕ = position (is_exit p) o.state.waiting in
    let left : Outcome = with_stops rest o in
    let new : Outcome = use_exit p place left in
    let same = use_exit-alike p place left in
    let fewer = use_exit-no_more p place left left (λ q. omega arith) in (
      used-ready p rest place o h.0,
      λ q. omega (arith, fewer q, h.1 q),
      h.2 ∙ sym same.4,
      kept-told NotOk s.replies left new (use_exit-quiet p place left) h.3,
      λ c is.
          let was = h.4 c (sym same.4 ∙ is) in
          (same.3 ∙ was.0, was.1, was.2, sinking-map was.1 g.before.rows (p ∷ rest) rest left.state.rows new.state.rows (λ u still k. used-sinks u still p rest place left (h.1 p) k) was.3),
    )

tell-down : (s : State) (e : Event) (g : Progress) (p : ℕ) (rest : List ℕ) (o : Outcome) → Goes s e g (p ∷ rest) o → Result s e g (tell p (with_stops rest o))
tell-down s e g p rest o h =
    let left : Outcome = with_stops rest o in
    let new : Outcome = tell p left in
    let same = tell-alike p left in (
      silent-fin s e g new.state.rows new (kept-told NotOk s.replies left new (tell-quiet p left) h.3),
      λ c is.
          let was = h.4 c (sym same.4 ∙ is) in
          let sinks : IsSinking was.1 g.before.rows rest new.state.rows = sinking-map was.1 g.before.rows (p ∷ rest) rest left.state.rows new.state.rows (λ u still k. tell-sinks u still p rest left (h.1 p) k) was.3 in
          (was.1, was.2, subst (λ (ps : List ℕ). IsSinking was.1 g.before.rows ps new.state.rows) (sym same.2) sinks),
    )

-- what the decision answers

fin-at_once : (s : State) (e : Event) (g : Progress) (a : Answered) → Apart s.rows → (h : IsDownAlready s e.kind a.call)
    → (Silent s.replies (decide e.kind (record { state = stamped e.reading s; orders = [] })) → ⊥)
    → (is_busy (decide e.kind (record { state = stamped e.reading s; orders = [] })) ≡ false)
    × (asked : Call) × (old : List Row) × IsAsked s e g a.call asked old × LeavesDown asked old (decided s e).rows
fin-at_once s e g a apart h loud =
    ⊎_elim (λ (silent : Silent s.replies (decide e.kind (record { state = stamped e.reading s; orders = [] }))). absurd (loud silent))
    (λ (done : (is_busy (decide e.kind (record { state = stamped e.reading s; orders = [] })) ≡ false) × LeavesDown h.asked s.rows (decided s e).rows).
    (done.0, h.asked, s.rows, inl (h.takes, refl), done.1))
    (at_once-done s e a.call apart h)

-- one that is ok is to a call that is done, and no work is open
ok-done : (s : State) (e : Event) (g : Progress) → Apart s.rows → (said : Said s e.kind (decide e.kind (record { state = stamped e.reading s; orders = [] }))) → (i : ℕ) (x : Answered) → i < length said.0 → (get_or said.0 i x).reply ≡ reply.Ok
    → (is_busy (decide e.kind (record { state = stamped e.reading s; orders = [] })) ≡ false)
    × (asked : Call) × (old : List Row) × IsAsked s e g (get_or said.0 i x).call asked old × LeavesDown asked old (decided s e).rows
ok-done s e g apart said i x within ok =
    let a : Answered = get_or said.0 i x in
    let down : IsDownAlready s e.kind a.call = subst (λ r. AtOnce s e.kind a.call r) ok (said.2 i x within) in
    fin-at_once s e g a apart down
    (λ silent. not_ok s.replies (decide e.kind (record { state = stamped e.reading s; orders = [] })) said.0 i x said.1 within ok silent)

came-silent : (s : State) (k : Kind) (o : Outcome) → CameUp s k o → Silent s.replies o
came-silent s k o h = let one : Answered = record { call = h.c; reply = reply.OkProcess h.p } in (one ∷ [], h.told, All-cons NotOk one [] (λ is. cc) (All-nil NotOk))

decided-fin : (s : State) (e : Event) (g : Progress) → Apart s.rows → Told (Fin s e g (decided s e).rows) s.replies (decide e.kind (record { state = stamped e.reading s; orders = [] }))
decided-fin s e g apart =
    let d : Outcome = decide e.kind (record { state = stamped e.reading s; orders = [] }) in
    ⊎_elim
    (λ (said : Said s e.kind d). (said.0, said.1, λ i x within ok. let done = ok-done s e g apart said i x within ok in (done.1, done.2, done.3, done.4)))
    (λ (came : CameUp s e.kind d). silent-fin s e g d.state.rows d (came-silent s e.kind d came))
    (decided-answers s e)

decided-silent : (s : State) (e : Event) (g : Progress) → Apart s.rows → is_busy (decide e.kind (record { state = stamped e.reading s; orders = [] })) ≡ true → Silent s.replies (decide e.kind (record { state = stamped e.reading s; orders = [] }))
decided-silent s e g apart busy =
    let d : Outcome = decide e.kind (record { state = stamped e.reading s; orders = [] }) in
    ⊎_elim
    (λ (said : Said s e.kind d). (said.0, said.1, λ i x within ok. false≢true (sym (ok-done s e g apart said i x within ok).0 ∙ busy)))
    (λ (came : CameUp s e.kind d). came-silent s e.kind d came)
    (decided-answers s e)

-- one event

advance-result : (s : State) (e : Event) (g : Progress) (n : ℕ) (d : Outcome) → (Rests d → Result s e g d) → (is_busy d ≡ true → rows_in is_awaited d.state.rows ≡ 0 → Goes s e g d.state.to_stop d) → Result s e g (advance n d)
advance-result s e g n d rests goes =
    advance-by (Result s e g) n d rests
    (λ busy none.
    stop_first-by (Goes s e g) (Result s e g) n (λ x h. start_first-down s e g x.state.to_start n x refl h) (λ p rest x _ h. used-goes s e g p rest x h) (λ p rest x _ h. tell-down s e g p rest x h) d.state.to_stop d
    (goes busy (none_in is_awaited d.state.rows none)))

step-result : (m : ℕ) (s : State) (e : Event) (g : Progress) → IsInOrder m s → StopsItsChild s g → AreApart s → Result s e (seen s e g) (step s e)
unfolding step step_on
step-result m s e g order stops apart =
    let start : Outcome = record { state = stamped e.reading s; orders = [] } in
    let d : Outcome = decide e.kind start in
    let rows : Apart s.rows = record { ids = apart.ids; slots = apart.slots.one } in
    let calm : IsSound d.state × IsCalm d.state = decided-calm e.kind start order.0 order.4 in
    let fewer = decided-finishing e.kind start order.0 order.1.0 order.2 in
    let mid : StopsItsChild d.state (seen s e g) = mid-stops s e g order.0 rows stops in
    advance-result s e (seen s e g) (unwrap_or e.number 0) d (λ _. (decided-fin s e (seen s e g) rows, mid))
    (λ busy none. (
      (calm.0, none, refl, busy),
      λ q. omega (arith, fewer.1 q, order.1.0 q),
      refl,
      decided-silent s e (seen s e g) rows busy,
      λ c is. let m = mid c is in ((calm.1 (ap is_stop is)).1, m.0, m.1, m.2),
    ))

-- whole histories

run-down : (m : ℕ) (s : State) (g : Progress) (events : List Event) → IsBasis m s g → StopsItsChild s g → AreApart s → IsLawfulFrom m s events
    → StopsItsChild (state_after s events) (progress s g events) × AreApart (state_after s events)
run-down m s g [] h stops apart lawful = (stops, apart)
run-down m s g (e ∷ events) h stops apart lawful =
    let parts = split_lawful m s (e ∷ []) events lawful in
    let same : (step s e).state.specs ≡ s.specs = (step_keeps_plan_law s e).1 in
    let later : AreApart (step s e).state =
    record {
      few = subst (λ (l : List ChildSpec). length l ≤ MAX_CHILDREN) (sym same) apart.few;
      slots = slots_stay_owned_law s (e ∷ []) apart.few apart.slots;
      specs = subst AreSpecsApart (sym same) apart.specs;
      ids = ids_stay_apart_law s (e ∷ []) apart.specs apart.ids;
    } in
    run-down (next_number m (numbers_of (e ∷ []))) (step s e).state (gave (step s e).orders (seen s e g)) events (stays_basis m s g (e ∷ []) h parts.0)
    (step-result m s e g h.1 stops apart).1 later parts.1

pub ok_leaves_down_from_law : OkLeavesDownFrom
ok_leaves_down_from_law m s g events e h stops apart lawful =
    let now = run-down m s g events h stops apart lawful in
    let basis = stays_basis m s g events h lawful in
    (step-result (next_number m (numbers_of events)) (state_after s events) e (progress s g events) basis.1 now.0 now.1).0

pub ok_leaves_down_law : OkLeavesDown
ok_leaves_down_law flags specs events e opens lawful =
    let base : State = empty_state flags specs in
    ok_leaves_down_from_law 0 base (no_progress base) events e (empty_basis flags specs) (λ c is. absurd (false≢true (ap is_stop is)))
    (record { few = few_specs flags specs opens; slots = record { one = λ k. omega arith; below = λ i d less. absurd (omega (arith, less)) }; specs = specs_apart flags specs opens; ids = λ id. omega arith })
    (lawful_from_0 base events lawful)
