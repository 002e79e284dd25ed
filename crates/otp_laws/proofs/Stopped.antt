-- While a child is stopped for a call, what the event decides leaves it on its way down.
use Rattle.std.specs.Prelude.{◌≡◌, ◌⊎◌, ℕ, ◌≤◌, Bool, true, false, List, [], ◌∷◌, Option, None, Some, Contains, refl, if◌then◌else◌, is_some, count_by}
use Rattle.std.proofs.Common.{◌∙◌, ap, sym, subst, inl, inr, arith, ⊎_elim, cond}
use Rattle.std.proofs.lemmas.Bool.{false≢true}
use Rattle.otp_reason.specs.declared.name.Name.{Name}
use Rattle.otp_table.specs.declared.row.Row.{Row}
use Rattle.otp_table.specs.declared.row.RowState.{RowState}
use Rattle.otp_table.specs.declared.row.RowState.TheVariants.{Starting, Undefined, Up}
use Rattle.otp_table.specs.Rows.{has_id, has_number, has_slot, is_awaited, row_has}
use Rattle.otp_rules.specs.declared.call.Call.{Call}
use Rattle.otp_rules.specs.declared.call.Call.TheVariants as call
use Rattle.otp_rules.specs.declared.call.Reply.{Reply}
use Rattle.otp_rules.specs.declared.ending.Ending.{Ending}
use Rattle.otp_rules.specs.declared.ending.Ending.TheVariants as ending
use Rattle.otp_rules.specs.declared.event.Event.{Event}
use Rattle.otp_rules.specs.declared.event.Item.{Item}
use Rattle.otp_rules.specs.declared.event.Item.TheVariants as item
use Rattle.otp_rules.specs.declared.event.Kind.{Kind}
use Rattle.otp_rules.specs.declared.event.Kind.TheVariants as kind
use Rattle.otp_rules.specs.declared.event.Waiting.{Waiting}
use Rattle.otp_rules.specs.declared.event.Waiting.TheVariants as waiting
use Rattle.otp_rules.specs.declared.work.Sequel.{Sequel}
use Rattle.otp_rules.specs.declared.work.Sequel.TheVariants as sequel
use Rattle.otp_rules.specs.State.{Outcome, State, answer, is_busy, with_work}
use Rattle.otp_rules.specs.Places.{end_row, set_row}
use Rattle.otp_rules.specs.Stops.{terminate}
use Rattle.otp_rules.specs.Deaths.{restart, restart_rows}
use Rattle.otp_rules.specs.Step.{decide, open_rows, open_with, stamped, tick}
use Rattle.otp_rules.specs.Homes.{Brings}
use Rattle.otp_rules.specs.Progress.{Progress, decided, is_opened, opened_now, seen, taken, went_on, IsCall}
use Rattle.otp_rules.specs.Fit.{IsSound}
use Rattle.otp_rules.specs.InOrder.{is_stop}
use Rattle.otp_rules.proofs.Counting.{end_row-alike, rows_in-at}
use Rattle.otp_rules.proofs.Decisions.{BringsStop, IsFirstAt, IsIdle, IsUnmoved, StandsAt, SurvivesEvent, decide-survives, decide-survives_event, first_passes}
use Rattle.otp_rules.proofs.Homes.{same_number}
use Rattle.otp_rules.proofs.Sound.{awaits_nothing}
use Rattle.otp_rules.proofs.Walks.{counted_restart, restart-by}
use Rattle.otp_rules.proofs.WhileOpen.{Stays, While, terminate-follows, while-survives}
use Rattle.otp_laws.specs.Down.{AreSinking, IsFirstNumbered, IsSinking, StopsItsChild, is_kept}
use Rattle.otp_laws.proofs.Both.{end-most, set-most, tick-most}
use Rattle.otp_laws.proofs.Done.{Apart}
use Rattle.otp_laws.proofs.Ids.{still_id}
use Rattle.otp_laws.proofs.Oks.{among-at, first_found}
use Rattle.otp_laws.proofs.Sinks.{one_sinks, sinks}
use Rattle.otp_laws.proofs.Still.{IsStill}
use Rattle.otp_laws.proofs.Truths.{tracked}

-- whatever the call names it by, the child sinks
pub sinking-map : (asked : Call) (old : List Row) (ps qs : List ℕ) (rows new : List Row) → ((u : Row → Bool) → IsStill u → AreSinking u ps rows → AreSinking u qs new) → IsSinking asked old ps rows → IsSinking asked old qs new
sinking-map (call.TerminateChild id) old ps qs rows new f h = f (has_id id) (still_id id) h
sinking-map (call.TerminateProcess p) old ps qs rows new f h = (h.0, h.1, h.2, f (has_slot h.1.slot) (λ state row. refl) h.3)
sinking-map (call.StartChild _) old ps qs rows new f h = absurd h
sinking-map call.StartDynamic old ps qs rows new f h = absurd h
sinking-map (call.RestartChild _) old ps qs rows new f h = absurd h
sinking-map (call.DeleteChild _) old ps qs rows new f h = absurd h
sinking-map call.WhichChildren old ps qs rows new f h = absurd h
sinking-map call.CountChildren old ps qs rows new f h = absurd h
sinking-map (call.GetChildspec _) old ps qs rows new f h = absurd h

-- while the work stays open

abbrev Sinks : Call → List Row → State → Type 0
Sinks asked old t = IsSinking asked old t.to_stop t.rows

end-sinks : (asked : Call) (old : List Row) (place : ℕ) (row : Row) (o : Outcome) → StandsAt place row o → Sinks asked old o.state → Sinks asked old (end_row place row o).state
end-sinks asked old place row o at h =
    let new : List Row = (end_row place row o).state.rows in
    subst (λ (ps : List ℕ). IsSinking asked old ps new) (sym (end_row-alike place row o).2)
    (sinking-map asked old o.state.to_stop o.state.to_stop o.state.rows new (λ u still k. end-most u (is_kept o.state.to_stop) still (sinks o.state.to_stop) 0 place row o at k) h)

up-sinks : (asked : Call) (old : List Row) (p place : ℕ) (row : Row) (q kept : ℕ) (o : Outcome) → StandsAt place row o → row.state ≡ Starting q kept → Sinks asked old o.state → Sinks asked old (set_row place row (Up p) o).state
up-sinks asked old p place row q kept o at is h =
    let ps : List ℕ = o.state.to_stop in
    sinking-map asked old ps ps o.state.rows (set_row place row (Up p) o).state.rows (λ u still k. set-most u (is_kept ps) still 0 place row (Up p) o at less k) h
  where
    at_most : (b : Bool) → cond b 1 0 ≤ 1
    at_most true = omega arith
    at_most false = omega arith

    less : cond (is_kept o.state.to_stop (Up p)) 1 0 ≤ cond (is_kept o.state.to_stop row.state) 1 0
    less =
        let one : ◌≡◌ {A = ℕ} (cond (is_kept o.state.to_stop row.state) 1 0) 1 = ap (λ (s : RowState). cond (is_kept o.state.to_stop s) 1 0) is in
        omega (arith, one, at_most (is_kept o.state.to_stop (Up p)))

tick-sinks : (asked : Call) (old : List Row) (o : Outcome) → Sinks asked old o.state → Sinks asked old (tick o).state
unfolding tick
tick-sinks asked old o h =
    let ps : List ℕ = o.state.to_stop in
    sinking-map asked old ps ps o.state.rows (tick o).state.rows (λ u still k. tick-most u (is_kept ps) still (sinks ps) 0 o k) h

answer-sinks : (asked : Call) (old : List Row) (c : ℕ) (r : Reply) (o : Outcome) → Sinks asked old o.state → Sinks asked old (answer c r o).state
unfolding answer
answer-sinks asked old c r o h = h

sinks-stay : (asked : Call) (old : List Row) (k : Kind) (b : Bool) → Stays k b (Sinks asked old)
sinks-stay asked old k b =
    record {
      answered = answer-sinks asked old;
      call_waits = λ c x o h. h;
      exit_waits = λ p r o noted busy h. h;
      up = λ p place row q kept o at is same noted busy h. up-sinks asked old p place row q kept o at is h;
      ignored = λ p place row q kept o at is same noted busy h. end-sinks asked old place row o at h;
      stopped = λ p r place row o at told noted busy h. end-sinks asked old place row o at h;
      ticks = tick-sinks asked old;
    }

stays-sinking : (asked : Call) (old : List Row) (s : State) (e : Event) → IsSound s → is_opened s.follows (decided s e).follows ≡ false → is_some (decided s e).follows ≡ true → Sinks asked old s → Sinks asked old (decided s e)
stays-sinking asked old s e sound unopened busy h =
    let start : Outcome = record { state = stamped e.reading s; orders = [] } in
    let all : While (Sinks asked old) s.follows (decide e.kind start) =
    decide-survives e.kind (While (Sinks asked old) s.follows) start (while-survives e.kind (is_some s.follows) s.follows (Sinks asked old) refl (sinks-stay asked old e.kind (is_some s.follows))) (sound, inl refl, λ opened open_then. h) in
    all.2 unopened busy

-- work that stops a child is opened

-- it is that of a call which the event brings, and stops the child that the call names
record Opens (s : State) (k : Kind) (o : Outcome) : Type 0 where
  c : ℕ
  asked : Call
  follows : o.state.follows ≡ Some (sequel.Stopped c)
  brings : Brings k s.waiting (item.Call c asked)
  child : Sinks asked s.rows o.state

abbrev Other : Outcome → Type 0
Other o = is_stop o.state.follows ≡ false

abbrev OpensOrNot : State → Kind → Outcome → Type 0
OpensOrNot s k o = Other o ⊎ Opens s k o

idle_other : (f : Option Sequel) → is_some f ≡ false → is_stop f ≡ false
idle_other None h = refl
idle_other (Some x) h = absurd (false≢true (sym h))

same_other : (old o : Outcome) → Other old → IsUnmoved old o → Other o
same_other old o other u = ap (λ (x : Outcome). is_stop x.state.follows) u ∙ other

end-other : (place : ℕ) (row : Row) (o : Outcome) → Other o → Other (end_row place row o)
end-other place row o h = ap is_stop (end_row-alike place row o).4 ∙ h

terminate-other : (e : Ending) (o : Outcome) → Other (terminate e o)
terminate-other e o = ap is_stop (terminate-follows e o)

restart-other : (k place : ℕ) (row : Row) (o : Outcome) → Other (restart k place row o)
unfolding restart_rows
restart-other k place row o = restart-by Other k place row o (λ _. terminate-other ending.Intensity (counted_restart place row o)) (λ _. refl)

open-other : (own : ℕ) (o : Outcome) → Other (open_rows own o)
unfolding open_rows open_with
open-other own o = refl

answer-other : (c : ℕ) (r : Reply) (o : Outcome) → Other o → Other (answer c r o)
unfolding answer
answer-other c r o h = h

tick-other : (o : Outcome) → Other o → Other (tick o)
unfolding tick
tick-other o h = h

-- the child that the call names is the only one that it names so
stop-sinks : (s : State) (k : Kind) (old : Outcome) (n p place : ℕ) (row : Row) (o : Outcome) → old.state.rows ≡ s.rows → IsUnmoved old o → Apart s.rows → StandsAt place row o → row.state ≡ Up p → BringsStop (Brings k s.waiting) n place o
    → Opens s k (with_work (p ∷ []) [] (Some (sequel.Stopped n)) o)
stop-sinks s k old n p place row o is u apart at up got =
    let same : o.state.rows ≡ s.rows = ap (λ (x : Outcome). x.state.rows) u ∙ is in
    let few : (t : Row → Bool) → count_by t s.rows ≤ 1 → count_by t o.state.rows ≤ 1 = λ t h. subst (λ (rows : List Row). count_by t rows ≤ 1) (sym same) h in
    let among : Contains o.state.rows row = among-at place row o.state.rows at in
    ⊎_elim
    (λ (h : (id : Name) × Brings k s.waiting (item.Call n (call.TerminateChild id)) × IsFirstAt (has_id id) place o).
    record {
      c = n;
      asked = call.TerminateChild h.0;
      follows = refl;
      brings = h.1;
      child = one_sinks (has_id h.0) p row o.state.rows (few (has_id h.0) (apart.ids h.0)) among (first_passes (has_id h.0) place row o h.2 at) up;
    })
    (λ (h : (q : ℕ) × Brings k s.waiting (item.Call n (call.TerminateProcess q)) × IsFirstAt (row_has (has_number q)) place o).
    record {
      c = n;
      asked = call.TerminateProcess h.0;
      follows = refl;
      brings = h.1;
      child = (
        place,
        row,
        subst (λ (rows : List Row). IsFirstNumbered h.0 rows place row) same (first_found (row_has (has_number h.0)) place row o at h.2),
        one_sinks (has_slot row.slot) p row o.state.rows (few (has_slot row.slot) (apart.slots row.slot)) among (same_number row.slot) up,
      );
    })
    got

-- what runs no answer is awaited of
runs : (s : State) (old : Outcome) (p place : ℕ) (row : Row) (o : Outcome) → IsSound old.state → IsUnmoved old o → IsIdle (is_busy old) o → StandsAt place row o → (is_awaited row.state ≡ true) ⊎ (row.state ≡ Up p) → row.state ≡ Up p
runs s old p place row o sound u idle at (inr up) = up
runs s old p place row o sound u idle at (inl awaited) =
    let here : IsSound o.state = subst (λ (x : Outcome). IsSound x.state) (sym u) sound in
    let one : ◌≡◌ {A = ℕ} (cond (is_awaited row.state) 1 0) 1 = ap (λ (b : Bool). cond b 1 0) awaited in
    absurd (omega (arith, one, rows_in-at is_awaited place row o.state.rows at, awaits_nothing (is_busy old) o idle here))

opens-survives : (s : State) (k : Kind) (old : Outcome) → old.state.rows ≡ s.rows → IsSound old.state → Apart s.rows → Other old → SurvivesEvent k (Brings k s.waiting) old (OpensOrNot s k)
opens-survives s k old rows sound apart other =
    record {
      answered = λ n r o quiet h. inl (answer-other n r o (⊎_elim (λ (idle : is_busy o ≡ false). idle_other o.state.follows idle) (λ (same : o.state.follows ≡ old.state.follows). ap is_stop same ∙ other) quiet));
      taken = λ w ws resumed idle runs is h. inl other;
      call_waits = λ n x o u busy g h. inl (same_other old o other u);
      exit_waits = λ p r place row o u at has g h. inl (same_other old o other u);
      up = λ p place row q kept o u at is same g h. inl (same_other old o other u);
      up_closed = λ p place row q kept n o u at is same follows g h. inl refl;
      ignored = λ p place row q kept o u at is same g h. inl (end-other place row o (same_other old o other u));
      opening_failed = λ place row q kept o u runs at is follows g h. inl (terminate-other (ending.InitFailed row.spec.id) (set_row place row Undefined o));
      restart_failed = λ place row q kept o u at is follows g h. inl refl;
      added_failed = λ place row q kept n o u at is follows g h. inl refl;
      restarted_failed = λ place row q kept n o u at is follows g h. inl refl;
      stopped = λ p r place row o u at told g h. inl (end-other place row o (same_other old o other u));
      died = λ p place row o u idle runs at is g h. inl (end-other place row o (same_other old o other u));
      restarts = λ p place row o u idle runs at is h. inl (restart-other p place row o);
      ends = λ e o u apart_from idle runs h. inl (terminate-other e o);
      ticks = λ is h. inl (tick-other old other);
      opens = λ own is over h. inl (open-other own old);
      adds = λ n id spec o u idle runs named few got h. inl refl;
      starts_again = λ n id place row o u idle runs at has is noted found h. inl refl;
      removed = λ place row o u idle runs at down h. inl (same_other old o other u);
      given_up = λ place row o u idle runs at down h. inl (same_other old o other u);
      stops_child = λ n p place row o u idle running at up has got h. inr (stop-sinks s k old n p place row o rows u apart at (runs s old p place row o sound u idle at up) got);
    }

decided-opens : (s : State) (e : Event) → IsSound s → Apart s.rows → is_stop s.follows ≡ false → OpensOrNot s e.kind (decide e.kind (record { state = stamped e.reading s; orders = [] }))
decided-opens s e sound apart other =
    let start : Outcome = record { state = stamped e.reading s; orders = [] } in
    decide-survives_event e.kind (Brings e.kind s.waiting) start (OpensOrNot s e.kind) (opens-survives s e.kind start refl sound apart other) (λ i b idle. b) (inl other)

-- what an event takes is the item that it brings
brings-taken : (k : Kind) (ws : List Waiting) (i : Item) → Brings k ws i → taken k ws ≡ Some (waiting.Item i)
brings-taken (kind.Opened _) ws i b = absurd b
brings-taken (kind.Took j) ws i b = ap (λ (x : Item). Some (waiting.Item x)) b
brings-taken kind.Resumed [] i b = absurd b
brings-taken kind.Resumed (w ∷ ws) i b = ap (λ (x : Waiting). Some x) b
brings-taken kind.Ticked ws i b = absurd b
brings-taken kind.Stopped ws i b = absurd b

same_call : (c n : ℕ) → ◌≡◌ {A = Option Sequel} (Some (sequel.Stopped c)) (Some (sequel.Stopped n)) → c ≡ n
same_call c n h = cc

-- work that was opened, and stops a child, was opened where no child was stopped
opened_other : (f g : Option Sequel) → is_opened f g ≡ true → is_stop f ≡ false
opened_other None g h = refl
opened_other (Some sequel.Ready) g h = refl
opened_other (Some sequel.Nothing) g h = refl
opened_other (Some (sequel.Added _)) g h = refl
opened_other (Some (sequel.Restarted _)) g h = refl
opened_other (Some (sequel.Stopped _)) g h = absurd (false≢true h)
opened_other (Some (sequel.End _)) g h = refl

-- so the decision leaves it
pub mid-stops : (s : State) (e : Event) (g : Progress) → IsSound s → Apart s.rows → StopsItsChild s g → StopsItsChild (decided s e) (seen s e g)
mid-stops s e g sound apart stops c is =
    ⊎_elim
    (λ (same : (decided s e).follows ≡ s.follows).
    let was : s.follows ≡ Some (sequel.Stopped c) = sym same ∙ is in
    let unopened : is_opened s.follows (decided s e).follows ≡ false = ap (λ (f : Option Sequel). is_opened f (decided s e).follows) was in
    let is_seen : seen s e g ≡ went_on e.kind g = ap (λ (b : Bool). if b then opened_now s (taken e.kind s.waiting) (decided s e) else went_on e.kind g) unopened in
    let h = stops c was in
    at_seen (went_on e.kind g) is_seen (h.0, h.1, stays-sinking h.0 g.before.rows s e sound unopened (ap (λ (f : Option Sequel). is_some f) is) h.2))
    (λ rest.
    ⊎_elim (λ (none : (decided s e).follows ≡ None). absurd (false≢true (ap is_stop (sym none ∙ is))))
    (λ (opened : is_opened s.follows (decided s e).follows ≡ true).
    let fresh : Progress = opened_now s (taken e.kind s.waiting) (decided s e) in
    let is_seen : seen s e g ≡ fresh = ap (λ (b : Bool). if b then fresh else went_on e.kind g) opened in
    ⊎_elim (λ (other : is_stop (decided s e).follows ≡ false). absurd (false≢true (sym other ∙ ap is_stop is)))
    (λ (h : Opens s e.kind (decide e.kind (record { state = stamped e.reading s; orders = [] }))).
    let number : h.c ≡ c = same_call h.c c (sym h.follows ∙ is) in
    at_seen fresh is_seen (h.asked, subst (λ (n : ℕ). IsCall (taken e.kind s.waiting) n h.asked) number (brings-taken e.kind s.waiting (item.Call h.c h.asked) h.brings), h.child))
    (decided-opens s e sound apart (opened_other s.follows (decided s e).follows opened))) rest)
    (tracked s e sound)
  where
    at_seen : (x : Progress) → seen s e g ≡ x → (asked : Call) × IsCall x.took c asked × IsSinking asked x.before.rows (decided s e).to_stop (decided s e).rows → (asked : Call) × IsCall (seen s e g).took c asked × IsSinking asked (seen s e g).before.rows (decided s e).to_stop (decided s e).rows
    at_seen x same h = subst (λ (y : Progress). (asked : Call) × IsCall y.took c asked × IsSinking asked y.before.rows (decided s e).to_stop (decided s e).rows) (sym same) h
