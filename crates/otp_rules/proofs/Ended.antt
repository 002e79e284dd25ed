-- The ends that are kept are those that the orders carry.
use Rattle.std.specs.Prelude.{◌≡◌, ℕ, ◌++◌, Bool, true, false, List, [], ◌∷◌, Option, Some, None, map, refl, unwrap_or, if◌then◌else◌}
use Rattle.std.specs.List.{cons_option, filter_map}
use Rattle.std.proofs.Common.{◌∙◌, ap, rules, sym}
use Rattle.std.proofs.lemmas.List.{append-nil, append_assoc, map-append}
use Rattle.std.proofs.lemmas.List.Elements.{filter_map-append}
use Rattle.otp_reason.specs.declared.name.Name.{Name}
use Rattle.otp_spec.specs.declared.child.Shutdown.{Shutdown}
use Rattle.otp_spec.specs.declared.child.Shutdown.TheVariants.{BrutalKill, Milliseconds, Infinity}
use Rattle.otp_table.specs.declared.row.Row.{Row}
use Rattle.otp_rules.specs.declared.ending.Ending.{Ending}
use Rattle.otp_rules.specs.declared.call.Reply.{Reply}
use Rattle.otp_rules.specs.declared.ending.SupEnd.{SupEnd}
use Rattle.otp_rules.specs.declared.event.Effect.{Effect}
use Rattle.otp_rules.specs.declared.event.Effect.TheVariants as effect
use Rattle.otp_rules.specs.declared.event.Event.{Event}
use Rattle.otp_rules.specs.declared.event.Item.TheVariants as item
use Rattle.otp_rules.specs.declared.event.Kind.{Kind}
use Rattle.otp_rules.specs.declared.event.Kind.TheVariants as kind
use Rattle.otp_rules.specs.declared.event.Waiting.{Waiting}
use Rattle.otp_rules.specs.declared.event.Waiting.TheVariants as waiting
use Rattle.otp_rules.specs.State.{Outcome, State, answer, is_busy, is_over, own_number}
use Rattle.otp_rules.specs.Stops.{stop_order}
use Rattle.otp_rules.specs.Ends.{end_all, refusal, refuse_all, sup_end_of}
use Rattle.otp_rules.specs.Step.{decide, kill_order, late_number, open_rows, open_with, stamped, step, step_on, tick}
use Rattle.otp_rules.specs.Run.{empty_state, orders_of}
use Rattle.otp_rules.specs.Ended.{end_in, ends_of, ends_under, opening_number, EndsCarried, EndsKept, EndsKeptFromEmpty}
use Rattle.otp_rules.proofs.Decisions.{decide-survives}
use Rattle.otp_rules.proofs.Steady.{Goes, Steady, advance-goes, steady-survives}

-- the ends kept are those from before and those that the orders carry, under this number, which is the supervisor's own
abbrev HasEnds : ℕ → List (ℕ × SupEnd) → Outcome → Type 0
HasEnds n before o = (o.state.ends ≡ before ++ ends_under n o.orders) × (own_number o.state.phase ≡ n)

-- orders that carry no end add none
quiet_under : (n : ℕ) (xs ys : List Effect) → filter_map end_in ys ≡ [] → ends_under n (xs ++ ys) ≡ ends_under n xs
quiet_under n xs ys none =
    ap (λ (ends : List SupEnd). map (λ end. (n, end)) ends)
    (filter_map-append end_in xs ys ∙ ap (λ (ends : List SupEnd). filter_map end_in xs ++ ends) none ∙ append-nil (filter_map end_in xs))

quiet : (n : ℕ) (before : List (ℕ × SupEnd)) (o : Outcome) (ys : List Effect) → filter_map end_in ys ≡ [] → o.state.ends ≡ before ++ ends_under n o.orders → o.state.ends ≡ before ++ ends_under n (o.orders ++ ys)
quiet n before o ys none h = h ∙ ap (λ (ends : List (ℕ × SupEnd)). before ++ ends) (sym (quiet_under n o.orders ys none))

no_stop : (id : Option Name) (p : ℕ) (how : Shutdown) → filter_map end_in (stop_order id p how ∷ []) ≡ []
no_stop id p BrutalKill = refl
no_stop id p (Milliseconds _) = refl
no_stop id p Infinity = refl

no_refusal : (ws : List Waiting) → filter_map end_in (filter_map refusal ws) ≡ []
no_refusal [] = refl
no_refusal (waiting.Item (item.Note _) ∷ ws) = no_refusal ws
no_refusal (waiting.Item (item.Call _ _) ∷ ws) = no_refusal ws
no_refusal (waiting.Retry _ ∷ ws) = no_refusal ws

no_kill : (now : ℕ) (rows : List Row) → filter_map end_in (filter_map (λ row. kill_order row (late_number now row.state)) rows) ≡ []
no_kill now [] = refl
no_kill now (row ∷ rows) = elim (late_number now row.state) as (λ late. filter_map end_in (cons_option (kill_order row late) (filter_map (λ r. kill_order r (late_number now r.state)) rows)) ≡ []) [ None ↦ no_kill now rows | Some p ↦ no_kill now rows ]

-- the last order carries an end
last_under : (n : ℕ) (xs : List Effect) (end : SupEnd) → ends_under n (xs ++ effect.End end ∷ []) ≡ ends_under n xs ++ (n, end) ∷ []
last_under n xs end =
    ap (λ (ends : List SupEnd). map (λ e. (n, e)) ends) (filter_map-append end_in xs (effect.End end ∷ []))
    ∙ map-append (λ (e : SupEnd). (n, e)) (filter_map end_in xs) (end ∷ [])

answered-ends : (n : ℕ) (before : List (ℕ × SupEnd)) (c : ℕ) (r : Reply) (o : Outcome) → HasEnds n before o → HasEnds n before (answer c r o)
unfolding answer
answered-ends n before c r o h = (quiet n before o (effect.Reply c ∷ []) refl h.0, h.1)

ended-ends : (n : ℕ) (before : List (ℕ × SupEnd)) (x : Ending) (o : Outcome) → HasEnds n before o → HasEnds n before (end_all x o)
unfolding end_all refuse_all
ended-ends n before x o h =
    let end : SupEnd = sup_end_of o.state.flags o.state.stamps x in
    let told : List Effect = o.orders ++ filter_map refusal o.state.waiting in (
      ap (λ (own : ℕ). o.state.ends ++ (own, end) ∷ []) h.1
          ∙ ap (λ (ends : List (ℕ × SupEnd)). ends ++ (n, end) ∷ []) (quiet n before o (filter_map refusal o.state.waiting) (no_refusal o.state.waiting) h.0)
          ∙ append_assoc before (ends_under n told) ((n, end) ∷ [])
          ∙ ap (λ (ends : List (ℕ × SupEnd)). before ++ ends) (sym (last_under n told end)),
      h.1,
    )

ticks-ends : (n : ℕ) (before : List (ℕ × SupEnd)) (o : Outcome) → HasEnds n before o → HasEnds n before (tick o)
unfolding tick
ticks-ends n before o h = (quiet n before o (filter_map (λ row. kill_order row (late_number o.state.last row.state)) o.state.rows) (no_kill o.state.last o.state.rows) h.0, h.1)

going : (n : ℕ) (before : List (ℕ × SupEnd)) → Goes (HasEnds n before)
going n before =
    record {
      rows = λ rows o h. h;
      waiting = λ items o h. h;
      left = λ ps ds o h. h;
      told = λ id p how o h. (quiet n before o (stop_order id p how ∷ []) (no_stop id p how) h.0, h.1);
      started = λ id m o h. (quiet n before o (effect.Start id m ∷ []) refl h.0, h.1);
      closes = λ f o is stays h. h;
      answered = answered-ends n before;
      ready = λ o h. (quiet n before o (effect.Ready ∷ []) refl h.0, h.1);
      ended = λ x o is h. ended-ends n before x o h;
    }

steady : (n : ℕ) (before : List (ℕ × SupEnd)) (k : Kind) (b : Bool) → ((own : ℕ) → k ≡ kind.Opened own → ⊥) → Steady k b (HasEnds n before)
steady n before k b unopened =
    record {
      goes = going n before;
      opens = λ ps ds f o idle runs stays h. h;
      ends = λ ps e o other when h. h;
      exceeds = λ ps o idle runs many h. h;
      restarts = λ ps ds o idle runs few h. h;
      ticks = ticks-ends n before;
      opened = λ own o is h. absurd (unopened own is);
    }

begun-ends : (s : State) → HasEnds (own_number s.phase) s.ends (record { state = s; orders = [] })
begun-ends s = (sym (append-nil s.ends), refl)

open-ends : (own : ℕ) (s : State) → HasEnds own s.ends (open_rows own (record { state = s; orders = [] }))
unfolding open_rows open_with
open-ends own s = (sym (append-nil s.ends), refl)

other-ends : (k : Kind) (s : State) → ((own : ℕ) → k ≡ kind.Opened own → ⊥) → HasEnds (own_number s.phase) s.ends (decide k (record { state = s; orders = [] }))
other-ends k s unopened =
    let before : Outcome = record { state = s; orders = [] } in
    decide-survives k (HasEnds (own_number s.phase) s.ends) before (steady-survives k (is_busy before) (HasEnds (own_number s.phase) s.ends) (steady (own_number s.phase) s.ends k (is_busy before) unopened)) (begun-ends s)

decide-ends : (k : Kind) (reading : ℕ) (s : State) → HasEnds (opening_number s (own_number s.phase) k) s.ends (decide k (record { state = stamped reading s; orders = [] }))
unfolding decide
decide-ends (kind.Opened own) reading s =
    elim (is_over s.phase) as (λ b. HasEnds (if b then own else own_number s.phase) s.ends (if b then open_rows own (record { state = stamped reading s; orders = [] }) else record { state = stamped reading s; orders = [] })) [
      | true ↦ open-ends own (stamped reading s)
      | false ↦ begun-ends (stamped reading s)
    ]
decide-ends (kind.Took i) reading s = other-ends (kind.Took i) (stamped reading s) (λ own is. absurd (search (rules, is)))
decide-ends kind.Resumed reading s = other-ends kind.Resumed (stamped reading s) (λ own is. absurd (search (rules, is)))
decide-ends kind.Ticked reading s = other-ends kind.Ticked (stamped reading s) (λ own is. absurd (search (rules, is)))
decide-ends kind.Stopped reading s = other-ends kind.Stopped (stamped reading s) (λ own is. absurd (search (rules, is)))

step-ends : (s : State) (e : Event) → HasEnds (opening_number s (own_number s.phase) e.kind) s.ends (step s e)
unfolding step step_on
step-ends s e =
    let n : ℕ = opening_number s (own_number s.phase) e.kind in
    advance-goes (HasEnds n s.ends) (going n s.ends) (unwrap_or e.number 0) (decide e.kind (record { state = stamped e.reading s; orders = [] })) (decide-ends e.kind e.reading s)

pub ends_kept_law : EndsKept
ends_kept_law s [] = sym (append-nil s.ends)
ends_kept_law s (e ∷ es) =
    let n : ℕ = opening_number s (own_number s.phase) e.kind in
    let now : HasEnds n s.ends (step s e) = step-ends s e in
    ends_kept_law (step s e).state es
    ∙ ap (λ (ends : List (ℕ × SupEnd)). ends ++ ends_of (step s e).state (own_number (step s e).state.phase) es) now.0
    ∙ ap (λ (own : ℕ). (s.ends ++ ends_under n (step s e).orders) ++ ends_of (step s e).state own es) now.1
    ∙ append_assoc s.ends (ends_under n (step s e).orders) (ends_of (step s e).state n es)

pub ends_kept_from_empty : EndsKeptFromEmpty
ends_kept_from_empty flags specs events = ends_kept_law (empty_state flags specs) events

abbrev end_at : ℕ × SupEnd → SupEnd
end_at x = x.1

unnumbered : (n : ℕ) (ends : List SupEnd) → map end_at (map (λ end. (n, end)) ends) ≡ ends
unnumbered n [] = refl
unnumbered n (end ∷ ends) = ap (λ (rest : List SupEnd). end ∷ rest) (unnumbered n ends)

carried : (s : State) (own : ℕ) (es : List Event) → map end_at (ends_of s own es) ≡ filter_map end_in (orders_of s es)
carried s own [] = refl
carried s own (e ∷ es) =
    let n : ℕ = opening_number s own e.kind in
    map-append end_at (ends_under n (step s e).orders) (ends_of (step s e).state n es)
    ∙ ap (λ (ends : List SupEnd). ends ++ map end_at (ends_of (step s e).state n es)) (unnumbered n (filter_map end_in (step s e).orders))
    ∙ ap (λ (ends : List SupEnd). filter_map end_in (step s e).orders ++ ends) (carried (step s e).state n es)
    ∙ sym (filter_map-append end_in (step s e).orders (orders_of (step s e).state es))

pub ends_carried_law : EndsCarried
ends_carried_law flags specs events =
    ap (λ (ends : List (ℕ × SupEnd)). map end_at ends) (ends_kept_from_empty flags specs events) ∙ carried (empty_state flags specs) 0 events
