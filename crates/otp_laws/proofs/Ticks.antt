-- An event that ticks kills each late child, and leaves all else as it is.
use Rattle.std.specs.Prelude.{◌≡◌, ◌⊎◌, ℕ, ◌≤◌, ◌||◌, Bool, List, [], ◌∷◌, Option, None, Some, Contains, refl, cond, map, max, nat_le, slice_get, unwrap_or}
use Rattle.std.specs.List.{cons_option, filter_map, list_any}
use Rattle.std.specs.Option.{option_map}
use Rattle.std.proofs.Common.{◌∙◌, ap, sym, subst, inl, inr, arith, ⊎_elim}
use Rattle.std.proofs.lemmas.Bool.{cases_Bool, false≢true, le-leb, leb-true}
use Rattle.std.proofs.lemmas.List.{length-map}
use Rattle.std.proofs.lemmas.Option.{none-some, same_Some, slice_get-map}
use Prim.Native.Nat.{zero, suc}
use Rattle.otp_table.specs.declared.row.Row.{Row}
use Rattle.otp_table.specs.declared.row.RowState.{RowState}
use Rattle.otp_table.specs.declared.row.RowState.TheVariants.{Undefined, Starting, Up, Asked, Killed, Restarting}
use Rattle.otp_table.specs.Rows.{is_awaited, row_has}
use Rattle.otp_rules.specs.declared.event.Effect.TheVariants as effect
use Rattle.otp_rules.specs.declared.event.Event.{Event}
use Rattle.otp_rules.specs.declared.event.Kind.{Kind}
use Rattle.otp_rules.specs.declared.event.Kind.TheVariants as kind
use Rattle.otp_rules.specs.State.{Outcome, State}
use Rattle.otp_rules.specs.Work.{advance}
use Rattle.otp_rules.specs.Step.{decide, kill_order, killed, late_number, stamped, step, step_on, tick}
use Rattle.otp_rules.specs.Run.{empty_state, state_after}
use Rattle.otp_rules.specs.Progress.{no_progress}
use Rattle.otp_rules.specs.InOrder.{Awaits}
use Rattle.otp_rules.proofs.Late.{work_awaits_law}
use Rattle.otp_rules.proofs.Walks.{advance-by}
use Rattle.otp_laws.specs.Ticks.{KillsEachLate, TicksKillEachLate, TicksKillEachLateFrom}
use Rattle.otp_laws.proofs.Basis.{empty_basis, lawful_from_0}
use Rattle.otp_laws.proofs.Oks.{among-at}

-- the child was asked to shut down until a time that has come
abbrev IsLate : ℕ → RowState → ℕ → Type 0
IsLate now state p = (deadline : ℕ) × (state ≡ Asked p (Some deadline)) × (deadline ≤ now)

-- such a child is found
late_found : (now : ℕ) (state : RowState) (p : ℕ) → IsLate now state p → late_number now state ≡ Some p
late_found now state p h = ap (λ (x : RowState). late_number now x) h.1 ∙ ap (λ (b : Bool). cond b (Some p) None) (le-leb h.0 now h.2)

-- and no other
late_or_not : (now : ℕ) (state : RowState) → ((p : ℕ) × IsLate now state p) ⊎ (late_number now state ≡ None)
late_or_not now Undefined = inr refl
late_or_not now (Starting _ _) = inr refl
late_or_not now (Up _) = inr refl
late_or_not now (Asked p None) = inr refl
late_or_not now (Asked p (Some deadline)) =
    ⊎_elim (λ late. inl (p, (deadline, refl, leb-true deadline now late))) (λ early. inr (ap (λ (b : Bool). cond b (Some p) None) early)) (cases_Bool (nat_le deadline now))
late_or_not now (Killed _) = inr refl
late_or_not now (Restarting _) = inr refl

-- what a tick makes of a row
abbrev ticked : ℕ → Row → Row
ticked now row = killed row (late_number now row.state)

at_place : (now place : ℕ) (row : Row) (x : Option ℕ) (rows : List Row) → slice_get rows place ≡ Some row → late_number now row.state ≡ x → slice_get (map (ticked now) rows) place ≡ Some (killed row x)
at_place now place row x rows at is =
    slice_get-map (ticked now) rows place ∙ ap (λ (r : Option Row). option_map (ticked now) r) at ∙ ap (λ (y : Option ℕ). Some (killed row y)) is

-- what one element gives stands among what all give
later : {Y : Type 0} (o : Option Y) (ys : List Y) (y : Y) → Contains ys y → Contains (cons_option o ys) y
later None ys y c = c
later (Some z) ys y c = (suc c.0, omega (arith, c.1), c.2)

gives : {X Y : Type 0} (h : X → Option Y) (xs : List X) (place : ℕ) (x : X) (y : Y) → slice_get xs place ≡ Some x → h x ≡ Some y → Contains (filter_map h xs) y
gives h [] place x y at is = absurd (none-some x at)
gives h (z ∷ xs) zero x y at is = subst (λ o. Contains (cons_option o (filter_map h xs)) y) (sym (ap h (same_Some z x at) ∙ is)) (0, omega arith, refl)
gives h (z ∷ xs) (suc i) x y at is = later (h z) (filter_map h xs) y (gives h xs i x y at is)

-- a row that awaits an answer awaits one still
ticked-awaited : (now : ℕ) (row : Row) → is_awaited (ticked now row).state ≡ is_awaited row.state
ticked-awaited now row =
    ⊎_elim
    (λ h. ap (λ (x : Option ℕ). is_awaited (killed row x).state) (late_found now row.state h.0 h.1) ∙ sym (ap (λ (state : RowState). is_awaited state) h.1.1))
    (λ none. ap (λ (x : Option ℕ). is_awaited (killed row x).state) none) (late_or_not now row.state)

awaited-still : (now : ℕ) (rows : List Row) → list_any (row_has is_awaited) (map (ticked now) rows) ≡ list_any (row_has is_awaited) rows
awaited-still now [] = refl
awaited-still now (row ∷ rows) =
    ap (λ (b : Bool). b || list_any (row_has is_awaited) (map (ticked now) rows)) (ticked-awaited now row)
    ∙ ap (λ (b : Bool). is_awaited row.state || b) (awaited-still now rows)

-- so work doesn't go on
rests : (n : ℕ) (o : Outcome) → Awaits o.state → advance n (tick o) ≡ tick o
unfolding tick
rests n o h = advance-by (λ (x : Outcome). x ≡ tick o) n (tick o) (λ _. refl) (λ busy none. absurd (false≢true (sym none ∙ awaited-still o.state.last o.state.rows ∙ h busy)))

-- the kills of a tick
tick-kills : (s : State) (reading : ℕ) → KillsEachLate s reading (tick (record { state = stamped reading s; orders = [] }))
unfolding tick
tick-kills s reading =
    let now : ℕ = max reading s.last in
    record {
      late = λ place row p at due.
          let found : late_number now row.state ≡ Some p = late_found now row.state p (due.1, due.2, due.3) in
          (gives (λ r. kill_order r (late_number now r.state)) s.rows place row (effect.Kill row.id p) at (ap (λ (x : Option ℕ). kill_order row x) found), at_place now place row (Some p) s.rows at found);
      others = λ place row at not.
          ⊎_elim (λ h. absurd (not h.0 (among-at place row s.rows at, h.1.0, h.1.1, h.1.2))) (λ none. at_place now place row None s.rows at none) (late_or_not now row.state);
      as_many = length-map s.rows (ticked now);
      else_same = refl;
    }

step-kills : (s : State) (e : Event) → Awaits s → e.kind ≡ kind.Ticked → KillsEachLate s e.reading (step s e)
unfolding step step_on decide
step-kills s e h ticks =
    let start : Outcome = record { state = stamped e.reading s; orders = [] } in
    let n : ℕ = unwrap_or e.number 0 in
    subst (λ (k : Kind). KillsEachLate s e.reading (advance n (decide k start))) (sym ticks)
    (subst (λ (x : Outcome). KillsEachLate s e.reading x) (sym (rests n start h)) (tick-kills s e.reading))

pub ticks_kill_each_late_from_law : TicksKillEachLateFrom
ticks_kill_each_late_from_law m s g events e fit awaits lawful ticks = step-kills (state_after s events) e (work_awaits_law m s g events fit awaits lawful) ticks

pub ticks_kill_each_late_law : TicksKillEachLate
ticks_kill_each_late_law flags specs events e lawful ticks =
    let base : State = empty_state flags specs in
    let basis = empty_basis flags specs in
    ticks_kill_each_late_from_law 0 base (no_progress base) events e basis.0 basis.2 (lawful_from_0 base events lawful) ticks
