-- An End is ordered only by an event after which the supervisor has ended.
use Rattle.std.specs.Prelude.{◌≡◌, ◌++◌, ℕ, Bool, true, List, [], ◌∷◌, Option, None, Some, All, refl, is_some, unwrap_or}
use Rattle.std.specs.List.{cons_option, filter_map}
use Rattle.std.proofs.Common.{◌∙◌, ap, sym, subst, get_or, rules}
use Rattle.std.proofs.lemmas.List.Elements.{All-append, All-cons, All-nil, All-push}
use Rattle.otp_reason.specs.declared.name.Name.{Name}
use Rattle.otp_spec.specs.declared.child.Shutdown.{Shutdown}
use Rattle.otp_spec.specs.declared.child.Shutdown.TheVariants.{BrutalKill, Infinity, Milliseconds}
use Rattle.otp_table.specs.declared.row.Row.{Row}
use Rattle.otp_rules.specs.declared.event.Effect.{Effect}
use Rattle.otp_rules.specs.declared.event.Effect.TheVariants as effect
use Rattle.otp_rules.specs.declared.event.Event.{Event}
use Rattle.otp_rules.specs.declared.event.Kind.{Kind}
use Rattle.otp_rules.specs.declared.event.Kind.TheVariants as kind
use Rattle.otp_rules.specs.declared.work.Phase.{Phase}
use Rattle.otp_rules.specs.declared.work.Phase.TheVariants.{Ended}
use Rattle.otp_rules.specs.State.{Outcome, State, answer, is_over, own_number}
use Rattle.otp_rules.specs.Stops.{stop_order}
use Rattle.otp_rules.specs.Ends.{end_all, refuse_all}
use Rattle.otp_rules.specs.Step.{decide, kill_order, late_number, open_rows, open_with, stamped, step, step_on, tick}
use Rattle.otp_rules.specs.Run.{empty_state, state_after}
use Rattle.otp_rules.specs.Needs.{IsLawfulHistory}
use Rattle.otp_rules.proofs.Decisions.{by_test, decide-survives}
use Rattle.otp_rules.proofs.Runs.{run_goes_on_law}
use Rattle.otp_rules.proofs.Steady.{Goes, Steady, advance-goes, steady-survives}
use Rattle.otp_laws.specs.Life.{OrdersEndAfterAll, OrdersEndAfterStarts}
use Rattle.otp_laws.specs.Starts.{EndsIf, EndOrdersEnd, StartsItsChild}
use Rattle.otp_laws.proofs.Between.{first_lawful, of_all}
use Rattle.otp_laws.proofs.Life.{ends_after_all_law, in_two}
use Rattle.otp_laws.proofs.Starts.{starts_of_children_law}

-- each End that was ordered is that of a supervisor that has ended
abbrev Told : Outcome → Type 0
Told o = All (EndsIf o.state.phase) o.orders

stop-told : (phase : Phase) (id : Option Name) (p : ℕ) (s : Shutdown) → EndsIf phase (stop_order id p s)
stop-told phase id p BrutalKill = tt
stop-told phase id p (Milliseconds _) = tt
stop-told phase id p Infinity = tt

over-told : (phase : Phase) → is_over phase ≡ true → (x : Effect) → EndsIf phase x
over-told phase over (effect.Start _ _) = tt
over-told phase over (effect.Ask _ _) = tt
over-told phase over (effect.Kill _ _) = tt
over-told phase over (effect.Reply _) = tt
over-told phase over effect.Ready = tt
over-told phase over (effect.End _) = over

kill-told : (phase : Phase) (row : Row) (p : Option ℕ) (rest : List Effect) → All (EndsIf phase) rest → All (EndsIf phase) (cons_option (kill_order row p) rest)
kill-told phase row None rest h = h
kill-told phase row (Some p) rest h = All-cons (EndsIf phase) (effect.Kill row.id p) rest tt h

kills-told : (phase : Phase) (now : ℕ) (rows : List Row) → All (EndsIf phase) (filter_map (λ row. kill_order row (late_number now row.state)) rows)
kills-told phase now [] = All-nil (EndsIf phase)
kills-told phase now (row ∷ rows) = kill-told phase row (late_number now row.state) (filter_map (λ r. kill_order r (late_number now r.state)) rows) (kills-told phase now rows)

going-told : Goes Told
unfolding answer end_all refuse_all
going-told =
    record {
      rows = λ rows o h. h;
      waiting = λ items o h. h;
      left = λ ps ds o h. h;
      told = λ id p s o h. All-push (EndsIf o.state.phase) o.orders (stop_order id p s) h (stop-told o.state.phase id p s);
      started = λ id n o h. All-push (EndsIf o.state.phase) o.orders (effect.Start id n) h tt;
      closes = λ f o is other h. h;
      answered = λ c r o h. All-push (EndsIf o.state.phase) o.orders (effect.Reply c) h tt;
      ready = λ o h. All-push (EndsIf o.state.phase) o.orders effect.Ready h tt;
      ended = λ e o is h i d within. over-told (Ended (own_number o.state.phase) e) refl (get_or (end_all e o).orders i d);
    }

tick-told : (o : Outcome) → Told o → Told (tick o)
unfolding tick
tick-told o h = All-append (EndsIf o.state.phase) o.orders (filter_map (λ row. kill_order row (late_number o.state.last row.state)) o.state.rows) h (kills-told o.state.phase o.state.last o.state.rows)

steady-told : (k : Kind) (b : Bool) → ((own : ℕ) → k ≡ kind.Opened own → ⊥) → Steady k b Told
steady-told k b other =
    record {
      goes = going-told;
      opens = λ ps ds f o idle runs stays h. h;
      ends = λ ps e o isnt why h. h;
      exceeds = λ ps o idle runs many h. h;
      restarts = λ ps ds o idle runs few h. h;
      ticks = λ o h. tick-told o h;
      opened = λ own o is h. absurd (other own is);
    }

open-told : (own : ℕ) (o : Outcome) → o.orders ≡ [] → Told (open_rows own o)
unfolding open_rows open_with
open-told own o none = subst (λ (xs : List Effect). All (EndsIf (open_rows own o).state.phase) xs) (sym none) (All-nil (EndsIf (open_rows own o).state.phase))

others : (k : Kind) (o : Outcome) → o.orders ≡ [] → ((own : ℕ) → k ≡ kind.Opened own → ⊥) → Told (decide k o)
others k o none other =
    decide-survives k Told o (steady-survives k (is_some o.state.follows) Told (steady-told k (is_some o.state.follows) other))
    (subst (λ (xs : List Effect). All (EndsIf o.state.phase) xs) (sym none) (All-nil (EndsIf o.state.phase)))

decided-told : (k : Kind) (o : Outcome) → o.orders ≡ [] → Told (decide k o)
unfolding decide
decided-told (kind.Opened own) o none =
    by_test Told (is_over o.state.phase) (open_rows own o) o (λ _. open-told own o none) (λ _. first o none)
  where
    first : (o : Outcome) → o.orders ≡ [] → Told o
    first o none = subst (λ (xs : List Effect). All (EndsIf o.state.phase) xs) (sym none) (All-nil (EndsIf o.state.phase))
decided-told (kind.Took i) o none = others (kind.Took i) o none (λ own is. search (rules, is))
decided-told kind.Resumed o none = others kind.Resumed o none (λ own is. search (rules, is))
decided-told kind.Ticked o none = others kind.Ticked o none (λ own is. search (rules, is))
decided-told kind.Stopped o none = others kind.Stopped o none (λ own is. search (rules, is))

pub end_orders_end_law : EndOrdersEnd
unfolding step step_on
end_orders_end_law s e =
    let start : Outcome = record { state = stamped e.reading s; orders = [] } in
    advance-goes Told going-told (unwrap_or e.number 0) (decide e.kind start) (decided-told e.kind start refl)

pub orders_end_after_all_law : OrdersEndAfterAll
orders_end_after_all_law flags specs events between e f slot p end lawful first ordered =
    let base : State = empty_state flags specs in
    let all : List Event = events ++ e ∷ (between ++ f ∷ []) in
    let b : State = state_after base (events ++ e ∷ between) in
    let over : is_over (step b f).state.phase ≡ true = of_all (EndsIf (step b f).state.phase) (step b f).orders (effect.End end) (end_orders_end_law b f) ordered in
    let last : state_after base all ≡ (step b f).state = ap (λ (l : List Event). state_after base l) (sym (in_two events between e f)) ∙ (run_goes_on_law base (events ++ e ∷ between) f).0 in
    ends_after_all_law flags specs events (between ++ f ∷ []) e slot p (subst (λ (l : List Event). IsLawfulHistory base l) (in_two events between e f) lawful) first
    (ap (λ (x : State). is_over x.phase) last ∙ over)

pub orders_end_after_starts_law : OrdersEndAfterStarts
orders_end_after_starts_law flags specs events between e f id p end lawful ordered ends =
    let base : State = empty_state flags specs in
    let a : State = state_after base events in
    let h : StartsItsChild a e (effect.Start id p) =
    of_all (StartsItsChild a e) (step a e).orders (effect.Start id p) (starts_of_children_law flags specs events e (first_lawful base events between e f lawful)) ordered in
    orders_end_after_all_law flags specs events between e f h.1.slot p end lawful (h.0, (h.1, h.2, refl, h.3)) ends
