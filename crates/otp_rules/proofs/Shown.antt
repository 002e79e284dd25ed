-- The law of evidence, along every history: each end that is ordered shows why.
use Rattle.std.specs.Prelude.{◌≡◌, ℕ, ◌+◌, ◌-◌, ◌*◌, ◌≤◌, ◌<◌, ◌++◌, ◌&&◌, nat_le, Bool, true, List, [], ◌∷◌, Option, None, Some, All, refl, drop, filter_map, get_or, length, nat_lt}
use Rattle.std.specs.List.{cons_option}
use Rattle.std.specs.List.Sorted.{IsNonDecreasing}
use Rattle.std.proofs.Common.{◌∙◌, ap, sym, subst, arith}
use Rattle.std.proofs.lemmas.Bool.{false≢true, leb-true, ltb-true}
use Rattle.std.proofs.lemmas.List.{get_or_default, get_or-drop, length-drop}
use Rattle.std.proofs.lemmas.List.Elements.{All-append, All-nil, All-push}
use Rattle.std.proofs.lemmas.List.Sorted.{IsNonDecreasingBy-drop, IsNonDecreasingBy-short}
use Rattle.std.proofs.lemmas.List.Sums.{count_by-le-length}
use Rattle.otp_window.proofs.Crowded.{crowded, rising_push}
use Rattle.otp_spec.specs.declared.child.Shutdown.{Shutdown}
use Rattle.otp_spec.specs.declared.child.Shutdown.TheVariants.{BrutalKill, Milliseconds, Infinity}
use Rattle.otp_reason.specs.declared.name.Name.{Name}
use Rattle.otp_table.specs.declared.row.Row.{Row}
use Rattle.otp_window.specs.Period.{in_period}
use Rattle.otp_rules.specs.declared.call.Reply.{Reply}
use Rattle.otp_rules.specs.declared.ending.Ending.{Ending}
use Rattle.otp_rules.specs.declared.event.Effect.TheVariants as effect
use Rattle.otp_rules.specs.declared.event.Event.{Event}
use Rattle.otp_rules.specs.declared.event.Kind.{Kind}
use Rattle.otp_rules.specs.declared.event.Item.TheVariants as item
use Rattle.otp_rules.specs.declared.event.Waiting.{Waiting}
use Rattle.otp_rules.specs.declared.work.Sequel.{Sequel}
use Rattle.otp_rules.specs.State.{Outcome, State, answer, closed}
use Rattle.otp_rules.specs.Ends.{last_stamps, sup_end_of, refusal, refuse_all, end_all}
use Rattle.otp_rules.specs.Evidence.{EndEvidence, EndEvidenceFromEmpty, IsShowing, IsEvidence, IsEvident, IsTooMany}
use Rattle.otp_rules.specs.Stops.{stop_order}
use Rattle.otp_rules.specs.Step.{open_with, open_rows, kill_order, late_number, tick, step}
use Rattle.otp_rules.specs.Run.{empty_state}
use Rattle.otp_rules.specs.Progress.{is_end}
use Rattle.otp_rules.proofs.Steady.{Steady, step-steady}
use Rattle.otp_rules.specs.declared.ending.Ending.TheVariants as ending
use Rattle.otp_rules.specs.declared.event.Waiting.TheVariants as waiting
use Rattle.otp_rules.specs.declared.work.Sequel.TheVariants as sequel

-- of stamps that never fall, the last are one too many within a period where more than the intensity lie in it
too_many : (intensity period t : ℕ) (stamps : List ℕ) → IsNonDecreasing stamps → All (λ s. s ≤ t) stamps → nat_lt intensity (in_period period stamps t) ≡ true
    → IsTooMany intensity period (last_stamps intensity stamps)
too_many intensity period t stamps ordered latest many =
    let more : intensity < in_period period stamps t = ltb-true _ _ many in
    let enough : intensity < length stamps = omega (arith, more, count_by-le-length (λ s. nat_le s t && nat_le (t - s) (1000 * period)) stamps) in
    let k : ℕ = length stamps - (intensity + 1) in
    let place : length stamps - 1 - intensity ≡ length stamps - (intensity + 1) = omega arith in
    let close : t - get_or stamps (length stamps - (intensity + 1)) 0 ≤ 1000 * period =
    subst (λ (i : ℕ). t - get_or stamps i 0 ≤ 1000 * period) place (leb-true _ _ (crowded intensity period t stamps enough ordered latest ∙ many)) in
    let long : length (drop (length stamps - (intensity + 1)) stamps) ≡ length stamps - (length stamps - (intensity + 1)) = length-drop (length stamps - (intensity + 1)) stamps in
    record {
      count = omega (arith, long, enough);
      ordered = IsNonDecreasingBy-drop (λ x. x) (length stamps - (intensity + 1)) stamps ordered;
      within = λ first last f l.
          let here : get_or stamps (k + f.0) first ≡ first = sym (get_or-drop k stamps f.0 first) ∙ f.2 in
          let there : get_or stamps (k + l.0) last ≡ last = sym (get_or-drop k stamps l.0 last) ∙ l.2 in
          let in_first : k + f.0 < length stamps = omega (arith, f.1, long) in
          let in_last : k + l.0 < length stamps = omega (arith, l.1, long) in
          let rises : get_or stamps k first ≤ get_or stamps (k + f.0) first = ordered k (k + f.0) first (omega arith) in_first in
          let same : get_or stamps k first ≡ get_or stamps k 0 = get_or_default stamps k first 0 (omega arith) in
          let past : get_or stamps (k + l.0) last ≤ t = latest (k + l.0) last in_last in
          omega (arith, here, there, rises, same, past, close);
    }

-- what an end's evidence depends on, and the orders given show why
abbrev Evident : Outcome → Type 0
Evident o = IsShowing o.state × All IsEvident o.orders

-- what follows the open work is another end, or none
no_work : ◌≡◌ {A = Option Sequel} None (Some (sequel.End ending.Intensity)) → ⊥
no_work h = cc

other_follows : (f : Sequel) → (f ≡ sequel.End ending.Intensity → ⊥) → ◌≡◌ {A = Option Sequel} (Some f) (Some (sequel.End ending.Intensity)) → ⊥
other_follows f other h = other cc

stop_evident : (id : Option Name) (p : ℕ) (how : Shutdown) → IsEvident (stop_order id p how)
stop_evident id p BrutalKill = tt
stop_evident id p (Milliseconds m) = tt
stop_evident id p Infinity = tt

-- each end shows why
sup_evident : (x : Ending) (s : State) → s.follows ≡ Some (sequel.End x) → IsShowing s → IsEvidence (sup_end_of s.flags s.stamps x)
sup_evident ending.Intensity s e shown = (refl, shown.2 e)
sup_evident (ending.Significant p) s e shown = refl
sup_evident ending.Asked s e shown = refl
sup_evident (ending.InitFailed id) s e shown = refl

-- the answers to the calls that wait say nothing of an end
refusals_evident : (ws : List Waiting) → All IsEvident (filter_map refusal ws)
refusals_evident [] = All-nil IsEvident
refusals_evident (waiting.Item (item.Note x) ∷ ws) = refusals_evident ws
refusals_evident (waiting.Item (item.Call c x) ∷ ws) = All-append IsEvident (effect.Reply c ∷ []) (filter_map refusal ws) (All-push IsEvident [] (effect.Reply c) (All-nil IsEvident) tt) (refusals_evident ws)
refusals_evident (waiting.Retry k ∷ ws) = refusals_evident ws

kills_evident : (now : ℕ) (rows : List Row) → All IsEvident (filter_map (λ row. kill_order row (late_number now row.state)) rows)
kills_evident now [] = All-nil IsEvident
kills_evident now (row ∷ rows) =
    elim (late_number now row.state) as (λ late. All IsEvident (cons_option (kill_order row late) (filter_map (λ r. kill_order r (late_number now r.state)) rows))) [
      | None ↦ kills_evident now rows
      | Some p ↦ All-append IsEvident (effect.Kill row.id p ∷ []) (filter_map (λ r. kill_order r (late_number now r.state)) rows) (All-push IsEvident [] (effect.Kill row.id p) (All-nil IsEvident) tt) (kills_evident now rows)
    ]

answered-evident : (c : ℕ) (r : Reply) (o : Outcome) → Evident o → Evident (answer c r o)
unfolding answer
answered-evident c r o g = (g.0, All-push IsEvident o.orders (effect.Reply c) g.1 tt)

-- the work has closed
idle : (o : Outcome) → IsShowing o.state → IsShowing (closed o).state
idle o g = (g.0, g.1, λ h. absurd (no_work h))

ended-evident : (x : Ending) (o : Outcome) → o.state.follows ≡ Some (sequel.End x) → Evident o → Evident (end_all x o)
unfolding end_all refuse_all
ended-evident x o e g = (
  idle o g.0,
  All-push IsEvident (o.orders ++ filter_map refusal o.state.waiting) (effect.End (sup_end_of o.state.flags o.state.stamps x))
      (All-append IsEvident o.orders (filter_map refusal o.state.waiting) g.1 (refusals_evident o.state.waiting)) (sup_evident x o.state e g.0),
)

ticks-evident : (o : Outcome) → Evident o → Evident (tick o)
unfolding tick
ticks-evident o g = (g.0, All-append IsEvident o.orders (filter_map (λ row. kill_order row (late_number o.state.last row.state)) o.state.rows) g.1 (kills_evident o.state.last o.state.rows))

opened-evident : (own : ℕ) (o : Outcome) → Evident o → Evident (open_rows own o)
unfolding open_rows open_with
opened-evident own o g = ((IsNonDecreasingBy-short (λ x. x) [] (omega arith), All-nil (λ t. t ≤ o.state.last), λ h. absurd (other_follows sequel.Ready (λ k. cc) h)), g.1)

-- one restart more
rising : (o : Outcome) → IsShowing o.state → IsNonDecreasing (o.state.stamps ++ o.state.last ∷ [])
rising o g = rising_push o.state.stamps o.state.last g.0 g.1

below : (o : Outcome) → IsShowing o.state → All (λ t. t ≤ o.state.last) (o.state.stamps ++ o.state.last ∷ [])
below o g = All-push (λ t. t ≤ o.state.last) o.state.stamps o.state.last g.1 (omega arith)

steady : (k : Kind) (b : Bool) → Steady k b Evident
steady k b =
    record {
      goes = record {
        rows = λ rows o g. g;
        waiting = λ items o g. g;
        left = λ ps ds o g. g;
        told = λ id p how o g. (g.0, All-push IsEvident o.orders (stop_order id p how) g.1 (stop_evident id p how));
        started = λ id n o g. (g.0, All-push IsEvident o.orders (effect.Start id n) g.1 tt);
        closes = λ f o is stays g. (idle o g.0, g.1);
        answered = answered-evident;
        ready = λ o g. (g.0, All-push IsEvident o.orders effect.Ready g.1 tt);
        ended = ended-evident;
      };
      opens = λ ps ds f o idle runs stays g. ((g.0.0, g.0.1, λ h. absurd (false≢true (sym stays ∙ ap is_end h))), g.1);
      ends = λ ps e o other when g. ((g.0.0, g.0.1, λ h. absurd (other_follows (sequel.End e) (λ k. other cc) h)), g.1);
      exceeds = λ ps o idle runs many g. (
        (rising o g.0, below o g.0, λ _. too_many o.state.flags.intensity o.state.flags.period o.state.last (o.state.stamps ++ o.state.last ∷ []) (rising o g.0) (below o g.0) many),
        g.1,
      );
      restarts = λ ps ds o idle runs few g. ((rising o g.0, below o g.0, λ h. absurd (other_follows sequel.Nothing (λ k. cc) h)), g.1);
      ticks = ticks-evident;
      opened = λ own o is x. opened-evident own o x;
    }

step-evident : (s : State) (e : Event) → IsShowing s → Evident (step s e)
step-evident s e shown = step-steady Evident steady s e ((shown.0, (λ i d within. omega (arith, shown.1 i d within)), shown.2), All-nil IsEvident)

pub end_evidence_law : EndEvidence
end_evidence_law s [] e shown = (shown, (step-evident s e shown).1)
end_evidence_law s (x ∷ xs) e shown = end_evidence_law (step s x).state xs e (step-evident s x shown).0

pub end_evidence_from_empty : EndEvidenceFromEmpty
end_evidence_from_empty flags specs events e =
    (end_evidence_law (empty_state flags specs) events e (IsNonDecreasingBy-short (λ x. x) [] (omega arith), All-nil (λ t. t ≤ 0), λ h. absurd (no_work h))).1
