use Rattle.std.proofs.Common.{◌≡◌, ℕ, Bool, ◌++◌, List, [], ◌∷◌, ◌∙◌, ap, append_assoc, refl, rules, subst, sym}
use Rattle.std.specs.List.{All}
use Rattle.otp_core.specs.Happened.{HappenedAfter}
use Rattle.otp_spec.specs.declared.limits.TheConstants.{MAX_EVENTS}
use Rattle.otp_core.specs.View.{View, state_of, stored_state}
use Rattle.otp_rules.specs.Answers.{IsKeptIn}
use Rattle.otp_rules.specs.Ends.{last_stamps}
use Rattle.otp_rules.specs.declared.event.Effect.{Effect}
use Rattle.otp_rules.specs.declared.event.Event.{Event}
use Rattle.otp_rules.specs.State.{State}
use Rattle.otp_rules.specs.Step.{step}
use Rattle.otp_spec.specs.declared.flags.SupFlags.{SupFlags}
use Rattle.otp_trial.specs.Played.{Happens, Seated}
use Rattle.otp_trial.specs.Aways.{aways_by, back_by, presence_of}
use Rattle.otp_trial.specs.Starts.{started_by}
use Rattle.otp_trial.specs.Strains.{strained, strained_by}
use Rattle.otp_trial.specs.declared.story.strain.Strain.{Strain}
use Rattle.otp_trial.specs.Story.{down_told, event_text, told_lines}
use Rattle.otp_trial.specs.declared.story.away.Away.{Away}
use Rattle.otp_trial.specs.declared.story.away.Presence.{Presence}
use Rattle.otp_table.specs.declared.row.Row.{Row}
use Rattle.std.specs.Prelude.{Option}
use Rattle.otp_trial.specs.declared.story.starts.Started.{Started}
use Rattle.otp_trial.proofs.Kept.{lines_same}
use Rattle.otp_trial.proofs.Tellings.{started_after}
use Rattle.otp_trial.proofs.seat.TriedSupervisor.happen.Goals as goal

pub returns : goal.returns
unfolding event_text strained_by
returns c =
    let old : View = c.self.inside.core in
    let after : View = c.happen_after.new.self in
    let path : List ℕ = c.self.inside.path.items in
    let tells : Bool = c.self.inside.tells in
    let before : List Started = started_by old.base old.history in
    let is : HappenedAfter MAX_EVENTS c.max-last.result c.args.time c.args.kind c.clear_effects.new.self after c.in_ok-after.after = c.in_ok-after.ensures.ok in
    let event : Event = record { reading = c.args.time; number = is.number; kind = c.args.kind } in
    let cleared : c.clear_effects.new.self ≡ record old { effects = [] } = c.clear_effects.ensures in
    let same : state_of c.clear_effects.new.self ≡ state_of old = ap state_of cleared in
    let stepped : state_of after ≡ (step (state_of old) event).state = is.happened.state ∙ ap (λ (s : State). (step s event).state) same in
    let fresh : List Effect = (step (state_of old) event).orders in
    let orders : after.effects ≡ fresh =
    is.happened.effects ∙ ap (λ (v : View). v.effects ++ (step (state_of v) event).orders) cleared in
    let base : after.base ≡ old.base = is.happened.base ∙ ap (λ (v : View). v.base) cleared in
    let longer : after.history ≡ old.history ++ event ∷ [] = is.happened.history ∙ ap (λ (v : View). v.history ++ event ∷ []) cleared in
    let kept : c.as_slice-starts.result.now ≡ before = c.as_slice-starts.ensures.value ∙ c.self.invariant.starts (search rules) in
    let Kept : State → Type 0 = λ s. All (IsKeptIn (state_of after).replies (stored_state after).replies) (step s event).orders in
    let lines : told_lines tells c.args.time c.as_slice.result.now c.as_slice-starts.result.now (stored_state after).replies after.effects ≡ told_lines tells c.args.time path before (step (state_of old) event).state.replies fresh =
    ap (λ (p : List ℕ). told_lines tells c.args.time p c.as_slice-starts.result.now (stored_state after).replies after.effects) c.as_slice.ensures.value
    ∙ ap (λ (starts : List Started). told_lines tells c.args.time path starts (stored_state after).replies after.effects) kept
    ∙ ap (λ (xs : List Effect). told_lines tells c.args.time path before (stored_state after).replies xs) orders
    ∙ lines_same tells c.args.time path before (state_of after).replies (stored_state after).replies fresh (subst Kept same is.happened.answers)
    ∙ ap (λ (s : State). told_lines tells c.args.time path before s.replies fresh) stepped in
    let were : List Away = c.self.inside.aways.items in
    let out : List ℕ = c.args.out.now.items in
    let as_found : c.presence_of-presence.result ≡ presence_of (state_of old).rows c.args.kind =
    c.presence_of-presence.ensures ∙ ap (λ (rows : List Row). presence_of rows c.args.kind) c.rows.ensures.value in
    let presence : Option Presence = presence_of (state_of old).rows c.args.kind in
    let down : List ℕ = down_told tells c.args.time path (back_by presence were) in
    let story : List ℕ = told_lines tells c.args.time c.as_slice.result.now c.as_slice-starts.result.now (stored_state after).replies after.effects in
    let downs : down_told tells c.args.time c.as_slice.result.now (back_by c.presence_of-presence.result c.as_slice-aways.result.now) ≡ down =
    ap (λ (p : List ℕ). down_told tells c.args.time p (back_by c.presence_of-presence.result c.as_slice-aways.result.now)) c.as_slice.ensures.value
    ∙ ap (λ (t : Option Presence). down_told tells c.args.time path (back_by t c.as_slice-aways.result.now)) as_found
    ∙ ap (λ (away : List Away). down_told tells c.args.time path (back_by presence away)) c.as_slice-aways.ensures.value in
    let aways : List Away = c.note_presence.new.aways.items in
    let noted : aways ≡ aways_by presence c.args.time were =
    c.in_ok-note_presence.ensures ∙ ap (λ (t : Option Presence). aways_by t c.args.time were) as_found in
    let before_it : Strain = c.self.inside.strain in
    let then : Strain = c.strain_after-self-inside.result in
    let next : State = (step (state_of old) event).state in
    let flags : c.flags.result ≡ old.base.flags = c.flags.ensures ∙ sym (ap (λ (s : State). s.flags) c.self.invariant.base) in
    let bore : then ≡ strained_by old.base.flags before_it c.args.time c.args.kind (step (state_of old) event) =
    c.strain_after-self-inside.ensures
    ∙ ap (λ (f : SupFlags). strained before_it c.args.time c.args.kind f (last_stamps (state_of after).flags.intensity (state_of after).stamps) after.effects) flags
    ∙ ap (λ (s : State). strained before_it c.args.time c.args.kind old.base.flags (last_stamps s.flags.intensity s.stamps) after.effects) stepped
    ∙ ap (λ (xs : List Effect). strained before_it c.args.time c.args.kind old.base.flags (last_stamps next.flags.intensity next.stamps) xs) orders in
    let now : Seated = record { path = path; tells = tells; base = after.base; history = after.history; strain = then; aways = aways } in
    let P : Seated → Type 0 = λ p. Happens c.args.time c.args.kind p now c.args.out.now.items c.tell.new.out.items in
    subst P c.self.view_is (
      event,
      refl,
      refl,
      ap (λ (b : State). record { path = path; tells = tells; base = b; history = after.history; strain = then; aways = aways }) base
          ∙ ap (λ (h : List Event). record { path = path; tells = tells; base = old.base; history = h; strain = then; aways = aways }) longer
          ∙ ap (λ (s : Strain). record { path = path; tells = tells; base = old.base; history = old.history ++ event ∷ []; strain = s; aways = aways }) bore
          ∙ ap (λ (a : List Away). record { path = path; tells = tells; base = old.base; history = old.history ++ event ∷ []; strain = strained_by old.base.flags before_it c.args.time c.args.kind (step (state_of old) event); aways = a }) noted,
      c.in_ok-tell.ensures
          ∙ ap (λ (text : List ℕ). text ++ story) (c.in_ok-tell_down.ensures ∙ ap (λ (text : List ℕ). out ++ text) downs)
          ∙ append_assoc out down story
          ∙ ap (λ (text : List ℕ). out ++ (down ++ text)) lines,
    )

pub invariant_of-self-2 : goal.invariant_of-self-2
invariant_of-self-2 c =
    let old : View = c.self.inside.core in
    let after : View = c.happen_after.new.self in
    let is : HappenedAfter MAX_EVENTS c.max-last.result c.args.time c.args.kind c.clear_effects.new.self after c.in_ok-after.after = c.in_ok-after.ensures.ok in
    let event : Event = record { reading = c.args.time; number = is.number; kind = c.args.kind } in
    let cleared : c.clear_effects.new.self ≡ record old { effects = [] } = c.clear_effects.ensures in
    let orders : c.effects.result.now ≡ (step (state_of old) event).orders =
    c.effects.ensures ∙ is.happened.effects ∙ ap (λ (v : View). v.effects ++ (step (state_of v) event).orders) cleared in
    let base : after.base ≡ old.base = is.happened.base ∙ ap (λ (v : View). v.base) cleared in
    let longer : after.history ≡ old.history ++ event ∷ [] = is.happened.history ∙ ap (λ (v : View). v.history ++ event ∷ []) cleared in record {
      base = base ∙ c.self.invariant.base;
      starts = λ _. started_after old.base after.base old.history after.history event c.self.inside.starts.items c.put_starts.new.starts.items c.effects.result.now
          (c.self.invariant.starts (search rules)) base longer orders c.in_ok-put_starts.ensures;
    }
