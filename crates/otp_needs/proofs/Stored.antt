-- To ask the state of the stored events is to ask the state of all.
use Rattle.std.proofs.Common.{◌≡◌, ℕ, ◌∙◌, ap, sym}
use Rattle.std.specs.Prelude.{Bool}
use Rattle.std.proofs.lemmas.List.{take-append-drop}
use Rattle.otp_rules.specs.declared.event.Kind.{Kind}
use Rattle.otp_rules.specs.Cuts.{CutsAgree, NeedForgets}
use Rattle.otp_rules.specs.Needs.{needs_number}
use Rattle.otp_rules.specs.Run.{RunsJoined, state_after}
use Rattle.otp_rules.specs.State.{State}
use Rattle.otp_core.specs.View.{View, past_of, state_of, stored_of, stored_state}

pub asks_all : RunsJoined → CutsAgree → NeedForgets → (v : View) (reading : ℕ) (kind : Kind)
    → needs_number (stored_state v) reading kind ≡ needs_number (state_of v) reading kind
asks_all joined runs needs v reading kind =
    let past : State = state_after v.base (past_of v) in
    let asked : State → Bool = λ s. needs_number s reading kind in
    let after : state_after past (stored_of v) ≡ state_of v =
    sym (joined v.base (past_of v) (stored_of v)).0 ∙ ap (state_after v.base) (take-append-drop v.cut v.history) in
    sym (needs past.replies past.ends (stored_state v) reading kind)
    ∙ ap asked (sym (runs past (stored_of v)).1)
    ∙ ap asked after
