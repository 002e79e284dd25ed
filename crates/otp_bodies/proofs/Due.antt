-- What a supervisor does by itself takes no item, and is no opening.
use Rattle.std.specs.Prelude.{◌≡◌, ◌&&◌, ℕ, Bool, Option, None, Some, IfSome, cond, is_some, length, max, not, nat_lt, refl}
use Rattle.std.specs.List.{list_any}
use Rattle.std.proofs.lemmas.Bool.{cond_both}
use Rattle.otp_table.specs.declared.row.Row.{Row}
use Rattle.otp_rules.specs.declared.event.Kind.{Kind}
use Rattle.otp_rules.specs.declared.event.Kind.TheVariants as kind
use Rattle.otp_rules.specs.Next.{idle_kind, next_kind}
use Rattle.otp_rules.specs.State.{State, is_over}
use Rattle.otp_rules.specs.Step.{is_late}
use Rattle.otp_bodies.specs.Events.{IsOpening, item_of}

abbrev pub IsOwn : Option Kind → Type 0
IsOwn due = IfSome due (λ k. (item_of k ≡ None) × (IsOpening k → ⊥))

idle_is_own : (s : State) (is_stop_wanted : Bool) → IsOwn (idle_kind s is_stop_wanted)
unfolding idle_kind
idle_is_own s is_stop_wanted =
    let waiting : Option Kind = cond (nat_lt 0 (length s.waiting)) (Some kind.Resumed) None in
    let stopped : Option Kind = cond (is_stop_wanted && not (is_over s.phase)) (Some kind.Stopped) waiting in
    cond_both (is_some s.follows) None stopped IsOwn (λ _. tt)
    (λ _. cond_both (is_stop_wanted && not (is_over s.phase)) (Some kind.Stopped) waiting IsOwn (λ _. (refl, λ a. a))
    (λ _. cond_both (nat_lt 0 (length s.waiting)) (Some kind.Resumed) None IsOwn (λ _. (refl, λ a. a)) (λ _. tt)))

pub next_is_own : (s : State) (reading : ℕ) (is_stop_wanted : Bool) → IsOwn (next_kind s reading is_stop_wanted)
unfolding next_kind
next_is_own s reading is_stop_wanted =
    cond_both (list_any (λ (row : Row). is_late (max reading s.last) row.state) s.rows) (Some kind.Ticked) (idle_kind s is_stop_wanted) IsOwn
    (λ _. (refl, λ a. a)) (λ _. idle_is_own s is_stop_wanted)
