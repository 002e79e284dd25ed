-- Each child has one body, and where it is.
use Rattle.std.specs.Prelude.{◌≡◌, ℕ, ◌<◌, ◌==◌, ◌||◌, Bool, true, false, List, [], ◌∷◌, Contains, refl, count_by}
use Rattle.std.specs.List.{list_any}
use Rattle.std.proofs.Common.{◌∙◌, ap, sym, arith, cond}
use Rattle.std.proofs.lemmas.Bool.{false≢true, eqb-true, eq-eqb}
use Rattle.std.proofs.lemmas.List.Sums.{sum_by-cons}
use Rattle.otp_reason.specs.declared.note.Note.TheVariants as note
use Rattle.otp_table.specs.declared.row.Row.{Row}
use Rattle.otp_table.specs.declared.row.RowState.{RowState}
use Rattle.otp_table.specs.declared.row.RowState.TheVariants.{Undefined, Starting, Up, Asked, Killed, Restarting}
use Rattle.otp_table.specs.Rows.{has_process}
use Rattle.otp_rules.specs.declared.event.Item.TheVariants as item
use Rattle.otp_rules.specs.declared.event.Waiting.{Waiting}
use Rattle.otp_rules.specs.declared.event.Waiting.TheVariants as waiting
use Rattle.otp_rules.specs.Homes.{is_ended, is_home}
use Rattle.otp_rules.specs.Stops.{is_exit}
use Rattle.otp_rules.specs.State.{State}
use Rattle.otp_bodies.specs.declared.bodies.Kept.{Kept}
use Rattle.otp_bodies.specs.Bodies.{count_away, has_body}
use Rattle.otp_sup.specs.Facts.{HasOneBody, KeepsBodies, is_to_start, is_unsent}
use Rattle.otp_bodies.proofs.Keeping.{or_false}
use Rattle.otp_bodies.proofs.Once.{some_home}
use Rattle.otp_bodies.proofs.Placed.{or_split}

-- an Exit that waits is the end of its process
exit_ends : (p : ℕ) (w : Waiting) → is_ended p w ≡ false → is_exit p w ≡ false
exit_ends p (waiting.Item (item.Note (note.Up q))) h = refl
exit_ends p (waiting.Item (item.Note (note.Ignored q))) h = refl
exit_ends p (waiting.Item (item.Note (note.Failed q r))) h = refl
exit_ends p (waiting.Item (item.Note (note.Exit q r))) h = h
exit_ends p (waiting.Item (item.Call c x)) h = refl
exit_ends p (waiting.Retry k) h = refl

no_exit : (p : ℕ) (ws : List Waiting) → list_any (is_ended p) ws ≡ false → count_by (is_exit p) ws ≡ 0
no_exit p [] h = refl
no_exit p (w ∷ ws) h =
    let parts = or_false (is_ended p w) (list_any (is_ended p) ws) h in
    let none : ◌≡◌ {A = ℕ} (cond (is_exit p w) 1 0) 0 = ap (λ (b : Bool). cond b 1 0) (exit_ends p w parts.0) in
    omega (arith, none, sum_by-cons (λ (x : Waiting). cond (is_exit p x) 1 0) w ws, no_exit p ws parts.1)

-- a child that isn't at home has a process, of which no end waits
abbrev HasLive : List Waiting → RowState → Type 0
HasLive ws state = (p : ℕ) × (has_process p state ≡ true) × (list_any (is_ended p) ws ≡ false)

has_live : (ws : List Waiting) (state : RowState) → is_home ws state ≡ false → HasLive ws state
has_live ws Undefined h = absurd (false≢true (sym h))
has_live ws (Starting p k) h = (p, eq-eqb p p refl, h)
has_live ws (Up p) h = (p, eq-eqb p p refl, h)
has_live ws (Asked p d) h = (p, eq-eqb p p refl, h)
has_live ws (Killed p) h = (p, eq-eqb p p refl, h)
has_live ws (Restarting k) h = absurd (false≢true (sym h))

isnt : (b : Bool) → (b ≡ true → ⊥) → b ≡ false
isnt false never = refl
isnt true never = absurd (never refl)

-- a process of a child whose start isn't to be sent isn't to be started
not_unsent : (starts : List ℕ) (p : ℕ) (state : RowState) → has_process p state ≡ true → is_unsent starts state ≡ false → is_to_start p starts ≡ false
not_unsent [] p state has h = refl
not_unsent (q ∷ qs) p state has h =
    let parts = or_false (has_process q state) (is_unsent qs state) h in
    let other : (q == p) ≡ false = isnt (q == p) (λ same. false≢true (sym parts.0 ∙ ap (λ (n : ℕ). has_process n state) (eqb-true q p same) ∙ has)) in
    ap (λ (b : Bool). b || is_to_start p qs) other ∙ not_unsent qs p state has parts.1

pub one_body_each : (s : State) (starts : List ℕ) (kept : List Kept) → KeepsBodies s starts kept → (row : Row) → Contains s.rows row → HasOneBody s starts kept row
one_body_each s starts kept k row among = by (is_home s.waiting row.state || is_unsent starts row.state) refl
  where
    by : (b : Bool) → (is_home s.waiting row.state || is_unsent starts row.state) ≡ b → HasOneBody s starts kept row
    by true h =
        let has : has_body row.slot kept ≡ true =
        or_split (is_home s.waiting row.state) (is_unsent starts row.state) (has_body row.slot kept ≡ true) h (λ home. k.home row among home) (λ unsent. k.unsent row among unsent) in
        record {
          one = let few = k.one_body row.slot in let some = some_home row.slot kept has in omega (arith, few, some);
          home = has ∙ sym h;
        }
    by false h =
        let parts = or_false (is_home s.waiting row.state) (is_unsent starts row.state) h in
        let live : HasLive s.waiting row.state = has_live s.waiting row.state parts.0 in
        let out : 0 < count_away row.slot kept = k.out row.slot live.0 ((row, among, refl, live.1), no_exit live.0 s.waiting live.2) (not_unsent starts live.0 row.state live.1 parts.1) in
        record {
          one = let few = k.one_body row.slot in omega (arith, few, out);
          home = isnt (has_body row.slot kept) (λ has. let few = k.one_body row.slot in let some = some_home row.slot kept has in omega (arith, few, some, out)) ∙ sym h;
        }
