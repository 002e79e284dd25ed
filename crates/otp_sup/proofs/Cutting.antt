-- A turn that is answered Full, the checkpoint after it, and the next turn.
use Rattle.std.proofs.Common.{◌≡◌, ◌⊎◌, ◌∙◌, ℕ, List, [], ◌∷◌, ◌++◌, Option, None, Some, Bool, true, false, ap, inl, inr, refl, subst, sym, ⊎_elim}
use Rattle.std.specs.Prelude.{◌&&◌, not, if◌then◌else◌, nat_lt, MatchOption, Result, Ok, Err}
use Rattle.std.proofs.lemmas.Bool.{false≢true}
use Rattle.otp_core.specs.declared.cut.CutFault.{CutFault}
use Rattle.otp_core.specs.View.{View, state_of}
use Rattle.otp_rules.specs.declared.event.Effect.{Effect}
use Rattle.otp_rules.specs.declared.event.Kind.{Kind}
use Rattle.otp_rules.specs.declared.event.Kind.TheVariants as kind
use Rattle.otp_rules.specs.State.{is_over, own_number}
use Rattle.otp_signals.specs.declared.signal.Signal.{Signal}
use Rattle.otp_sup.specs.Cuts.{CutWhereFull, IsCut, WasCut, cut_table}
use Rattle.otp_bodies.specs.Cuts.{HasTooManyEvents, cut_office}
use Rattle.otp_sup.specs.declared.cut.CutAnswer.{CutAnswer}
use Rattle.otp_sup.specs.declared.cut.CutAnswer.TheVariants as cut
use Rattle.otp_bodies.specs.declared.office.turns.TurnAnswer.{TurnAnswer}
use Rattle.otp_bodies.specs.declared.office.turns.TurnAnswer.TheVariants as answer
use Rattle.otp_bodies.specs.declared.office.turns.TurnFault.{TurnFault}
use Rattle.otp_bodies.specs.declared.office.turns.TurnFault.TheVariants as fault
use Rattle.otp_bodies.specs.Offices.{OfficeView}
use Rattle.otp_sup.specs.Facts.{TableView}
use Rattle.otp_bodies.specs.Orders.{has_some}
use Rattle.otp_bodies.specs.Flushes.{SentOrders}
use Rattle.otp_bodies.specs.Ports.{Taken}
use Rattle.otp_core.specs.Full.{is_full}
use Rattle.otp_sup.specs.Turns.{Did, TookOrEmpty, Turned}
use Rattle.otp_bodies.specs.Answers.{answer_of, early_answer}
use Rattle.otp_bodies.specs.Events.{due_kind}

is_full_answer : Option (Result TurnAnswer TurnFault) → Bool
is_full_answer (Some (Ok answer.Full)) = true
is_full_answer _ = false

-- the early answers by their four tests
abbrev early_by : Bool → Bool → Bool → Bool → Option (Result TurnAnswer TurnFault)
early_by ended wrong pending full =
    if ended then Some (Ok answer.Ended) else if wrong then Some (Err fault.WrongNumber)
    else if pending then Some (Ok answer.Pending) else if full then Some (Ok answer.Full) else None

record IsOnlyFull (ended wrong pending : Bool) : Type 0 where
  not_ended : ended ≡ false
  not_wrong : wrong ≡ false
  not_pending : pending ≡ false

only_full : (ended wrong pending full : Bool) → early_by ended wrong pending full ≡ Some (Ok answer.Full) → IsOnlyFull ended wrong pending
unfolding is_full_answer
only_full true wrong pending full is = absurd (false≢true (ap is_full_answer is))
only_full false true pending full is = absurd (false≢true (ap is_full_answer is))
only_full false false true full is = absurd (false≢true (ap is_full_answer is))
only_full false false false full is = record { not_ended = refl; not_wrong = refl; not_pending = refl }

none_some : {X : Type 0} → (xs : List X) → has_some xs ≡ false → xs ≡ []
none_some [] is = refl
none_some (x ∷ xs) is = absurd (false≢true (sym is))

none_behind : {X : Type 0} → (xs ys : List X) → [] ≡ xs ++ ys → ys ≡ []
none_behind [] ys is = sym is
none_behind (x ∷ xs) ys is = absurd (false≢true (ap has_some is))

-- where the core is full, nothing is to be sent
pub full_sent : (o : OfficeView) (number : ℕ) → early_answer o number ≡ Some (Ok answer.Full) → o.outbox ≡ []
unfolding early_answer
full_sent o number is = none_some o.outbox (only_full _ _ (has_some o.outbox) (is_full o.core) is).not_pending

-- and once there is room, the same number has no early answer
full_goes_on : (o : OfficeView) (number : ℕ) → early_answer o number ≡ Some (Ok answer.Full) → is_full (cut_office o).core ≡ false
    → early_answer (cut_office o) number ≡ None
unfolding early_answer
full_goes_on o number is room =
    let own = own_number (state_of o.core).phase in
    let ended = nat_lt number own in
    let wrong = nat_lt own number && not (is_over (state_of o.core).phase) in
    let pending = has_some o.outbox in
    let only = only_full ended wrong pending (is_full o.core) is in
    ap (λ (b : Bool). early_by b wrong pending (is_full (cut_office o).core)) only.not_ended
    ∙ ap (λ (b : Bool). early_by false b pending (is_full (cut_office o).core)) only.not_wrong
    ∙ ap (λ (b : Bool). early_by false false b (is_full (cut_office o).core)) only.not_pending
    ∙ ap (λ (b : Bool). early_by false false false b) room

-- an early answer is told by core and orders
early_same : (o p : OfficeView) (number : ℕ) → p.core ≡ o.core → p.outbox ≡ o.outbox → early_answer p number ≡ early_answer o number
unfolding early_answer
early_same o p number core outbox =
    let own : View → ℕ = λ v. own_number (state_of v).phase in
    let by : View → List Effect → Option (Result TurnAnswer TurnFault) = λ v l.
    early_by (nat_lt number (own v)) (nat_lt (own v) number && not (is_over (state_of v).phase)) (has_some l) (is_full v) in
    ap (λ (v : View). by v p.outbox) core ∙ ap (λ (l : List Effect). by o.core l) outbox

-- Full is an early answer, and changes nothing
pub record IsEarlyFull (number : ℕ) (old new : TableView) : Type 0 where
  pub early : early_answer old.office number ≡ Some (Ok answer.Full)
  pub same : new ≡ old

no_event : (k : Kind) → answer.Full ≡ answer_of k → ⊥
unfolding is_full_answer
no_event (kind.Opened _) is = false≢true (sym (ap (λ (a : TurnAnswer). is_full_answer (Some (Ok a))) is))
no_event (kind.Took _) is = false≢true (sym (ap (λ (a : TurnAnswer). is_full_answer (Some (Ok a))) is))
no_event kind.Resumed is = false≢true (sym (ap (λ (a : TurnAnswer). is_full_answer (Some (Ok a))) is))
no_event kind.Ticked is = false≢true (sym (ap (λ (a : TurnAnswer). is_full_answer (Some (Ok a))) is))
no_event kind.Stopped is = false≢true (sym (ap (λ (a : TurnAnswer). is_full_answer (Some (Ok a))) is))

no_due : (reading : ℕ) (old new : TableView) (due : Option Kind)
    → MatchOption due (TookOrEmpty reading old new answer.Full) (λ k. Did reading k old new answer.Full) → ⊥
no_due reading old new None h = h
no_due reading old new (Some k) h = no_event k h.answer

pub full_is_early : (number reading : ℕ) (told : Signal) (old new : TableView) → Turned number reading told old new (Ok answer.Full) → IsEarlyFull number old new
full_is_early number reading told old new turned = by (early_answer old.office number) refl turned
  where
    by : (x : Option (Result TurnAnswer TurnFault)) → early_answer old.office number ≡ x
        → MatchOption x
        (MatchOption (due_kind (state_of old.office.core) number reading told) (TookOrEmpty reading old new answer.Full) (λ k. Did reading k old new answer.Full))
        (λ early. (Ok answer.Full ≡ early) × (new ≡ old))
        → IsEarlyFull number old new
    by None is h = absurd (no_due reading old new (due_kind (state_of old.office.core) number reading told) h)
    by (Some early) is h = record { early = is ∙ ap (λ (e : Result TurnAnswer TurnFault). Some e) (sym h.0); same = h.1 }

-- so nothing is to be sent after it
pub full_pends_nothing : (number reading : ℕ) (told : Signal) (old new : TableView) (result : Result TurnAnswer TurnFault)
    → Turned number reading told old new result → result ≡ Ok answer.Full → new.office.outbox ≡ []
full_pends_nothing number reading told old new result turned is =
    let full = full_is_early number reading told old new (subst (λ (r : Result TurnAnswer TurnFault). Turned number reading told old new r) is turned) in
    ap (λ (t : TableView). t.office.outbox) full.same ∙ full_sent old.office number full.early

-- a cut where nothing is to be sent
pub cut_of : (said : Result CutAnswer CutFault) (old new : TableView) → old.office.outbox ≡ [] → WasCut said old new
    → IsCut old new ⊎ (HasTooManyEvents old.office.core × (new ≡ old))
cut_of (Ok cut.Cut) old new none was = inl was.1
cut_of (Ok cut.Pending) old new none was = absurd (false≢true (sym (ap (λ (l : List Effect). has_some l) none) ∙ was.0))
cut_of (Err _) old new none was = inr (was.1, was.2)

-- so it is where the turn was Full, after which nothing was to be sent
pub cut_after_full : (result : Result TurnAnswer TurnFault) (said : Result CutAnswer CutFault) (old new now : TableView) → result ≡ Ok answer.Full → old.office.outbox ≡ [] → WasCut said old new → now ≡ new
    → CutWhereFull result old now
cut_after_full result said old new now is none was same =
    subst (λ (r : Result TurnAnswer TurnFault). CutWhereFull r old now) (sym is) (subst (λ (t : TableView). CutWhereFull (Ok answer.Full) old t) (sym same) (cut_of said old new none was))

-- after another turn nothing is done
pub uncut : (result : Result TurnAnswer TurnFault) (old now : TableView) → (result ≡ Ok answer.Full → ⊥) → now ≡ old → CutWhereFull result old now
uncut (Ok answer.Full) old now other same = absurd (other refl)
uncut (Ok answer.Opened) old now other same = same
uncut (Ok answer.Took) old now other same = same
uncut (Ok answer.Resumed) old now other same = same
uncut (Ok answer.Ticked) old now other same = same
uncut (Ok answer.Stopped) old now other same = same
uncut (Ok answer.Pending) old now other same = same
uncut (Ok answer.Quiet) old now other same = same
uncut (Ok answer.Ended) old now other same = same
uncut (Err _) old now other same = same

-- a cut changes nothing of the inbox
pub cut_takes_none : (result : Result TurnAnswer TurnFault) (old now : TableView) → CutWhereFull result old now → now.taker ≡ old.taker
cut_takes_none (Ok answer.Full) old now was = ⊎_elim (λ (made : IsCut old now). ap (λ (t : TableView). t.taker) made.is) (λ many. ap (λ (t : TableView). t.taker) many.1) was
cut_takes_none (Ok answer.Opened) old now same = ap (λ (t : TableView). t.taker) same
cut_takes_none (Ok answer.Took) old now same = ap (λ (t : TableView). t.taker) same
cut_takes_none (Ok answer.Resumed) old now same = ap (λ (t : TableView). t.taker) same
cut_takes_none (Ok answer.Ticked) old now same = ap (λ (t : TableView). t.taker) same
cut_takes_none (Ok answer.Stopped) old now same = ap (λ (t : TableView). t.taker) same
cut_takes_none (Ok answer.Pending) old now same = ap (λ (t : TableView). t.taker) same
cut_takes_none (Ok answer.Quiet) old now same = ap (λ (t : TableView). t.taker) same
cut_takes_none (Ok answer.Ended) old now same = ap (λ (t : TableView). t.taker) same
cut_takes_none (Err _) old now same = ap (λ (t : TableView). t.taker) same

-- the next turn under the same number isn't Full
pub next_goes_on : (number reading : ℕ) (told : Signal) (old turned cut new : TableView) (before after : Taken) (result : Result TurnAnswer TurnFault)
    → Turned number reading told old turned result → CutWhereFull result turned cut → SentOrders cut.office new.office before after → result ≡ Ok answer.Full
    → (early_answer new.office number ≡ None) ⊎ HasTooManyEvents new.office.core
next_goes_on number reading told old turned cut new before after result did was sent is =
    let full = full_is_early number reading told old turned (subst (λ (r : Result TurnAnswer TurnFault). Turned number reading told old turned r) is did) in
    ⊎_elim
    (λ (made : IsCut turned cut). inl (
    let none : cut.office.outbox ≡ [] = ap (λ (t : TableView). t.office.outbox) (made.is ∙ ap cut_table full.same) ∙ full_sent old.office number full.early in
    let office : cut.office ≡ cut_office old.office = ap (λ (t : TableView). t.office) (made.is ∙ ap cut_table full.same) in
    early_same cut.office new.office number sent.core (none_behind sent.orders new.office.outbox (sym none ∙ sent.outbox) ∙ sym none)
    ∙ ap (λ (o : OfficeView). early_answer o number) office
    ∙ full_goes_on old.office number full.early (sym (ap (λ (o : OfficeView). is_full o.core) office) ∙ made.room)))
    (λ many. inr (subst HasTooManyEvents (sym sent.core) (subst (λ (t : TableView). HasTooManyEvents t.office.core) (sym many.1) many.0)))
    (subst (λ (r : Result TurnAnswer TurnFault). CutWhereFull r turned cut) is was)
