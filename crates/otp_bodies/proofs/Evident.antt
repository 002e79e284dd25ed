-- Each end that an office tells is shown.
use Rattle.std.proofs.Common.{◌≡◌, ℕ, List, [], ◌∷◌, ◌≤◌, Option, None, Some, not, refl, ap, sym, ◌∙◌, subst, arith, drop}
use Rattle.std.specs.Prelude.{All, Bool, true, false, is_some}
use Rattle.std.proofs.lemmas.Bool.{false≢true}
use Rattle.std.proofs.lemmas.List.Elements.{All-append, All-nil}
use Rattle.std.proofs.lemmas.List.Sorted.{IsNonDecreasingBy-short}
use Rattle.otp_reason.specs.declared.note.Note.{Note}
use Rattle.otp_spec.specs.declared.child.ChildSpec.{ChildSpec}
use Rattle.otp_spec.specs.declared.flags.SupFlags.{SupFlags}
use Rattle.otp_rules.specs.declared.ending.Cause.{Cause}
use Rattle.otp_rules.specs.declared.ending.Cause.TheVariants as cause
use Rattle.otp_rules.specs.declared.ending.SupEnd.{SupEnd}
use Rattle.otp_rules.specs.declared.event.Effect.{Effect}
use Rattle.otp_rules.specs.declared.event.Effect.TheVariants as effect
use Rattle.otp_rules.specs.declared.event.Event.{Event}
use Rattle.otp_rules.specs.declared.event.Item.TheVariants as item
use Rattle.otp_rules.specs.declared.work.Sequel.{Sequel}
use Rattle.otp_rules.specs.Effects.{is_reply}
use Rattle.otp_rules.specs.Ended.{end_in}
use Rattle.otp_rules.specs.Evidence.{EndEvidence, IsEvident, IsShowing}
use Rattle.otp_rules.specs.Run.{empty_state, orders_of}
use Rattle.otp_rules.specs.State.{State, own_number}
use Rattle.otp_rules.specs.Step.{step}
use Rattle.otp_core.specs.View.{state_of}
use Rattle.otp_bodies.specs.declared.office.orders.Sending.{Sending}
use Rattle.otp_bodies.specs.declared.office.orders.Sending.TheVariants as sending
use Rattle.otp_bodies.specs.Offices.{IsOffice, OfficeView}
use Rattle.otp_bodies.specs.Orders.{orders_along}
use Rattle.otp_bodies.specs.Flushes.{IsFirst, end_note_by, first_end, sending_of}
use Rattle.otp_reason.specs.declared.reason.Reason.{Reason}
use Rattle.otp_bodies.specs.Letters.{Comes, Tells, is_end_note}
use Rattle.otp_bodies.proofs.Sends.{all_drop, all_filter}

orders_evident : EndEvidence → (s : State) → IsShowing s → (events : List Event) → All IsEvident (orders_of s events)
orders_evident law s shown [] = All-nil IsEvident
orders_evident law s shown (e ∷ es) = All-append IsEvident (step s e).orders (orders_of (step s e).state es) (law s [] e shown).1 (orders_evident law (step s e).state (law s (e ∷ []) e shown).0 es)

empty_shows : (flags : SupFlags) (specs : List ChildSpec) → IsShowing (empty_state flags specs)
empty_shows flags specs = (IsNonDecreasingBy-short (λ x. x) [] (omega arith), All-nil (λ t. t ≤ 0), λ h. let e : ◌≡◌ {A = Option Sequel} None (Some _) = h in cc)

-- the first order that is to be sent shows why, if it is an end
first_evident : EndEvidence → (o : OfficeView) → IsOffice o → (x : Effect) (rest : List Effect) → o.outbox ≡ x ∷ rest → IsEvident x
first_evident law o i x rest outbox =
    let Orders : State → Type 0 = λ s. All IsEvident (orders_of s o.core.history) in
    let orders : All IsEvident (orders_of o.core.base o.core.history) = subst Orders (sym i.begins.is) (orders_evident law (empty_state i.begins.flags i.begins.specs) (empty_shows i.begins.flags i.begins.specs) o.core.history) in
    let later : All IsEvident (drop o.sent (orders_along o.core)) = all_drop IsEvident o.sent (orders_along o.core) (all_filter IsEvident (λ (e : Effect). not (is_reply e)) (orders_of o.core.base o.core.history) orders) in
    let First : List Effect → Type 0 = λ l. All IsEvident l in
    let first : All IsEvident (x ∷ rest) = subst First (sym i.orders ∙ outbox) later in
    first 0 x (omega arith)

tells_own : (own : ℕ) (end : SupEnd) (c : Cause) → Tells (end_note_by own end.reason c) end
tells_own own end (cause.InitFailed _) = refl
tells_own own end (cause.Intensity _ _) = refl
tells_own own end (cause.Significant _) = refl
tells_own own end cause.Asked = refl

abbrev is_telling : Option Sending → Bool
is_telling (Some (sending.Tell n)) = true
is_telling _ = false

abbrev note_in : Note → Option Sending → Note
note_in other (Some (sending.Tell n)) = n
note_in other _ = other

order_comes : (own : ℕ) (n : Note) (x : Effect) → sending_of own x ≡ Some (sending.Tell n) → IsEvident x → Comes (item.Note n) (end_in x)
unfolding Comes
order_comes own n (effect.Start _ p) is shown = tt
order_comes own n (effect.Ask _ p) is shown = tt
order_comes own n (effect.Kill _ p) is shown = tt
order_comes own n (effect.Reply _) is shown = tt
order_comes own n effect.Ready is shown = tt
order_comes own n (effect.End end) is shown =
    let T : Note → Type 0 = λ m. Tells m end in
    (subst T (ap (λ (o : Option Sending). note_in n o) is) (tells_own own end end.cause), shown)

ends_whole : (own : ℕ) (reason : Reason) (c : Cause) → true ≡ is_end_note (end_note_by own reason c)
ends_whole own reason (cause.InitFailed _) = refl
ends_whole own reason (cause.Intensity _ _) = refl
ends_whole own reason (cause.Significant _) = refl
ends_whole own reason cause.Asked = refl

order_whole : (own : ℕ) (n : Note) (x : Effect) → sending_of own x ≡ Some (sending.Tell n) → is_some (end_in x) ≡ is_end_note n
order_whole own n (effect.Start _ p) is = absurd (false≢true (ap is_telling is))
order_whole own n (effect.Ask _ p) is = absurd (false≢true (ap is_telling is))
order_whole own n (effect.Kill _ p) is = absurd (false≢true (ap is_telling is))
order_whole own n (effect.Reply _) is = absurd (false≢true (ap is_telling is))
order_whole own n effect.Ready is = ap is_end_note (ap (λ (o : Option Sending). note_in n o) is)
order_whole own n (effect.End end) is = ends_whole own end.reason end.cause ∙ ap is_end_note (ap (λ (o : Option Sending). note_in n o) is)

-- an end comes exactly with the note of an end
pub first_whole : (o : OfficeView) (n : Note) → IsFirst o (sending.Tell n) → is_some (first_end o.outbox) ≡ is_end_note n
first_whole o n f = ap (λ (l : List Effect). is_some (first_end l)) f.outbox ∙ order_whole (own_number (state_of o.core).phase) n f.order f.sends

-- what comes with the note that the first order tells
pub first_comes : EndEvidence → (o : OfficeView) → IsOffice o → (n : Note) → IsFirst o (sending.Tell n) → Comes (item.Note n) (first_end o.outbox)
first_comes law o i n f =
    let C : List Effect → Type 0 = λ l. Comes (item.Note n) (first_end l) in
    subst C (sym f.outbox) (order_comes (own_number (state_of o.core).phase) n f.order f.sends (first_evident law o i f.order f.rest f.outbox))
