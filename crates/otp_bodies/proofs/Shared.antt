-- Shares of what a supervisor did.
use Rattle.std.proofs.Common.{◌≡◌, ℕ, zero, suc, ◌+◌, ◌++◌, List, [], ◌∷◌, Option, Some, refl, ap, sym, ◌∙◌, arith, rules, length, take, length-append}
use Rattle.std.specs.Prelude.{is_some, true}
use Rattle.std.proofs.lemmas.List.{take-append-le}
use Rattle.std.proofs.lemmas.List.Elements.{filter_map-append}
use Rattle.otp_core.specs.Again.{starts_again}
use Rattle.otp_core.specs.View.{View, state_of}
use Rattle.otp_rules.specs.declared.event.Effect.{Effect}
use Rattle.otp_rules.specs.declared.event.Effect.TheVariants as effect
use Rattle.otp_rules.specs.declared.event.Event.{Event}
use Rattle.otp_rules.specs.declared.event.Kind.{Kind}
use Rattle.otp_rules.specs.Run.{orders_of}
use Rattle.otp_rules.specs.Step.{step}
use Rattle.otp_table.specs.declared.row.Row.{Row}
use Rattle.otp_bodies.specs.Orders.{slot_started, started_by, starting_slot, orders_along, orders_in, starts_in}
use Rattle.otp_bodies.specs.declared.office.orders.Sending.{Sending}
use Rattle.otp_bodies.specs.declared.office.orders.Sending.TheVariants as sending
use Rattle.otp_bodies.specs.declared.port.Flushed.{Flushed}
use Rattle.otp_bodies.specs.declared.port.Flushed.TheVariants as flushed
use Rattle.otp_bodies.specs.Offices.{IsOffice, KeepsOffice, OfficeView, sent_of, starts_sent}
use Rattle.otp_bodies.specs.Flushes.{Flushes, IsSent, starts_flushed}
use Rattle.otp_bodies.specs.Letters.{one_if}
use Rattle.otp_bodies.specs.Ports.{Taken, launched}
use Rattle.otp_bodies.specs.Events.{Happened, Readied}
use Rattle.otp_bodies.proofs.Keeps.{along_on, along_same}
use Rattle.otp_bodies.proofs.Readying.{readied_base, readied_history}
use Rattle.otp_bodies.proofs.Putting.{first_puts, put_by}

-- an event sends nothing
pub sent_on : (old new : OfficeView) (e : Event) → new.core.base ≡ old.core.base → new.core.history ≡ old.core.history ++ e ∷ [] → new.sent ≡ old.sent → IsOffice old → sent_of new ≡ sent_of old
sent_on old new e base history sent i =
    let fresh : List Effect = orders_in (step (state_of old.core) e).orders in
    ap (λ n. take n (orders_along new.core)) sent
    ∙ ap (λ (l : List Effect). take old.sent l) (along_on old.core new.core e base history)
    ∙ take-append-le old.sent (orders_along old.core) fresh i.counted

-- nothing but memory was taken
pub sent_readied : (old new : OfficeView) → Readied old new → sent_of new ≡ sent_of old
sent_readied old new r = ap (λ n. take n (orders_along new.core)) r.sent ∙ ap (λ (l : List Effect). take old.sent l) (along_same old.core new.core (readied_base old new r) (readied_history old new r))

-- once memory was taken and then one event happened, as many starts were sent as before
pub started_on : (old mid new : OfficeView) (reading given : ℕ) (k : Kind) → Readied old mid → Happened reading k mid new → given ≡ length (starts_sent old) → given ≡ length (starts_sent new)
started_on old mid new reading given k r h is = is ∙ sym (ap (λ (l : List Effect). length (starts_in l)) (h.same_sent ∙ sent_readied old mid r))

-- and one turn more was given
pub turned_on : (old mid new : OfficeView) (reading given finds later found : ℕ) (k : Kind) → Readied old mid → Happened reading k mid new → given ≡ length old.core.history + finds → later ≡ given + 1 → found ≡ finds → later ≡ length new.core.history + found
turned_on old mid new reading given finds later found k r h is more same =
    let events = ap (λ (l : List Event). length l) h.history ∙ length-append mid.core.history (record { reading = reading; number = h.number; kind = k } ∷ []) in
    let before = ap (λ (l : List Event). length l) (readied_history old mid r) in
    omega (arith, events, before, is, more, same)

-- before the first event
pub none_sent : (o : OfficeView) → o.core.history ≡ [] → length (starts_sent o) ≡ 0
none_sent o none = ap (λ (h : List Event). length (starts_in (take o.sent (orders_in (orders_of o.core.base h))))) none ∙ nothing o.sent
  where
    nothing : (n : ℕ) → length (starts_in (take n [])) ≡ 0
    nothing zero = refl
    nothing (suc n) = refl

-- one more of a list
one_more : (n : ℕ) (all : List Effect) (x : Effect) (rest : List Effect) → take n all ++ x ∷ rest ≡ all → take (suc n) all ≡ take n all ++ x ∷ []
one_more zero all x rest e = sym (ap (λ (l : List Effect). take 1 l) e)
one_more (suc n) [] x rest e = absurd (search (rules, e))
one_more (suc n) (y ∷ ys) x rest e = ap (λ (l : List Effect). y ∷ l) (one_more n ys x rest (ap tail_of e))
  where
    tail_of : List Effect → List Effect
    tail_of [] = []
    tail_of (z ∷ zs) = zs

started_once : (x : Effect) (rows : List Row) → length (starts_in (x ∷ [])) ≡ one_if (is_some (slot_started rows (started_by x)))
started_once (effect.Start id p) rows = refl
started_once (effect.Ask id p) rows = refl
started_once (effect.Kill id p) rows = refl
started_once (effect.Reply c) rows = refl
started_once effect.Ready rows = refl
started_once (effect.End e) rows = refl

-- one start more was sent exactly where the first order was one, and was sent
pub starts_sent_on : (how : Flushed) (old new : OfficeView) (before after : Taken) (refusals later : ℕ) → KeepsOffice old → Flushes how old new before after refusals later
    → length (starts_sent new) ≡ length (starts_sent old) + starts_flushed how (starting_slot old.outbox (state_of old.core).rows)
starts_sent_on flushed.Empty old new before after refusals later keeps f = let same = ap (λ (o : OfficeView). length (starts_sent o)) f.1 in omega (arith, same)
starts_sent_on flushed.Refused old new before after refusals later keeps f =
    let same : sent_of new ≡ sent_of old = ap (λ n. take n (orders_along new.core)) f.0.count ∙ ap (λ (c : View). take old.sent (orders_along c)) f.0.core in
    let as_many = ap (λ (l : List Effect). length (starts_in l)) same in
    omega (arith, as_many)
starts_sent_on flushed.Sent old new before after refusals later keeps f =
    let x : Effect = f.0.first.order in
    let rows : List Row = (state_of old.core).rows in
    let all : List Effect = orders_along old.core in
    let order : take (suc old.sent) all ≡ take old.sent all ++ x ∷ [] = one_more old.sent all x new.outbox (sym (ap (λ (l : List Effect). take old.sent all ++ l) f.0.outbox) ∙ keeps.orders) in
    let count : new.sent ≡ suc old.sent = (let c = f.0.count in omega (arith, c)) in
    let sent : sent_of new ≡ sent_of old ++ x ∷ [] = ap (λ n. take n (orders_along new.core)) count ∙ ap (λ (c : View). take (suc old.sent) (orders_along c)) f.0.core ∙ order in
    let more = ap (λ (l : List Effect). length (starts_in l)) sent ∙ ap (λ (l : List ℕ). length l) (filter_map-append started_by (sent_of old) (x ∷ [])) ∙ length-append (starts_in (sent_of old)) (starts_in (x ∷ [])) in
    let one = started_once x rows ∙ sym (ap (λ (l : List Effect). one_if (is_some (starting_slot l rows))) f.0.first.outbox) in
    omega (arith, more, one)

-- the port took a process more exactly there
put_once : (how : Sending) (old new : OfficeView) (before after : Taken) (rows : List Row) → IsSent how old new before after → length after.processes ≡ length before.processes + one_if (is_some (slot_started rows (put_by (Some how))))
put_once (sending.Start id n) old new before after rows s =
    let more = ap (λ (t : Taken). length t.processes) s.took ∙ length-append before.processes (launched n s.slot id (starts_again (state_of old.core).follows) true ∷ []) in omega (arith, more)
put_once (sending.Ask n) old new before after rows s = let same = ap (λ (t : Taken). length t.processes) s.took in omega (arith, same)
put_once (sending.Kill n) old new before after rows s = let same = ap (λ (t : Taken). length t.processes) s.took in omega (arith, same)
put_once (sending.Tell x) old new before after rows s = let same = ap (λ (t : Taken). length t.processes) s.took in omega (arith, same)

pub processes_put : (how : Flushed) (old new : OfficeView) (before after : Taken) (refusals later : ℕ) → Flushes how old new before after refusals later
    → length after.processes ≡ length before.processes + starts_flushed how (starting_slot old.outbox (state_of old.core).rows)
processes_put flushed.Empty old new before after refusals later f = let same = ap (λ (t : Taken). length t.processes) f.2 in omega (arith, same)
processes_put flushed.Refused old new before after refusals later f = let same = ap (λ (t : Taken). length t.processes) f.1 in omega (arith, same)
processes_put flushed.Sent old new before after refusals later f =
    let rows : List Row = (state_of old.core).rows in
    put_once f.0.how old new before after rows f.0.is_sent
    ∙ sym (ap (λ (o : Option ℕ). length before.processes + one_if (is_some (slot_started rows o))) (first_puts old f.0.how f.0.first))
