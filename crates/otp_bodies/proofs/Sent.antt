-- Which orders were sent one after another, and what the port took by them.
use Rattle.std.specs.Prelude.{◌≡◌, ℕ, ◌++◌, true, List, [], ◌∷◌, Option, None, Some, refl, unwrap_or}
use Rattle.std.proofs.Common.{◌∙◌, ap, sym, subst, arith, append_assoc}
use Rattle.std.proofs.lemmas.List.{length-append}
use Rattle.otp_rules.specs.declared.event.Effect.{Effect}
use Rattle.otp_rules.specs.declared.event.Effect.TheVariants as effect
use Rattle.otp_reason.specs.declared.note.Note.{Note}
use Rattle.otp_reason.specs.declared.note.Note.TheVariants as note
use Rattle.otp_rules.specs.State.{own_number}
use Rattle.otp_core.specs.Again.{starts_again}
use Rattle.otp_core.specs.View.{View, state_of}
use Rattle.otp_bodies.specs.declared.office.orders.Sending.{Sending}
use Rattle.otp_bodies.specs.declared.office.orders.Sending.TheVariants as sending
use Rattle.otp_bodies.specs.declared.port.Flushed.{Flushed}
use Rattle.otp_bodies.specs.declared.port.Flushed.TheVariants as flushed
use Rattle.otp_signals.specs.declared.signal.Signal.TheVariants as signal
use Rattle.otp_bodies.specs.Offices.{OfficeView}
use Rattle.otp_bodies.specs.Flushes.{Flushes, IsAsked, IsPut, IsSent, IsTold, SentOrders, after_order, after_orders, end_note, first_end, sending_of}
use Rattle.otp_bodies.specs.Ports.{Taken, launched, told}

how_is : (a b : Sending) → Some a ≡ Some b → a ≡ b
how_is a b h = ap (λ (o : Option Sending). unwrap_or o a) h

-- the port took what the order puts or tells
order_taken : (old new : OfficeView) (before after : Taken) (x : Effect) (rest : List Effect) (how : Sending) → old.outbox ≡ x ∷ rest → sending_of (own_number (state_of old.core).phase) x ≡ Some how → IsSent how old new before after → after ≡ after_order old.core old.first_slot x before
order_taken old new before after (effect.Start id n) rest how first is s =
    let Sent : Sending → Type 0 = λ h. IsSent h old new before after in
    let p : IsPut id n old new before after = subst Sent (sym (how_is (sending.Start id n) how is)) s in
    p.took ∙ ap (λ (slot : ℕ). record before { processes = before.processes ++ launched n slot id (starts_again (state_of old.core).follows) true ∷ [] }) p.posted.of_row
order_taken old new before after (effect.Ask id n) rest how first is s =
    let Sent : Sending → Type 0 = λ h. IsSent h old new before after in
    let p : IsAsked n signal.Shutdown old new before after = subst Sent (sym (how_is (sending.Ask n) how is)) s in
    p.took
order_taken old new before after (effect.Kill id n) rest how first is s =
    let Sent : Sending → Type 0 = λ h. IsSent h old new before after in
    let p : IsAsked n signal.Kill old new before after = subst Sent (sym (how_is (sending.Kill n) how is)) s in
    p.took
order_taken old new before after (effect.Reply c) rest how first is s = let e : ◌≡◌ {A = Option Sending} None (Some how) = is in cc
order_taken old new before after effect.Ready rest how first is s =
    let up : Note = note.Up (own_number (state_of old.core).phase) in
    let Sent : Sending → Type 0 = λ h. IsSent h old new before after in
    let p : IsTold up old new before after = subst Sent (sym (how_is (sending.Tell up) how is)) s in
    p.took ∙ ap (λ (l : List Effect). record before { notes = before.notes ++ told up (first_end l) ∷ [] }) first
order_taken old new before after (effect.End e) rest how first is s =
    let ended : Note = end_note (own_number (state_of old.core).phase) e in
    let Sent : Sending → Type 0 = λ h. IsSent h old new before after in
    let p : IsTold ended old new before after = subst Sent (sym (how_is (sending.Tell ended) how is)) s in
    p.took ∙ ap (λ (l : List Effect). record before { notes = before.notes ++ told ended (first_end l) ∷ [] }) first

-- one order more
one_more : (core : View) (first : ℕ) (xs : List Effect) (x : Effect) (t : Taken) → after_orders core first (xs ++ x ∷ []) t ≡ after_order core first x (after_orders core first xs t)
one_more core first [] x t = refl
one_more core first (y ∷ ys) x t = one_more core first ys x (after_order core first y t)

-- none yet
pub sent_none : (o : OfficeView) (t : Taken) → SentOrders o o t t
sent_none o t = record { orders = []; outbox = refl; count = omega arith; core = refl; first_slot = refl; took = refl }

-- after each try
pub sent_again : (how : Flushed) (old between new : OfficeView) (before so_far after : Taken) (refusals later : ℕ) → SentOrders old between before so_far → Flushes how between new so_far after refusals later → SentOrders old new before after
sent_again flushed.Empty old between new before so_far after refusals later s f =
    let Now : OfficeView → Type 0 = λ o. SentOrders old o before after in
    let Took : Taken → Type 0 = λ t. SentOrders old between before t in
    subst Now (sym f.1) (subst Took (sym f.2) s)
sent_again flushed.Sent old between new before so_far after refusals later s f =
    let x : Effect = f.0.first.order in
    let more = f.0.count in
    let few = s.count in
    let lengths = length-append s.orders (x ∷ []) in
    record {
      orders = s.orders ++ x ∷ [];
      outbox = s.outbox ∙ ap (λ (l : List Effect). s.orders ++ l) f.0.outbox ∙ sym (append_assoc s.orders (x ∷ []) new.outbox);
      count = omega (arith, more, few, lengths);
      core = f.0.core ∙ s.core;
      first_slot = f.0.first_slot ∙ s.first_slot;
      took = order_taken between new so_far after x f.0.first.rest f.0.how f.0.first.outbox f.0.first.sends f.0.is_sent
          ∙ ap (λ (c : View). after_order c between.first_slot x so_far) s.core
          ∙ ap (λ (n : ℕ). after_order old.core n x so_far) s.first_slot
          ∙ ap (λ (t : Taken). after_order old.core old.first_slot x t) s.took
          ∙ sym (one_more old.core old.first_slot s.orders x before);
    }
sent_again flushed.Refused old between new before so_far after refusals later s f =
    let Took : Taken → Type 0 = λ t. SentOrders old new before t in
    subst Took (sym f.1)
    (record {
      orders = s.orders;
      outbox = s.outbox ∙ ap (λ (l : List Effect). s.orders ++ l) (sym f.0.outbox);
      count = f.0.count ∙ s.count;
      core = f.0.core ∙ s.core;
      first_slot = f.0.first_slot ∙ s.first_slot;
      took = s.took;
    })
