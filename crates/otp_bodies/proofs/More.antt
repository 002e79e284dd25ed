-- A port has what it had, and what it took besides.
use Rattle.std.specs.Prelude.{◌≡◌, ◌⊎◌, ℕ, ◌+◌, ◌<◌, ◌≤◌, ◌++◌, true, false, List, [], ◌∷◌, length}
use Rattle.otp_rules.specs.declared.event.Effect.{Effect}
use Rattle.std.proofs.Common.{◌∙◌, ap, arith, inl, inr, append-nil, append_assoc, sym}
use Rattle.otp_bodies.specs.declared.office.orders.Sending.{Sending}
use Rattle.otp_bodies.specs.declared.office.orders.Sending.TheVariants as sending
use Rattle.otp_bodies.specs.declared.port.Flushed.{Flushed}
use Rattle.otp_bodies.specs.declared.port.Flushed.TheVariants as flushed
use Rattle.otp_bodies.specs.declared.port.Launched.{Launched}
use Rattle.otp_bodies.specs.declared.port.ToldNote.{ToldNote}
use Rattle.otp_core.specs.Again.{starts_again}
use Rattle.otp_core.specs.View.{state_of}
use Rattle.otp_bodies.specs.Offices.{OfficeView}
use Rattle.std.proofs.lemmas.Bool.{false≢true}
use Rattle.otp_bodies.specs.Flushes.{Flushes, IsSent, first_end, was_sent}
use Rattle.otp_bodies.specs.Ports.{Taken, TookMore, launched, taken_by, told}

-- nothing besides
pub took_none : (before after : Taken) (refusals later : ℕ) → after ≡ before → refusals ≤ later → TookMore before after refusals later
took_none before after refusals later same le = record {
  processes = [];
  notes = [];
  took = same ∙ ap (λ (l : List Launched). taken_by l before.notes) (sym (append-nil before.processes)) ∙ ap (λ (l : List ToldNote). taken_by (before.processes ++ []) l) (sym (append-nil before.notes));
  refused = le;
}

took_process : (before after : Taken) (refusals later : ℕ) (p : Launched) → after ≡ record before { processes = before.processes ++ p ∷ [] } → refusals ≤ later → TookMore before after refusals later
took_process before after refusals later p is le = record {
  processes = p ∷ [];
  notes = [];
  took = is ∙ ap (λ (l : List ToldNote). taken_by (before.processes ++ p ∷ []) l) (sym (append-nil before.notes));
  refused = le;
}

took_note : (before after : Taken) (refusals later : ℕ) (n : ToldNote) → after ≡ record before { notes = before.notes ++ n ∷ [] } → refusals ≤ later → TookMore before after refusals later
took_note before after refusals later n is le = record {
  processes = [];
  notes = n ∷ [];
  took = is ∙ ap (λ (l : List Launched). taken_by l (before.notes ++ n ∷ [])) (sym (append-nil before.processes));
  refused = le;
}

sent_more : (how : Sending) (old new : OfficeView) (before after : Taken) (refusals later : ℕ) → IsSent how old new before after → refusals ≤ later → TookMore before after refusals later
sent_more (sending.Start id n) old new before after refusals later s le = took_process before after refusals later (launched n s.slot id (starts_again (state_of old.core).follows) true) s.took le
sent_more (sending.Ask n) old new before after refusals later s le = took_none before after refusals later s.took le
sent_more (sending.Kill n) old new before after refusals later s le = took_none before after refusals later s.took le
sent_more (sending.Tell x) old new before after refusals later s le = took_note before after refusals later (told x (first_end old.outbox)) s.took le

-- so it is after each order
pub flushes_more : (how : Flushed) (old new : OfficeView) (before after : Taken) (refusals later : ℕ) → Flushes how old new before after refusals later → TookMore before after refusals later
flushes_more flushed.Empty old new before after refusals later h = let same = h.3 in took_none before after refusals later h.2 (omega (arith, same))
flushes_more flushed.Sent old new before after refusals later h = let same = h.1 in sent_more h.0.how old new before after refusals later h.0.is_sent (omega (arith, same))
flushes_more flushed.Refused old new before after refusals later h = let less = h.2 in took_none before after refusals later h.1 (omega (arith, less))

-- and after two
pub more_again : (one two three : Taken) (a b c : ℕ) → TookMore one two a b → TookMore two three b c → TookMore one three a c
more_again one two three a b c first second =
    let x = first.refused in let y = second.refused in
    record {
      processes = first.processes ++ second.processes;
      notes = first.notes ++ second.notes;
      took = second.took
          ∙ ap (λ (t : Taken). taken_by (t.processes ++ second.processes) (t.notes ++ second.notes)) first.took
          ∙ ap (λ (l : List Launched). taken_by l ((one.notes ++ first.notes) ++ second.notes)) (append_assoc one.processes first.processes second.processes)
          ∙ ap (λ (l : List ToldNote). taken_by (one.processes ++ (first.processes ++ second.processes)) l) (append_assoc one.notes first.notes second.notes);
      refused = omega (arith, x, y);
    }

-- how many orders may still be sent where this is what became of the last one
abbrev pub left_after : Flushed → ℕ → ℕ
left_after flushed.Empty orders = 0
left_after flushed.Sent orders = orders + 1
left_after flushed.Refused orders = 0

pub flushes_less : (how : Flushed) (old new : OfficeView) (before after : Taken) (refusals later : ℕ) → Flushes how old new before after refusals later → (was : Flushed) → was_sent was ≡ true → left_after how (length new.outbox) < left_after was (length old.outbox)
flushes_less how old new before after refusals later h flushed.Empty is = absurd (false≢true is)
flushes_less how old new before after refusals later h flushed.Refused is = absurd (false≢true is)
flushes_less flushed.Empty old new before after refusals later h flushed.Sent is = omega arith
flushes_less flushed.Sent old new before after refusals later h flushed.Sent is = let l : length old.outbox ≡ length (h.0.first.order ∷ new.outbox) = ap (λ (xs : List Effect). length xs) h.0.outbox in omega (arith, l)
flushes_less flushed.Refused old new before after refusals later h flushed.Sent is = omega arith

-- what is so once this became of the last order
abbrev pub IsLast : Flushed → List Effect → ℕ → ℕ → Type 0
IsLast flushed.Empty outbox refusals later = outbox ≡ []
IsLast flushed.Sent outbox refusals later = Unit {0}
IsLast flushed.Refused outbox refusals later = refusals < later

pub flushes_last : (how : Flushed) (old new : OfficeView) (before after : Taken) (first refusals later : ℕ) → Flushes how old new before after refusals later → first ≤ refusals → IsLast how new.outbox first later
flushes_last flushed.Empty old new before after first refusals later h le = ap (λ (o : OfficeView). o.outbox) h.1 ∙ h.0
flushes_last flushed.Sent old new before after first refusals later h le = tt
flushes_last flushed.Refused old new before after first refusals later h le = let more = h.2 in omega (arith, le, more)

pub last_sent : (how : Flushed) (outbox : List Effect) (refusals later : ℕ) → IsLast how outbox refusals later → was_sent how ≡ false → (outbox ≡ []) ⊎ (refusals < later)
last_sent flushed.Empty outbox refusals later h other = inl h
last_sent flushed.Sent outbox refusals later h other = absurd (false≢true (sym other))
last_sent flushed.Refused outbox refusals later h other = inr h
