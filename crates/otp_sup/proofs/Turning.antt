-- A turn: memory is there or is taken, and then at most one event happens.
use Rattle.std.proofs.Common.{◌≡◌, ℕ, ◌+◌, ◌<◌, List, [], ◌∷◌, ◌++◌, Option, None, append-nil, ap, arith, length, refl, sym, ◌∙◌, subst}
use Rattle.std.proofs.lemmas.List.{map-append}
use Rattle.std.specs.Prelude.{All, MatchOption, MatchResult, Result, Ok, Some}
use Rattle.otp_core.specs.View.{state_of, stored_of}
use Rattle.otp_rules.specs.Counts.{counts_of}
use Rattle.otp_rules.specs.declared.ending.SupEnd.{SupEnd}
use Rattle.otp_rules.specs.declared.event.Effect.{Effect}
use Rattle.otp_rules.specs.declared.event.Event.{Event}
use Rattle.otp_rules.specs.declared.event.Item.{Item}
use Rattle.otp_rules.specs.declared.event.Kind.{Kind}
use Rattle.otp_rules.specs.declared.event.Kind.TheVariants as kind
use Rattle.otp_rules.specs.Needs.{needs_number, numbers_of}
use Rattle.otp_rules.specs.State.{State}
use Rattle.otp_rules.specs.Step.{step}
use Rattle.otp_rules.specs.Waits.{starts_waiting}
use Rattle.otp_signals.specs.declared.signal.Signal.{Signal}
use Rattle.otp_signals.specs.declared.view.Holding.{Holding}
use Rattle.otp_spec.specs.Supervisor.{Supervisor}
use Rattle.otp_bodies.specs.Bodies.{bodies_in, calls_waiting}
use Rattle.otp_bodies.specs.Ends.{told_with}
use Rattle.otp_bodies.specs.Letters.{carries_body, one_if}
use Rattle.otp_bodies.specs.Messages.{items_in, message}
use Rattle.otp_bodies.specs.declared.bodies.Kept.{Kept}
use Rattle.otp_bodies.specs.declared.letter.Message.{Message}
use Rattle.otp_bodies.specs.declared.told.ToldEnd.{ToldEnd}
use Rattle.otp_signals.specs.Counts.{Publishing, after_publish}
use Rattle.otp_inbox.specs.Tokens.{TakerState}
use Rattle.otp_bodies.specs.declared.office.turns.TurnAnswer.{TurnAnswer}
use Rattle.otp_bodies.specs.declared.office.turns.TurnAnswer.TheVariants as answer
use Rattle.otp_bodies.specs.declared.office.turns.TurnFault.{TurnFault}
use Rattle.otp_bodies.specs.Offices.{OfficeView}
use Rattle.otp_sup.specs.Facts.{HasBodies, IsTable, TableView}
use Rattle.otp_sup.specs.Moves.{bodies_after}
use Rattle.otp_sup.specs.Published.{AreCounted, counts_along}
use Rattle.otp_sup.specs.Shares.{gave, one_turn}
use Rattle.otp_sup.specs.Told.{ends_told_in}
use Rattle.otp_bodies.specs.Orders.{orders_in, starts_in}
use Rattle.otp_sup.specs.Turns.{Did, Published, Refused, Took, TookOrEmpty, Turned}
use Rattle.otp_bodies.specs.Events.{Happened, IsRefusal, Readied, drawn_by, due_kind, item_of, items_of}
use Rattle.otp_bodies.specs.Answers.{early_answer}
use Rattle.otp_sup.proofs.Calls.{readied_state}
use Rattle.otp_sup.proofs.Flushing.{readied_bodies}
use Rattle.otp_sup.proofs.Planned.{planned}
use Rattle.otp_sup.proofs.Published.{counts_happened, counts_same}
use Rattle.otp_sup.proofs.Told.{ends_on, ends_same, ends_still}
use Rattle.otp_bodies.proofs.Keeps.{none_taken, one_taken}
use Rattle.otp_bodies.proofs.Readying.{readied_base, readied_before, readied_cut, readied_history, readied_stored}
use Rattle.otp_bodies.proofs.Shared.{sent_readied, started_on, turned_on}
use Rattle.otp_bodies.proofs.Telling.{told_on, told_same, told_still}

-- what happened once memory was taken happened to what was there before
pub readied_happened : (old mid new : OfficeView) (reading : ℕ) (k : Kind) → Readied old mid → Happened reading k mid new → Happened reading k old new
readied_happened old mid new reading k r h =
    let e : Event = record { reading = reading; number = h.number; kind = k } in
    let same : state_of mid.core ≡ state_of old.core = readied_state old mid r in
    record {
      number = h.number;
      history = h.history ∙ ap (λ (l : List Event). l ++ e ∷ []) (readied_history old mid r);
      stored = h.stored ∙ ap (λ (l : List Event). l ++ e ∷ []) (readied_stored old mid r);
      cut = h.cut ∙ readied_cut old mid r;
      needed = h.needed ∙ ap (λ (s : State). needs_number s reading k) same;
      rises = λ n is. subst (λ (l : List Event). All (λ (m : ℕ). m < n) (numbers_of l)) (readied_history old mid r) (h.rises n is);
      outbox = h.outbox ∙ ap (λ (s : State). orders_in (step s e).orders) same;
      base = h.base ∙ readied_base old mid r;
      sent = h.sent ∙ r.sent;
      same_sent = h.same_sent ∙ sent_readied old mid r;
      owner = h.owner ∙ ap (λ (o : Holding). drawn_by h.number o) r.owner;
      first_slot = h.first_slot ∙ r.first_slot;
    }

-- the turn of a table that had nothing else to do
pub took_turn : (number reading : ℕ) (told : Signal) (old new : TableView) → early_answer old.office number ≡ None → due_kind (state_of old.office.core) number reading told ≡ None → Took reading old new
    → Turned number reading told old new (Ok answer.Took)
took_turn number reading told old new early due took =
    let said : TurnAnswer = answer.Took in
    let result : Result TurnAnswer TurnFault = Ok said in
    let Due : Option Kind → Type 0 = λ d. MatchOption d (TookOrEmpty reading old new said) (λ k. Did reading k old new said) in
    let Early : Option (Result TurnAnswer TurnFault) → Type 0 = λ o. MatchOption o
    (MatchResult result (λ a. MatchOption (due_kind (state_of old.office.core) number reading told) (TookOrEmpty reading old new a) (λ k. Did reading k old new a)) (λ why. Refused old new × IsRefusal old.office why))
    (λ e. (result ≡ e) × (new ≡ old)) in
    subst Early (sym early) (subst Due (sym due) took)

-- what was taken after nothing but memory was
pub took_since : (reading : ℕ) (old mid new : TableView) → Refused old mid → Took reading mid new → Took reading old new
took_since reading old mid new r t =
    let later = state_of new.office.core in
    record {
      item = t.item;
      end = t.end;
      happened = readied_happened _ _ _ _ _ r.office t.happened;
      taken = t.taken ∙ ap (λ (k : TakerState Message). gave one_turn (record k { taken = k.taken ++ message t.item t.end ∷ [] })) r.taker;
      bodies = t.bodies
          ∙ ap (λ (s : State). bodies_after s later (kind.Took t.item) mid.bodies) (readied_state _ _ r.office)
          ∙ ap (λ (l : List Kept). bodies_after (state_of old.office.core) later (kind.Took t.item) l) r.bodies;
      count = t.count ∙ ap (λ (l : List Kept). bodies_in l + one_if (carries_body t.item)) r.bodies;
      counts = t.counts ∙ ap (λ (p : Publishing). after_publish (counts_of later) p) r.counts;
      comes = t.comes;
      ends = t.ends
          ∙ ap (λ (l : List Event). mid.ends_told ++ told_with (length l) t.item t.end) (readied_stored _ _ r.office)
          ∙ ap (λ (l : List ToldEnd). l ++ told_with (length (stored_of old.office.core)) t.item t.end) r.ends;
    }

-- a letter was taken, and then it was taken apart
pub taken_apart : (old later : TakerState Message) (x item : Item) (e end : Option SupEnd) → later ≡ record old { taken = old.taken ++ message x e ∷ [] } → item ≡ x → end ≡ e
    → later ≡ record old { taken = old.taken ++ message item end ∷ [] }
taken_apart old later x item e end is same also =
    is
    ∙ ap (λ (i : Item). record old { taken = old.taken ++ message i e ∷ [] }) (sym same)
    ∙ ap (λ (o : Option SupEnd). record old { taken = old.taken ++ message item o ∷ [] }) (sym also)

-- an end that is kept is the one that came
pub kept_end : (before after : List ToldEnd) (event stored : ℕ) (x : Item) (came : Option SupEnd) (end : SupEnd) → event ≡ stored → came ≡ Some end → after ≡ before ++ told_with event x (Some end)
    → after ≡ before ++ told_with stored x came
kept_end before after event stored x came end place is kept =
    kept ∙ ap (λ (n : ℕ). before ++ told_with n x (Some end)) place ∙ ap (λ (e : Option SupEnd). before ++ told_with stored x e) (sym is)

-- and none is where none came
pub kept_none : (before : List ToldEnd) (stored : ℕ) (x : Item) (came : Option SupEnd) → came ≡ None → before ≡ before ++ told_with stored x came
kept_none before stored x came is = sym (append-nil before) ∙ ap (λ (e : Option SupEnd). before ++ told_with stored x e) (sym is)

-- a table keeps what it kept where nothing but memory was taken
pub same_table : (plans : ℕ → Option Supervisor) (old mid : TableView) → Refused old mid → IsTable plans old → IsTable plans mid
same_table plans old mid r i =
    let own = ap (λ (t : TakerState Message). t.inbox) r.taker in
    let base = readied_base _ _ r.office in
    let history = readied_history _ _ r.office in
    let taken = ap (λ (t : TakerState Message). t.taken) r.taker in
    record {
      plan = planned plans _ _ _ _ base own i.plan;
      taken = ap items_in taken ∙ i.taken ∙ ap items_of (sym history);
      calls = ap calls_waiting r.bodies ∙ i.calls ∙ ap (λ (s : State). starts_waiting s.waiting) (sym (readied_state _ _ r.office));
      bodies = subst (λ (l : List Kept). HasBodies mid.office l) (sym r.bodies) (readied_bodies _ _ old.bodies r.office i.bodies);
      counts = counts_same plans _ _ old.office.core mid.office.core mid.counts.published own base history
          (subst (λ (p : Publishing). AreCounted (plans old.taker.inbox) (counts_along old.office.core.base old.office.core.history) p.published) (sym r.counts) i.counts);
      told = told_same _ _ _ _ (readied_stored _ _ r.office) r.ends i.told;
      ends = r.ends ∙ ends_same old.office.core mid.office.core _ _ _ (readied_cut _ _ r.office) history taken i.ends;
      starts = ap (λ (t : TakerState Message). t.given.starts) r.taker ∙ i.starts ∙ sym (ap (λ (l : List Effect). length (starts_in l)) (sent_readied _ _ r.office));
      turns =
          let given = ap (λ (t : TakerState Message). t.given.turns) r.taker in
          let finds = ap (λ (t : TakerState Message). t.empty_finds) r.taker in
          let events = ap (λ (l : List Event). length l) history in
          let before = i.turns in
          omega (arith, given, finds, events, before);
    }

-- and where it found its inbox empty
pub empty_table : (plans : ℕ → Option Supervisor) (mid : TableView) (later : TakerState Message) → later ≡ gave one_turn (record mid.taker { empty_finds = mid.taker.empty_finds + 1 }) → IsTable plans mid
    → IsTable plans (record mid { taker = later })
empty_table plans mid later is i =
    let own = ap (λ (t : TakerState Message). t.inbox) is in
    let taken = ap (λ (t : TakerState Message). t.taken) is in
    record {
      plan = planned plans _ _ _ _ refl own i.plan;
      taken = ap items_in taken ∙ i.taken;
      calls = i.calls;
      bodies = i.bodies;
      counts = counts_same plans _ _ mid.office.core mid.office.core mid.counts.published own refl refl i.counts;
      told = i.told;
      ends = ends_same mid.office.core mid.office.core _ _ _ refl refl taken i.ends;
      starts =
          let given = ap (λ (t : TakerState Message). t.given.starts) is in
          let before = i.starts in
          omega (arith, given, before);
      turns =
          let given = ap (λ (t : TakerState Message). t.given.turns) is in
          let finds = ap (λ (t : TakerState Message). t.empty_finds) is in
          let before = i.turns in
          omega (arith, given, finds, before);
    }

-- where its calls and bodies are after an event, by where they were before it
abbrev pub MovesOn : TableView → TableView → Type 0
MovesOn old new =
    (calls_waiting old.bodies ≡ starts_waiting (state_of old.office.core).waiting → calls_waiting new.bodies ≡ starts_waiting (state_of new.office.core).waiting)
    × (calls_waiting old.bodies ≡ starts_waiting (state_of old.office.core).waiting → HasBodies old.office old.bodies → HasBodies new.office new.bodies)

-- and where an event happened that took no item
pub did_table : (plans : ℕ → Option Supervisor) (reading : ℕ) (k : Kind) (mid new : TableView) → Happened reading k mid.office new.office → item_of k ≡ None → new.taker ≡ gave one_turn mid.taker → MovesOn mid new
    → Published mid new → new.ends_told ≡ mid.ends_told → IsTable plans mid → IsTable plans new
did_table plans reading k mid new h none given moves published told i =
    let own = ap (λ (t : TakerState Message). t.inbox) given in
    let taken = ap (λ (t : TakerState Message). t.taken) given in
    let same = readied_before mid.office in
    record {
      plan = planned plans _ _ _ _ h.base own i.plan;
      taken = ap items_in taken ∙ i.taken ∙ sym (none_taken _ _ _ _ h none);
      calls = moves.0 i.calls;
      bodies = moves.1 i.calls i.bodies;
      counts = counts_happened plans _ _ _ _ _ _ _ mid.counts.published _ own same h (ap (λ (p : Publishing). p.published) published) i.counts;
      told = told_same _ _ _ _ refl told (told_still _ _ _ _ _ h i.told);
      ends = told ∙ i.ends ∙ ends_still _ _ _ _ mid.taker.taken h none ∙ ap (λ (l : List Message). ends_told_in new.office.core l) (sym taken);
      starts =
          let starts = ap (λ (t : TakerState Message). t.given.starts) given in
          let before = started_on _ _ _ _ _ _ same h i.starts in
          omega (arith, starts, before);
      turns =
          let turns = ap (λ (t : TakerState Message). t.given.turns) given in
          let finds = ap (λ (t : TakerState Message). t.empty_finds) given in
          turned_on _ _ _ _ _ _ _ _ _ same h i.turns turns finds;
    }

-- and where an item was taken
pub took_table : (plans : ℕ → Option Supervisor) (reading : ℕ) (mid new : TableView) → Took reading mid new → MovesOn mid new → IsTable plans mid → IsTable plans new
took_table plans reading mid new t moves i =
    let h = t.happened in
    let own = ap (λ (k : TakerState Message). k.inbox) t.taken in
    let taken = ap (λ (k : TakerState Message). k.taken) t.taken in
    let same = readied_before mid.office in
    record {
      plan = planned plans _ _ _ _ h.base own i.plan;
      taken = ap items_in taken
          ∙ map-append (λ (m : Message). m.item) mid.taker.taken (message t.item t.end ∷ [])
          ∙ ap (λ (l : List Item). l ++ t.item ∷ []) i.taken
          ∙ sym (one_taken _ _ _ _ h);
      calls = moves.0 i.calls;
      bodies = moves.1 i.calls i.bodies;
      counts = counts_happened plans _ _ _ _ _ _ _ mid.counts.published _ own same h (ap (λ (p : Publishing). p.published) t.counts) i.counts;
      told = told_same _ _ _ _ refl t.ends (told_on _ _ _ t.item t.end _ h t.comes i.told);
      ends = t.ends
          ∙ ap (λ (l : List ToldEnd). l ++ told_with (length (stored_of mid.office.core)) t.item t.end) i.ends
          ∙ ends_on _ _ _ t.item t.end mid.taker.taken h i.taken
          ∙ ap (λ (l : List Message). ends_told_in new.office.core l) (sym taken);
      starts =
          let starts = ap (λ (k : TakerState Message). k.given.starts) t.taken in
          let before = started_on _ _ _ _ _ _ same h i.starts in
          omega (arith, starts, before);
      turns =
          let turns = ap (λ (k : TakerState Message). k.given.turns) t.taken in
          let finds = ap (λ (k : TakerState Message). k.empty_finds) t.taken in
          turned_on _ _ _ _ _ _ _ _ _ same h i.turns turns finds;
    }
