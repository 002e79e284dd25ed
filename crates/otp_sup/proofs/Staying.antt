-- Where no child goes, the bodies at home are still those of children: each row keeps its slot, and a body that comes home comes to the
-- slot of a row that was there before. And no body waits with its call, as nothing waits.
use Rattle.std.specs.Prelude.{◌≡◌, ◌⊎◌, ℕ, ◌==◌, ◌++◌, ◌||◌, not, Bool, true, false, List, [], ◌∷◌, Option, None, Some, refl, is_some, length, nat_lt}
use Rattle.std.specs.List.{list_any}
use Rattle.std.proofs.Common.{◌∙◌, ap, sym, subst, arith, ⊎_elim}
use Rattle.std.proofs.lemmas.Bool.{and_parts, cases_Bool, cond_both, eqb-true, false≢true, lt-ltb, not-true}
use Rattle.std.proofs.lemmas.List.Folds.{list_any-append}
use Rattle.otp_reason.specs.declared.note.Note.{Note}
use Rattle.otp_reason.specs.declared.note.Note.TheVariants as note
use Rattle.otp_table.specs.declared.row.Row.{Row}
use Rattle.otp_table.specs.Rows.{has_slot}
use Rattle.otp_rules.specs.declared.event.Event.{Event}
use Rattle.otp_rules.specs.declared.event.Item.TheVariants as item
use Rattle.otp_rules.specs.declared.event.Kind.{Kind}
use Rattle.otp_rules.specs.declared.event.Kind.TheVariants as kind
use Rattle.otp_rules.specs.declared.event.Waiting.{Waiting}
use Rattle.otp_rules.specs.Run.{RunGoesOn}
use Rattle.otp_rules.specs.State.{State, is_over}
use Rattle.otp_rules.specs.Step.{step}
use Rattle.otp_rules.specs.Waits.{starts_waiting}
use Rattle.otp_laws.specs.Stays.{StopKeepsChildren, UpKeepsChildren, keeps_row, slots_in}
use Rattle.otp_core.specs.View.{state_of}
use Rattle.otp_bodies.specs.Bodies.{AreThere, calls_waiting, came_for, come_home, has_body, is_at_home, is_away, is_home_of, is_waiting_place, move_first, place_without_line, stray}
use Rattle.otp_bodies.specs.Letters.{is_end_note}
use Rattle.otp_bodies.specs.Loose.{is_with_call}
use Rattle.otp_bodies.specs.declared.bodies.Kept.{Kept}
use Rattle.otp_bodies.specs.declared.bodies.Origin.TheVariants as origin
use Rattle.otp_bodies.specs.declared.bodies.BodyPlace.{BodyPlace}
use Rattle.otp_bodies.specs.declared.bodies.BodyPlace.TheVariants as placed
use Rattle.otp_bodies.proofs.Once.{any_unmoved, isnt}
use Rattle.otp_bodies.proofs.Owned.{AreOwn, none_waits}
use Rattle.otp_bodies.proofs.Placed.{or_split}
use Rattle.otp_bodies.specs.Offices.{OfficeView}
use Rattle.otp_bodies.specs.Events.{Happened, is_any_waiting}
use Rattle.otp_sup.specs.Moves.{NoneWaits, home_of, is_kept_at, keeps_children, moved, received}
use Rattle.otp_sup.proofs.Calls.{later_is}
use Rattle.otp_sup.proofs.Heeding.{Heeder, heeder}
use Rattle.otp_sup.proofs.Homes.{heeds_in, slot_among}

-- the event takes a note with which no child goes, and nothing waits
record IsCalm (s : State) (k : Kind) : Type 0 where
  x : Note
  takes : k ≡ kind.Took (item.Note x)
  keeps : is_kept_at s x ≡ true
  quiet : is_any_waiting s ≡ false

none_wait : (ws : List Waiting) → nat_lt 0 (length ws) ≡ false → ws ≡ []
none_wait [] h = refl
none_wait (w ∷ ws) h = absurd (false≢true (sym h ∙ lt-ltb 0 (length (w ∷ ws)) (omega arith)))

is_calm : (s : State) (k : Kind) → keeps_children s k ≡ true → IsCalm s k
is_calm s (kind.Took (item.Note x)) h =
    let parts = and_parts (is_kept_at s x) (not (is_any_waiting s)) h in
    record { x = x; takes = refl; keeps = parts.0; quiet = not-true (is_any_waiting s) parts.1 }
is_calm s (kind.Took (item.Call c x)) h = absurd (false≢true h)
is_calm s (kind.Opened own) h = absurd (false≢true h)
is_calm s kind.Resumed h = absurd (false≢true h)
is_calm s kind.Ticked h = absurd (false≢true h)
is_calm s kind.Stopped h = absurd (false≢true h)

-- the rows keep their slots, or the supervisor is over
slots_stay : UpKeepsChildren → StopKeepsChildren → (s : State) (e : Event) (x : Note) → e.kind ≡ kind.Took (item.Note x) → s.waiting ≡ [] → is_kept_at s x ≡ true
    → (slots_in (step s e).state.rows ≡ slots_in s.rows) ⊎ (is_over (step s e).state.phase ≡ true)
slots_stay up stop s e (note.Up p) is none keeps = up s e p is none
slots_stay up stop s e (note.Ignored p) is none keeps = absurd (false≢true keeps)
slots_stay up stop s e (note.Failed p r) is none keeps = absurd (false≢true keeps)
slots_stay up stop s e (note.Exit p r) is none keeps = stop s e p r is none (and_parts (is_some s.follows) (keeps_row p s.rows) keeps).1

any_slot : (slot : ℕ) (rows : List Row) → list_any (has_slot slot) rows ≡ list_any (λ (n : ℕ). n == slot) (slots_in rows)
any_slot slot [] = refl
any_slot slot (row ∷ rows) = ap (λ (b : Bool). (row.slot == slot) || b) (any_slot slot rows)

-- so a slot is a row's where it was one's before
same_slots : (old new : List Row) → slots_in new ≡ slots_in old → (slot : ℕ) → list_any (has_slot slot) new ≡ list_any (has_slot slot) old
same_slots old new same slot = any_slot slot new ∙ ap (λ (l : List ℕ). list_any (λ (n : ℕ). n == slot) l) same ∙ sym (any_slot slot old)

-- what passes a test once a body more is there, which doesn't, did so before
put_other : (t : Kept → Bool) (kept : List Kept) (b : Kept) → t b ≡ false → list_any t (kept ++ b ∷ []) ≡ true → list_any t kept ≡ true
put_other t kept b isnt h =
    or_split (list_any t kept) (list_any t (b ∷ [])) (list_any t kept ≡ true) (sym (list_any-append t kept (b ∷ [])) ∙ h)
    (λ before. before)
    (λ last. absurd (false≢true (sym (ap (λ (x : Bool). x || false) isnt) ∙ last)))

-- nor does one that comes for a child pass a test of places that neither its home nor a free place passes
come_other : (t : BodyPlace → Bool) (k : ℕ) (kept : List Kept) → t (placed.Home k) ≡ false → t placed.Free ≡ false → list_any (λ (b : Kept). t b.place) (come_home k kept) ≡ true → list_any (λ (b : Kept). t b.place) kept ≡ true
come_other t k kept home free =
    let at : Kept → Bool = λ b. t b.place in
    let b : Kept = record { origin = origin.Nobody; place = place_without_line k kept } in
    cond_both (list_any (is_away k) kept) (move_first (is_away k) (placed.Home k) kept) (kept ++ b ∷ []) (λ (l : List Kept). list_any at l ≡ true → list_any at kept ≡ true)
    (λ _. any_unmoved (is_away k) at (placed.Home k) kept (λ x. home))
    (λ _. put_other at kept b (cond_both (has_body k kept) placed.Free (placed.Home k) (λ (p : BodyPlace). t p ≡ false) (λ _. free) (λ _. home)))

-- it is at home for no other child,
came_there : (rows : List Row) (home : Option ℕ) (kept : List Kept) → ((slot : ℕ) → home ≡ Some slot → list_any (has_slot slot) rows ≡ true) → AreThere rows kept → AreThere rows (came_for home kept)
came_there rows None kept row there = λ slot has. there slot (put_other (is_at_home slot) kept stray refl has)
came_there rows (Some k) kept row there = λ slot has.
    ⊎_elim
    (λ (is : (k == slot) ≡ true). subst (λ (n : ℕ). list_any (has_slot n) rows ≡ true) (eqb-true k slot is) (row k refl))
    (λ (no : (k == slot) ≡ false). there slot (come_other (is_home_of slot) k kept no refl has))
    (cases_Bool (k == slot))

-- and waits with no call
came_without : (home : Option ℕ) (kept : List Kept) → list_any is_with_call kept ≡ false → list_any is_with_call (came_for home kept) ≡ false
came_without None kept none = isnt (list_any is_with_call (kept ++ stray ∷ [])) (λ some. false≢true (sym none ∙ put_other is_with_call kept stray refl some))
came_without (Some k) kept none = isnt (list_any is_with_call (come_home k kept)) (λ some. false≢true (sym none ∙ come_other is_waiting_place k kept refl refl some))

-- the slot to which a note brings a body home is a row's
home_there : (s : State) (x : Note) (slot : ℕ) → home_of s x ≡ Some slot → list_any (has_slot slot) s.rows ≡ true
home_there s x slot is =
    let by : Heeder x s.rows slot = heeder x s.rows slot (heeds_in s x slot is) in
    subst (λ (n : ℕ). list_any (has_slot n) s.rows ≡ true) by.same (slot_among s.rows by.row by.among)

received_there : (s : State) (rows : List Row) (x : Note) (kept : List Kept) → ((slot : ℕ) → list_any (has_slot slot) rows ≡ list_any (has_slot slot) s.rows) → AreThere s.rows kept → AreThere rows (received s rows (item.Note x) kept)
received_there s rows x kept same there =
    let here : AreThere rows kept = λ slot has. same slot ∙ there slot has in
    cond_both (is_end_note x) (came_for (home_of s x) kept) kept (AreThere rows)
    (λ _. came_there rows (home_of s x) kept (λ slot is. same slot ∙ home_there s x slot is) here)
    (λ _. here)

-- no body waits with its call once such an event has moved bodies
pub still_without : (s : State) (rows : List Row) (k : Kind) (kept : List Kept) → keeps_children s k ≡ true → NoneWaits s kept → list_any is_with_call (moved s rows k kept) ≡ false
still_without s rows k kept keeps waits =
    let calm : IsCalm s k = is_calm s k keeps in
    let none : list_any is_with_call kept ≡ false = waits calm.quiet in
    subst (λ (j : Kind). list_any is_with_call (moved s rows j kept) ≡ false) (sym calm.takes)
    (cond_both (is_end_note calm.x) (came_for (home_of s calm.x) kept) kept (λ (l : List Kept). list_any is_with_call l ≡ false) (λ _. came_without (home_of s calm.x) kept none) (λ _. none))

-- where the calls that wait are those of bodies that wait, and each body is its own
pub none_wait_quiet : (s : State) (kept : List Kept) → calls_waiting kept ≡ starts_waiting s.waiting → AreOwn kept → NoneWaits s kept
none_wait_quiet s kept calls own = λ quiet. none_waits kept own (calls ∙ ap (λ (ws : List Waiting). starts_waiting ws) (none_wait s.waiting quiet))

pub still_there : RunGoesOn → UpKeepsChildren → StopKeepsChildren → (old new : OfficeView) (reading : ℕ) (k : Kind) (kept : List Kept) → Happened reading k old new
    → keeps_children (state_of old.core) k ≡ true → is_over (state_of new.core).phase ≡ false → AreThere (state_of old.core).rows kept
    → AreThere (state_of new.core).rows (moved (state_of old.core) (state_of new.core).rows k kept)
still_there goes_on up stop old new reading k kept h keeps runs there =
    let s = state_of old.core in
    let later = state_of new.core in
    let calm : IsCalm s k = is_calm s k keeps in
    let e : Event = record { reading = reading; number = h.number; kind = k } in
    let is : later ≡ (step s e).state = later_is old new reading k goes_on h in
    subst (λ (j : Kind). AreThere later.rows (moved s later.rows j kept)) (sym calm.takes)
    (⊎_elim
    (λ same. received_there s later.rows calm.x kept (same_slots s.rows later.rows (ap (λ (x : State). slots_in x.rows) is ∙ same)) there)
    (λ over. absurd (false≢true (sym runs ∙ ap (λ (x : State). is_over x.phase) is ∙ over)))
    (slots_stay up stop s e calm.x calm.takes (none_wait s.waiting calm.quiet) calm.keeps))
