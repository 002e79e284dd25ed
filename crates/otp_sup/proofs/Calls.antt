-- The calls with which bodies wait, and how many bodies there are, after an event.
use Rattle.std.specs.Prelude.{◌≡◌, ◌⊎◌, ℕ, ◌++◌, ◌&&◌, not, Bool, true, false, List, [], ◌∷◌, Option, None, Some, refl, if◌then◌else◌, is_some, length, drop, nat_lt, slice_get}
use Rattle.std.specs.List.{cons_option, list_any}
use Rattle.std.proofs.Common.{◌∙◌, ap, sym, arith, append-nil, inl, inr, ⊎_elim}
use Rattle.std.proofs.lemmas.Bool.{false≢true, cond_both, lt-ltb}
use Rattle.std.proofs.lemmas.List.Elements.{filter_map-append}
use Rattle.otp_reason.specs.declared.note.Note.{Note}
use Rattle.otp_rules.specs.declared.event.Item.{Item}
use Rattle.otp_rules.specs.declared.event.Item.TheVariants as item
use Rattle.otp_rules.specs.declared.event.Kind.{Kind}
use Rattle.otp_rules.specs.declared.event.Kind.TheVariants as kind
use Rattle.otp_rules.specs.declared.event.Waiting.{Waiting}
use Rattle.otp_rules.specs.declared.event.Waiting.TheVariants as waiting
use Rattle.otp_rules.specs.Homes.{is_start_call}
use Rattle.otp_rules.specs.State.{State, is_over}
use Rattle.otp_rules.specs.declared.event.Event.{Event}
use Rattle.otp_rules.specs.Step.{step}
use Rattle.otp_rules.specs.Run.{RunGoesOn, state_after}
use Rattle.otp_rules.specs.Waits.{StartsWait, start_in, start_waiting, starts_left, starts_waiting}
use Rattle.otp_core.specs.View.{state_of}
use Rattle.otp_bodies.specs.declared.port.Flushed.{Flushed}
use Rattle.otp_bodies.specs.declared.port.Flushed.TheVariants as flushed
use Rattle.otp_bodies.specs.Offices.{Begins, OfficeView}
use Rattle.otp_bodies.specs.Events.{Happened, Readied, is_any_waiting}
use Rattle.otp_table.specs.declared.row.Row.{Row}
use Rattle.otp_table.specs.Rows.{has_slot}
use Rattle.otp_bodies.specs.declared.bodies.Kept.{Kept}
use Rattle.otp_bodies.specs.declared.bodies.Origin.{Origin}
use Rattle.otp_bodies.specs.declared.bodies.Origin.TheVariants as origin
use Rattle.otp_bodies.specs.declared.bodies.BodyPlace.{BodyPlace}
use Rattle.otp_bodies.specs.declared.bodies.BodyPlace.TheVariants as placed
use Rattle.otp_bodies.specs.Letters.{is_end_note}
use Rattle.otp_sup.specs.Moves.{bodies_after, home_of, is_start_item, is_start_waiting, is_waited_for, let_go, moved, received, slot_given}
use Rattle.otp_bodies.specs.Bodies.{bodies_sent, calls_waiting, came_for, home_or_free, is_at_home, is_away, is_away_from, is_free_place, is_home_of, is_waiting, left_home, move_first, opened, opened_place, place_among, place_of_call, place_without_line, settled, stray, taken_up, waiting_as, waiting_call, without_first}

-- a body more: it waits with no call
put_calls : (kept : List Kept) (b : Kept) → waiting_call b ≡ None → calls_waiting (kept ++ b ∷ []) ≡ calls_waiting kept
put_calls kept b none =
    filter_map-append waiting_call kept (b ∷ []) ∙ ap (λ (c : Option ℕ). calls_waiting kept ++ cons_option c []) none ∙ append-nil (calls_waiting kept)

-- a body moves, that waits with no call before or after
moved_calls : (test : Kept → Bool) (to : BodyPlace) (kept : List Kept) → ((b : Kept) → test b ≡ true → waiting_call (record b { place = to }) ≡ waiting_call b) → calls_waiting (move_first test to kept) ≡ calls_waiting kept
moved_calls test to [] same = refl
moved_calls test to (b ∷ bs) same =
    cond_both (test b) (record b { place = to } ∷ bs) (b ∷ move_first test to bs) (λ (l : List Kept). calls_waiting l ≡ calls_waiting (b ∷ bs))
    (λ t. ap (λ (c : Option ℕ). cons_option c (calls_waiting bs)) (same b t))
    (λ _. ap (λ (cs : List ℕ). cons_option (waiting_call b) cs) (moved_calls test to bs same))

home_calls : (slot : ℕ) (b : Kept) → is_away slot b ≡ true → waiting_call (record b { place = placed.Home slot }) ≡ waiting_call b
home_calls slot b away = of b.origin b.place away
  where
    of : (o : Origin) (at : BodyPlace) → is_away_from slot at ≡ true → waiting_as o (placed.Home slot) ≡ waiting_as o at
    of (origin.Spec k) at h = refl
    of origin.Nobody at h = refl
    of (origin.Call c) (placed.Home k) h = refl
    of (origin.Call c) placed.Waiting h = absurd (false≢true h)
    of (origin.Call c) placed.Free h = refl
    of (origin.Call c) (placed.Away k) h = refl

came_calls : (home : Option ℕ) (kept : List Kept) → calls_waiting (came_for home kept) ≡ calls_waiting kept
came_calls None kept = put_calls kept stray refl
came_calls (Some slot) kept =
    let b : Kept = record { origin = origin.Nobody; place = place_without_line slot kept } in
    cond_both (list_any (is_away slot) kept) (move_first (is_away slot) (placed.Home slot) kept) (kept ++ b ∷ []) (λ (l : List Kept). calls_waiting l ≡ calls_waiting kept)
    (λ _. moved_calls (is_away slot) (placed.Home slot) kept (home_calls slot))
    (λ _. put_calls kept b refl)

free_calls : (o : Origin) (slot : Option ℕ) → waiting_as o (home_or_free slot) ≡ None
free_calls (origin.Spec k) slot = refl
free_calls origin.Nobody slot = refl
free_calls (origin.Call c) None = refl
free_calls (origin.Call c) (Some slot) = refl

-- the first that waits is taken up
taken_calls : (slot : Option ℕ) (kept : List Kept) → calls_waiting (move_first is_waiting (home_or_free slot) kept) ≡ drop 1 (calls_waiting kept)
taken_calls slot [] = refl
taken_calls slot (b ∷ bs) = by_call (taken_calls slot bs) (waiting_call b) refl
  where
    by_call : calls_waiting (move_first is_waiting (home_or_free slot) bs) ≡ drop 1 (calls_waiting bs) → (x : Option ℕ) → waiting_call b ≡ x
        → calls_waiting (if is_some (waiting_call b) then record b { place = home_or_free slot } ∷ bs else b ∷ move_first is_waiting (home_or_free slot) bs) ≡ drop 1 (cons_option (waiting_call b) (calls_waiting bs))
    by_call rest None is =
        ap (λ (x : Option ℕ). calls_waiting (if is_some x then record b { place = home_or_free slot } ∷ bs else b ∷ move_first is_waiting (home_or_free slot) bs)) is
        ∙ ap (λ (x : Option ℕ). cons_option x (calls_waiting (move_first is_waiting (home_or_free slot) bs))) is
        ∙ rest
        ∙ sym (ap (λ (x : Option ℕ). drop 1 (cons_option x (calls_waiting bs))) is)
    by_call rest (Some c) is =
        ap (λ (x : Option ℕ). calls_waiting (if is_some x then record b { place = home_or_free slot } ∷ bs else b ∷ move_first is_waiting (home_or_free slot) bs)) is
        ∙ ap (λ (x : Option ℕ). cons_option x (calls_waiting bs)) (free_calls b.origin slot)
        ∙ sym (ap (λ (x : Option ℕ). drop 1 (cons_option x (calls_waiting bs))) is)

-- an item more waits
put_starts : (ws : List Waiting) (x : Waiting) → starts_waiting (ws ++ x ∷ []) ≡ starts_waiting ws ++ cons_option (start_waiting x) []
put_starts ws x = filter_map-append start_waiting ws (x ∷ [])

note_calls : (s : State) (rows : List Row) (x : Note) (kept : List Kept) → calls_waiting kept ≡ starts_waiting s.waiting → calls_waiting (received s rows (item.Note x) kept) ≡ starts_left (kind.Took (item.Note x)) s
note_calls s rows x kept same =
    cond_both (is_end_note x) (came_for (home_of s x) kept) kept (λ (l : List Kept). calls_waiting l ≡ calls_waiting kept) (λ _. came_calls (home_of s x) kept) (λ _. refl)
    ∙ same
    ∙ sym (cond_both (is_some s.follows && not (is_over s.phase)) (starts_waiting (s.waiting ++ waiting.Item (item.Note x) ∷ [])) (starts_waiting s.waiting) (λ (l : List ℕ). l ≡ starts_waiting s.waiting)
    (λ _. put_starts s.waiting (waiting.Item (item.Note x)) ∙ append-nil (starts_waiting s.waiting)) (λ _. refl))

-- a start call comes: its body waits with it where it waits
call_calls : (c : ℕ) (waits start : Bool) (slot : Option ℕ) (kept : List Kept) (ws : List Waiting) (x : Item) → start_in x ≡ (if start then Some c else None) → calls_waiting kept ≡ starts_waiting ws
    → calls_waiting (if start then kept ++ record { origin = origin.Call c; place = place_of_call waits slot } ∷ [] else kept) ≡ (if waits then starts_waiting (ws ++ waiting.Item x ∷ []) else starts_waiting ws)
call_calls c true true slot kept ws x is same =
    filter_map-append waiting_call kept (record { origin = origin.Call c; place = placed.Waiting } ∷ [])
    ∙ ap (λ (l : List ℕ). l ++ c ∷ []) same ∙ sym (put_starts ws (waiting.Item x) ∙ ap (λ (y : Option ℕ). starts_waiting ws ++ cons_option y []) is)
call_calls c false true slot kept ws x is same = put_calls kept (record { origin = origin.Call c; place = home_or_free slot }) (free_calls (origin.Call c) slot) ∙ same
call_calls c true false slot kept ws x is same = same ∙ sym (put_starts ws (waiting.Item x) ∙ ap (λ (y : Option ℕ). starts_waiting ws ++ cons_option y []) is ∙ append-nil (starts_waiting ws))
call_calls c false false slot kept ws x is same = same

start_item : (x : Item) (rest : List ℕ) → is_start_item x ≡ false → cons_option (start_in x) rest ≡ rest
start_item (item.Note _) rest h = refl
start_item (item.Call c call) rest h = ap (λ (b : Bool). cons_option (if b then Some c else None) rest) h

start_item-drop : (x : Item) (rest : List ℕ) → is_start_item x ≡ true → drop 1 (cons_option (start_in x) rest) ≡ rest
start_item-drop (item.Note _) rest h = absurd (false≢true h)
start_item-drop (item.Call c call) rest h = ap (λ (b : Bool). drop 1 (cons_option (if b then Some c else None) rest)) h

-- the first that waits is taken, with its body if it is a start call
first_calls : (slot : Option ℕ) (kept : List Kept) (ws : List Waiting) → calls_waiting kept ≡ starts_waiting ws → calls_waiting (taken_up (is_start_waiting (slice_get ws 0)) slot kept) ≡ starts_waiting (drop 1 ws)
first_calls slot kept [] same = same
first_calls slot kept (waiting.Retry k ∷ ws) same = same
first_calls slot kept (waiting.Item x ∷ ws) same = by_start (is_start_item x) refl
  where
    by_start : (b : Bool) → is_start_item x ≡ b → calls_waiting (taken_up (is_start_item x) slot kept) ≡ starts_waiting ws
    by_start true h =
        ap (λ (b : Bool). calls_waiting (taken_up b slot kept)) h ∙ taken_calls slot kept ∙ ap (λ (l : List ℕ). drop 1 l) same ∙ start_item-drop x (starts_waiting ws) h
    by_start false h = ap (λ (b : Bool). calls_waiting (taken_up b slot kept)) h ∙ same ∙ start_item x (starts_waiting ws) h

resumed_calls : (idle : Bool) (slot : Option ℕ) (kept : List Kept) (ws : List Waiting) → calls_waiting kept ≡ starts_waiting ws
    → calls_waiting (taken_up (idle && is_start_waiting (slice_get ws 0)) slot kept) ≡ (if idle then starts_waiting (drop 1 ws) else starts_waiting ws)
resumed_calls true slot kept ws same = first_calls slot kept ws same
resumed_calls false slot kept ws same = same

-- what the event does with bodies, before those of children that are gone are let go
moved_left : (s : State) (rows : List Row) (k : Kind) (kept : List Kept) → calls_waiting kept ≡ starts_waiting s.waiting → calls_waiting (moved s rows k kept) ≡ starts_left k s
moved_left s rows (kind.Opened own) kept same = same
moved_left s rows (kind.Took (item.Note x)) kept same = note_calls s rows x kept same
moved_left s rows (kind.Took (item.Call c call)) kept same = call_calls c (is_waited_for s) (is_start_call call) (slot_given s.rows rows) kept s.waiting (item.Call c call) refl same
moved_left s rows kind.Resumed kept same = resumed_calls (not (is_some s.follows) && not (is_over s.phase)) (slot_given s.rows rows) kept s.waiting same
moved_left s rows kind.Ticked kept same = same
moved_left s rows kind.Stopped kept same = same

-- the bodies are settled: those that wait go on, or wait no more
settled_one : (rows : List Row) (any : Bool) (o : Origin) (at : BodyPlace) → waiting_as o (place_among rows any at) ≡ (if any then waiting_as o at else None)
settled_one rows any (origin.Spec k) at = cond_both any (waiting_as (origin.Spec k) at) None (λ (x : Option ℕ). None ≡ x) (λ _. refl) (λ _. refl)
settled_one rows any origin.Nobody at = cond_both any (waiting_as origin.Nobody at) None (λ (x : Option ℕ). None ≡ x) (λ _. refl) (λ _. refl)
settled_one rows any (origin.Call c) (placed.Home k) =
    cond_both (list_any (has_slot k) rows) (placed.Home k) placed.Free (λ (p : BodyPlace). waiting_as (origin.Call c) p ≡ None) (λ _. refl) (λ _. refl)
    ∙ cond_both any None None (λ (x : Option ℕ). None ≡ x) (λ _. refl) (λ _. refl)
settled_one rows true (origin.Call c) placed.Waiting = refl
settled_one rows false (origin.Call c) placed.Waiting = refl
settled_one rows any (origin.Call c) placed.Free = cond_both any None None (λ (x : Option ℕ). None ≡ x) (λ _. refl) (λ _. refl)
settled_one rows any (origin.Call c) (placed.Away k) = cond_both any None None (λ (x : Option ℕ). None ≡ x) (λ _. refl) (λ _. refl)

pub settled_calls : (rows : List Row) (any : Bool) (kept : List Kept) → calls_waiting (settled rows any kept) ≡ (if any then calls_waiting kept else [])
settled_calls rows true [] = refl
settled_calls rows false [] = refl
settled_calls rows true (b ∷ bs) = ap (λ (x : Option ℕ). cons_option x (calls_waiting (settled rows true bs))) (settled_one rows true b.origin b.place) ∙ ap (λ (l : List ℕ). cons_option (waiting_call b) l) (settled_calls rows true bs)
settled_calls rows false (b ∷ bs) = ap (λ (x : Option ℕ). cons_option x (calls_waiting (settled rows false bs))) (settled_one rows false b.origin b.place) ∙ settled_calls rows false bs

opened_one : (n : List Row) (o : Origin) (at : BodyPlace) → waiting_as o (opened_place n o at) ≡ waiting_as o at
opened_one n (origin.Spec k) at = refl
opened_one n (origin.Call c) at = refl
opened_one n origin.Nobody at = refl

opened_calls : (n : List Row) (kept : List Kept) → calls_waiting (opened n kept) ≡ calls_waiting kept
opened_calls n [] = refl
opened_calls n (b ∷ bs) = ap (λ (x : Option ℕ). cons_option x (calls_waiting (opened n bs))) (opened_one n b.origin b.place) ∙ ap (λ (l : List ℕ). cons_option (waiting_call b) l) (opened_calls n bs)

let_go_calls : (later : State) (k : Kind) (kept : List Kept) → calls_waiting (let_go later k kept) ≡ (if is_any_waiting later then calls_waiting kept else [])
let_go_calls later (kind.Opened own) kept = opened_calls later.rows (settled [] (is_any_waiting later) kept) ∙ settled_calls [] (is_any_waiting later) kept
let_go_calls later (kind.Took x) kept = settled_calls later.rows (is_any_waiting later) kept
let_go_calls later kind.Resumed kept = settled_calls later.rows (is_any_waiting later) kept
let_go_calls later kind.Ticked kept = settled_calls later.rows (is_any_waiting later) kept
let_go_calls later kind.Stopped kept = settled_calls later.rows (is_any_waiting later) kept

-- where nothing waits no call does
none_wait : (ws : List Waiting) (cs : List ℕ) → (starts_waiting ws ≡ cs) ⊎ (ws ≡ []) → (if nat_lt 0 (length ws) then cs else []) ≡ starts_waiting ws
none_wait [] cs h = refl
none_wait (w ∷ ws) cs h =
    ap (λ (b : Bool). if b then cs else []) (lt-ltb 0 (length (w ∷ ws)) (omega arith))
    ∙ ⊎_elim (λ same. sym same) (λ (none : w ∷ ws ≡ []). absurd (let e : length (w ∷ ws) ≡ 0 = ap (λ (l : List Waiting). length l) none in omega (arith, e))) h

-- each start call that waits has its body with it, after the event too
pub calls_after : (s later : State) (k : Kind) (kept : List Kept) → (starts_waiting later.waiting ≡ starts_left k s) ⊎ (later.waiting ≡ []) → calls_waiting kept ≡ starts_waiting s.waiting
    → calls_waiting (bodies_after s later k kept) ≡ starts_waiting later.waiting
calls_after s later k kept waits same =
    let_go_calls later k (moved s later.rows k kept)
    ∙ ap (λ (cs : List ℕ). if is_any_waiting later then cs else []) (moved_left s later.rows k kept same)
    ∙ none_wait later.waiting (starts_left k s) waits

-- nothing waits before the first event
pub nothing_waits : (o : OfficeView) → Begins o.core.base → o.core.history ≡ [] → starts_waiting (state_of o.core).waiting ≡ []
nothing_waits o begins none =
    ap (λ (h : List Event). starts_waiting (state_after o.core.base h).waiting) none ∙ ap (λ (b : State). starts_waiting b.waiting) begins.is

-- the state after one event more is that of its step
pub later_is : (old new : OfficeView) (reading : ℕ) (k : Kind) → RunGoesOn → (h : Happened reading k old new) → state_of new.core ≡ (step (state_of old.core) (record { reading = reading; number = h.number; kind = k })).state
later_is old new reading k joined h =
    ap (λ (b : State). state_after b new.core.history) h.base
    ∙ ap (λ (l : List Event). state_after old.core.base l) h.history
    ∙ (joined old.core.base old.core.history (record { reading = reading; number = h.number; kind = k })).0

pub calls_happened : (old new : OfficeView) (reading : ℕ) (k : Kind) (kept : List Kept) → RunGoesOn → StartsWait → Happened reading k old new → calls_waiting kept ≡ starts_waiting (state_of old.core).waiting
    → calls_waiting (bodies_after (state_of old.core) (state_of new.core) k kept) ≡ starts_waiting (state_of new.core).waiting
calls_happened old new reading k kept joined law h same =
    let is = later_is old new reading k joined h in
    calls_after (state_of old.core) (state_of new.core) k kept
    (⊎_elim (λ left. inl (ap (λ (s : State). starts_waiting s.waiting) is ∙ left)) (λ over. inr (ap (λ (s : State). s.waiting) is ∙ over.0)) (law (state_of old.core) (record { reading = reading; number = h.number; kind = k })))
    same

-- nothing but memory was taken
pub readied_state : (old new : OfficeView) → Readied old new → state_of new.core ≡ state_of old.core
readied_state old new r = ap state_of r.core

-- a body that was had back waited with no call
pub without_calls : (test : Kept → Bool) (kept : List Kept) → ((b : Kept) → test b ≡ true → is_free_place b.place ≡ true) → calls_waiting (without_first test kept) ≡ calls_waiting kept
without_calls test [] free = refl
without_calls test (b ∷ bs) free =
    cond_both (test b) bs (b ∷ without_first test bs) (λ (l : List Kept). calls_waiting l ≡ calls_waiting (b ∷ bs))
    (λ t. sym (ap (λ (c : Option ℕ). cons_option c (calls_waiting bs)) (free_waits b.origin b.place (free b t))))
    (λ _. ap (λ (cs : List ℕ). cons_option (waiting_call b) cs) (without_calls test bs free))
  where
    free_waits : (o : Origin) (at : BodyPlace) → is_free_place at ≡ true → waiting_as o at ≡ None
    free_waits (origin.Spec k) at h = refl
    free_waits origin.Nobody at h = refl
    free_waits (origin.Call c) (placed.Home k) h = refl
    free_waits (origin.Call c) placed.Waiting h = absurd (false≢true h)
    free_waits (origin.Call c) placed.Free h = refl
    free_waits (origin.Call c) (placed.Away k) h = refl

-- a body that leaves home waited with no call
left_one : (slot : ℕ) (o : Origin) (at : BodyPlace) → is_home_of slot at ≡ true → waiting_as o (placed.Away slot) ≡ waiting_as o at
left_one slot (origin.Spec k) at h = refl
left_one slot origin.Nobody at h = refl
left_one slot (origin.Call c) (placed.Home k) h = refl
left_one slot (origin.Call c) placed.Waiting h = absurd (false≢true h)
left_one slot (origin.Call c) placed.Free h = refl
left_one slot (origin.Call c) (placed.Away k) h = refl

left_calls : (slot : Option ℕ) (kept : List Kept) → calls_waiting (left_home slot kept) ≡ calls_waiting kept
left_calls None kept = refl
left_calls (Some slot) kept = moved_calls (is_at_home slot) (placed.Away slot) kept (λ b t. left_one slot b.origin b.place t)

pub sent_calls : (how : Flushed) (slot : Option ℕ) (kept : List Kept) → calls_waiting (bodies_sent how slot kept) ≡ calls_waiting kept
sent_calls flushed.Empty slot kept = refl
sent_calls flushed.Sent slot kept = left_calls slot kept
sent_calls flushed.Refused slot kept = refl
