-- Where the bodies are once an order was sent, at first, and once a body was had back.
use Rattle.std.specs.Prelude.{◌≡◌, ℕ, ◌<◌, ◌≤◌, ◌==◌, ◌++◌, ◌||◌, not, Bool, true, false, List, [], ◌∷◌, Option, None, Some, Contains, IsSome, refl, is_some, position, unwrap_or}
use Rattle.std.specs.List.{cons_option, list_any}
use Rattle.std.proofs.Common.{◌∙◌, ap, sym, subst, arith, rules, ⊎_elim, get_or}
use Rattle.std.proofs.lemmas.Bool.{false≢true, cases_Bool, eqb-true, eq-eqb, and_parts}
use Rattle.otp_table.specs.declared.row.Row.{Row}
use Rattle.otp_table.specs.declared.row.RowState.{RowState}
use Rattle.otp_table.specs.declared.row.RowState.TheVariants.{Undefined, Starting, Up, Asked, Killed, Restarting}
use Rattle.otp_table.specs.Rows.{has_process, row_has}
use Rattle.otp_rules.specs.declared.event.Effect.{Effect}
use Rattle.otp_rules.specs.declared.event.Waiting.{Waiting}
use Rattle.otp_rules.specs.Homes.{is_ended, is_home}
use Rattle.otp_rules.specs.Run.{orders_of, state_after}
use Rattle.otp_rules.specs.Slots.{AreSlotted}
use Rattle.otp_rules.specs.State.{State}
use Rattle.otp_core.specs.View.{View, state_of}
use Rattle.otp_bodies.specs.declared.bodies.Kept.{Kept}
use Rattle.otp_bodies.specs.declared.bodies.Origin.{Origin}
use Rattle.otp_bodies.specs.declared.bodies.Origin.TheVariants as origin
use Rattle.otp_bodies.specs.declared.bodies.BodyPlace.{BodyPlace}
use Rattle.otp_bodies.specs.declared.bodies.BodyPlace.TheVariants as placed
use Rattle.otp_bodies.specs.declared.port.Flushed.{Flushed}
use Rattle.otp_bodies.specs.declared.port.Flushed.TheVariants as flushed
use Rattle.otp_bodies.specs.Bodies.{are_given, are_ready, bodies_sent, count_away, count_given, count_home, has_body, is_at_home, is_away, is_away_from, is_call, is_free_place, is_home_of, is_left_of, is_nobody, is_out, is_spec, is_stray, left_home, move_first, settled, without_first, count_opened}
use Rattle.otp_bodies.specs.Orders.{slot_started, started_by, starting_slot, orders_in, starts_in}
use Rattle.otp_bodies.specs.Offices.{AreApart, KeepsOffice, OfficeView, sent_of}
use Rattle.otp_sup.specs.Facts.{HasBodies, IsOut, IsRunning, KeepsBodies, is_unsent}
use Rattle.otp_bodies.specs.Flushes.{Flushes}
use Rattle.otp_bodies.specs.Ports.{Taken}
use Rattle.otp_bodies.specs.Rows.{slot_of}
use Rattle.otp_bodies.specs.Events.{Readied}
use Rattle.otp_sup.proofs.Calls.{readied_state}
use Rattle.otp_sup.proofs.Found.{contains_counts, in_list, same_slot}
use Rattle.otp_sup.proofs.Homes.{or_none}
use Rattle.otp_bodies.proofs.Placed.{any_left, away_had, away_leaves, away_left, away_settled, away_when_home, away_without, given_moved, given_settled, given_without, none_away, stays_when_left}
use Rattle.otp_bodies.proofs.Once.{any_unleft, any_unmoved, both_when_left, both_without, count_moved, count_settled, count_without, home_has_row, none_home}
use Rattle.otp_bodies.proofs.Owned.{first_own, left_own, without_own}
use Rattle.otp_rules.proofs.Counting.{found}
use Rattle.std.proofs.lemmas.List.Quantifiers.{position-Some}
use Rattle.otp_bodies.proofs.Slotted.{slot_read}

-- the slot of a process is that of the child that has it
pub slot_of_row : (rows : List Row) (p : ℕ) (row : Row) → AreApart rows → Contains rows row → has_process p row.state ≡ true → slot_of rows p ≡ row.slot
slot_of_row rows p row apart among has = by (position (row_has (has_process p)) rows) refl
  where
    by : (place : Option ℕ) → position (row_has (has_process p)) rows ≡ place → slot_of rows p ≡ row.slot
    by None is =
        let some = found (row_has (has_process p)) rows (contains_counts (row_has (has_process p)) rows row among has) in
        absurd (false≢true (ap (λ (o : Option ℕ). is_some o) (sym is) ∙ some))
    by (Some place) is =
        let at = position-Some (row_has (has_process p)) rows place row is in
        sym (slot_read rows p place row is) ∙ (apart (get_or rows place row) row p p (in_list rows place row at.0) among at.1 has).1 refl

home_ended : (ws : List Waiting) (p : ℕ) (state : RowState) → has_process p state ≡ true → is_home ws state ≡ true → list_any (is_ended p) ws ≡ true
home_ended ws p Undefined h home = absurd (false≢true h)
home_ended ws p (Starting q k) h home = subst (λ (n : ℕ). list_any (is_ended n) ws ≡ true) (eqb-true q p h) home
home_ended ws p (Up q) h home = subst (λ (n : ℕ). list_any (is_ended n) ws ≡ true) (eqb-true q p h) home
home_ended ws p (Asked q d) h home = subst (λ (n : ℕ). list_any (is_ended n) ws ≡ true) (eqb-true q p h) home
home_ended ws p (Killed q) h home = subst (λ (n : ℕ). list_any (is_ended n) ws ≡ true) (eqb-true q p h) home
home_ended ws p (Restarting k) h home = absurd (false≢true h)

-- the one start was sent: its child's body is away, all others are where they were
start_sent : (s : State) (p : ℕ) (row : Row) (kept : List Kept) → AreSlotted s.rows → AreApart s.rows → IsRunning s p row → KeepsBodies s (p ∷ []) kept → KeepsBodies s [] (move_first (is_at_home row.slot) (placed.Away row.slot) kept)
start_sent s p row kept own apart runs k =
    let unsent : is_unsent (p ∷ []) row.state ≡ true = or_none (has_process p row.state) ∙ runs.has in
    record {
      home = λ r among home. stays_when_left row.slot r.slot kept
          (λ same. false≢true (sym runs.lives ∙ home_ended s.waiting p row.state runs.has (subst (λ (x : Row). is_home s.waiting x.state ≡ true) (sym (same_slot s.rows row r own runs.among among same)) home)))
          (k.home r among home);
      unsent = λ r among h. absurd (false≢true h);
      one_start = tt;
      away = λ slot some. ⊎_elim
          (λ (is : (row.slot == slot) ≡ true). let out : IsOut s [] slot = record { row = row; p = p; runs = runs; same = eqb-true row.slot slot is; sent = refl } in out)
          (λ (isnt : (row.slot == slot) ≡ false).
          let old : IsOut s (p ∷ []) slot = k.away slot (omega (arith, some, away_left slot row.slot kept (λ same. false≢true (sym isnt ∙ eq-eqb row.slot slot same)))) in
          let out : IsOut s [] slot = record { row = old.row; p = old.p; runs = old.runs; same = old.same; sent = refl } in out)
          (cases_Bool (row.slot == slot));
      out = λ slot q live sent. ⊎_elim
          (λ (is : (row.slot == slot) ≡ true).
          subst (λ (n : ℕ). 0 < count_away n (move_first (is_at_home row.slot) (placed.Away row.slot) kept)) (eqb-true row.slot slot is) (away_leaves row.slot kept (k.unsent row runs.among unsent)))
          (λ (isnt : (row.slot == slot) ≡ false).
          let other : (p == q) ≡ true → ⊥ = λ same.
          false≢true (sym isnt ∙ eq-eqb row.slot slot ((apart row live.0.0 p q runs.among live.0.1 runs.has live.0.3).1 (eqb-true p q same) ∙ live.0.2)) in
          omega (arith, k.out slot q live (or_none (p == q) ∙ no_start (p == q) other), away_when_home slot row.slot kept))
          (cases_Bool (row.slot == slot));
      there = λ slot home. k.there slot (any_unmoved (is_at_home row.slot) (is_at_home slot) (placed.Away row.slot) kept (λ b. refl) home);
      one_body = λ slot. let few = k.one_body slot in omega (arith, few, both_when_left row.slot slot kept);
      given = given_moved (is_at_home row.slot) (placed.Away row.slot) (count_opened s.flags s.specs) kept refl k.given;
      one_given = λ n. let few = k.one_given n in omega (arith, few, count_moved n (is_at_home row.slot) (placed.Away row.slot) kept);
      own = left_own row.slot kept k.own;
    }
  where
    no_start : (b : Bool) → (b ≡ true → ⊥) → b ≡ false
    no_start false h = refl
    no_start true h = absurd (h refl)

-- the first order left the outbox
first_sent : (s : State) (first : Option ℕ) (rest : List ℕ) (kept : List Kept) → AreSlotted s.rows → AreApart s.rows → KeepsBodies s (cons_option first rest) kept → KeepsBodies s rest (left_home (slot_started s.rows first) kept)
first_sent s None rest kept own apart k = k
first_sent s (Some p) [] kept own apart k =
    let r : (row : Row) × IsRunning s p row = k.one_start in
    let Sent : ℕ → Type 0 = λ n. KeepsBodies s [] (move_first (is_at_home n) (placed.Away n) kept) in
    subst Sent (sym (slot_of_row s.rows p r.0 apart r.1.among r.1.has)) (start_sent s p r.0 kept own apart r.1 k)
first_sent s (Some p) (q ∷ rest) kept own apart k = absurd k.one_start

pub bodies_flushed : (how : Flushed) (old new : OfficeView) (before after : Taken) (refusals later : ℕ) (kept : List Kept) → KeepsOffice old → Flushes how old new before after refusals later → HasBodies old kept
    → HasBodies new (bodies_sent how (starting_slot old.outbox (state_of old.core).rows) kept)
bodies_flushed flushed.Empty old new before after refusals later kept keeps f has =
    let New : OfficeView → Type 0 = λ o. HasBodies o kept in
    subst New (sym f.1) has
bodies_flushed flushed.Refused old new before after refusals later kept keeps f has =
    let Core : View → Type 0 = λ c. KeepsBodies (state_of c) (starts_in old.outbox) kept in
    let Out : List Effect → Type 0 = λ l. KeepsBodies (state_of new.core) (starts_in l) kept in
    subst Out (sym f.0.outbox) (subst Core (sym f.0.core) has)
bodies_flushed flushed.Sent old new before after refusals later kept keeps f has =
    let s : State = state_of old.core in
    let x : Effect = f.0.first.order in
    let Old : List Effect → Type 0 = λ l. KeepsBodies s (starts_in l) kept in
    let Core : View → Type 0 = λ c. KeepsBodies (state_of c) (starts_in new.outbox) (left_home (starting_slot old.outbox s.rows) kept) in
    let Slot : Option ℕ → Type 0 = λ o. KeepsBodies s (starts_in new.outbox) (left_home o kept) in
    subst Core (sym f.0.core)
    (subst Slot (sym (ap (λ (l : List Effect). starting_slot l s.rows) f.0.outbox))
    (first_sent s (started_by x) (starts_in new.outbox) kept keeps.slots keeps.apart (subst Old f.0.outbox has)))

-- the child whose start is first to be sent has its body
start_has_body : (o : OfficeView) (kept : List Kept) (slot : ℕ) → KeepsOffice o → HasBodies o kept → starting_slot o.outbox (state_of o.core).rows ≡ Some slot → has_body slot kept ≡ true
start_has_body o kept slot keeps has is = by o.outbox refl
  where
    by : (l : List Effect) → o.outbox ≡ l → has_body slot kept ≡ true
    by [] e = absurd (let n : ◌≡◌ {A = Option ℕ} None (Some slot) = sym (ap (λ (m : List Effect). starting_slot m (state_of o.core).rows) e) ∙ is in search (rules, n))
    by (x ∷ xs) e = started (started_by x) (starts_in xs) (sym (ap (λ (m : List Effect). starting_slot m (state_of o.core).rows) e) ∙ is) (subst (λ (m : List Effect). KeepsBodies (state_of o.core) (starts_in m) kept) e has)
      where
        started : (first : Option ℕ) (rest : List ℕ) → slot_started (state_of o.core).rows first ≡ Some slot → KeepsBodies (state_of o.core) (cons_option first rest) kept → has_body slot kept ≡ true
        started None rest at k = absurd (let n : ◌≡◌ {A = Option ℕ} None (Some slot) = at in search (rules, n))
        started (Some p) [] at k =
            let r : (row : Row) × IsRunning (state_of o.core) p row = k.one_start in
            let same : slot_of (state_of o.core).rows p ≡ slot = ap (λ (m : Option ℕ). unwrap_or m slot) at in
            ap (λ (n : ℕ). has_body n kept) (sym same ∙ slot_of_row (state_of o.core).rows p r.0 keeps.apart r.1.among r.1.has) ∙ k.unsent r.0 r.1.among (or_none (has_process p r.0.state) ∙ r.1.has)
        started (Some p) (q ∷ rest) at k = absurd k.one_start

-- so it leaves with the process
pub start_leaves : {B : Type 0} (o : OfficeView) (kept : List Kept) (slot : Option ℕ) (body : Option B) → KeepsOffice o → HasBodies o kept → slot ≡ starting_slot o.outbox (state_of o.core).rows → ((k : ℕ) → slot ≡ Some k → has_body k kept ≡ true → IsSome body)
    → IsSome (starting_slot o.outbox (state_of o.core).rows) → IsSome body
start_leaves o kept slot body keeps has is leaves some = by (starting_slot o.outbox (state_of o.core).rows) refl
  where
    by : (x : Option ℕ) → starting_slot o.outbox (state_of o.core).rows ≡ x → IsSome body
    by None e = absurd (false≢true (subst (λ (x : Option ℕ). is_some x ≡ true) e some))
    by (Some k) e = leaves k (is ∙ e) (start_has_body o kept k keeps has e)

-- nothing but memory was taken
pub readied_bodies : (old new : OfficeView) (kept : List Kept) → Readied old new → HasBodies old kept → HasBodies new kept
readied_bodies old new kept r has =
    let At : State → Type 0 = λ s. KeepsBodies s (starts_in old.outbox) kept in
    let Out : List Effect → Type 0 = λ l. KeepsBodies (state_of new.core) (starts_in l) kept in
    subst Out (sym r.outbox) (subst At (sym (readied_state old new r)) has)

-- before the first event

none_out : (slot : ℕ) (kept : List Kept) → list_any is_out kept ≡ false → list_any (is_away slot) kept ≡ false
none_out slot [] h = refl
none_out slot (b ∷ bs) h =
    let parts : (is_out b ≡ false) × (list_any is_out bs ≡ false) = or_none_of (is_out b) (list_any is_out bs) h in
    ap (λ (x : Bool). x || list_any (is_away slot) bs) (near b.place parts.0) ∙ none_out slot bs parts.1
  where
    near : (at : BodyPlace) → not (Rattle.otp_bodies.specs.Bodies.is_here at) ≡ false → is_away_from slot at ≡ false
    near (placed.Home k) e = refl
    near placed.Waiting e = refl
    near placed.Free e = refl
    near (placed.Away k) e = absurd (false≢true (sym e))

    or_none_of : (a b : Bool) → (a || b) ≡ false → (a ≡ false) × (b ≡ false)
    or_none_of true b h = absurd (false≢true (sym h))
    or_none_of false b h = (refl, h)

append_none : (xs ys : List Effect) → xs ++ ys ≡ [] → ys ≡ []
append_none [] ys h = h
append_none (x ∷ xs) ys h = absurd (let e : ◌≡◌ {A = List Effect} (x ∷ (xs ++ ys)) [] = h in search (rules, e))

pub first_bodies : (o : OfficeView) (kept : List Kept) → KeepsOffice o → o.core.history ≡ [] → are_ready (count_opened o.core.base.flags o.core.base.specs) kept ≡ true → ((k : ℕ) → count_given k kept ≤ 1) → HasBodies o (settled [] false kept)
first_bodies o kept keeps none ready once =
    let s : State = state_of o.core in
    let is : s ≡ o.core.base = ap (λ h. state_after o.core.base h) none in
    let rows : s.rows ≡ [] = ap (λ (x : State). x.rows) (is ∙ keeps.begins.is) in
    let parts : (are_given (count_opened o.core.base.flags o.core.base.specs) kept ≡ true) × (not (list_any is_out kept) ≡ true) = and_parts (are_given (count_opened o.core.base.flags o.core.base.specs) kept) (not (list_any is_out kept)) ready in
    let near : (slot : ℕ) → count_away slot (settled [] false kept) ≡ 0 = λ slot. away_settled slot [] false kept ∙ none_away slot kept (none_out slot kept (isnt (list_any is_out kept) parts.1)) in
    let bare : (slot : ℕ) → count_home slot (settled [] false kept) ≡ 0 = λ slot. none_home slot (settled [] false kept) (no_home slot) in
    let empty : o.outbox ≡ [] = append_none (sent_of o) o.outbox (keeps.orders ∙ ap (λ h. orders_in (orders_of o.core.base h)) none) in
    let Out : List Effect → Type 0 = λ l. KeepsBodies s (starts_in l) (settled [] false kept) in
    subst Out (sym empty) (record {
      home = λ row among h. absurd (nobody s.rows row rows among);
      unsent = λ row among h. absurd (nobody s.rows row rows among);
      one_start = tt;
      away = λ slot some. absurd (omega (arith, some, near slot));
      out = λ slot p live sent. absurd (nobody s.rows live.0.0 rows live.0.1);
      there = λ slot home. absurd (false≢true (home_has_row slot [] false kept home));
      one_body = λ slot. omega (arith, near slot, bare slot);
      given = ap (λ (x : State). are_given (count_opened x.flags x.specs) (settled [] false kept)) is ∙ given_settled [] false (count_opened o.core.base.flags o.core.base.specs) kept parts.0;
      one_given = λ n. let few = once n in omega (arith, few, count_settled n [] false kept);
      own = first_own kept (isnt (list_any is_out kept) parts.1);
    })
  where
    isnt : (b : Bool) → not b ≡ true → b ≡ false
    isnt true h = absurd (false≢true h)
    isnt false h = refl

    no_home : (slot : ℕ) → has_body slot (settled [] false kept) ≡ false
    no_home slot = by (has_body slot (settled [] false kept)) refl
      where
        by : (b : Bool) → has_body slot (settled [] false kept) ≡ b → has_body slot (settled [] false kept) ≡ false
        by false h = h
        by true h = absurd (false≢true (home_has_row slot [] false kept h))

    nobody : (rows : List Row) (row : Row) → rows ≡ [] → Contains rows row → ⊥
    nobody rows row none c = let d : Contains [] row = subst (λ (l : List Row). Contains l row) none c in omega (arith, d.1)

-- a body that was had back was no child's, nor a specification's

without_bodies : (t : Kept → Bool) (s : State) (starts : List ℕ) (kept : List Kept) → ((b : Kept) → t b ≡ true → is_free_place b.place ≡ true) → ((k : ℕ) (b : Kept) → t b ≡ true → is_spec k b.origin ≡ false) → KeepsBodies s starts kept → KeepsBodies s starts (without_first t kept)
without_bodies t s starts kept free other k =
    let stays : (slot : ℕ) → has_body slot kept ≡ true → has_body slot (without_first t kept) ≡ true = λ slot h. any_left t (is_at_home slot) kept (λ b is. free_home slot b.place (free b is)) h in
    record {
      home = λ row among h. stays row.slot (k.home row among h);
      unsent = λ row among h. stays row.slot (k.unsent row among h);
      one_start = k.one_start;
      away = λ slot some. k.away slot (omega (arith, some, away_without t slot kept));
      out = λ slot p live sent. omega (arith, k.out slot p live sent, away_had t slot kept (λ b is. free_near slot b.place (free b is)));
      there = λ slot home. k.there slot (any_unleft t (is_at_home slot) kept home);
      one_body = λ slot. let few = k.one_body slot in omega (arith, few, both_without t slot kept);
      given = given_without t (count_opened s.flags s.specs) kept other k.given;
      one_given = λ n. let few = k.one_given n in omega (arith, few, count_without n t kept);
      own = without_own t kept k.own;
    }
  where
    free_home : (slot : ℕ) (at : BodyPlace) → is_free_place at ≡ true → is_home_of slot at ≡ false
    free_home slot (placed.Home j) f = absurd (false≢true f)
    free_home slot placed.Waiting f = refl
    free_home slot placed.Free f = refl
    free_home slot (placed.Away j) f = refl

    free_near : (slot : ℕ) (at : BodyPlace) → is_free_place at ≡ true → is_away_from slot at ≡ false
    free_near slot (placed.Home j) f = refl
    free_near slot placed.Waiting f = refl
    free_near slot placed.Free f = refl
    free_near slot (placed.Away j) f = absurd (false≢true f)

pub left_bodies : (call : ℕ) (s : State) (starts : List ℕ) (kept : List Kept) → KeepsBodies s starts kept → KeepsBodies s starts (without_first (is_left_of call) kept)
left_bodies call s starts kept k = without_bodies (is_left_of call) s starts kept (λ b is. (and_parts (is_call call b.origin) (is_free_place b.place) is).1) (λ j b is. other j b.origin (and_parts (is_call call b.origin) (is_free_place b.place) is).0) k
  where
    other : (j : ℕ) (o : Origin) → is_call call o ≡ true → is_spec j o ≡ false
    other j (origin.Spec i) h = absurd (false≢true h)
    other j (origin.Call d) h = refl
    other j origin.Nobody h = refl

pub stray_bodies : (s : State) (starts : List ℕ) (kept : List Kept) → KeepsBodies s starts kept → KeepsBodies s starts (without_first is_stray kept)
stray_bodies s starts kept k = without_bodies is_stray s starts kept (λ b is. (and_parts (is_nobody b.origin) (is_free_place b.place) is).1) (λ j b is. other j b.origin (and_parts (is_nobody b.origin) (is_free_place b.place) is).0) k
  where
    other : (j : ℕ) (o : Origin) → is_nobody o ≡ true → is_spec j o ≡ false
    other j (origin.Spec i) h = absurd (false≢true h)
    other j (origin.Call d) h = refl
    other j origin.Nobody h = refl
