-- All is ready to empty the inboxes, one after the other.
use Rattle.std.proofs.Common.{◌≡◌, ℕ, zero, suc, ◌+◌, ◌<◌, ◌≤◌, List, [], ◌∷◌, ◌++◌, Option, Some, None, length, drop, refl, sym, ap, ◌∙◌, subst, arith, length-append}
use Rattle.std.specs.Prelude.{slice_get, IfSome, MatchOption}
use Rattle.std.proofs.lemmas.List.{drop-drop}
use Rattle.std.proofs.lemmas.Option.{slice_get_within}
use Rattle.otp_inbox.specs.Tokens.{SenderState, TakerState, count_limit}
use Rattle.otp_bodies.specs.declared.letter.Message.{Message}
use Rattle.otp_run.specs.Lists.{AllAt}
use Rattle.otp_run.proofs.Places.{each_at}
use Rattle.otp_sup.specs.Facts.{UnlockedView}
use Rattle.otp_close.specs.declared.rooms.LeftRoom.{LeftRoom}
use Rattle.otp_hand.specs.Seats.{Seated}
use Rattle.otp_hand.specs.Sendings.{sent_at, sent_in, sent_to}
use Rattle.otp_close.specs.Settlings.{ArePlaced, AreReady, AreRooms, IsLastRoom, IsReady, IsRoom, IsRoomAt, IsWhole}
use Rattle.otp_close.proofs.Leavings.{each_found, found_at}

module _ {A : Type 0} where
  pub some_at : (xs : List A) (i : ℕ) → i < length xs → (x : A) × (slice_get xs i ≡ Some x)
  some_at [] i lt = absurd (omega arith)
  some_at (y ∷ ys) zero lt = (y, refl)
  some_at (y ∷ ys) (suc i) lt = some_at ys i (omega arith)

  got_behind : (ys : List A) (x : A) (zs : List A) → slice_get (ys ++ x ∷ zs) (length ys) ≡ Some x
  got_behind [] x zs = refl
  got_behind (y ∷ ys) x zs = got_behind ys x zs

  got_drop : (xs : List A) (n : ℕ) → slice_get xs n ≡ slice_get (drop n xs) zero
  got_drop [] zero = refl
  got_drop [] (suc n) = refl
  got_drop (x ∷ xs) zero = refl
  got_drop (x ∷ xs) (suc n) = got_drop xs n

  -- what is next behind the first ones of a list stands at that place
  pub next_at : (xs : List A) (n : ℕ) (rest : List A) (x : A) (ys : List A) → drop n xs ≡ rest → rest ≡ x ∷ ys → slice_get xs n ≡ Some x
  next_at xs n rest x ys behind next = got_drop xs n ∙ ap (λ l. slice_get l zero) (behind ∙ next)

  pub next_behind : (xs : List A) (n : ℕ) (rest : List A) (x : A) (ys : List A) → drop n xs ≡ rest → rest ≡ x ∷ ys → drop (n + 1) xs ≡ ys
  next_behind xs n rest x ys behind next = sym (drop-drop 1 n xs) ∙ ap (drop 1) (behind ∙ next)

  there : (rest : List A) (P : A → Type 0) → MatchOption (slice_get rest zero) ⊥ P → 0 < length rest
  there [] P p = absurd p
  there (x ∷ rest) P p = omega arith

  -- something stands at the place, so something is next
  pub more_next : (xs : List A) (n : ℕ) (rest : List A) (P : A → Type 0) → drop n xs ≡ rest → MatchOption (slice_get xs n) ⊥ P → 0 < length rest
  more_next xs n rest P behind p = there rest P (subst (λ o. MatchOption o ⊥ P) (got_drop xs n ∙ ap (λ l. slice_get l zero) behind) p)

  -- elements that stand at the places of their numbers, from a first one on
  pub first_of : (f : A → ℕ) (n : ℕ) (rest : List A) (x : A) (xs : List A) → rest ≡ x ∷ xs → AllAt (λ j y. f y ≡ n + j) rest → f x ≡ n
  first_of f n rest x xs next all = subst (λ l. AllAt (λ j y. f y ≡ n + j) l) next all zero ∙ omega arith

  pub rest_of : (f : A → ℕ) (n : ℕ) (rest : List A) (x : A) (xs : List A) → rest ≡ x ∷ xs → AllAt (λ j y. f y ≡ n + j) rest → AllAt (λ j y. f y ≡ (n + 1) + j) xs
  rest_of f n rest x xs next all = each_at (λ j y. f y ≡ n + suc j) (λ j y. f y ≡ (n + 1) + j) xs (λ j. subst (λ l. AllAt (λ i y. f y ≡ n + i) l) next all (suc j)) (λ j y within e. e ∙ omega arith)

module _ {A : Type 0} where
  pub but_last : (P : ℕ → A → Type 0) (xs : List A) (x : A) → AllAt P (xs ++ x ∷ []) → AllAt P xs
  but_last P [] x all k = tt
  but_last P (y ∷ ys) x all zero = all zero
  but_last P (y ∷ ys) x all (suc k) = but_last (λ j. P (suc j)) ys x (λ j. all (suc j)) k

  pub last_one : (P : ℕ → A → Type 0) (xs : List A) (x : A) → AllAt P (xs ++ x ∷ []) → P (length xs) x
  last_one P [] x all = all zero
  last_one P (y ∷ ys) x all = last_one (λ j. P (suc j)) ys x (λ j. all (suc j))

-- a sender that stands behind these has the number of its place
pub seat_of : (before : List (SenderState Message)) (x : SenderState Message) (rest all : List (SenderState Message)) → (before ++ x ∷ []) ++ rest ≡ before ++ x ∷ rest → (before ++ x ∷ []) ++ rest ≡ all → Seated all → x.inbox ≡ length before
seat_of before x rest all same whole seated = (found_at (λ k (s : SenderState Message). (s.inbox ≡ k) × (0 < s.parts)) all (length before) x seated (ap (λ l. slice_get l (length before)) (sym whole ∙ same) ∙ got_behind before x rest)).0

module _ {B : Type 0} where
  -- supervisors, their senders and the room for what is left stand at like places
  pub ready : (all : List (List (SenderState Message))) (us : List UnlockedView) (ss : List (SenderState Message)) (rs : List (LeftRoom B)) → AllAt (λ k u. u.inbox ≡ k) us → AllAt (λ k s. s.inbox ≡ k) ss → AllAt (IsWhole all) ss → AreRooms all us rs → length us ≤ length ss → length rs ≡ length us → AreReady us ss rs
  ready all us ss rs placed seated whole rooms long many = each_found (λ k u. MatchOption (slice_get ss k) ⊥ (λ s. MatchOption (slice_get rs k) ⊥ (λ r. IsReady u s r))) us (λ j u at.
      let within = slice_get_within us j u at in
      let s = some_at ss j (omega (arith, within, long)) in
      let r = some_at rs j (omega (arith, within, many)) in
      let w = found_at (IsWhole all) ss j s.0 whole s.1 in
      let room : IsRoomAt all j u r.0 = subst (λ (o : Option UnlockedView). MatchOption o ⊥ (λ v. IsRoomAt all j v r.0)) at (found_at (λ k q. MatchOption (slice_get us k) ⊥ (λ v. IsRoomAt all k v q)) rs j r.0 rooms r.1) in
      let is : IsReady u s.0 r.0 = record {
        takes = room.0;
        sends = found_at (λ k t. t.inbox ≡ k) ss j s.0 seated s.1 ∙ sym (found_at (λ k v. v.inbox ≡ k) us j u placed at);
        whole = w.1;
        room = subst (λ n. IsRoom n (length u.table.taker.taken) r.0) (ap length (sym w.0)) room.1;
      } in
      subst (λ (o : Option (SenderState Message)). MatchOption o ⊥ (λ t. MatchOption (slice_get rs j) ⊥ (λ q. IsReady u t q))) (sym s.1)
      (subst (λ (o : Option (LeftRoom B)). MatchOption o ⊥ (λ q. IsReady u s.0 q)) (sym r.1) is))

  -- and so are those that come next
  pub sender_ready : (us : List UnlockedView) (ss : List (SenderState Message)) (rs : List (LeftRoom B)) (n : ℕ) (u : UnlockedView) → AreReady us ss rs → slice_get us n ≡ Some u → MatchOption (slice_get ss n) ⊥ (λ s. MatchOption (slice_get rs n) ⊥ (λ r. IsReady u s r))
  sender_ready us ss rs n u are at = found_at (λ k v. MatchOption (slice_get ss k) ⊥ (λ s. MatchOption (slice_get rs k) ⊥ (λ r. IsReady v s r))) us n u are at

  pub room_ready : (us : List UnlockedView) (ss : List (SenderState Message)) (rs : List (LeftRoom B)) (n : ℕ) (u : UnlockedView) (s : SenderState Message) → AreReady us ss rs → slice_get us n ≡ Some u → slice_get ss n ≡ Some s → MatchOption (slice_get rs n) ⊥ (λ r. IsReady u s r)
  room_ready us ss rs n u s are at its = subst (λ (o : Option (SenderState Message)). MatchOption o ⊥ (λ t. MatchOption (slice_get rs n) ⊥ (λ r. IsReady u t r))) its (sender_ready us ss rs n u are at)

  pub all_ready : (us : List UnlockedView) (ss : List (SenderState Message)) (rs : List (LeftRoom B)) (n : ℕ) (u : UnlockedView) (s : SenderState Message) (r : LeftRoom B) → AreReady us ss rs → slice_get us n ≡ Some u → slice_get ss n ≡ Some s → slice_get rs n ≡ Some r → IsReady u s r
  all_ready us ss rs n u s r are at its room = subst (λ (o : Option (LeftRoom B)). MatchOption o ⊥ (λ q. IsReady u s q)) room (room_ready us ss rs n u s are at its)

  -- room for what was counted is room for what was sent and taken
  pub roomier : (sent taken n t : ℕ) (r : LeftRoom B) → n ≡ sent → taken ≤ t → IsRoom sent taken r → IsRoom n t r
  roomier sent taken n t r same more room =
      let letters = room.letters in
      let items = room.items in
      record {
        no_letters = room.no_letters;
        no_items = room.no_items;
        letters = omega arith;
        items = omega arith;
      }

  -- the same of whoever opened the tree, if there is room at all
  pub last_roomier : (all : List (List (SenderState Message))) (tables sent taken : ℕ) (waiter : Option (TakerState Message)) (w : TakerState Message) (room : Option (LeftRoom B))
      → waiter ≡ Some w → (sent < count_limit → length (sent_to tables all) ≡ sent) → taken ≤ length w.taken
      → IfSome room (λ _. sent < count_limit) → IfSome room (IsRoom sent taken) → IfSome room (IsLastRoom all tables waiter)
  last_roomier all tables sent taken waiter w None is told less few enough = tt
  last_roomier all tables sent taken waiter w (Some r) is told less few enough =
      subst (λ (o : Option (TakerState Message)). IsLastRoom all tables o r) (sym is) (roomier sent taken (length (sent_to tables all)) (length w.taken) r (told few) less enough)

-- of senders that know all, the last one is that of whoever opened the tree
pub last_whole : (all : List (List (SenderState Message))) (us : List UnlockedView) (outer : ℕ) (list : List (SenderState Message)) (last : SenderState Message) (joined : List (SenderState Message)) → ArePlaced us outer → list ++ last ∷ [] ≡ joined → Seated (list ++ last ∷ []) → AllAt (IsWhole all) joined → length joined ≡ length us + 1 → (last.inbox ≡ outer) × IsWhole all (length us) last
last_whole all us outer list last joined placed same seated whole many =
    let long = length-append list (last ∷ []) in
    let whole_list = ap length same in
    let count : length list ≡ length us = omega (arith, long, whole_list, many) in
    let seat = last_one (λ k (s : SenderState Message). (s.inbox ≡ k) × (0 < s.parts)) list last seated in (
      seat.0 ∙ count ∙ sym placed.1,
      subst (λ n. IsWhole all n last) count (last_one (IsWhole all) list last (subst (λ l. AllAt (IsWhole all) l) (sym same) whole)),
    )

-- the others are those of the supervisors
pub others_whole : (all : List (List (SenderState Message))) (us : List UnlockedView) (list : List (SenderState Message)) (last : SenderState Message) (joined : List (SenderState Message)) → list ++ last ∷ [] ≡ joined → AllAt (IsWhole all) joined → length joined ≡ length us + 1 → AllAt (IsWhole all) list × (length list ≡ length us)
others_whole all us list last joined same whole many =
    let long = length-append list (last ∷ []) in
    let whole_list = ap length same in (
      but_last (IsWhole all) list last (subst (λ l. AllAt (IsWhole all) l) (sym same) whole),
      omega (arith, long, whole_list, many),
    )

pub others_ready : {B : Type 0} (all : List (List (SenderState Message))) (us : List UnlockedView) (outer : ℕ) (list : List (SenderState Message)) (last : SenderState Message) (joined : List (SenderState Message)) (rs : List (LeftRoom B)) → ArePlaced us outer → list ++ last ∷ [] ≡ joined → Seated (list ++ last ∷ []) → AllAt (IsWhole all) joined → length joined ≡ length us + 1 → AreRooms all us rs → length rs ≡ length us → AreReady us list rs
others_ready all us outer list last joined rs placed same seated whole many rooms many_rooms =
    let w = others_whole all us list last joined same whole many in
    let size = w.1 in
    ready all us list rs placed.0 (each_at (λ k (s : SenderState Message). (s.inbox ≡ k) × (0 < s.parts)) (λ k s. s.inbox ≡ k) list (but_last (λ k (s : SenderState Message). (s.inbox ≡ k) × (0 < s.parts)) list last seated) (λ j s within p. p.0)) w.0 rooms (omega (arith, size)) many_rooms

-- what each of them sent is what all sent there
pub others_sent : (all : List (List (SenderState Message))) (list : List (SenderState Message)) (j : ℕ) → AllAt (IsWhole all) list → j < length list → sent_at j list ≡ sent_to j all
others_sent all list j whole within =
    let s = some_at list j within in
    ap sent_in s.1 ∙ (found_at (IsWhole all) list j s.0 whole s.1).0
