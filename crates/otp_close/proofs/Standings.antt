-- A tree is complete as long as hands and client keep what no turn and no call changes.
use Rattle.std.proofs.Common.{Some, None, ◌≡◌, ℕ, zero, suc, ◌+◌, ◌<◌, List, [], ◌∷◌, Option, length, map, refl, sym, ap, ◌∙◌, subst, arith}
use Rattle.std.specs.Prelude.{MatchOption, slice_get, sum_by}
use Rattle.std.proofs.lemmas.List.{length-map}
use Rattle.std.proofs.lemmas.List.Sums.{sum_by-cons}
use Rattle.otp_inbox.specs.Tokens.{SenderState, TakerState, all_parts}
use Rattle.otp_bodies.specs.declared.letter.Message.{Message}
use Rattle.otp_run.proofs.Places.{map_at}
use Rattle.otp_run.specs.Gathers.{IsAll}
use Rattle.otp_run.specs.Lists.{AllAt}
use Rattle.otp_hand.specs.Hands.{TreeClientView, HandView, SystemView, senders_of}
use Rattle.otp_hand.specs.Sendings.{parts_at, parts_of, parts_to}
use Rattle.otp_hand.specs.Standings.{Reach, Standing, inbox_of, part_of, parts_in, reach_of, standing_of, standings}
use Rattle.otp_close.specs.Closes.{IsComplete, IsReached, all_senders}
use Rattle.otp_close.specs.Partings.{scheduler_of, schedulers_of}

module _ {A B : Type 0} (f : A → B) where
  pub at_map : (P : ℕ → B → Type 0) (xs : List A) → AllAt (λ k x. P k (f x)) xs → AllAt P (map f xs)
  at_map P [] all k = tt
  at_map P (x ∷ xs) all zero = all zero
  at_map P (x ∷ xs) all (suc k) = at_map (λ j. P (suc j)) xs (λ j. all (suc j)) k

-- the number at a place, and none where there is no place
abbrev at : ℕ → List ℕ → ℕ
at k [] = 0
at zero (n ∷ ns) = n
at (suc k) (n ∷ ns) = at k ns

parts_are : (k : ℕ) (senders : List (SenderState Message)) → parts_at k senders ≡ at k (parts_in senders)
parts_are k [] = refl
parts_are zero (s ∷ ss) = refl
parts_are (suc k) (s ∷ ss) = parts_are k ss

-- the same list of senders, as far as parts go
same_parts : (k : ℕ) (one other : List (SenderState Message)) → parts_in one ≡ parts_in other → parts_at k one ≡ parts_at k other
same_parts k one other same = parts_are k one ∙ ap (at k) same ∙ sym (parts_are k other)

same_reach : (one other : List (SenderState Message)) → parts_in one ≡ parts_in other → length one ≡ length other
same_reach one other same = sym (length-map one part_of) ∙ ap length same ∙ length-map other part_of

same_waiter : (tables : ℕ) (one other : Option (TakerState Message)) → inbox_of other ≡ inbox_of one → MatchOption one ⊥ (λ w. w.inbox ≡ tables) → MatchOption other ⊥ (λ w. w.inbox ≡ tables)
same_waiter tables one other same is = back other (subst (λ o. MatchOption o ⊥ (λ n. n ≡ tables)) (sym same) (forth one is))
  where
    forth : (o : Option (TakerState Message)) → MatchOption o ⊥ (λ w. w.inbox ≡ tables) → MatchOption (inbox_of o) ⊥ (λ n. n ≡ tables)
    forth (Some w) is = is
    forth None is = is

    back : (o : Option (TakerState Message)) → MatchOption (inbox_of o) ⊥ (λ n. n ≡ tables) → MatchOption o ⊥ (λ w. w.inbox ≡ tables)
    back (Some w) is = is
    back None is = is

abbrev parts_by : ℕ → Standing → ℕ
parts_by k s = at k s.parts

module _ {J S : Type 0} where
  same_many : (one other : List (HandView J S)) → standings one ≡ standings other → length one ≡ length other
  same_many one other same = sym (length-map one standing_of) ∙ ap length same ∙ length-map other standing_of

  -- what is known of each hand by its standing
  same_each : (P : ℕ → Standing → Type 0) (one other : List (HandView J S)) → standings one ≡ standings other → AllAt (λ k h. P k (standing_of h)) one → AllAt (λ k h. P k (standing_of h)) other
  same_each P one other same all = map_at standing_of P other (subst (AllAt P) same (at_map standing_of P one all))

  parts_together : (k : ℕ) (hands : List (HandView J S)) → parts_to k (map senders_of hands) ≡ sum_by (parts_by k) (standings hands)
  parts_together k [] = refl
  parts_together k (h ∷ hs) =
      sum_by-cons (parts_at k) h.senders (map senders_of hs)
      ∙ ap (λ n. n + parts_to k (map senders_of hs)) (parts_are k h.senders)
      ∙ ap (λ n. parts_by k (standing_of h) + n) (parts_together k hs)
      ∙ sym (sum_by-cons (parts_by k) (standing_of h) (standings hs))

  all_parts_as : (k : ℕ) (one other : List (HandView J S)) (old new : TreeClientView) → standings other ≡ standings one → reach_of new ≡ reach_of old → parts_to k (all_senders new other) ≡ parts_to k (all_senders old one)
  all_parts_as k one other old new same client =
      sum_by-cons (parts_at k) new.senders (map senders_of other)
      ∙ ap (λ n. n + parts_to k (map senders_of other)) (same_parts k new.senders old.senders (ap (λ (r : Reach). r.parts) client))
      ∙ ap (λ n. parts_at k old.senders + n) (parts_together k other ∙ ap (sum_by (parts_by k)) same ∙ sym (parts_together k one))
      ∙ sym (sum_by-cons (parts_at k) old.senders (map senders_of one))

  -- all hands still stand in their places
  all_stand : (one other : List (HandView J S)) → standings other ≡ standings one → IsAll (schedulers_of one) → IsAll (schedulers_of other)
  all_stand one other same all =
      let many : length (schedulers_of other) ≡ length (schedulers_of one) = length-map other scheduler_of ∙ same_many other one same ∙ sym (length-map one scheduler_of) in
      let n = length (schedulers_of one) in
      let hands = map_at scheduler_of (λ k s. (s.own.index ≡ k) × (s.count ≡ n)) one all.1 in
      let others = same_each (λ k s. (s.index ≡ k) × (s.count ≡ n)) one other (sym same) hands in
      let some = all.0 in (
        omega (arith, some, many),
        subst (λ m. AllAt (λ k s. (s.own.index ≡ k) × (s.count ≡ m)) (schedulers_of other)) (sym many) (at_map scheduler_of (λ k s. (s.own.index ≡ k) × (s.count ≡ n)) other others),
      )

  reach_far : (n : ℕ) (one other : List (HandView J S)) → standings other ≡ standings one → AllAt (λ _ senders. length senders ≡ n) (map senders_of one) → AllAt (λ _ senders. length senders ≡ n) (map senders_of other)
  reach_far n one other same all = at_map senders_of (λ _ senders. length senders ≡ n) other (back other (same_each (λ _ s. length s.parts ≡ n) one other (sym same) (forth one (map_at senders_of (λ _ senders. length senders ≡ n) one all))))
    where
      forth : (hs : List (HandView J S)) → AllAt (λ _ h. length (senders_of h) ≡ n) hs → AllAt (λ _ h. length (standing_of h).parts ≡ n) hs
      forth [] h k = tt
      forth (x ∷ xs) h zero = length-map x.senders part_of ∙ h zero
      forth (x ∷ xs) h (suc k) = forth xs (λ j. h (suc j)) k

      back : (hs : List (HandView J S)) → AllAt (λ _ h. length (standing_of h).parts ≡ n) hs → AllAt (λ _ h. length (senders_of h) ≡ n) hs
      back [] h k = tt
      back (x ∷ xs) h zero = sym (length-map x.senders part_of) ∙ h zero
      back (x ∷ xs) h (suc k) = back xs (λ j. h (suc j)) k

  pub complete_kept : (shared : SystemView) (one other : List (HandView J S)) (old new : TreeClientView) → standings other ≡ standings one → reach_of new ≡ reach_of old → IsComplete shared one old → IsComplete shared other new
  complete_kept shared one other old new same client complete =
      let n = shared.tables + 1 in
      let reached = complete.1 in
      let long : length new.senders ≡ length old.senders = same_reach new.senders old.senders (ap (λ (r : Reach). r.parts) client) in (
        all_stand one other same complete.0,
        record {
          waits = same_waiter shared.tables old.waiter new.waiter (ap (λ (r : Reach). r.waits) client) reached.waits;
          reach = long ∙ reached.reach;
          whole = λ place within. all_parts_as place one other old new same client ∙ reached.whole place (omega (arith, within, long));
          as_far = far n long reached.reach reached.as_far;
        },
      )
    where
      far : (n : ℕ) → length new.senders ≡ length old.senders → length old.senders ≡ n → AllAt (λ _ senders. length senders ≡ n) (all_senders old one) → AllAt (λ _ senders. length senders ≡ n) (all_senders new other)
      far n long reach all zero = long ∙ reach
      far n long reach all (suc k) = reach_far n one other same (λ j. all (suc j)) k
