-- A tree that was just opened is complete.
use Rattle.std.proofs.Common.{Some, ◌≡◌, ℕ, zero, suc, ◌+◌, ◌<◌, List, [], ◌∷◌, length, map, refl, sym, ap, ◌∙◌, subst, arith}
use Rattle.std.specs.Prelude.{MatchOption}
use Rattle.std.proofs.lemmas.List.{length-map}
use Rattle.std.proofs.lemmas.List.Sums.{sum_by-cons}
use Rattle.otp_inbox.specs.Tokens.{SenderState, TakerState, all_parts, first_sender}
use Rattle.otp_job.specs.declared.process.Ticket.{Ticket}
use Rattle.otp_bodies.specs.declared.letter.Message.{Message}
use Rattle.otp_run.proofs.Places.{each_at}
use Rattle.otp_run.specs.Gathers.{IsAll}
use Rattle.otp_run.specs.Lists.{AllAt}
use Rattle.otp_run.specs.Schedulers.{SchedulerState}
use Rattle.otp_hand.specs.Hands.{TreeClientView, HandView, senders_of}
use Rattle.otp_hand.specs.Sendings.{parts_at, parts_to}
use Rattle.otp_close.proofs.Standings.{at_map}
use Rattle.otp_close.specs.Closes.{IsReached, all_senders}
use Rattle.otp_close.specs.Partings.{scheduler_of, schedulers_of}
use Rattle.otp_open.specs.Opens.{AreOpened, opened_for}

opened_index : (root : Ticket) (count k : ℕ) → (opened_for root count k).own.index ≡ k
opened_index root count zero = refl
opened_index root count (suc k) = refl

opened_count : (root : Ticket) (count k : ℕ) → (opened_for root count k).count ≡ count
opened_count root count zero = refl
opened_count root count (suc k) = refl

-- a first sender has all parts
first_parts : (xs : List (SenderState Message)) → AllAt (λ k s. s ≡ first_sender k) xs → (k : ℕ) → k < length xs → parts_at k xs ≡ all_parts
first_parts xs all = each xs (each_at (λ k s. s ≡ first_sender k) (λ _ s. s.parts ≡ all_parts) xs all (λ j x within is. ap (λ (s : SenderState Message). s.parts) is))
  where
    each : (ys : List (SenderState Message)) → AllAt (λ _ s. s.parts ≡ all_parts) ys → (k : ℕ) → k < length ys → parts_at k ys ≡ all_parts
    each [] h k within = absurd (omega (arith, within))
    each (y ∷ ys) h zero within = h zero
    each (y ∷ ys) h (suc k) within = each ys (λ j. h (suc j)) k (omega (arith, within))

module _ {J S : Type 0} where
  all_open : (root : Ticket) (count : ℕ) (hands : List (HandView J S)) → 0 < count → AreOpened root count hands → IsAll (schedulers_of hands)
  all_open root count hands some opened =
      let long = length-map hands scheduler_of in
      let many = opened.many in
      let of : ℕ → ℕ → SchedulerState → Type 0 = λ n k s. (s.own.index ≡ k) × (s.count ≡ n) in
      let each = each_at (λ k (h : HandView J S). h.scheduler ≡ opened_for root count k) (λ k h. of count k h.scheduler) hands opened.each (λ j h within is. (
        ap (λ (s : SchedulerState). s.own.index) is ∙ opened_index root count j,
        ap (λ (s : SchedulerState). s.count) is ∙ opened_count root count j,
      )) in (
        omega (arith, long, many, some),
        subst (λ n. AllAt (of n) (schedulers_of hands)) (sym (long ∙ many)) (at_map scheduler_of (of count) hands each),
      )

  pub opened_complete : (root : Ticket) (count tables own_tables : ℕ) (hands : List (HandView J S)) (client : TreeClientView) (firsts : List (SenderState Message)) (w : TakerState Message) → 0 < count → AreOpened root count hands
      → own_tables ≡ tables → client.waiter ≡ Some w → w.inbox ≡ tables → length firsts ≡ tables + 1 → AllAt (λ k s. s ≡ first_sender k) firsts → length client.senders ≡ length firsts
      → ((k : ℕ) → parts_at k client.senders + parts_to k (map senders_of hands) ≡ parts_at k firsts) → AllAt (λ _ h. length (senders_of h) ≡ length firsts) hands → IsAll (schedulers_of hands) × IsReached own_tables client (all_senders client hands)
  opened_complete root count tables own_tables hands client firsts w some opened own waiter inbox long are_first reach split far = (
    all_open root count hands some opened,
    record {
      waits = subst (λ o. MatchOption o ⊥ (λ (v : TakerState Message). v.inbox ≡ own_tables)) (sym waiter) (inbox ∙ sym own);
      reach = omega (arith, reach, long, own);
      whole = λ place within. sum_by-cons (parts_at place) client.senders (map senders_of hands) ∙ split place ∙ first_parts firsts are_first place (omega (arith, within, reach));
      as_far = reaches;
    },
  )
    where
      same : length firsts ≡ own_tables + 1
      same = omega (arith, long, own)

      reaches : AllAt (λ _ senders. length senders ≡ own_tables + 1) (all_senders client hands)
      reaches zero = reach ∙ same
      reaches (suc k) = at_map senders_of (λ _ senders. length senders ≡ own_tables + 1) hands (subst (λ n. AllAt (λ _ h. length (senders_of h) ≡ n) hands) same far) k
