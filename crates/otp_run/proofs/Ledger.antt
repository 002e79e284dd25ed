-- A look at all deques keeps the ledger of the scheduler that looks.
use Rattle.std.proofs.Common.{◌≡◌, ℕ, ◌+◌, ◌-◌, List, ◌++◌, length, map, sym, ap, ◌∙◌, subst, arith, length-append}
use Rattle.otp_job.specs.declared.process.Ticket.{Ticket}
use Rattle.otp_run.specs.Deques.{OwnState, VictimState, index_of, stolen, missed, robbed, TakenFrom}
use Rattle.otp_run.specs.Schedulers.{SchedulerState, IsScheduler, own_missed, out}
use Rattle.otp_run.proofs.Thefts.{indexes-missed, indexes-robbed, stolen-missed, length-stolen-robbed}

module _ (s : SchedulerState) where
  -- the scheduler after a look, in which its own deque gave nothing and the others are left as these
  abbrev pub looked : OwnState → List VictimState → ℕ → SchedulerState
  looked own others empty = record { own = own; others = others; count = s.count; begun = s.begun; ended = s.ended; empty_finds = empty }

  -- the others keep their places, and gave so many processes more
  keeps : (others : List VictimState) (empty more : ℕ) → map index_of others ≡ map index_of s.others → length (stolen others) ≡ length (stolen s.others) + more → IsScheduler s → IsScheduler (looked (own_missed s) others empty)
  keeps others empty more places found l = record {
    placed = λ some. let p = l.placed some in record { few = p.few; inside = p.inside; shared = p.shared; ordered = places ∙ p.ordered };
    begun_is_put = l.begun_is_put;
    found_first = let p = l.found_first in omega (arith, length-append s.own.taken (stolen others), length-append s.own.taken (stolen s.others));
    begun_bounded = l.begun_bounded;
    ended_bounded = l.ended_bounded;
  }

  has_out : (others : List VictimState) (empty more : ℕ) → length (stolen others) ≡ length (stolen s.others) + more → IsScheduler s → out (looked (own_missed s) others empty) ≡ out s + more
  unfolding out
  has_out others empty more found l =
      let p = l.found_first in
      let q : length (s.own.taken ++ stolen others) - (length s.own.puts - s.begun) - s.ended ≡ (length (s.own.taken ++ stolen s.others) - (length s.own.puts - s.begun) - s.ended) + more =
      omega (arith, length-append s.own.taken (stolen others), length-append s.own.taken (stolen s.others)) in
      q

  as_left : (P : SchedulerState → Type 0) (own : OwnState) (others others' : List VictimState) (empty : ℕ) → own ≡ own_missed s → others' ≡ others → P (looked (own_missed s) others empty) → P (looked own others' empty)
  as_left P own others others' empty is_own is_others p = subst (λ (z : OwnState × List VictimState). P (looked z.0 z.1 empty)) (λ i. (sym is_own i, sym is_others i)) p

  pub theft_keeps : (own : OwnState) (others : List VictimState) (empty : ℕ) (t : Ticket) → IsScheduler s → own ≡ own_missed s → TakenFrom s.others t others → IsScheduler (looked own others empty)
  theft_keeps own others empty t l is from =
      as_left IsScheduler own (robbed from.at t s.others) others empty is from.changed
      (keeps (robbed from.at t s.others) empty 1 (indexes-robbed from.at t s.others) (length-stolen-robbed from.at t s.others from.there) l)

  pub theft_out : (now : SchedulerState) (own : OwnState) (others : List VictimState) (empty : ℕ) (t : Ticket) → IsScheduler s → s ≡ now → own ≡ own_missed s → TakenFrom s.others t others
      → out (looked own others empty) ≡ out now + 1
  theft_out now own others empty t l is_now is from =
      as_left (λ z. out z ≡ out now + 1) own (robbed from.at t s.others) others empty is from.changed
      (has_out (robbed from.at t s.others) empty 1 (length-stolen-robbed from.at t s.others from.there) l ∙ ap (λ z. out z + 1) is_now)

  pub miss_keeps : (own : OwnState) (others : List VictimState) (empty : ℕ) → IsScheduler s → own ≡ own_missed s → others ≡ missed (length s.others) s.others → IsScheduler (looked own others empty)
  miss_keeps own others empty l is changed =
      as_left IsScheduler own (missed (length s.others) s.others) others empty is changed
      (keeps (missed (length s.others) s.others) empty 0 (indexes-missed (length s.others) s.others) (let p = ap (λ xs. length xs) (stolen-missed (length s.others) s.others) in omega arith) l)

  pub miss_out : (now : SchedulerState) (own : OwnState) (others : List VictimState) (empty : ℕ) → IsScheduler s → s ≡ now → own ≡ own_missed s → others ≡ missed (length s.others) s.others
      → out (looked own others empty) ≡ out now
  miss_out now own others empty l is_now is changed =
      as_left (λ z. out z ≡ out now) own (missed (length s.others) s.others) others empty is changed
      (let p = has_out (missed (length s.others) s.others) empty 0 (let q = ap (λ xs. length xs) (stolen-missed (length s.others) s.others) in omega arith) l in
      let r = ap (λ z. out z) is_now in
      omega arith)
