-- The first senders to supervisors: nothing was sent by them, and they were credited with nothing.
use Rattle.std.proofs.Common.{◌≡◌, ℕ, suc, ◌+◌, List, [], ◌∷◌, refl, ap, ◌∙◌, arith}
use Rattle.std.specs.Prelude.{sum_by}
use Rattle.std.proofs.lemmas.List.Sums.{sum_by-cons}
use Rattle.otp_inbox.specs.Tokens.{SenderState, first_sender}
use Rattle.otp_bodies.specs.declared.letter.Message.{Message}
use Rattle.otp_run.proofs.Places.{each_at}
use Rattle.otp_run.specs.Lists.{AllAt}
use Rattle.otp_hand.specs.Begun.{start_share, starts_credited}
use Rattle.otp_hand.specs.Ended.{end_share, ends_sent}

-- the first senders have nothing of what no first sender has
pub none_each : (f : SenderState Message → ℕ) → ((k : ℕ) → f (first_sender k) ≡ 0) → (xs : List (SenderState Message)) → AllAt (λ k s. s ≡ first_sender k) xs → sum_by f xs ≡ 0
none_each f none xs all = add_up xs (each_at (λ k s. s ≡ first_sender k) (λ k s. f s ≡ 0) xs all (λ j x within is. ap f is ∙ none j))
  where
    add_up : (ys : List (SenderState Message)) → AllAt (λ k s. f s ≡ 0) ys → sum_by f ys ≡ 0
    add_up [] h = refl
    add_up (y ∷ ys) h =
        let all = sum_by-cons f y ys in
        let first = h 0 in
        let rest = add_up ys (λ k. h (suc k)) in
        omega (arith, all, first, rest)

-- they were credited with nothing
pub none_credited : (xs : List (SenderState Message)) → AllAt (λ k s. s ≡ first_sender k) xs → starts_credited xs ≡ 0
none_credited xs all = none_each start_share (λ k. refl) xs all

-- and they sent nothing
pub none_sent : (xs : List (SenderState Message)) → AllAt (λ k s. s ≡ first_sender k) xs → ends_sent xs ≡ 0
none_sent xs all = none_each end_share (λ k. refl) xs all
