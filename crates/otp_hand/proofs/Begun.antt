-- Starts that were credited to senders.
use Rattle.std.proofs.Common.{◌≡◌, ◌+◌, List, [], ◌∷◌, ◌++◌, arith}
use Rattle.std.proofs.lemmas.List.Sums.{sum_by-append, sum_by-cons}
use Rattle.otp_inbox.specs.Tokens.{SenderState}
use Rattle.otp_bodies.specs.declared.letter.Message.{Message}
use Rattle.otp_hand.specs.Begun.{start_share, starts_credited}

-- one more sender
pub starts_push : (xs : List (SenderState Message)) (x : SenderState Message) → starts_credited (xs ++ x ∷ []) ≡ starts_credited xs + start_share x
starts_push xs x = let all = sum_by-append start_share xs (x ∷ []) in let one = sum_by-cons start_share x [] in omega (arith, all, one)
