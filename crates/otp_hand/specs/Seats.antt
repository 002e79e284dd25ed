-- What senders to each supervisor have. (own)
use Rattle.std.specs.Prelude.{◌≡◌, ℕ, ◌<◌, List, slice_get, IfSome}
use Rattle.otp_inbox.specs.Tokens.{SenderState}
use Rattle.otp_bodies.specs.declared.letter.Message.{Message}

-- the k-th sends to the supervisor k
abbrev pub Seated : List (SenderState Message) → Type 0
Seated senders = (k : ℕ) → IfSome (slice_get senders k) (λ (s : SenderState Message). (s.inbox ≡ k) × (0 < s.parts))
