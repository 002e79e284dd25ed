-- The name of a tree that may grow.
use Rattle.std.proofs.Common.{◌≡◌, List, [], ◌∷◌, ◌++◌, length, refl}
use Rattle.otp_inbox.specs.Names.{InboxId, numbered}

-- behind a list of inboxes stands the one whose number is their count
pub numbered_last : (ids : List InboxId) (last : InboxId) → last ≡ numbered (ids ++ last ∷ []) (length ids)
numbered_last [] last = refl
numbered_last (x ∷ ids) last = numbered_last ids last
