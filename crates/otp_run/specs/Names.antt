-- Which deque it is. (own)
use Rattle.std.specs.Prelude.{◌≡◌, ℕ, List, slice_get, Option, Some, None, IfSome, refl}
use Rattle.std.proofs.Common.{Global}
use Rattle.otp_run.specs.Lists.{AllAt}

-- a deque, as contracts tell it from others
abbrev pub DequeId : Type 0
DequeId = (ℕ × ℕ) × Global

-- no deque is this one
abbrev pub no_deque : DequeId
no_deque = ((0, 0), record { memory = record { seal = tt } })

abbrev pub id_or_none : Option DequeId → DequeId
id_or_none (Some id) = id
id_or_none None = no_deque

-- a name for the deques of a list: the number k is the k-th of them
abbrev pub numbered : List DequeId → ℕ → DequeId
numbered ids k = id_or_none (slice_get ids k)

-- by that name each has its place as its number
pub numbered-names : (ids : List DequeId) → AllAt (λ k id. id ≡ numbered ids k) ids
numbered-names ids k = elim (slice_get ids k) as (λ o. IfSome o (λ id. id ≡ id_or_none o)) [ Some id ↦ refl | None ↦ tt ]
