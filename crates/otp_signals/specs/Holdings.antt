-- What an owner has, and how each call changes it (own).
use Rattle.std.specs.Prelude.{◌≡◌, ℕ, ◌+◌, ◌-◌, [], ◌∷◌, ◌++◌, length, filter, not}
use Rattle.otp_signals.specs.declared.signal.TheConstants.{NUMBER_LIMIT}
use Rattle.otp_signals.specs.declared.view.Holding.{Holding}
use Rattle.otp_signals.specs.Lists.{slots_below, between, merge}

-- the first owner's: it may draw every number below the limit, and post to every slot
abbrev pub first_holding : ℕ → Holding
first_holding slots = record { drawn = []; quota = NUMBER_LIMIT - 1; slots = slots_below slots; posts = [] }

-- nothing
abbrev pub no_holding : Holding
no_holding = record { drawn = []; quota = 0; slots = []; posts = [] }

-- with one more number, one fewer to draw
abbrev pub after_draw : ℕ → Holding → Holding
after_draw number h = record h { drawn = h.drawn ++ number ∷ []; quota = h.quota - 1 }

-- with one more word posted
abbrev pub after_post : ℕ → ℕ → Holding → Holding
after_post slot word h = record h { posts = h.posts ++ (slot, word) ∷ [] }

-- what is left where the slots from one to below another and a quota are cut off
abbrev pub kept_of : ℕ → ℕ → ℕ → Holding → Holding
kept_of from to quota h = record h { quota = h.quota - quota; slots = filter (λ s. not (between from to s)) h.slots }

-- what is cut off
abbrev pub cut_of : ℕ → ℕ → ℕ → Holding → Holding
cut_of from to quota h = record { drawn = []; quota = quota; slots = filter (between from to) h.slots; posts = [] }

-- all that two have
abbrev pub joined : Holding → Holding → Holding
joined h other = record { drawn = merge h.drawn other.drawn; quota = h.quota + other.quota; slots = h.slots ++ other.slots; posts = h.posts ++ other.posts }

-- it has the whole first quota, drawn or to draw: no other owner has drawn a number or may draw one
abbrev pub IsWhole : Holding → Type 0
IsWhole h = length h.drawn + h.quota ≡ NUMBER_LIMIT - 1
