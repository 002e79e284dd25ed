-- The rule of the word: it is the last that was published (own).
use Rattle.std.specs.Prelude.{◌≡◌, ◌⊎◌, ℕ, ◌+◌, List, [], ◌∷◌, ◌++◌}
use mathlib.Core.Option.{some}
use lib.ListN.{get_elem?}
use Rattle.atomic_table.specs.Table.{State, Me, Step}
use Rattle.otp_signals.specs.declared.counts.view.CountsView.{CountsView}

-- the first seat published all, and no other published any
abbrev pub Published : List ℕ → ℕ → CountsView → Type 0
Published all id v = (v.published ≡ []) ⊎ ((id ≡ 0) × (v.published ≡ all))

-- a word list begins another
abbrev pub Begins : List ℕ → List ℕ → Type 0
Begins xs ys = (later : List ℕ) × (ys ≡ xs ++ later)

pub record KeepsRule (s : State ℕ CountsView) : Type 0 where
  pub before : List ℕ
  pub last : ℕ
  pub word : s.words ≡ last ∷ []
  -- what a seat saw is a beginning of what was published
  pub seats : (id : ℕ) (v : CountsView) → get_elem? s.views id ≡ some v → Published (before ++ last ∷ []) id v × Begins v.seen (before ++ last ∷ [])

-- the views of the one who publishes at first, and of a pass that begins
abbrev pub first_view : ℕ → CountsView
first_view word = record { published = word ∷ []; seen = []; reads = 0 }

abbrev pub blank_view : CountsView
blank_view = record { published = []; seen = []; reads = 0 }

-- the view of one who publishes while it holds what a pass saw, and the two after that
abbrev pub lent_view : CountsView → CountsView → CountsView
lent_view v w = record { published = v.published; seen = w.seen; reads = w.reads }

abbrev pub publisher_view : CountsView → CountsView
publisher_view v = record v { seen = []; reads = 0 }

abbrev pub pass_view : CountsView → CountsView
pass_view v = record v { published = [] }

-- What each step tells the seat that makes it: of the step, the seat before, the word found and the seat after.

-- the operand is published
abbrev pub Publishes : Step ℕ → Me ℕ CountsView → ℕ → Me ℕ CountsView → Type 0
Publishes s v n w = w ≡ (record v.0 { published = v.0.published ++ s.first ∷ [] }, v.1)

-- all that was published is seen, and its last is the word found
abbrev pub Reads : Step ℕ → Me ℕ CountsView → ℕ → Me ℕ CountsView → Type 0
Reads s v n w =
    (all : List ℕ) × (before : List ℕ) × (w ≡ (record v.0 { seen = all; reads = v.0.reads + 1 }, v.1)) × Begins v.0.seen all × (all ≡ before ++ n ∷ [])

-- nothing changes; what a seat that publishes has seen is a beginning of what it published
abbrev pub Witnesses : Step ℕ → Me ℕ CountsView → ℕ → Me ℕ CountsView → Type 0
Witnesses s v n w = (w ≡ v) × ((v.0.published ≡ []) ⊎ Begins v.0.seen v.0.published)
