-- The rules that hold of the words and of what all owners and viewers did, after each step (own). Those that were dropped count too.
use Rattle.std.specs.Prelude.{◌≡◌, ℕ, ◌+◌, ◌-◌, ◌<◌, ◌≤◌, true, false, List, [], ◌∷◌, ◌++◌, length, slice_index, sum_by}
use mathlib.Core.Option.{some}
use lib.ListN.{get_elem?}
use Rattle.atomic_table.specs.Table.{State, Step, Me}
use Rattle.otp_signals.specs.declared.signal.TheConstants.{NUMBER_LIMIT}
use Rattle.otp_signals.specs.declared.view.Holding.{Holding}
use Rattle.otp_signals.specs.declared.view.SignalsView.{SignalsView}
use Rattle.otp_signals.specs.Lists.{numbers_to, AsOften, Below, Rises, NeverFalls, ZeroOrIn, greatest, has, words_at}
use Rattle.otp_signals.specs.Holdings.{no_holding, first_holding, after_draw, after_post, kept_of, cut_of, joined}

-- the numbers that all owners drew
abbrev pub all_drawn : List SignalsView → List ℕ
all_drawn [] = []
all_drawn (v ∷ vs) = v.holding.drawn ++ all_drawn vs

-- what all owners may still draw
abbrev pub quotas : List SignalsView → ℕ
quotas vs = sum_by (λ (v : SignalsView). v.holding.quota) vs

-- The number rule.
pub record NumberRule (counter : ℕ) (views : List SignalsView) : Type 0 where
  pub begins : 1 ≤ counter
  -- together the owners drew the numbers from 1 to below the counter, each once and no other
  pub once : AsOften (all_drawn views) (numbers_to (counter - 1))
  -- each owner's list rises
  pub rises : (id : ℕ) (v : SignalsView) → get_elem? views id ≡ some v → Rises v.holding.drawn × Below counter v.holding.drawn
  -- the counter and what may still be drawn are the limit together
  pub room : counter + quotas views ≡ NUMBER_LIMIT

-- the slots of the seat `id` are those that name it as their owner, and it posted to them alone
abbrev pub Owns : (ℕ → ℕ) → (ℕ → List ℕ) → ℕ → SignalsView → Type 0
Owns owner posted id v =
    (slot : ℕ) → (has slot v.holding.slots ≡ true → (owner slot ≡ id) × (words_at slot v.holding.posts ≡ posted slot)) × (has slot v.holding.slots ≡ false → words_at slot v.holding.posts ≡ [])

-- what a viewer loaded at a slot never falls, and each word is 0 or was posted there
abbrev pub Saw : (ℕ → List ℕ) → SignalsView → Type 0
Saw posted v = (slot : ℕ) → NeverFalls (words_at slot v.looks) × ZeroOrIn (posted slot) (words_at slot v.looks)

-- The signal rule, where `owner` and `posted` give each slot's one owner and what that owner posted there.
pub record SignalRule (slots : ℕ) (words : List ℕ) (views : List SignalsView) (owner : ℕ → ℕ) (posted : ℕ → List ℕ) : Type 0 where
  pub owned : (slot : ℕ) → slot < slots → (v : SignalsView) × (get_elem? views (owner slot) ≡ some v) × (has slot v.holding.slots ≡ true)
  -- the slot's word is the greatest that its owner posted there, and 0 where it posted none
  pub greatest_is : (slot : ℕ) → slot < slots → slice_index words (slot + 1) ≡ greatest (posted slot)
  pub seats : (id : ℕ) (v : SignalsView) → get_elem? views id ≡ some v → Owns owner posted id v × Saw posted v

-- Both rules. The counter is the word 0, and a slot's word is the next after its number.
pub record KeepsRules (slots : ℕ) (s : State ℕ SignalsView) : Type 0 where
  pub words : length s.words ≡ slots + 1
  pub numbers : NumberRule (slice_index s.words 0) s.views
  pub signals : (owner : ℕ → ℕ) × (posted : ℕ → List ℕ) × SignalRule slots s.words s.views owner posted

-- the views of the first owner, of a viewer that begins, and of what a joined owner leaves
abbrev pub first_view : ℕ → SignalsView
first_view slots = record { holding = first_holding slots; looks = [] }

abbrev pub blank_view : SignalsView
blank_view = record { holding = no_holding; looks = [] }

abbrev pub kept_view : ℕ → ℕ → ℕ → SignalsView → SignalsView
kept_view from to quota v = record v { holding = kept_of from to quota v.holding }

abbrev pub cut_view : ℕ → ℕ → ℕ → SignalsView → SignalsView
cut_view from to quota v = record { holding = cut_of from to quota v.holding; looks = [] }

abbrev pub joined_view : SignalsView → SignalsView → SignalsView
joined_view v w = record v { holding = joined v.holding w.holding }

-- an owner's while it holds what a viewer saw, and the two after that
abbrev pub lent_view : SignalsView → SignalsView → SignalsView
lent_view v w = record v { looks = w.looks }

abbrev pub unlent_view : SignalsView → SignalsView
unlent_view v = record v { looks = [] }

abbrev pub looks_view : SignalsView → SignalsView
looks_view v = record v { holding = no_holding }

-- What each step tells the seat that makes it: of the step, the seat before, the number found and the seat after.

-- the number found is drawn; it is new and below the limit
abbrev pub Draws : Step ℕ → Me ℕ SignalsView → ℕ → Me ℕ SignalsView → Type 0
Draws s v n w = (w ≡ (record v.0 { holding = after_draw n v.0.holding }, v.1)) × (1 ≤ n) × (n < NUMBER_LIMIT) × Below n v.0.holding.drawn

-- the operand is posted
abbrev pub Posts : Step ℕ → Me ℕ SignalsView → ℕ → Me ℕ SignalsView → Type 0
Posts s v n w = w ≡ (record v.0 { holding = after_post (s.word - 1) s.first v.0.holding }, v.1)

-- the number found was looked at
abbrev pub Looks : Step ℕ → Me ℕ SignalsView → ℕ → Me ℕ SignalsView → Type 0
Looks s v n w = w ≡ (record v.0 { looks = v.0.looks ++ (s.word - 1, n) ∷ [] }, v.1)

-- nothing changes; at the owner's slots what was seen never falls, and each word is 0 or was posted there by this owner
abbrev pub Witnesses : Step ℕ → Me ℕ SignalsView → ℕ → Me ℕ SignalsView → Type 0
Witnesses s v n w = (w ≡ v) × ((slot : ℕ) → has slot v.0.holding.slots ≡ true → NeverFalls (words_at slot v.0.looks) × ZeroOrIn (words_at slot v.0.holding.posts) (words_at slot v.0.looks))

-- nothing changes; the owner's list rises, and it has at most the whole first quota
abbrev pub Learns : Step ℕ → Me ℕ SignalsView → ℕ → Me ℕ SignalsView → Type 0
Learns s v n w = (w ≡ v) × Rises v.0.holding.drawn × (length v.0.holding.drawn + v.0.holding.quota < NUMBER_LIMIT)

-- an owner's numbers are below the limit, it has at most the whole first quota, and its slots are among those of a table of so many words
pub record Fits (words : ℕ) (h : Holding) : Type 0 where
  pub below : Below NUMBER_LIMIT h.drawn
  pub room : length h.drawn + h.quota < NUMBER_LIMIT
  pub slots : (slot : ℕ) → has slot h.slots ≡ true → slot + 1 < words

-- where the words end: a last state that keeps both rules, with this counter and this owner among its views
pub record Ended (slots : ℕ) (h : Holding) (counter : ℕ) : Type 0 where
  pub state : State ℕ SignalsView
  pub keeps : KeepsRules slots state
  pub counts : slice_index state.words 0 ≡ counter
  pub owner : (id : ℕ) × (v : SignalsView) × (get_elem? state.views id ≡ some v) × (v.holding ≡ h)
