-- Counts that are published and read (own).
use Rattle.std.specs.Prelude.{◌≡◌, ℕ, ◌+◌, List, [], ◌∷◌, ◌++◌}
use Rattle.atomic_table.specs.Seated.{TableId}
use Rattle.otp_rules.specs.declared.call.CountsNow.{CountsNow}

-- who publishes: in which word, and what was published there, in order
pub record Publishing : Type 0 where
  pub word : TableId
  pub published : List CountsNow

-- who reads: from which word, what had been published there when it read last, in order, and how often it read
pub record Reading : Type 0 where
  pub word : TableId
  pub seen : List CountsNow
  pub reads : ℕ

-- a pass that has read nothing
abbrev pub fresh_pass : TableId → Reading
fresh_pass word = record { word = word; seen = []; reads = 0 }

abbrev pub after_publish : CountsNow → Publishing → Publishing
after_publish c p = record p { published = p.published ++ c ∷ [] }

-- a list begins another
abbrev pub IsBeginning : List CountsNow → List CountsNow → Type 0
IsBeginning xs ys = (later : List CountsNow) × (ys ≡ xs ++ later)

-- a list ends with these counts
abbrev pub EndsWith : CountsNow → List CountsNow → Type 0
EndsWith c xs = (before : List CountsNow) × (xs ≡ before ++ c ∷ [])

-- a pass read these counts: the last of what had been published, which begins with what it saw before
pub record IsRead (old new : Reading) (answer : CountsNow) : Type 0 where
  pub word : new.word ≡ old.word
  pub seen : IsBeginning old.seen new.seen
  pub last : EndsWith answer new.seen
  pub reads : new.reads ≡ old.reads + 1

-- a seat of this word alone, which holds no slot
abbrev pub IsOfWord : {A : Type 0} → TableId → TableId → List A → Type 0
IsOfWord seat word slots = (seat ≡ word) × (word.words ≡ 1) × (slots ≡ [])
