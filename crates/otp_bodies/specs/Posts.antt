-- What an office posted, against the orders that it sent. (own)
use Rattle.std.specs.Prelude.{◌≡◌, ℕ, List, [], ◌∷◌, ◌++◌, Option, Some, None, All, filter_map, map}
use Rattle.otp_rules.specs.declared.event.Effect.{Effect}
use Rattle.otp_bodies.specs.Orders.{word_ordered}

-- these words were posted one after the other: each once, or several times in a row
abbrev pub WerePosted : List ℕ → List ℕ → Type 0
WerePosted [] posts = posts ≡ []
WerePosted (w ∷ words) posts = (again : List ℕ) × (later : List ℕ) × (posts ≡ w ∷ again ++ later) × All (λ v. v ≡ w) again × WerePosted words later

-- the words that the sending of these orders posts
abbrev pub words_ordered : List Effect → List ℕ
words_ordered orders = filter_map word_ordered orders

-- the word of the first order, if it posts one
abbrev pub first_word : List Effect → Option ℕ
first_word [] = None
first_word (x ∷ xs) = word_ordered x

-- the words among what was posted to slots
abbrev pub words_in : List (ℕ × ℕ) → List ℕ
words_in posts = map (λ (post : ℕ × ℕ). post.1) posts

-- what was posted: the words of the orders that were sent, in their order, and then tries of the first that is to be sent, which
-- a port refused. A try of an order posts its word
pub record ArePosts (sent outbox : List Effect) (posts : List ℕ) : Type 0 where
  pub done : List ℕ
  pub tries : List ℕ
  pub are : posts ≡ done ++ tries
  pub were : WerePosted (words_ordered sent) done
  pub tried : All (λ w. first_word outbox ≡ Some w) tries
