-- The words of an order as it is told: `1.500 s  start pool/a #3`, or `1.500 s  pool/ end shutdown: ..` (own).
use Rattle.std.specs.Prelude.{ℕ, ◌+◌, ◌^◌, ◌-◌, ◌==◌, Bool, not, ◌&&◌, ◌||◌, List, [], Option, Some, None, codes, drop, length, nat_le, position, take, if◌then◌else◌}
use Rattle.std.specs.List.{list_any}
use Rattle.std.specs.Str.{bytes_eq}
use Rattle.otp_text.specs.Words.{number_up_to}

-- what stands before a place, which is all where there is none
abbrev pub before : Option ℕ → List ℕ → List ℕ
before None text = text
before (Some place) text = take place text

-- what stands behind a place
abbrev pub behind : Option ℕ → List ℕ → List ℕ
behind None text = []
behind (Some place) text = drop (place + 1) text

-- the word at the beginning of a text, and what stands behind it
unfoldable pub first_word : List ℕ → List ℕ
first_word text = before (position (λ byte. byte == 32) text) text

unfoldable pub rest_of : List ℕ → List ℕ
rest_of text = behind (position (λ byte. byte == 32) text) text

unfoldable pub without_front : ℕ → List ℕ → List ℕ
without_front count text = if nat_le count (length text) then drop count text else []

-- the order, behind its time: ` s  ` stands between
unfoldable pub order_in : List ℕ → List ℕ
order_in line = without_front 3 (rest_of line)

-- only a path has a `/`
unfoldable pub has_slash : List ℕ → Bool
has_slash word = list_any (λ byte. byte == 47) word

-- the path in front of an order, and the order behind it: that of the root has none, nor has one that names a child
unfoldable pub path_part : List ℕ → List ℕ
path_part order = if has_slash (first_word order) then first_word order else []

unfoldable pub own_part : List ℕ → List ℕ
own_part order = if has_slash (first_word order) then rest_of order else order

-- an order for the process of a child
unfoldable pub is_child_verb : List ℕ → Bool
is_child_verb verb = bytes_eq verb (codes "start") || bytes_eq verb (codes "ask") || bytes_eq verb (codes "kill")

-- the number of a process, behind its `#`
unfoldable pub number_in : List ℕ → Option ℕ
number_in word = number_up_to (2 ^ 64 - 1) (without_front 1 word)

-- how long a child was down: `1.500 s  pool/a was down 0.500 s` tells it in the place of an order
unfoldable pub is_down : List ℕ → Bool
is_down order = bytes_eq (first_word (rest_of order)) (codes "was") && bytes_eq (first_word (rest_of (rest_of order))) (codes "down")

-- an order of a supervisor below the root, which ends since its parent asked for it
unfoldable pub is_bystander : List ℕ → Bool
is_bystander order = has_slash (first_word order) && bytes_eq (own_part order) (codes "end shutdown: asked to stop")

-- a line that tells the end of a supervisor, unless its parent asked for it
unfoldable pub is_end : List ℕ → Bool
is_end line = bytes_eq (first_word (own_part (order_in line))) (codes "end") && not (is_bystander (order_in line))
