-- The children of a run, by the lines that tell their orders (own).
use Rattle.std.specs.Prelude.{ℕ, ◌-◌, ◌==◌, Bool, true, false, not, ◌&&◌, ◌||◌, List, [], ◌∷◌, ◌++◌, Option, Some, None, codes, drop, length, nat_le, take, if◌then◌else◌}
use Rattle.std.specs.List.{flat_map, list_any}
use Rattle.std.specs.Str.{bytes_eq}
use Rattle.otp_try.specs.declared.account.account.Account.{Account}
use Rattle.otp_try.specs.declared.account.account.Played.{Played}
use Rattle.otp_try_pages.specs.Orders.{first_word, is_child_verb, is_down, order_in, own_part, rest_of}

-- all lines that a run told
unfoldable pub all_told : Account → List ℕ
all_told account = account.opening.told.items ++ flat_map (λ (one : Played). one.told.items) account.lines.items

-- the word of an order
unfoldable pub verb_in : List ℕ → List ℕ
verb_in line = first_word (own_part (order_in line))

unfoldable pub is_start : List ℕ → Bool
is_start line = bytes_eq (verb_in line) (codes "start")

-- the child of which a line tells: who was down, or whose process an order is for; else none
unfoldable pub child_in : List ℕ → List ℕ
child_in line =
    if is_down (order_in line) then first_word (order_in line)
    else if is_child_verb (verb_in line) then first_word (rest_of (own_part (order_in line)))
    else []

-- a child without an id is told as `-`, behind the path of its supervisor
unfoldable pub is_nameless : List ℕ → Bool
is_nameless name = bytes_eq name (codes "-") || bytes_eq (drop (length name - 2) name) (codes "/-")

-- the child that a line starts, behind others, if it has an id and isn't there yet
unfoldable pub is_known : List (List ℕ) → List ℕ → Bool
is_known names name = list_any (λ other. bytes_eq other name) names

unfoldable pub is_first_start : List (List ℕ) → List ℕ → Bool
is_first_start names line = is_start line && not (is_nameless (child_in line)) && not (is_known names (child_in line))

unfoldable pub with_name : List (List ℕ) → List ℕ → List (List ℕ)
with_name names line = if is_first_start names line then names ++ child_in line ∷ [] else names

-- the children that these lines start, each once, in the order of their first starts; the first line has begun so
abbrev pub names_from : List ℕ → List (List ℕ) → List ℕ → List (List ℕ)
names_from line names [] = names
names_from line names (byte ∷ bytes) =
    if byte == 10 then names_from [] (with_name names line) bytes else names_from (line ++ byte ∷ []) names bytes
