-- What a line of a log says happened (own).
use Rattle.std.specs.Prelude.{ℕ, Bool, true, false, not, ◌&&◌, ◌||◌, ◌==◌, List, [], ◌∷◌, Option, Some, None, codes, is_some, if◌then◌else◌}
use Rattle.std.specs.List.{list_all, slice_split}
use Rattle.std.specs.Str.{bytes_eq}
use Rattle.otp_text.specs.Words.{name_in, reason_in}
use Rattle.otp_replay.specs.Words.{is_empty, rest_of, stripped, word_of}
use Rattle.otp_replay.specs.declared.event.Said.{Said}
use Rattle.otp_replay.specs.declared.event.Said.TheVariants.{Unknown, AsInScripts, IsUp}

abbrev pub is_id : List ℕ → Bool
is_id word = is_some (name_in word)

-- the ids of a child's name, which have a `/` between them
abbrev pub ids_of : List ℕ → List (List ℕ)
ids_of word = slice_split (λ byte. byte == 47) word

-- a child, as pool/worker
unfoldable pub is_child : List ℕ → Bool
is_child word = list_all is_id (ids_of word)

abbrev pub is_reason : List ℕ → Bool
is_reason word = is_some (reason_in word)

unfoldable pub said_if : Bool → Said → Said
said_if true said = said
said_if false said = Unknown

-- what these words say: `crash CHILD`, `crash CHILD REASON`, `exit CHILD REASON`, `stop`, or `up CHILD`
unfoldable pub said_by : List ℕ → List ℕ → List ℕ → Said
said_by verb child reason =
    if bytes_eq verb (codes "crash") then said_if (is_child child && (is_empty reason || is_reason reason)) AsInScripts
    else if bytes_eq verb (codes "exit") then said_if (is_child child && is_reason reason) AsInScripts
    else if bytes_eq verb (codes "up") then said_if (is_child child && is_empty reason) IsUp
    else if bytes_eq verb (codes "stop") then said_if (is_empty child) AsInScripts
    else Unknown

-- what a line says from its first word on, which has three at the most
unfoldable pub said_in : List ℕ → Said
said_in line =
    let second = stripped (rest_of line) in
    let third = stripped (rest_of second) in
    if is_empty (stripped (rest_of third)) then said_by (word_of line) (word_of second) (word_of third) else Unknown
