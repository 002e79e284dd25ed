-- Keys of an object of JSON that stands on a line (own).
use Rattle.std.specs.Prelude.{ℕ, Bool, ◌&&◌, List, [], codes, drop, length, if◌then◌else◌}
use Rattle.otp_logs.specs.Words.{begins, first_tail, is_empty, stripped}

-- a text begins with a key, which has its quotes, and a colon behind it
unfoldable pub is_key : List ℕ → List ℕ → Bool
is_key key text = begins key text && begins (codes ":") (stripped (drop (length key) text))

-- a line from the value of a key on; nothing where it hasn't that key
unfoldable pub value_of : List ℕ → List ℕ → List ℕ
value_of key line = stripped (drop 1 (stripped (drop (length key) (first_tail (λ text. is_key key text) line))))

-- what stands behind the quote that opens a text; nothing where a value is none
unfoldable pub quoted : List ℕ → List ℕ
quoted value = if begins (codes "\"") value then drop 1 value else []

-- a line from the text of a key on, as it is written; nothing where its value is none
unfoldable pub text_of : List ℕ → List ℕ → List ℕ
text_of key line = quoted (value_of key line)

abbrev pub or_text : List ℕ → List ℕ → List ℕ
or_text first second = if is_empty first then second else first

-- a line from what an object says on, as the formatters of Erlang's and Elixir's loggers write it
unfoldable pub message_of : List ℕ → List ℕ
message_of line = or_text (text_of (codes "\"message\"") line) (text_of (codes "\"msg\"") line)
