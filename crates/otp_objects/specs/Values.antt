-- Values of a specification, as JSON has them (own).
use Rattle.std.specs.Prelude.{ℕ, Bool, List, ◌++◌, codes, decimal}
use Rattle.otp_json.specs.Values.{key_text, text_member}
use Rattle.otp_spec.specs.declared.child.Shutdown.{Shutdown}
use Rattle.otp_spec.specs.declared.child.Shutdown.TheVariants.{BrutalKill, Milliseconds, Infinity}
use Rattle.otp_text.specs.Values.{bool_text}

-- a member that is true or false
unfoldable pub bool_member : List ℕ → Bool → List ℕ
bool_member key value = key_text (codes ", ") key ++ bool_text value

-- one that is a word
unfoldable pub word_member : List ℕ → List ℕ → List ℕ
word_member key word = text_member (codes ", ") key word

-- how a child is stopped: after so many milliseconds it is killed; a word where it is killed at once, or never
unfoldable pub shutdown_value : Shutdown → List ℕ
shutdown_value BrutalKill = codes "\"brutal_kill\""
shutdown_value (Milliseconds count) = decimal count
shutdown_value Infinity = codes "\"infinity\""

unfoldable pub shutdown_member : Shutdown → List ℕ
shutdown_member shutdown = key_text (codes ", ") (codes "shutdown") ++ shutdown_value shutdown
