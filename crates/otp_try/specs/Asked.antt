-- What a person may ask of the prompt itself (own).
use Rattle.std.specs.Prelude.{ℕ, ◌||◌, List, Option, Some, None, codes, if◌then◌else◌}
use Rattle.std.specs.Str.{bytes_eq}
use Rattle.otp_try.specs.declared.asked.Asked.{Asked}
use Rattle.otp_try.specs.declared.asked.Asked.TheVariants as asked

-- what a word asks, if it does
unfoldable pub asked_by : List ℕ → Option Asked
asked_by word =
    if bytes_eq word (codes "help") || bytes_eq word (codes "?") then Some asked.Help
    else if bytes_eq word (codes "status") then Some asked.Status
    else if bytes_eq word (codes "undo") then Some asked.Undo
    else if bytes_eq word (codes "reset") then Some asked.Reset
    else if bytes_eq word (codes "quit") then Some asked.Quit
    else None
