-- The lines of a log, and the ids of a name, one after the other.
use Rattle.std.proofs.Common.{◌≡◌, ℕ, ◌+◌, ◌==◌, ◌&&◌, ◌∙◌, Bool, true, false, List, [], ◌∷◌, take, drop, Option, Some, None, Result, Ok, Err, position, refl, ap}
use Rattle.std.specs.List.{list_all}
use Rattle.otp_sim.specs.Sim.{lines_of}
use Rattle.otp_replay.specs.Events.{ids_of, is_id}
use Rattle.otp_replay.specs.Logs.{Log, and_then, line_taken, lines_taken}
use Rattle.otp_replay.specs.declared.reading.LogFault.{LogFault}
use Rattle.otp_replay.proofs.Cuts.{first_cut, one_part}

and_nothing : (taken : Result Log LogFault) → and_then taken (λ next. lines_taken [] next) ≡ taken
and_nothing (Ok log) = refl
and_nothing (Err fault) = refl

-- the last line
pub last_line : (text : List ℕ) (log : Log) → position (λ byte. byte == 10) text ≡ None → lines_taken (lines_of text) log ≡ line_taken text log
unfolding lines_of
last_line text log none = ap (λ (lines : List (List ℕ)). lines_taken lines log) (one_part (λ byte. byte == 10) text none) ∙ and_nothing (line_taken text log)

-- a line before others
pub next_line : (text : List ℕ) (end : ℕ) (log : Log) → position (λ byte. byte == 10) text ≡ Some end
    → lines_taken (lines_of text) log ≡ and_then (line_taken (take end text) log) (λ next. lines_taken (lines_of (drop (end + 1) text)) next)
unfolding lines_of
next_line text end log found = ap (λ (lines : List (List ℕ)). lines_taken lines log) (first_cut (λ byte. byte == 10) text end found)

true_is : (b : Bool) → (b && true) ≡ b
true_is true = refl
true_is false = refl

-- the last id
pub last_id : (word : List ℕ) → position (λ byte. byte == 47) word ≡ None → list_all is_id (ids_of word) ≡ is_id word
last_id word none = ap (list_all is_id) (one_part (λ byte. byte == 47) word none) ∙ true_is (is_id word)

-- an id before others
pub next_id : (word : List ℕ) (place : ℕ) → position (λ byte. byte == 47) word ≡ Some place
    → list_all is_id (ids_of word) ≡ (is_id (take place word) && list_all is_id (ids_of (drop (place + 1) word)))
next_id word place found = ap (list_all is_id) (first_cut (λ byte. byte == 47) word place found)

-- a line that has a fault ends the log
pub line_ended : (text : List ℕ) (end : ℕ) (log : Log) (fault : LogFault) → position (λ byte. byte == 10) text ≡ Some end
    → line_taken (take end text) log ≡ Err fault → lines_taken (lines_of text) log ≡ Err fault
line_ended text end log fault found is =
    next_line text end log found
    ∙ ap (λ (taken : Result Log LogFault). and_then taken (λ next. lines_taken (lines_of (drop (end + 1) text)) next)) is

-- after a line without one it goes on
pub line_done : (text : List ℕ) (end : ℕ) (log new : Log) → position (λ byte. byte == 10) text ≡ Some end
    → line_taken (take end text) log ≡ Ok new → lines_taken (lines_of text) log ≡ lines_taken (lines_of (drop (end + 1) text)) new
line_done text end log new found is =
    next_line text end log found
    ∙ ap (λ (taken : Result Log LogFault). and_then taken (λ next. lines_taken (lines_of (drop (end + 1) text)) next)) is
