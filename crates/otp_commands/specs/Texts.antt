-- The words of a remark (own).
use Rattle.std.specs.Prelude.{ℕ, ◌==◌, List, [], ◌∷◌, ◌++◌, codes, decimal, if◌then◌else◌}
use Rattle.otp_reason.specs.Names.{name_bytes}
use Rattle.otp_commands.specs.declared.lint.remark.RemarkKind.{RemarkKind}
use Rattle.otp_commands.specs.declared.lint.remark.RemarkKind.TheVariants as kind
use Rattle.otp_commands.specs.declared.lint.remark.Remark.{Remark}

-- the number of a kind
abbrev pub code_of : RemarkKind → ℕ
code_of (kind.LongStop stop period) = 1
code_of (kind.NoRestart children) = 2
code_of kind.EndlessWorker = 3
code_of (kind.FanOut children start intensity) = 4
code_of kind.NeverEnds = 5
code_of (kind.AlikeId other) = 6

-- whom it is about
unfoldable pub whom_text : List ℕ → List ℕ
whom_text [] = codes "root"
whom_text (byte ∷ bytes) = byte ∷ bytes

-- which end ends the supervisor that has so many permanent children
unfoldable pub ends_text : ℕ → List ℕ
ends_text children = if children == 1 then codes "the end of its permanent child" else codes "the end of one of its " ++ decimal children ++ codes " permanent children"

-- of each kind what is so, and what would mend it; three end with these words
unfoldable pub long_stop_why : List ℕ
long_stop_why = codes " s: restarts that wait so long for it never exceed the intensity; write shorter shutdowns, or a longer period"

unfoldable pub long_stop_end : ℕ → List ℕ
long_stop_end period = codes " ms, longer than its supervisor's period of " ++ decimal period ++ long_stop_why

unfoldable pub no_restart_end : List ℕ
no_restart_end = codes " ends this supervisor, and nothing is started again; write an intensity from 1 on"

unfoldable pub alike_end : List ℕ
alike_end = codes ", that of a sibling; write another id"

unfoldable pub long_stop_text : ℕ → ℕ → List ℕ
long_stop_text stop period = codes "its stop may take " ++ decimal stop ++ long_stop_end period

unfoldable pub no_restart_text : ℕ → List ℕ
no_restart_text children =
    codes "intensity = 0: " ++ ends_text children ++ no_restart_end

unfoldable pub endless_text : List ℕ
endless_text = codes "a worker with shutdown = \"infinity\": while it doesn't end, nor does its supervisor's stop; write milliseconds"

unfoldable pub fan_out_text : ℕ → List ℕ → ℕ → List ℕ
fan_out_text children start intensity =
    decimal children ++ codes " children here start " ++ start ++ codes "; if one cause ends them all, intensity = " ++ decimal intensity
    ++ codes " is too small; write intensity = " ++ decimal children

unfoldable pub never_ends_text : List ℕ
never_ends_text =
    codes "significant, but it never ends by itself: its tree starts no child again, and none shuts it down; leave out significant, or change its tree"

unfoldable pub alike_text : List ℕ → List ℕ
alike_text other = codes "its id looks like " ++ other ++ alike_end

abbrev pub what_text : RemarkKind → List ℕ
what_text (kind.LongStop stop period) = long_stop_text stop period
what_text (kind.NoRestart children) = no_restart_text children
what_text kind.EndlessWorker = endless_text
what_text (kind.FanOut children start intensity) = fan_out_text children (name_bytes start) intensity
what_text kind.NeverEnds = never_ends_text
what_text (kind.AlikeId other) = alike_text (name_bytes other)

-- the whole of it, in one line without its end
unfoldable pub remark_text : Remark → List ℕ
remark_text remark = codes "L" ++ decimal (code_of remark.kind) ++ codes ": " ++ whom_text remark.path ++ codes ": " ++ what_text remark.kind
