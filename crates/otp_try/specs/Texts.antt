-- What a person is told first, and for help (own).
use Rattle.std.specs.Prelude.{ℕ, List, ◌++◌, codes}

-- what a person may write at the prompt: what goes wrong
unfoldable pub help_failures : List ℕ
help_failures = codes "crash CHILD [REASON]   its process ends, with error:crash if no reason is given\nexit CHILD REASON      its process ends with this reason\nfail ID [REASON]       its next start fails\nignore ID              its next start answers ignore\ninit ID 8s             its starts take 8 s from now on\nhang CHILD             it doesn't end when it is next asked to\nslow CHILD 3s          it ends 3 s after it is next asked to\n"

-- what is asked of the supervisor
unfoldable pub help_requests : List ℕ
help_requests = codes "stop                   the supervisor is asked to shut down\nwhich, count, get ID, restart ID, terminate ID, delete ID, start ..\n                       calls of the supervisor\nexpect up CHILD, expect end CHILD, expect restarts ID 2\n                       whether it is so; without a child of the supervisor itself\n"

-- how the clock is moved, and how a child is named
unfoldable pub help_names : List ℕ
help_names = codes "at 10s, +500ms         the clock goes there, alone or before other words\nevery 2s 20 times ..   what follows happens so often\nstatus, help, quit     how all stand; these lines; the end (as Ctrl-D)\nundo, reset            back before the last line, or to the beginning\nCHILD is an id, or a process number as #3; below the root it has its path, as\nsub/x. Times may be 1.5s, 500ms, 2m or 1h.\n"

-- what a person may write at the prompt
unfoldable pub help_text : List ℕ
help_text = help_failures ++ help_requests ++ help_names

-- what a person is told first
unfoldable pub welcome_text : List ℕ
welcome_text = codes "help lists what may be written here\n"

-- what ends the line of the prompt where the input ends
unfoldable pub farewell_text : List ℕ
farewell_text = codes "\n"

-- what the cells of a picture mean
unfoldable pub legend_text : List ℕ
legend_text = codes "#N runs as process N, *#N anew; +#N starts, -#N is to end; retry: start failed\na column is a line of the script, when it was played; N/M: N restarts of M\n"
