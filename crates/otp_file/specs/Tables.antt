-- The two kinds of table in a tree file, and the keys that each may have.
use Rattle.std.specs.Prelude.{ℕ, Bool, ◌||◌, codes, List, [], ◌∷◌}
use Rattle.std.specs.List.{list_all}
use Rattle.std.specs.Str.{bytes_eq}
use Rattle.toml.specs.Data.{Members, no_members, member}
use Rattle.otp_file.specs.declared.fault.FlagKey.{FlagKey}
use Rattle.otp_file.specs.declared.fault.FlagKey.TheVariants.{Strategy, Intensity, Period, AutoShutdown, Child}
use Rattle.otp_file.specs.declared.fault.ChildKey.{ChildKey}
use Rattle.otp_file.specs.declared.fault.ChildKey.TheVariants.{Id, Start, Restart, Significant, Shutdown, Kind, Modules, Tree}

-- the keys of a table (own)
abbrev pub keys_in : Members → List (List ℕ)
keys_in no_members = []
keys_in (member key _ rest) = key ∷ keys_in rest

-- the keys of a supervisor's table, as they are read and printed (Supervisor Behaviour, "Supervisor Flags", and
-- `child`, which is own)
abbrev pub flag_key_text : FlagKey → List ℕ
flag_key_text Strategy = codes "strategy"
flag_key_text Intensity = codes "intensity"
flag_key_text Period = codes "period"
flag_key_text AutoShutdown = codes "auto_shutdown"
flag_key_text Child = codes "child"

-- the keys of a child's table (Supervisor Behaviour, "Child Specification", and `tree`, which is own)
abbrev pub child_key_text : ChildKey → List ℕ
child_key_text Id = codes "id"
child_key_text Start = codes "start"
child_key_text Restart = codes "restart"
child_key_text Significant = codes "significant"
child_key_text Shutdown = codes "shutdown"
child_key_text Kind = codes "type"
child_key_text Modules = codes "modules"
child_key_text Tree = codes "tree"

-- a key of a supervisor's table
abbrev pub is_flag_key : List ℕ → Bool
is_flag_key key =
    bytes_eq key (flag_key_text Strategy) || bytes_eq key (flag_key_text Intensity) || bytes_eq key (flag_key_text Period)
    || bytes_eq key (flag_key_text AutoShutdown) || bytes_eq key (flag_key_text Child)

-- a key of a child's table
abbrev pub is_child_key : List ℕ → Bool
is_child_key key =
    bytes_eq key (child_key_text Id) || bytes_eq key (child_key_text Start) || bytes_eq key (child_key_text Restart)
    || bytes_eq key (child_key_text Significant) || bytes_eq key (child_key_text Shutdown) || bytes_eq key (child_key_text Kind)
    || bytes_eq key (child_key_text Modules) || bytes_eq key (child_key_text Tree)

-- the table has no key but these (own)
abbrev pub has_only : (List ℕ → Bool) → Members → Bool
has_only is_listed table = list_all is_listed (keys_in table)
