-- Remarks on a lawful tree: what its writer may not have meant, by what its tables say (own). Each is decided by the tree alone; no time is
-- played.
use Rattle.std.specs.Prelude.{ℕ, ◌+◌, ◌*◌, ◌==◌, Bool, true, false, not, ◌&&◌, ◌||◌, List, [], ◌∷◌, ◌++◌, Option, Some, None, codes, count_by, is_none, map, nat_le, nat_lt, option_map, slice_get, take, if◌then◌else◌}
use Rattle.std.specs.List.{list_any}
use Rattle.std.specs.Str.{bytes_eq}
use Rattle.otp_file.specs.Trees.{Table, Tree, tables_of}
use Rattle.otp_reason.specs.Names.{name_bytes}
use Rattle.otp_reason.specs.declared.name.Name.{Name}
use Rattle.otp_spec.specs.Lawful.{is_permanent}
use Rattle.otp_spec.specs.declared.child.ChildSpec.{ChildSpec}
use Rattle.otp_spec.specs.declared.child.ChildType.{ChildType}
use Rattle.otp_spec.specs.declared.child.ChildType.TheVariants.{Worker, Supervisor}
use Rattle.otp_spec.specs.declared.flags.Strategy.{Strategy}
use Rattle.otp_spec.specs.declared.flags.Strategy.TheVariants.{OneForOne, OneForAll, RestForOne, SimpleOneForOne}
use Rattle.otp_spec.specs.declared.flags.SupFlags.{SupFlags}
use Rattle.otp_shutdown.specs.Stops.{is_endless_by}
use Rattle.otp_commands.specs.Below.{below_in, is_restartable, may_restart, seen_in, stop_of}
use Rattle.otp_commands.specs.declared.lint.below.Below.{Below}
use Rattle.otp_commands.specs.declared.lint.below.LintedChild.{LintedChild}
use Rattle.otp_commands.specs.declared.lint.remark.RemarkKind.{RemarkKind}
use Rattle.otp_commands.specs.declared.lint.remark.RemarkKind.TheVariants as kind
use Rattle.otp_commands.specs.declared.lint.remark.Remark.{Remark}

-- L1: a stop that may last longer than the supervisor's period

-- this child is a supervisor of its own, which may end by itself and is started again: its supervisor hears of it once it has stopped
abbrev pub gives_up : LintedChild → Bool
gives_up child = not (is_none child.tree) && may_restart child

-- a restart waits for the stop of this child: its own does, or that of a sibling that was started before it, or after it
unfoldable pub is_waited_for : Strategy → List LintedChild → LintedChild → List LintedChild → Bool
is_waited_for OneForOne earlier child later = gives_up child
is_waited_for OneForAll earlier child later = gives_up child || list_any may_restart earlier || list_any may_restart later
is_waited_for RestForOne earlier child later = gives_up child || list_any may_restart earlier
is_waited_for SimpleOneForOne earlier child later = false

-- so many milliseconds are more than so many seconds
abbrev pub is_longer : ℕ → ℕ → Bool
is_longer stop period = nat_lt (period * 1000) stop

-- restarts that wait for it come one in a period at the most, which is never above an intensity from 1 on
unfoldable pub long_stop : SupFlags → List LintedChild → LintedChild → List LintedChild → Option RemarkKind
long_stop flags earlier child later =
    if nat_le 1 flags.intensity && is_restartable child.spec.restart && is_longer (stop_of child) flags.period && is_waited_for flags.strategy earlier child later
    then Some (kind.LongStop (stop_of child) flags.period) else None

-- L2: an intensity of 0 over permanent children: each end of one ends the supervisor

abbrev pub is_always : LintedChild → Bool
is_always child = is_permanent child.spec.restart

unfoldable pub no_restart : SupFlags → List LintedChild → Option RemarkKind
no_restart flags children =
    if flags.intensity == 0 && nat_le 1 (count_by is_always children) then Some (kind.NoRestart (count_by is_always children)) else None

-- L3: a worker that has for ever to stop

unfoldable pub is_worker : ChildType → Bool
is_worker Worker = true
is_worker Supervisor = false

unfoldable pub endless_worker : LintedChild → Option RemarkKind
endless_worker child =
    if is_none child.tree && is_worker child.spec.kind && is_endless_by child.spec.shutdown then Some kind.EndlessWorker else None

-- L4: an intensity that children of one start use up where one cause ends them all, each of which is restarted alone

unfoldable pub is_alone : Strategy → Bool
is_alone OneForOne = true
is_alone OneForAll = false
is_alone RestForOne = false
is_alone SimpleOneForOne = false

-- a process that is started again after a crash
abbrev pub is_process : LintedChild → Bool
is_process child = is_none child.tree && is_restartable child.spec.restart

-- a process of the start of this one
abbrev pub starts_as : LintedChild → LintedChild → Bool
starts_as child other = is_process other && bytes_eq (name_bytes other.spec.start) (name_bytes child.spec.start)

-- of those of one start the first is remarked on; with it begin these
unfoldable pub fan_out : SupFlags → List LintedChild → LintedChild → List LintedChild → Option RemarkKind
fan_out flags earlier child these =
    if is_alone flags.strategy && nat_le 1 flags.intensity && is_process child && not (list_any (starts_as child) earlier)
    && nat_lt flags.intensity (count_by (starts_as child) these)
    then Some (kind.FanOut (count_by (starts_as child) these) child.spec.start flags.intensity) else None

-- L5: a significant child that nobody can end: its tree never ends by itself

unfoldable pub never_ends : Bool → Option Below → Option RemarkKind
never_ends significant None = None
never_ends significant (Some tree) = if significant && not tree.ends then Some kind.NeverEnds else None

-- L6: ids that differ by letters that look the same

-- the small letters of c, s, v, w, x and z look as the great ones; o, O and 0 look the same, and l, I and 1
unfoldable pub looks : ℕ → ℕ
looks byte =
    if byte == 48 || byte == 79 then 111
    else if byte == 49 || byte == 73 then 108
    else if byte == 67 || byte == 83 || byte == 86 || byte == 87 || byte == 88 || byte == 90 then byte + 32
    else byte

abbrev pub look_alike : List ℕ → List ℕ → Bool
look_alike [] [] = true
look_alike [] (other ∷ others) = false
look_alike (byte ∷ bytes) [] = false
look_alike (byte ∷ bytes) (other ∷ others) = (looks byte == looks other) && look_alike bytes others

-- the first of these that looks like this id; no two siblings have one id
abbrev pub first_alike : List ℕ → List LintedChild → Option Name
first_alike id [] = None
first_alike id (child ∷ children) = if look_alike (name_bytes child.spec.id) id then Some child.spec.id else first_alike id children

abbrev pub alike_of : Option Name → Option RemarkKind
alike_of None = None
alike_of (Some other) = Some (kind.AlikeId other)

abbrev pub alike_id : List LintedChild → LintedChild → Option RemarkKind
alike_id earlier child = alike_of (first_alike (name_bytes child.spec.id) earlier)

-- where remarks stand

-- the path of a child of the supervisor that has this one; that of the root is empty
abbrev pub child_path : List ℕ → List ℕ → List ℕ
child_path [] id = id
child_path (byte ∷ bytes) id = (byte ∷ bytes) ++ codes "/" ++ id

-- the remark of this kind, if there is one, on the supervisor of this number, or on its child at this place
abbrev pub remark_if : ℕ → Option ℕ → List ℕ → Option RemarkKind → List Remark
remark_if supervisor child path None = []
remark_if supervisor child path (Some kind) = record { supervisor = supervisor; child = child; path = path; kind = kind } ∷ []

-- all remarks on a child at this place, of this path, by their kinds: it stands between these, and with it begin the last ones
unfoldable pub remarks_at : ℕ → ℕ → List ℕ → SupFlags → List LintedChild → LintedChild → List LintedChild → List LintedChild → List Remark
remarks_at supervisor place path flags earlier child later these =
    remark_if supervisor (Some place) path (long_stop flags earlier child later)
    ++ remark_if supervisor (Some place) path (endless_worker child)
    ++ remark_if supervisor (Some place) path (fan_out flags earlier child these)
    ++ remark_if supervisor (Some place) path (never_ends child.spec.significant child.tree)
    ++ remark_if supervisor (Some place) path (alike_id earlier child)

-- all remarks on these of a supervisor's children, of which the first stands at this place
abbrev pub remarks_from : ℕ → List ℕ → SupFlags → List LintedChild → ℕ → List LintedChild → List Remark
remarks_from supervisor path flags children place [] = []
remarks_from supervisor path flags children place (child ∷ others) =
    remarks_at supervisor place (child_path path (name_bytes child.spec.id)) flags (take place children) child others (child ∷ others)
    ++ remarks_from supervisor path flags children (place + 1) others

-- all remarks on a supervisor, and then those on its children
abbrev pub remarks_on : ℕ → List ℕ → SupFlags → List LintedChild → List Remark
remarks_on supervisor path flags children =
    remark_if supervisor None path (no_restart flags children) ++ remarks_from supervisor path flags children 0 children

-- the path of the child of this specification
abbrev pub path_at : List ℕ → Option ChildSpec → List ℕ
path_at path None = path
path_at path (Some spec) = child_path path (name_bytes spec.id)

-- the paths of the children at these places
abbrev pub paths_at : List ℕ → List ChildSpec → List ℕ → List (List ℕ)
paths_at path specs places = map (λ place. path_at path (slice_get specs place)) places

-- all remarks on the supervisors of these tables, of which the first has this number, and the first path: each before those of its
-- children's trees
abbrev pub remarks_below : ℕ → List (List ℕ) → List Table → List Remark
remarks_below number paths [] = []
remarks_below number [] (table ∷ tables) = []
remarks_below number (path ∷ paths) (table ∷ tables) =
    remarks_on number path table.flags (seen_in table (below_in tables))
    ++ remarks_below (number + 1) (paths_at path table.specs table.nested ++ paths) tables

-- all remarks on a tree
abbrev pub remarks_in : Tree → List Remark
remarks_in tree = remarks_below 0 ([] ∷ []) (tables_of tree)
