-- What `check` writes of a file: lines, or an object of JSON (own).
use Rattle.std.specs.Prelude.{◌≡◌, ◌⊎◌, ℕ, ◌-◌, ◌==◌, ◌||◌, Bool, true, false, List, [], ◌∷◌, ◌++◌, Option, Some, None, codes, decimal, length, nat_le, nat_lt, take, if◌then◌else◌}
use Rattle.std.specs.List.{flat_map, list_any}
use Rattle.otp_check.specs.Texts.{Remarked}
use Rattle.otp_commands.specs.declared.findings.TheConstants.{MOST_WRITTEN}
use Rattle.otp_json.specs.Values.{optional_member, text_member}

-- a byte that isn't one of a plain letter
abbrev pub is_unplain : ℕ → Bool
is_unplain byte = nat_lt byte 32 || nat_lt 126 byte

-- a name as it is; of an empty one stand two quotes
unfoldable pub plain_name : List ℕ → List ℕ
plain_name [] = codes "\"\""
plain_name (byte ∷ bytes) = byte ∷ bytes

-- the name of a file is shown so: as it is, unless a letter of it isn't plain. How others are shown is said nowhere
abbrev pub IsShown : List ℕ → List ℕ → Type 0
IsShown name shown = list_any is_unplain name ≡ false → shown ≡ plain_name name

-- what stands in front of a text: the name of its file, and the number of its line, if that is known
unfoldable pub front_text : List ℕ → Option ℕ → List ℕ
front_text shown None = shown ++ codes ": "
front_text shown (Some line) = shown ++ codes ":" ++ decimal line ++ codes ": "

-- a line
unfoldable pub line_text : List ℕ → Option ℕ → List ℕ → List ℕ
line_text shown line text = front_text shown line ++ text ++ codes "\n"

-- the line of what is said
abbrev pub said_line : List ℕ → Remarked → List ℕ
said_line shown said = line_text shown said.line said.text

-- what of a file is written: all, or so many at the most
unfoldable pub written_of : {T : Type 0} → Bool → List T → List T
written_of true faults = faults
written_of false faults = if nat_le (length faults) MOST_WRITTEN then faults else take MOST_WRITTEN faults

-- how many are not
unfoldable pub hidden_of : Bool → ℕ → ℕ
hidden_of true count = 0
hidden_of false count = count - MOST_WRITTEN

unfoldable pub more_text : ℕ → List ℕ
more_text hidden = codes ": and " ++ decimal hidden ++ codes " more; --all shows them\n"

unfoldable pub hidden_text : List ℕ → ℕ → List ℕ
hidden_text shown hidden = if hidden == 0 then [] else shown ++ more_text hidden

-- a line for each of these
abbrev pub lines_text : {T : Type 0} → (T → Remarked) → List ℕ → List T → List ℕ
lines_text said shown faults = flat_map (λ fault. said_line shown (said fault)) faults

-- the lines of a file with faults
unfoldable pub some_text : {T : Type 0} → (T → Remarked) → Bool → List ℕ → List T → List ℕ
some_text said has_all shown faults =
    lines_text said shown (written_of has_all faults) ++ hidden_text shown (hidden_of has_all (length faults))

-- the front of the object of a file
unfoldable pub file_member : List ℕ → List ℕ
file_member name = text_member (codes "{") (codes "file") name

-- the object of what is said
unfoldable pub said_object : Remarked → List ℕ
said_object said = optional_member (codes "{") (codes "line") said.line ++ text_member (codes ", ") (codes "text") said.text ++ codes "}"

-- behind another one
unfoldable pub next_object : Remarked → List ℕ
next_object said = codes ", " ++ said_object said

abbrev pub next_objects : {T : Type 0} → (T → Remarked) → List T → List ℕ
next_objects said faults = flat_map (λ fault. next_object (said fault)) faults

unfoldable pub said_objects : {T : Type 0} → (T → Remarked) → List T → List ℕ
said_objects said [] = []
said_objects said (first ∷ others) = said_object (said first) ++ next_objects said others

-- a list of such objects behind this, and the end of the file's object
unfoldable pub list_text : {T : Type 0} → (T → Remarked) → List ℕ → List T → List ℕ
list_text said front found = front ++ said_objects said found ++ codes "]}\n"

-- the object of a file with faults
unfoldable pub faults_object : {T : Type 0} → (T → Remarked) → List ℕ → List T → List ℕ
faults_object said name faults = file_member name ++ list_text said (codes ", \"faults\": [") faults

-- the object of a lawful file on whose tree there are remarks
unfoldable pub remarks_object : {T : Type 0} → (T → Remarked) → List ℕ → List T → List ℕ
remarks_object said name remarks = file_member name ++ list_text said (codes ", \"faults\": [], \"remarks\": [") remarks

-- the object of a lawful file
unfoldable pub lawful_object : List ℕ → List ℕ
lawful_object name = file_member name ++ codes ", \"faults\": []}\n"

-- what is said of it all the same, and the end of its object
unfoldable pub warning_text : List ℕ → List ℕ
warning_text warning = codes ", \"faults\": []" ++ text_member (codes ", ") (codes "warning") warning ++ codes "}\n"

-- the object of such a file
unfoldable pub warned_object : List ℕ → List ℕ → List ℕ
warned_object name warning = file_member name ++ warning_text warning

-- the object of a file that can't be read
unfoldable pub unread_object : List ℕ → List ℕ → List ℕ
unread_object name why = file_member name ++ text_member (codes ", ") (codes "unread") why ++ codes "}\n"

-- the line of a lawful file
unfoldable pub plain_line : List ℕ → List ℕ
plain_line shown = line_text shown None (codes "a lawful tree")

-- the line of a file that can't be read
unfoldable pub unread_text : List ℕ → List ℕ → List ℕ
unread_text shown why = line_text shown None (codes "can't be read: " ++ why)

-- what was found in a file is written in lines
abbrev pub TellsLines : {T : Type 0} → (T → Remarked) → Bool → List ℕ → List T → List ℕ → Type 0
TellsLines said has_all name found text = (shown : List ℕ) × (IsShown name shown × (text ≡ some_text said has_all shown found))

-- what is written of a file with these faults: lines, or an object
abbrev pub TellsFaults : {T : Type 0} → (T → Remarked) → Bool → Bool → List ℕ → List T → List ℕ → Type 0
TellsFaults said true has_all name faults text = text ≡ faults_object said name faults
TellsFaults said false has_all name faults text = TellsLines said has_all name faults text

-- of one that is lawful, and on whose tree there are these remarks
abbrev pub TellsRemarks : {T : Type 0} → (T → Remarked) → Bool → Bool → List ℕ → List T → List ℕ → Type 0
TellsRemarks said true has_all name remarks text = text ≡ remarks_object said name remarks
TellsRemarks said false has_all name remarks text = TellsLines said has_all name remarks text

-- of one that is lawful
abbrev pub TellsPlain : Bool → List ℕ → List ℕ → Type 0
TellsPlain true name text = text ≡ lawful_object name
TellsPlain false name text = (shown : List ℕ) × (IsShown name shown × (text ≡ plain_line shown))

-- of one that is lawful, and of which this is said
abbrev pub TellsWarned : Bool → List ℕ → List ℕ → List ℕ → Type 0
TellsWarned true name warning text = text ≡ warned_object name warning
TellsWarned false name warning text = (shown : List ℕ) × (IsShown name shown × (text ≡ line_text shown None warning))

abbrev pub TellsLawful : Bool → List ℕ → List ℕ → Type 0
TellsLawful is_json name text = TellsPlain is_json name text ⊎ ((warning : List ℕ) × TellsWarned is_json name warning text)

-- of one that can't be read, for this reason
abbrev pub TellsWhy : Bool → List ℕ → List ℕ → List ℕ → Type 0
TellsWhy true name why text = text ≡ unread_object name why
TellsWhy false name why text = (shown : List ℕ) × (IsShown name shown × (text ≡ unread_text shown why))

abbrev pub TellsUnread : Bool → List ℕ → List ℕ → Type 0
TellsUnread is_json name text = (why : List ℕ) × TellsWhy is_json name why text
