-- What would survive crashes of a child, as an object of JSON (own).
use Rattle.std.specs.Prelude.{◌≡◌, ℕ, Bool, true, false, List, [], ◌++◌, Option, Some, None, codes, decimal}
use Rattle.otp_file.specs.Trees.{Tree}
use Rattle.otp_json.specs.Values.{key_text, number_member, optional_member, text_member}
use Rattle.otp_costs.specs.Falls.{supervisor_path}
use Rattle.otp_costs.specs.declared.limits.fate.Fate.{Fate}
use Rattle.otp_costs.specs.declared.limits.fate.Fate.TheVariants as fate
use Rattle.otp_costs.specs.declared.limits.steady.Verdict.{Verdict}
use Rattle.otp_costs.specs.declared.limits.steady.Verdict.TheVariants.{Falls, Lasts}
use Rattle.otp_spec.specs.declared.flags.SupFlags.{SupFlags}
use Rattle.otp_suggest.specs.Advised.{Finds}
use Rattle.otp_suggest.specs.Courses.{apart_of}
use Rattle.otp_suggest.specs.declared.advice.Advice.{Advice}
use Rattle.otp_suggest.specs.declared.advice.Suggestion.{Suggestion}
use Rattle.otp_suggest.specs.declared.course.Question.{Question}
use Rattle.otp_suggest.specs.declared.course.Question.TheVariants.{Every, Within}
use Rattle.otp_suggest.specs.declared.edge.Edge.{Edge}
use Rattle.otp_suggest.specs.declared.edge.Edge.TheVariants as edge
use Rattle.otp_suggest.specs.declared.refused.SuggestionAnswer.{SuggestionAnswer}
use Rattle.otp_suggest.specs.declared.refused.SuggestionAnswer.TheVariants as reply
use Rattle.otp_suggest.specs.declared.subject.Finding.{Finding}
use Rattle.otp_suggest.specs.declared.subject.Finding.TheVariants as finding
use Rattle.otp_suggest.specs.declared.subject.Subject.{Subject}
use Rattle.otp_objects.specs.Values.{word_member}

-- whether the crashes are survived
unfoldable pub lasts_text : Verdict → List ℕ
lasts_text Lasts = codes "true"
lasts_text Falls = codes "false"

-- the least intensity, or a word where none is enough
unfoldable pub intensity_value : Edge → List ℕ
intensity_value edge.Any = codes "0"
intensity_value (edge.At value) = decimal value
intensity_value edge.Nowhere = codes "\"none\""

-- the greatest period in seconds, or a word where any will do, or none
unfoldable pub period_value : Edge → List ℕ
period_value edge.Any = codes "\"any\""
period_value (edge.At value) = decimal value
period_value edge.Nowhere = codes "\"none\""

-- what one clock says
unfoldable pub edges_text : Advice → List ℕ
edges_text advice =
    key_text (codes ", ") (codes "intensity") ++ intensity_value advice.intensity
    ++ key_text (codes ", ") (codes "period") ++ period_value advice.period

unfoldable pub advice_value : Advice → List ℕ
advice_value advice = key_text (codes "{") (codes "survived") ++ lasts_text advice.today ++ edges_text advice ++ codes "}"

-- null where none is asked for that come within a time
unfoldable pub worst_value : Option Advice → List ℕ
worst_value None = codes "null"
worst_value (Some advice) = advice_value advice

-- the file, the child, and its supervisor
unfoldable pub who_text : List ℕ → List ℕ → List ℕ → List ℕ
who_text name child path =
    text_member (codes "{") (codes "file") name ++ text_member (codes ", ") (codes "child") child
    ++ text_member (codes ", ") (codes "supervisor") (supervisor_path path)

-- the flags of its supervisor
unfoldable pub has_text : SupFlags → List ℕ
has_text flags =
    number_member (codes ", ") (codes "intensity") flags.intensity ++ number_member (codes ", ") (codes "period") flags.period

-- how many crashes come within which time: null where they come at an interval
abbrev pub times_of : Question → Option ℕ
times_of (Every gap) = None
times_of (Within count time) = Some count

abbrev pub within_of : Question → Option ℕ
within_of (Every gap) = None
within_of (Within count time) = Some time

-- how many crashes come within which time, and how far apart they are, evenly spread
unfoldable pub asked_text : Question → List ℕ
asked_text question =
    optional_member (codes ", ") (codes "times") (times_of question) ++ optional_member (codes ", ") (codes "within") (within_of question)
    ++ number_member (codes ", ") (codes "every") (apart_of question)

-- what a crash does: it ends the supervisor, whatever its flags are; the child isn't started again; or it is restarted
unfoldable pub crash_word : Fate → List ℕ
crash_word (fate.Ended _) = codes "ends the supervisor"
crash_word (fate.Gone _) = codes "isn't restarted"
crash_word fate.Survived = codes "is restarted"

-- what a clock says, under its key
unfoldable pub clock_text : List ℕ → Advice → List ℕ
clock_text key advice = key_text (codes ", ") key ++ advice_value advice

-- the answers: of so many at once, and by each clock
unfoldable pub clocks_text : Suggestion → List ℕ
clocks_text said = clock_text (codes "milliseconds") said.ours ++ clock_text (codes "seconds") said.theirs

unfoldable pub said_text : Suggestion → List ℕ
said_text said =
    word_member (codes "crash") (crash_word said.twice)
    ++ key_text (codes ", ") (codes "at_once") ++ worst_value said.worst ++ clocks_text said

-- the whole
unfoldable pub subject_text : List ℕ → List ℕ → Question → Subject → List ℕ
subject_text name child question subject =
    who_text name child subject.path ++ has_text subject.flags ++ asked_text question ++ said_text subject.said ++ codes "}\n"

-- what is told of what was found
abbrev pub TellsObject : List ℕ → List ℕ → Question → Finding → SuggestionAnswer → List ℕ → List ℕ → Type 0
TellsObject name child question (finding.Of subject) answer before after =
    (answer ≡ reply.Told) × (after ≡ before ++ subject_text name child question subject)
TellsObject name child question finding.NoChild answer before after = (answer ≡ reply.NoChild) × (after ≡ before)
TellsObject name child question finding.IsSupervisor answer before after = (answer ≡ reply.IsSupervisor) × (after ≡ before)

-- the child of a tree with this name crashes so: what would survive it was told as an object, or it was refused
abbrev pub SuggestsObject : List ℕ → Tree → List ℕ → Question → SuggestionAnswer → List ℕ → List ℕ → Type 0
SuggestsObject name tree child question answer before after =
    (found : Finding) × (Finds tree child question found × TellsObject name child question found answer before after)
