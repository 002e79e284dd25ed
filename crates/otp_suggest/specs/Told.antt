-- What would survive crashes of a child, as it is told (own).
use Rattle.std.specs.Prelude.{◌≡◌, ℕ, Bool, true, false, ◌||◌, List, [], ◌++◌, Option, Some, None, codes, decimal}
use Rattle.otp_file.specs.Trees.{Tree}
use Rattle.otp_costs.specs.Table.{clip}
use Rattle.otp_costs.specs.Words.{at_left}
use Rattle.otp_costs.specs.Falls.{supervisor_path}
use Rattle.otp_costs.specs.declared.limits.fate.Fate.{Fate}
use Rattle.otp_costs.specs.declared.limits.fate.Fate.TheVariants as fate
use Rattle.otp_costs.specs.declared.limits.steady.Verdict.{Verdict}
use Rattle.otp_costs.specs.declared.limits.steady.Verdict.TheVariants.{Falls, Lasts}
use Rattle.otp_spec.specs.declared.flags.SupFlags.{SupFlags}
use Rattle.otp_spec.specs.declared.limits.TheConstants.{MAX_INTENSITY}
use Rattle.otp_suggest.specs.Advised.{Finds}
use Rattle.otp_suggest.specs.Courses.{apart_of}
use Rattle.otp_suggest.specs.declared.advice.Advice.{Advice}
use Rattle.otp_suggest.specs.declared.advice.Suggestion.{Suggestion}
use Rattle.otp_suggest.specs.declared.course.Question.{Question}
use Rattle.otp_suggest.specs.declared.course.Question.TheVariants.{Every, Within}
use Rattle.otp_suggest.specs.declared.edge.Edge.{Edge}
use Rattle.otp_suggest.specs.declared.edge.Edge.TheVariants as edge
use Rattle.otp_suggest.specs.declared.refused.SuggestionAnswer.{SuggestionAnswer}
use Rattle.otp_suggest.specs.declared.refused.SuggestionAnswer.TheVariants as reply
use Rattle.otp_suggest.specs.declared.subject.Finding.{Finding}
use Rattle.otp_suggest.specs.declared.subject.Finding.TheVariants as finding
use Rattle.otp_suggest.specs.declared.subject.Subject.{Subject}
use Rattle.otp_suggest.specs.declared.told.Measure.{Measure}
use Rattle.otp_suggest.specs.declared.told.Measure.TheVariants.{GreatestPeriod, LeastIntensity, Survived}

unfoldable pub verdict_text : Verdict → List ℕ
verdict_text Lasts = codes "yes"
verdict_text Falls = codes "no"

unfoldable pub intensity_text : Edge → List ℕ
intensity_text edge.Any = codes "0"
intensity_text (edge.At value) = decimal value
intensity_text edge.Nowhere = codes "none"

unfoldable pub period_text : Edge → List ℕ
period_text edge.Any = codes "any"
period_text (edge.At value) = decimal value ++ codes " s"
period_text edge.Nowhere = codes "none"

-- a line of the table: what it says, by milliseconds and by whole seconds
unfoldable pub line_text : List ℕ → List ℕ → List ℕ → List ℕ
line_text title one other = at_left 18 title ++ at_left 18 one ++ other ++ codes "\n"

-- what is asked: how often the child crashes, and what its supervisor has
unfoldable pub every_text : List ℕ → List ℕ
every_text name = clip 50 name ++ codes " crashes every "

unfoldable pub gap_text : ℕ → List ℕ
gap_text gap = decimal gap ++ codes " ms\n"

unfoldable pub crashes_text : List ℕ → ℕ → List ℕ
crashes_text name gap = every_text name ++ gap_text gap

unfoldable pub has_text : List ℕ → ℕ → List ℕ
has_text above intensity = clip 40 above ++ codes " has intensity " ++ decimal intensity

unfoldable pub and_text : ℕ → List ℕ
and_text period = codes " and period " ++ decimal period ++ codes " s\n"

-- or how many come within a time
unfoldable pub many_text : List ℕ → ℕ → List ℕ
many_text name count = clip 40 name ++ codes " crashes " ++ decimal count ++ codes " times within "

unfoldable pub times_text : List ℕ → ℕ → ℕ → List ℕ
times_text name count time = many_text name count ++ gap_text time

unfoldable pub asked_text : List ℕ → Question → List ℕ
asked_text name (Every gap) = crashes_text name gap
asked_text name (Within count time) = times_text name count time

unfoldable pub question_text : List ℕ → List ℕ → Question → SupFlags → List ℕ
question_text name above question flags = asked_text name question ++ has_text above flags.intensity ++ and_text flags.period

-- the lines of the table
unfoldable pub titles_text : List ℕ
titles_text = line_text (codes "restarts counted") (codes "by milliseconds") (codes "by whole seconds, as OTP does")

-- what an answer says in a line
unfoldable pub title_of : Measure → List ℕ
title_of Survived = codes "survived"
title_of LeastIntensity = codes "least intensity"
title_of GreatestPeriod = codes "greatest period"

unfoldable pub measure_text : Measure → Advice → List ℕ
measure_text Survived said = verdict_text said.today
measure_text LeastIntensity said = intensity_text said.intensity
measure_text GreatestPeriod said = period_text said.period

unfoldable pub measure_line : Measure → Advice → Advice → List ℕ
measure_line measure ours theirs = line_text (title_of measure) (measure_text measure ours) (measure_text measure theirs)

-- the answer of both clocks
unfoldable pub table_text : Advice → Advice → List ℕ
table_text ours theirs =
    titles_text ++ measure_line Survived ours theirs ++ measure_line LeastIntensity ours theirs ++ measure_line GreatestPeriod ours theirs

-- a line of the table of so many crashes: what it says where they come at once, and where they are evenly spread, by each clock
unfoldable pub row_text : List ℕ → List ℕ → List ℕ → List ℕ → List ℕ
row_text title once even other = at_left 18 title ++ at_left 12 once ++ at_left 22 even ++ other ++ codes "\n"

unfoldable pub apart_text : ℕ → List ℕ
apart_text gap = codes "every " ++ decimal gap ++ codes " ms"

unfoldable pub heads_text : ℕ → List ℕ
heads_text gap = row_text (codes "they come") (codes "at once") (apart_text gap) (codes "so, by whole seconds")

unfoldable pub measure_row : Measure → Advice → Advice → Advice → List ℕ
measure_row measure once ours theirs =
    row_text (title_of measure) (measure_text measure once) (measure_text measure ours) (measure_text measure theirs)

unfoldable pub rows_text : ℕ → Advice → Advice → Advice → List ℕ
rows_text gap once ours theirs =
    heads_text gap ++ measure_row Survived once ours theirs ++ measure_row LeastIntensity once ours theirs
    ++ measure_row GreatestPeriod once ours theirs

abbrev pub is_nowhere : Edge → Bool
is_nowhere edge.Any = false
is_nowhere (edge.At value) = false
is_nowhere edge.Nowhere = true

-- why no intensity survives, and why no period does
unfoldable pub within_text : ℕ → List ℕ
within_text period = codes "no intensity is enough: within " ++ decimal period

unfoldable pub than_text : ℕ → List ℕ
than_text most = codes " s there are more restarts than " ++ decimal most ++ codes "\n"

unfoldable pub no_intensity_text : Bool → SupFlags → List ℕ
no_intensity_text false flags = []
no_intensity_text true flags = within_text flags.period ++ than_text MAX_INTENSITY

unfoldable pub no_period_text : Bool → SupFlags → List ℕ
no_period_text false flags = []
no_period_text true flags =
    codes "no period is short enough: within 1 s there are more restarts than " ++ decimal flags.intensity ++ codes "\n"

-- what is enough wherever so many crashes lie in their time: what survives them all at once
unfoldable pub enough_text : Edge → List ℕ
enough_text edge.Any = []
enough_text (edge.At value) = codes "intensity " ++ decimal value ++ codes " is enough, whenever they come\n"
enough_text edge.Nowhere = codes "no intensity is enough where they come at once\n"

-- why no period is, where they may come at once
unfoldable pub no_period_at_once_text : Bool → SupFlags → List ℕ
no_period_at_once_text false flags = []
no_period_at_once_text true flags = codes "no period is short enough: at once there are more restarts than " ++ decimal flags.intensity ++ codes "\n"

-- why nothing is enough at an interval
unfoldable pub apart_why_text : SupFlags → Suggestion → List ℕ
apart_why_text flags said =
    no_intensity_text (is_nowhere said.ours.intensity || is_nowhere said.theirs.intensity) flags
    ++ no_period_text (is_nowhere said.ours.period || is_nowhere said.theirs.period) flags

-- what is enough of so many, and why nothing is
unfoldable pub worst_why_text : SupFlags → Advice → List ℕ
worst_why_text flags worst = enough_text worst.intensity ++ no_period_at_once_text (is_nowhere worst.period) flags

unfoldable pub rates_why_text : SupFlags → Suggestion → Option Advice → List ℕ
rates_why_text flags said None = apart_why_text flags said
rates_why_text flags said (Some worst) = worst_why_text flags worst

-- why nothing survives, or everything
unfoldable pub why_text : List ℕ → List ℕ → SupFlags → Suggestion → Fate → List ℕ
why_text name above flags said (fate.Ended _) =
    clip 30 name ++ codes " is significant: its first crash ends " ++ clip 30 above ++ codes "\nwhatever intensity and period are\n"
why_text name above flags said (fate.Gone _) =
    clip 30 name ++ codes " isn't started again: each intensity and period will do\n"
why_text name above flags said fate.Survived = rates_why_text flags said said.worst

-- the table of what is asked
unfoldable pub answers_text : Question → Suggestion → Option Advice → List ℕ
answers_text question said None = table_text said.ours said.theirs
answers_text question said (Some worst) = rows_text (apart_of question) worst said.ours said.theirs

-- the whole, of a child with this name
unfoldable pub advice_text : List ℕ → Question → Subject → List ℕ
advice_text name question subject =
    question_text name (supervisor_path subject.path) question subject.flags
    ++ answers_text question subject.said subject.said.worst
    ++ why_text name (supervisor_path subject.path) subject.flags subject.said subject.said.twice

-- what is told of what was found
abbrev pub Tells : List ℕ → Question → Finding → SuggestionAnswer → List ℕ → List ℕ → Type 0
Tells name question (finding.Of subject) answer before after = (answer ≡ reply.Told) × (after ≡ before ++ advice_text name question subject)
Tells name question finding.NoChild answer before after = (answer ≡ reply.NoChild) × (after ≡ before)
Tells name question finding.IsSupervisor answer before after = (answer ≡ reply.IsSupervisor) × (after ≡ before)

-- the child of a tree with this name crashes so: what would survive it was told, or it was refused
abbrev pub Suggests : Tree → List ℕ → Question → SuggestionAnswer → List ℕ → List ℕ → Type 0
Suggests tree name question answer before after =
    (found : Finding) × (Finds tree name question found × Tells name question found answer before after)
