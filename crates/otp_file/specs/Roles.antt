-- What the words of starts stand for (own).
use Rattle.std.specs.Prelude.{ℕ, codes, List, [], ◌∷◌, Option, Some, if◌then◌else◌}
use Rattle.std.specs.Option.{option_map}
use Rattle.std.specs.Str.{bytes_eq}
use Rattle.otp_reason.specs.Names.{name_bytes}
use Rattle.otp_spec.specs.Words.{with_word}
use Rattle.otp_spec.specs.declared.child.ChildSpec.{ChildSpec}
use Rattle.otp_file.specs.declared.roles.role.Role.{Role}
use Rattle.otp_file.specs.declared.roles.role.Role.TheVariants as role
use Rattle.otp_file.specs.declared.roles.work.JobWork.{JobWork}
use Rattle.otp_file.specs.declared.roles.work.JobWork.TheVariants.{Steady, Once, Crash, CrashOnce, Ignore, Refuse, Stubborn}

-- the word of a work, as the key `start` has it
unfoldable pub work_word : JobWork → List ℕ
work_word Steady = codes "steady"
work_word Once = codes "once"
work_word Crash = codes "crash"
work_word CrashOnce = codes "crash_once"
work_word Ignore = codes "ignore"
work_word Refuse = codes "refuse"
work_word Stubborn = codes "stubborn"

-- the work of a word, if it is the word of one
unfoldable pub work_of : List ℕ → Option JobWork
work_of = with_word work_word (Steady ∷ Once ∷ Crash ∷ CrashOnce ∷ Ignore ∷ Refuse ∷ Stubborn ∷ [])

-- what a word stands for: a bridge, or a job
unfoldable pub role_of : List ℕ → Option Role
role_of word = if bytes_eq word (codes "bridge") then Some role.Bridge else option_map role.Worker (work_of word)

-- what a specification's start stands for
abbrev pub role_at : ChildSpec → Option Role
role_at spec = role_of (name_bytes spec.start)
