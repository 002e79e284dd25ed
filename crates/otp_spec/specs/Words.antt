-- The words of values: each is printed as its word, and read by the same table.
use Rattle.std.specs.Prelude.{ℕ, codes, List, [], ◌∷◌, Option, Some, None, unwrap_or, if◌then◌else◌}
use Rattle.std.specs.Str.{bytes_eq}
use Rattle.otp_spec.specs.declared.child.ChildType.{ChildType}
use Rattle.otp_spec.specs.declared.child.ChildType.TheVariants.{Worker, Supervisor}
use Rattle.otp_spec.specs.declared.child.Modules.{Modules}
use Rattle.otp_spec.specs.declared.child.Modules.TheVariants as modules
use Rattle.otp_spec.specs.declared.child.Restart.{Restart}
use Rattle.otp_spec.specs.declared.child.Restart.TheVariants.{Permanent, Transient, Temporary}
use Rattle.otp_spec.specs.declared.child.Shutdown.{Shutdown}
use Rattle.otp_spec.specs.declared.child.Shutdown.TheVariants.{BrutalKill, Milliseconds, Infinity}
use Rattle.otp_spec.specs.declared.flags.AutoShutdown.{AutoShutdown}
use Rattle.otp_spec.specs.declared.flags.AutoShutdown.TheVariants.{Never, AnySignificant, AllSignificant}
use Rattle.otp_spec.specs.declared.flags.Strategy.{Strategy}
use Rattle.otp_spec.specs.declared.flags.Strategy.TheVariants.{OneForOne, OneForAll, RestForOne, SimpleOneForOne}

-- the first of these values that has this word, if one has it (own)
abbrev pub with_word : {A : Type 0} → (A → List ℕ) → List A → List ℕ → Option A
with_word word_of [] word = None
with_word word_of (value ∷ values) word = if bytes_eq word (word_of value) then Some value else with_word word_of values word

-- Supervisor Behaviour, "Supervisor Flags", strategy
unfoldable pub strategy_word : Strategy → List ℕ
strategy_word OneForOne = codes "one_for_one"
strategy_word OneForAll = codes "one_for_all"
strategy_word RestForOne = codes "rest_for_one"
strategy_word SimpleOneForOne = codes "simple_one_for_one"

-- the strategy of a word, if it is the word of one (own)
unfoldable pub strategy_of : List ℕ → Option Strategy
strategy_of = with_word strategy_word (OneForOne ∷ OneForAll ∷ RestForOne ∷ SimpleOneForOne ∷ [])

-- Supervisor Behaviour, "Supervisor Flags", auto_shutdown
unfoldable pub auto_shutdown_word : AutoShutdown → List ℕ
auto_shutdown_word Never = codes "never"
auto_shutdown_word AnySignificant = codes "any_significant"
auto_shutdown_word AllSignificant = codes "all_significant"

-- the automatic shutdown of a word, if it is the word of one (own)
unfoldable pub auto_shutdown_of : List ℕ → Option AutoShutdown
auto_shutdown_of = with_word auto_shutdown_word (Never ∷ AnySignificant ∷ AllSignificant ∷ [])

-- Supervisor Behaviour, "Child Specification", restart
unfoldable pub restart_word : Restart → List ℕ
restart_word Permanent = codes "permanent"
restart_word Transient = codes "transient"
restart_word Temporary = codes "temporary"

-- the restart type of a word, if it is the word of one (own)
unfoldable pub restart_of : List ℕ → Option Restart
restart_of = with_word restart_word (Permanent ∷ Transient ∷ Temporary ∷ [])

-- Supervisor Behaviour, "Child Specification", type
unfoldable pub type_word : ChildType → List ℕ
type_word Worker = codes "worker"
type_word Supervisor = codes "supervisor"

-- the type of a word, if it is the word of one (own)
unfoldable pub child_type_of : List ℕ → Option ChildType
child_type_of = with_word type_word (Worker ∷ Supervisor ∷ [])

-- Supervisor Behaviour, "Child Specification", shutdown; milliseconds are a number and have no word
unfoldable pub shutdown_word : Shutdown → Option (List ℕ)
shutdown_word BrutalKill = Some (codes "brutal_kill")
shutdown_word (Milliseconds _) = None
shutdown_word Infinity = Some (codes "infinity")

-- the shutdown of a word, if it is the word of one (own)
unfoldable pub shutdown_of : List ℕ → Option Shutdown
shutdown_of = with_word (λ shutdown. unwrap_or (shutdown_word shutdown) []) (BrutalKill ∷ Infinity ∷ [])

-- Supervisor Behaviour, "Child Specification", modules; a list of names has no word
unfoldable pub modules_word : Modules → Option (List ℕ)
modules_word modules.Dynamic = Some (codes "dynamic")
modules_word _ = None

-- the modules of a word, if it is the word of some (own)
unfoldable pub modules_of : List ℕ → Option Modules
modules_of = with_word (λ names. unwrap_or (modules_word names) []) (modules.Dynamic ∷ [])
