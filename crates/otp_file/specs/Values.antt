-- What the values of a tree file say, each at its key. A key of a supervisor's or a child's that is absent
-- has the manual's default; shutdown and modules are left open then, since theirs hang on other keys.
use Rattle.std.specs.Prelude.{ℕ, nat_le, Bool, ◌&&◌, if◌then◌else◌, ℤ, pos, negsuc, List, [], ◌∷◌, Option, Some, None, Result, Ok, Err, is_some}
use Rattle.std.specs.List.{list_all}
use Rattle.std.specs.Option.{ok_or}
use Rattle.otp_reason.specs.declared.name.Name.{Name}
use Rattle.otp_reason.specs.Names.{name_of, is_lawful_name}
use Rattle.otp_spec.specs.declared.flags.Strategy.{Strategy}
use Rattle.otp_spec.specs.declared.flags.AutoShutdown.{AutoShutdown}
use Rattle.otp_spec.specs.declared.child.ChildType.{ChildType}
use Rattle.otp_spec.specs.declared.child.Modules.{Modules}
use Rattle.otp_spec.specs.declared.child.Modules.TheVariants as modules
use Rattle.otp_spec.specs.declared.child.Restart.{Restart}
use Rattle.otp_spec.specs.declared.child.Shutdown.{Shutdown}
use Rattle.otp_spec.specs.declared.child.Shutdown.TheVariants.{Milliseconds}
use Rattle.otp_spec.specs.declared.child.ChildSpec.{ChildSpec}
use Rattle.otp_spec.specs.declared.limits.TheConstants.{MAX_INTENSITY, MAX_PERIOD, MAX_SHUTDOWN}
use Rattle.otp_spec.specs.Children.{default_spec}
use Rattle.otp_spec.specs.Flags.{default_flags}
use Rattle.otp_spec.specs.Words.{auto_shutdown_of, child_type_of, modules_of, restart_of, shutdown_of, strategy_of}
use Rattle.otp_file.specs.declared.value.Unfit.{Unfit}
use Rattle.otp_file.specs.declared.value.Unfit.TheVariants.{WrongKind, OutOfLimits}
use Rattle.toml.specs.Data.{Data, Items, no_items, item, Members, as_str, as_integer, as_bool, as_array, as_table}

-- a whole number within its limits (own)
abbrev pub number_in : ℕ → ℕ → Option ℤ → Result ℕ Unfit
number_in low high None = Err WrongKind
number_in low high (Some (pos n)) = if nat_le low n && nat_le n high then Ok n else Err OutOfLimits
number_in low high (Some (negsuc _)) = Err OutOfLimits

abbrev pub number_within : ℕ → ℕ → Data → Result ℕ Unfit
number_within low high value = number_in low high (as_integer value)

-- a lawful name (own)
abbrev pub name_in : Option (List ℕ) → Result Name Unfit
name_in None = Err WrongKind
name_in (Some text) = if is_lawful_name text then Ok (name_of text) else Err OutOfLimits

abbrev pub name_at : Data → Result Name Unfit
name_at value = name_in (as_str value)

-- the value of a word; no other text is one (own)
abbrev pub of_text : {A : Type 0} → (List ℕ → Option A) → Option (List ℕ) → Result A Unfit
of_text of_word None = Err WrongKind
of_text of_word (Some text) = ok_or (of_word text) WrongKind

-- the value of a word, and where the key is absent the default (own)
abbrev pub word_or : {A : Type 0} → A → (List ℕ → Option A) → Option Data → Result A Unfit
word_or default of_word None = Ok default
word_or default of_word (Some value) = of_text of_word (as_str value)

-- a whole number within its limits, and where the key is absent the default (own)
abbrev pub number_or : ℕ → ℕ → ℕ → Option Data → Result ℕ Unfit
number_or default low high None = Ok default
number_or default low high (Some value) = number_within low high value

-- `strategy` (Supervisor Behaviour, "Supervisor Flags")
abbrev pub strategy_at : Option Data → Result Strategy Unfit
strategy_at value = word_or default_flags.strategy strategy_of value

-- `intensity` (Supervisor Behaviour, "Maximum Restart Intensity")
abbrev pub intensity_at : Option Data → Result ℕ Unfit
intensity_at value = number_or default_flags.intensity 0 MAX_INTENSITY value

-- `period`, in seconds (Supervisor Behaviour, "Maximum Restart Intensity")
abbrev pub period_at : Option Data → Result ℕ Unfit
period_at value = number_or default_flags.period 1 MAX_PERIOD value

-- `auto_shutdown` (Supervisor Behaviour, "Automatic Shutdown")
abbrev pub auto_shutdown_at : Option Data → Result AutoShutdown Unfit
auto_shutdown_at value = word_or default_flags.auto_shutdown auto_shutdown_of value

-- what a child has where its table says nothing of a key
abbrev pub default_child : ChildSpec
default_child = default_spec (name_of []) (name_of [])

-- `restart` (Supervisor Behaviour, "Child Specification")
abbrev pub restart_at : Option Data → Result Restart Unfit
restart_at value = word_or default_child.restart restart_of value

-- `significant` (Supervisor Behaviour, "Child Specification")
abbrev pub significant_at : Option Data → Result Bool Unfit
significant_at None = Ok default_child.significant
significant_at (Some value) = ok_or (as_bool value) WrongKind

-- `type`; where it is absent, a default (Supervisor Behaviour, "Child Specification")
abbrev pub kind_at : ChildType → Option Data → Result ChildType Unfit
kind_at default value = word_or default child_type_of value

-- a number is that of milliseconds, of which there are less than 2^32 (own)
abbrev pub as_milliseconds : Result ℕ Unfit → Result (Option Shutdown) Unfit
as_milliseconds (Err unfit) = Err unfit
as_milliseconds (Ok n) = Ok (Some (Milliseconds n))

-- a word, or a number
abbrev pub shutdown_in : Option Shutdown → Data → Result (Option Shutdown) Unfit
shutdown_in (Some shutdown) value = Ok (Some shutdown)
shutdown_in None value = as_milliseconds (number_within 0 MAX_SHUTDOWN value)

-- what a text is the word of, if it is one
abbrev pub word_in : {A : Type 0} → (List ℕ → Option A) → Option (List ℕ) → Option A
word_in of_word None = None
word_in of_word (Some text) = of_word text

-- `shutdown` (Supervisor Behaviour, "Child Specification")
abbrev pub shutdown_at : Option Data → Result (Option Shutdown) Unfit
shutdown_at None = Ok None
shutdown_at (Some value) = shutdown_in (word_in shutdown_of (as_str value)) value

-- the items of an array as a list (own)
abbrev pub list_of : Items → List Data
list_of no_items = []
list_of (item value rest) = value ∷ list_of rest

-- what follows from a name, unless there is none (own)
abbrev pub with_name : Result Name Unfit → (Name → Result Modules Unfit) → Result Modules Unfit
with_name (Err unfit) next = Err unfit
with_name (Ok name) next = next name

-- at most four names (own)
abbrev pub names_in : List Data → Result Modules Unfit
names_in [] = Ok modules.None
names_in (a ∷ []) = with_name (name_at a) (λ a. Ok (modules.One a))
names_in (a ∷ b ∷ []) = with_name (name_at a) (λ a. with_name (name_at b) (λ b. Ok (modules.Two a b)))
names_in (a ∷ b ∷ c ∷ []) =
    with_name (name_at a) (λ a. with_name (name_at b) (λ b. with_name (name_at c) (λ c. Ok (modules.Three a b c))))
names_in (a ∷ b ∷ c ∷ d ∷ []) =
    with_name (name_at a) (λ a. with_name (name_at b) (λ b. with_name (name_at c) (λ c. with_name (name_at d) (λ d. Ok (modules.Four a b c d)))))
names_in (_ ∷ _ ∷ _ ∷ _ ∷ _ ∷ _) = Err OutOfLimits

abbrev pub is_text : Data → Bool
is_text value = is_some (as_str value)

-- an array of texts; what its texts are is looked at only where each is one (own)
abbrev pub modules_in : Option Items → Result Modules Unfit
modules_in None = Err WrongKind
modules_in (Some items) = if list_all is_text (list_of items) then names_in (list_of items) else Err WrongKind

-- what stands there, where something does (own)
abbrev pub as_given : Result Modules Unfit → Result (Option Modules) Unfit
as_given (Err unfit) = Err unfit
as_given (Ok names) = Ok (Some names)

-- a word, or an array
abbrev pub modules_or : Option Modules → Data → Result (Option Modules) Unfit
modules_or (Some names) value = Ok (Some names)
modules_or None value = as_given (modules_in (as_array value))

-- `modules` (Supervisor Behaviour, "Child Specification")
abbrev pub modules_at : Option Data → Result (Option Modules) Unfit
modules_at None = Ok None
modules_at (Some value) = modules_or (word_in modules_of (as_str value)) value

-- a supervisor's table, where something is given
abbrev pub tree_given : Option Members → Result (Option Members) Unfit
tree_given None = Err WrongKind
tree_given (Some table) = Ok (Some table)

-- `tree`: the table of a supervisor (own)
abbrev pub tree_at : Option Data → Result (Option Members) Unfit
tree_at None = Ok None
tree_at (Some value) = tree_given (as_table value)
