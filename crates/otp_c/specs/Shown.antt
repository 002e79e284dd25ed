-- What the structs of specifications say, and which specification a struct says (own).
use Rattle.std.specs.Prelude.{◌≡◌, ℕ, ◌<◌, ◌≤◌, ◌⊎◌, List, Some, Result, Ok, Err, slice_get, take}
use Rattle.otp_reason.specs.Names.{name_of}
use Rattle.otp_reason.specs.declared.name.Name.{Name}
use Rattle.otp_spec.specs.declared.child.ChildSpec.{ChildSpec}
use Rattle.otp_spec.specs.declared.child.Modules.{Modules}
use Rattle.otp_spec.specs.declared.child.Modules.TheVariants as modules
use Rattle.otp_spec.specs.declared.child.Shutdown.{Shutdown}
use Rattle.otp_spec.specs.declared.child.Shutdown.TheVariants as shutdown
use Rattle.otp_c.specs.declared.shapes.status.TheConstants.{OTP_BAD_KIND, OTP_BAD_NAME}
use Rattle.otp_c.specs.declared.shapes.structs.CName.{CName}
use Rattle.otp_c.specs.declared.shapes.structs.CSpec.{CSpec}
use Rattle.otp_c.specs.Orders.{ShowsName}
use Rattle.otp_c.specs.Words.{child_type_number, flag_number, restart_number, shutdown_number}

-- the milliseconds of a shutdown that has any
abbrev pub shutdown_time : Shutdown → ℕ
shutdown_time (shutdown.Milliseconds time) = time
shutdown_time _ = 0

-- the field at this place shows the name
abbrev pub ShowsAt : List CName → ℕ → Name → Type 0
ShowsAt fields place name = (field : CName) × (slice_get fields place ≡ Some field) × ShowsName name field

-- how many modules there are, or 5 where that isn't known, and the first fields show them
abbrev pub ShowsModules : Modules → ℕ → List CName → Type 0
ShowsModules modules.Dynamic count fields = count ≡ 5
ShowsModules modules.None count fields = count ≡ 0
ShowsModules (modules.One a) count fields = (count ≡ 1) × ShowsAt fields 0 a
ShowsModules (modules.Two a b) count fields = (count ≡ 2) × ShowsAt fields 0 a × ShowsAt fields 1 b
ShowsModules (modules.Three a b c) count fields = (count ≡ 3) × ShowsAt fields 0 a × ShowsAt fields 1 b × ShowsAt fields 2 c
ShowsModules (modules.Four a b c d) count fields = (count ≡ 4) × ShowsAt fields 0 a × ShowsAt fields 1 b × ShowsAt fields 2 c × ShowsAt fields 3 d

pub record ShowsSpec (spec : ChildSpec) (out : CSpec) : Type 0 where
  pub restart : out.restart ≡ restart_number spec.restart
  pub significant : out.significant ≡ flag_number spec.significant
  pub kind : out.kind ≡ child_type_number spec.kind
  pub shutdown : out.shutdown ≡ shutdown_number spec.shutdown
  pub shutdown_ms : out.shutdown_ms ≡ shutdown_time spec.shutdown
  pub modules : ShowsModules spec.modules out.modules out.module
  pub id : ShowsName spec.id out.id
  pub start : ShowsName spec.start out.start

-- the name that a field says, of 32 bytes at the most
abbrev pub name_said : CName → Name
name_said field = name_of (take field.len field.bytes)

abbrev pub SaysName : CName → Name → Type 0
SaysName field name = (field.len ≤ 32) × (name ≡ name_said field)

abbrev pub SaysNameAt : List CName → ℕ → Name → Type 0
SaysNameAt fields place name = (field : CName) × (slice_get fields place ≡ Some field) × SaysName field name

abbrev pub SaysModules : ℕ → List CName → Modules → Type 0
SaysModules count fields modules.Dynamic = count ≡ 5
SaysModules count fields modules.None = count ≡ 0
SaysModules count fields (modules.One a) = (count ≡ 1) × SaysNameAt fields 0 a
SaysModules count fields (modules.Two a b) = (count ≡ 2) × SaysNameAt fields 0 a × SaysNameAt fields 1 b
SaysModules count fields (modules.Three a b c) = (count ≡ 3) × SaysNameAt fields 0 a × SaysNameAt fields 1 b × SaysNameAt fields 2 c
SaysModules count fields (modules.Four a b c d) = (count ≡ 4) × SaysNameAt fields 0 a × SaysNameAt fields 1 b × SaysNameAt fields 2 c × SaysNameAt fields 3 d

-- the number and the milliseconds say this shutdown; where it has none they aren't looked at
abbrev pub SaysShutdown : ℕ → ℕ → Shutdown → Type 0
SaysShutdown number time (shutdown.Milliseconds said) = (number ≡ 2) × (said ≡ time)
SaysShutdown number time said = number ≡ shutdown_number said

pub record SaysSpec (said : CSpec) (spec : ChildSpec) : Type 0 where
  pub id : SaysName said.id spec.id
  pub start : SaysName said.start spec.start
  pub restart : said.restart ≡ restart_number spec.restart
  pub significant : said.significant ≡ flag_number spec.significant
  pub shutdown : SaysShutdown said.shutdown said.shutdown_ms spec.shutdown
  pub kind : said.kind ≡ child_type_number spec.kind
  pub modules : SaysModules said.modules said.module spec.modules

-- the number is none from the first one to the last
abbrev pub IsOutside : ℕ → ℕ → ℕ → Type 0
IsOutside first last number = (number < first) ⊎ (last < number)

-- the field at this place says more bytes than a name has
abbrev pub IsLongAt : List CName → ℕ → Type 0
IsLongAt fields place = (field : CName) × (slice_get fields place ≡ Some field) × (32 < field.len)

-- one of the module names that count does so
abbrev pub HasLongModule : ℕ → List CName → Type 0
HasLongModule count fields = (place : ℕ) × (place < count) × (count ≤ 4) × IsLongAt fields place

-- one of the names does so
abbrev pub HasLongName : CSpec → Type 0
HasLongName said = (32 < said.id.len) ⊎ ((32 < said.start.len) ⊎ HasLongModule said.modules said.module)

-- one of the numbers stands for nothing
abbrev pub HasStrangeNumber : CSpec → Type 0
HasStrangeNumber said =
    IsOutside 1 3 said.restart
    ⊎ (IsOutside 0 1 said.significant ⊎ (IsOutside 1 3 said.shutdown ⊎ (IsOutside 1 2 said.kind ⊎ IsOutside 0 5 said.modules)))

-- the specification that a struct says, or why it says none
abbrev pub SpecSaid : CSpec → Result ChildSpec ℕ → Type 0
SpecSaid said (Ok spec) = SaysSpec said spec
SpecSaid said (Err status) = ((status ≡ OTP_BAD_NAME) × HasLongName said) ⊎ ((status ≡ OTP_BAD_KIND) × HasStrangeNumber said)

-- the modules that a struct says, or why it says none
abbrev pub ModulesSaid : ℕ → List CName → Result Modules ℕ → Type 0
ModulesSaid count fields (Ok modules) = SaysModules count fields modules
ModulesSaid count fields (Err status) = ((status ≡ OTP_BAD_NAME) × HasLongModule count fields) ⊎ ((status ≡ OTP_BAD_KIND) × IsOutside 0 5 count)

-- the name that a struct says, or why it says none
abbrev pub NameSaid : CName → Result Name ℕ → Type 0
NameSaid field (Ok name) = SaysName field name
NameSaid field (Err status) = (status ≡ OTP_BAD_NAME) × (32 < field.len)
