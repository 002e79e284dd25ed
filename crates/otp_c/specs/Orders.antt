-- What an order's struct says (own).
use Rattle.std.specs.Prelude.{◌≡◌, ℕ, ◌≤◌, Option, Some, None, length, min, take}
use Rattle.otp_reason.specs.Names.{name_bytes}
use Rattle.otp_reason.specs.Texts.{text_bytes}
use Rattle.otp_reason.specs.declared.name.Name.{Name}
use Rattle.otp_reason.specs.declared.reason.Reason.{Reason}
use Rattle.otp_reason.specs.declared.reason.Reason.TheVariants as reason
use Rattle.otp_reason.specs.declared.text.Text.{Text}
use Rattle.otp_rules.specs.declared.ending.Ending.{Ending}
use Rattle.otp_rules.specs.declared.ending.Ending.TheVariants as ending
use Rattle.otp_driver.specs.declared.order.Order.{Order}
use Rattle.otp_driver.specs.declared.order.Task.{Task}
use Rattle.otp_driver.specs.declared.order.What.{What}
use Rattle.otp_driver.specs.declared.order.What.TheVariants.{Start, Ask, Kill, Reply, Ready, End}
use Rattle.otp_c.specs.declared.shapes.structs.CName.{CName}
use Rattle.otp_c.specs.declared.shapes.structs.COrder.{COrder}
use Rattle.otp_c.specs.declared.shapes.structs.CText.{CText}
use Rattle.otp_c.specs.Words.{cause_number, reason_number}

-- the field shows the name's bytes
abbrev pub ShowsName : Name → CName → Type 0
ShowsName name field = length (name_bytes name) ≤ 32 → take field.len field.bytes ≡ name_bytes name

-- or nothing, where there is none
abbrev pub ShowsSome : Option Name → CName → Type 0
ShowsSome None field = field.len ≡ 0
ShowsSome (Some name) field = ShowsName name field

-- the field shows the text's bytes
abbrev pub ShowsText : Text → CText → Type 0
ShowsText text field = length (text_bytes text) ≤ 64 → take field.len field.bytes ≡ text_bytes text

-- the text of a reason, or nothing, where it has none
abbrev pub ShowsReasonText : Reason → CText → Type 0
ShowsReasonText (reason.ShutdownWith text) field = ShowsText text field
ShowsReasonText (reason.Error text) field = ShowsText text field
ShowsReasonText _ field = field.len ≡ 0

-- a process outside, as an order's struct names it
pub record ShowsTask (task : Task) (out : COrder) : Type 0 where
  pub number : out.number ≡ task.number
  pub id : ShowsSome task.id out.id
  pub start : ShowsSome task.start out.start

abbrev pub ShowsDeadline : Option ℕ → COrder → Type 0
ShowsDeadline None out = out.has_deadline ≡ 0
ShowsDeadline (Some deadline) out = (out.has_deadline ≡ 1) × (out.deadline ≡ deadline)

-- what made the supervisor end
abbrev pub ShowsEnding : Ending → COrder → Type 0
ShowsEnding (ending.Significant number) out = out.number ≡ number
ShowsEnding (ending.InitFailed id) out = ShowsName id out.id
ShowsEnding _ out = out.number ≡ 0

abbrev pub ShowsWhat : What → COrder → Type 0
ShowsWhat (Start task) out = (out.kind ≡ 1) × ShowsTask task out
ShowsWhat (Ask task deadline) out = (out.kind ≡ 2) × ShowsTask task out × ShowsDeadline deadline out
ShowsWhat (Kill task) out = (out.kind ≡ 3) × ShowsTask task out
ShowsWhat (Reply call) out = (out.kind ≡ 4) × (out.number ≡ call)
ShowsWhat Ready out = out.kind ≡ 5
ShowsWhat (End why ending) out =
    (out.kind ≡ 6) × (out.reason ≡ reason_number why) × ShowsReasonText why out.text × (out.cause ≡ cause_number ending) × ShowsEnding ending out

-- the struct says the order; a tree has 64 supervisors at the most
abbrev pub ShowsOrder : Order → COrder → Type 0
ShowsOrder order out = (out.supervisor ≡ min order.supervisor 1000000) × ShowsWhat order.what out
