-- What a call that asks for the last answer says (own).
use Rattle.std.specs.Prelude.{◌≡◌, ℕ, Option, Some, None, slice_get}
use Rattle.otp_rules.specs.declared.call.Answered.{Answered}
use Rattle.otp_rules.specs.declared.call.ChildLine.{ChildLine}
use Rattle.otp_rules.specs.declared.call.Reply.{Reply}
use Rattle.otp_rules.specs.declared.call.Reply.TheVariants as reply
use Rattle.otp_spec.specs.declared.child.ChildSpec.{ChildSpec}
use Rattle.otp_c.specs.declared.shapes.status.TheConstants.{OTP_NONE, OTP_OK}

-- something is said where there is something, and else the struct stays
abbrev pub Says : {A C : Type 0} → (A → C → Type 0) → Option A → ℕ → C → C → Type 0
Says shows None status old new = (status ≡ OTP_NONE) × (new ≡ old)
Says shows (Some a) status old new = (status ≡ OTP_OK) × shows a new

-- the line of this index, of an answer that has lines
abbrev pub line_in_reply : ℕ → Reply → Option ChildLine
line_in_reply index (reply.Which lines) = slice_get lines index
line_in_reply index _ = None

abbrev pub line_in : ℕ → Option Answered → Option ChildLine
line_in index None = None
line_in index (Some a) = line_in_reply index a.reply

-- the specification of an answer that is one
abbrev pub spec_in_reply : Reply → Option ChildSpec
spec_in_reply (reply.Spec spec) = Some spec
spec_in_reply _ = None

abbrev pub spec_in : Option Answered → Option ChildSpec
spec_in None = None
spec_in (Some a) = spec_in_reply a.reply
