-- What the words of a line say (own).
use Rattle.std.specs.Prelude.{ℕ, List, codes, if◌then◌else◌}
use Rattle.std.specs.Str.{bytes_eq}
use Rattle.otp_reason.specs.declared.name.Name.{Name}
use Rattle.otp_rules.specs.declared.call.Call.{Call}
use Rattle.otp_rules.specs.declared.call.Call.TheVariants as call

-- the call of the child with this id that a word says, which is one of four
unfoldable pub call_said : List ℕ → Name → Call
call_said word id =
    if bytes_eq word (codes "restart") then call.RestartChild id
    else if bytes_eq word (codes "delete") then call.DeleteChild id
    else if bytes_eq word (codes "terminate") then call.TerminateChild id
    else call.GetChildspec id
