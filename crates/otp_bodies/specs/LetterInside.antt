-- What a letter's parts stand for.
use Rattle.otp_rules.specs.declared.call.Call.{Call}
use Rattle.otp_rules.specs.declared.call.Call.TheVariants as call
use Rattle.otp_rules.specs.declared.event.Item.{Item}
use Rattle.otp_rules.specs.declared.event.Item.TheVariants as item
use Rattle.otp_bodies.specs.declared.letter.Asked.{Asked}
use Rattle.otp_bodies.specs.declared.letter.Asked.TheVariants as asked
use Rattle.otp_bodies.specs.declared.letter.Content.{Content}
use Rattle.otp_bodies.specs.declared.letter.Content.TheVariants as content

abbrev pub call_of : Asked → Call
call_of (asked.StartChild spec) = call.StartChild spec.value
call_of asked.StartDynamic = call.StartDynamic
call_of (asked.RestartChild id) = call.RestartChild id
call_of (asked.DeleteChild id) = call.DeleteChild id
call_of (asked.TerminateChild id) = call.TerminateChild id
call_of (asked.TerminateProcess p) = call.TerminateProcess p
call_of asked.WhichChildren = call.WhichChildren
call_of asked.CountChildren = call.CountChildren
call_of (asked.GetChildspec id) = call.GetChildspec id

abbrev pub item_of : Content → Item
item_of (content.Note note) = item.Note note
item_of (content.Call number what) = item.Call number (call_of what)
