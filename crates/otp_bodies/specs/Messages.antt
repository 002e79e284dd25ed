-- Letters without their bodies: what was sent and what was taken is said by them. (own)
use Rattle.std.specs.Prelude.{List, Option, None, map}
use Rattle.otp_rules.specs.declared.ending.SupEnd.{SupEnd}
use Rattle.otp_rules.specs.declared.event.Item.{Item}
use Rattle.otp_bodies.specs.declared.letter.Message.{Message}

-- an item, and the end that came with it
abbrev pub message : Item → Option SupEnd → Message
message item end = record { item = item; end = end }

-- an item that came with no end, as each call does
abbrev pub plain_message : Item → Message
plain_message item = message item None

-- what messages say
abbrev pub items_in : List Message → List Item
items_in messages = map (λ m. m.item) messages
