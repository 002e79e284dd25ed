-- What the kept items that wait stand for.
use Rattle.std.specs.Prelude.{Bool, true, false, ◌≡◌, ◌+◌, ◌≤◌, List, [], ◌∷◌, count_by, drop, get_or, length}
use Rattle.std.specs.VecDeque.{deque_len, deque_capacity}
use Rattle.otp_rules.specs.declared.call.Call.{Call}
use Rattle.otp_rules.specs.declared.call.Call.TheVariants as call
use Rattle.otp_rules.specs.declared.event.Item.TheVariants as item
use Rattle.otp_rules.specs.declared.event.Waiting.{Waiting}
use Rattle.otp_rules.specs.declared.event.Waiting.TheVariants as waiting
use Rattle.otp_machine.specs.declared.stores.waits.ShortItem.{ShortItem}
use Rattle.otp_machine.specs.declared.stores.waits.ShortItem.TheVariants as short
use Rattle.otp_machine.specs.declared.stores.waits.Waits.TheInside.{Inside}
use Rattle.otp_machine.specs.Queued.{Queued}

abbrev pub is_call : ShortItem → Bool
is_call (short.Call _) = true
is_call _ = false

-- the item, where the calls of it and of those behind it are these
abbrev pub whole_item : ShortItem → List Call → Waiting
whole_item (short.Note note) calls = waiting.Item (item.Note note)
whole_item (short.Call number) calls = waiting.Item (item.Call number (get_or calls 0 call.WhichChildren))
whole_item (short.Retry kept) calls = waiting.Retry kept

-- the calls of those behind it
abbrev pub calls_behind : ShortItem → List Call → List Call
calls_behind (short.Call _) calls = drop 1 calls
calls_behind _ calls = calls

-- the items, each call among them with the next of these
abbrev pub whole_items : List ShortItem → List Call → List Waiting
whole_items [] calls = []
whole_items (x ∷ xs) calls = whole_item x calls ∷ whole_items xs (calls_behind x calls)

-- the item with its call apart
abbrev pub short_item : Waiting → ShortItem
short_item (waiting.Item (item.Note note)) = short.Note note
short_item (waiting.Item (item.Call number _)) = short.Call number
short_item (waiting.Retry kept) = short.Retry kept

abbrev pub calls_of : Waiting → List Call
calls_of (waiting.Item (item.Call _ call)) = call ∷ []
calls_of _ = []

abbrev pub queued_of : Inside → Queued
queued_of w = record { items = whole_items w.items.items w.calls.items; room = w.room }

pub record IsQueue (w : Inside) : Type 0 where
  -- each call that waits has what it asks
  pub calls : count_by is_call w.items.items ≡ length w.calls.items
  -- the room is there
  pub items_room : deque_len w.items + w.room ≤ deque_capacity w.items
  pub calls_room : deque_len w.calls + w.room ≤ deque_capacity w.calls
