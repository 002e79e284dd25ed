-- What a `Room` owns: what a box of its value does, or nothing.
use base.Fml.{Fml, ftrue}
use base.Stored.{Coded}
use denote.RawPtr.{Ptr}
use Rattle.std.specs.Prelude.{Option, None, Some}
use Rattle.std.specs.Coded.{coded_option}
use Rattle.std.specs.Box.Ownership.{box_owns}
use Rattle.std.specs.Global.{Global}
use Rattle.std_heap.specs.contracts.GlobalAllocator.TheImpl.{ghosts}
use Rattle.otp_driver.specs.contracts.session.Session.{the_row}

abbrev pub room_owns : Global → Ptr → Option the_row.Denot → Fml
room_owns alloc p None = ftrue
room_owns alloc p (Some v) = box_owns (ghosts.dealloc_token alloc) the_row p v

abbrev pub held_coded : Coded (Option the_row.Denot)
held_coded = coded_option the_row.coded
