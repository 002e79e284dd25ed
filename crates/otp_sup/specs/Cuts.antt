-- Checkpoints of a supervisor: its events are stored no longer, and nothing that comes depends on them. (own)
use Rattle.std.specs.Prelude.{◌≡◌, ◌⊎◌, true, false, [], Result, Ok, Err}
use Rattle.otp_core.specs.declared.cut.CutFault.{CutFault}
use Rattle.otp_sup.specs.declared.cut.CutAnswer.{CutAnswer}
use Rattle.otp_sup.specs.declared.cut.CutAnswer.TheVariants as cut
use Rattle.otp_bodies.specs.declared.office.turns.TurnAnswer.{TurnAnswer}
use Rattle.otp_bodies.specs.declared.office.turns.TurnAnswer.TheVariants as answer
use Rattle.otp_bodies.specs.declared.office.turns.TurnFault.{TurnFault}
use Rattle.otp_sup.specs.Facts.{TableView}
use Rattle.otp_bodies.specs.Orders.{has_some}
use Rattle.otp_core.specs.Full.{is_full}
use Rattle.otp_bodies.specs.Cuts.{HasTooManyEvents, cut_office}

-- nor is an end that they told
abbrev pub cut_table : TableView → TableView
cut_table t = record t { office = cut_office t.office; ends_told = [] }

-- a checkpoint was made, and there is room again
pub record IsCut (old new : TableView) : Type 0 where
  pub is : new ≡ cut_table old
  pub room : is_full new.office.core ≡ false

-- what a cut does: nothing while an order is still to be sent, and nothing after too many events
abbrev pub WasCut : Result CutAnswer CutFault → TableView → TableView → Type 0
WasCut (Ok cut.Cut) old new = (old.office.outbox ≡ []) × IsCut old new
WasCut (Ok cut.Pending) old new = (has_some old.office.outbox ≡ true) × (new ≡ old)
WasCut (Err _) old new = (old.office.outbox ≡ []) × HasTooManyEvents old.office.core × (new ≡ old)

-- what is done after a turn with this answer: where the core is full, a checkpoint, but after too many events; else nothing
abbrev pub CutWhereFull : Result TurnAnswer TurnFault → TableView → TableView → Type 0
CutWhereFull (Ok answer.Full) old new = IsCut old new ⊎ (HasTooManyEvents old.office.core × (new ≡ old))
CutWhereFull _ old new = new ≡ old
