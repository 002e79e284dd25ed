use Rattle.std.proofs.Common.{subst, sym}
use Rattle.otp_close.specs.Closes.{IsFreeFrom}
use Rattle.otp_hand.specs.Hands.{SystemView}
use Rattle.otp_tree.proofs.closing.close_tree.Goals as goal

pub close-requires : goal.close-requires
close-requires g c = subst (λ (v : SystemView). IsFreeFrom g.N.PlanNaming.plan v.tables c.known-known.result) (sym c.into_parts-shared.ensures) c.known-known.ensures
