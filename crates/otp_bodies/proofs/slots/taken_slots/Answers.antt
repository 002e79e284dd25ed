use Rattle.std.proofs.Common.{refl, false}
use Rattle.std.proofs.lemmas.List.{get_or-replicate}
use Rattle.otp_bodies.proofs.slots.taken_slots.Goals as goal

pub loop-row-init : goal.loop-row-init
loop-row-init c = record { len = refl; taken = λ slot within. get_or-replicate 256 slot false false within }
