use Rattle.std.proofs.Common.{refl, false}
use Rattle.std.proofs.lemmas.List.{get_or-replicate}
use Rattle.otp_table.proofs.search.taken_slots.Goals as goal
use Rattle.otp_spec.specs.declared.limits.TheConstants.{MAX_CHILDREN}

pub loop-row-init : goal.loop-row-init
loop-row-init c = record { len = refl; taken = λ slot within. get_or-replicate MAX_CHILDREN slot false false within }
