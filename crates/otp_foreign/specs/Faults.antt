-- Where a fault shows (own).
use Rattle.std.specs.Prelude.{ℕ}
use Rattle.otp_foreign.specs.declared.fault.ImportFault.{ImportFault}
use Rattle.otp_foreign.specs.declared.fault.ImportFault.TheVariants.{OutOfMemory, At, NoTree}

-- the place of the byte at which it shows, from 0; want of memory shows at none
unfoldable pub place_of : ImportFault → ℕ
place_of OutOfMemory = 0
place_of (At place _) = place
place_of (NoTree place _) = place
