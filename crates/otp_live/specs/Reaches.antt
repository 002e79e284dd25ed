-- How far a client reaches that lies under no lock. (own)
use Rattle.std.specs.Prelude.{None, []}
use Rattle.otp_hand.specs.Standings.{Reach}

-- nowhere
abbrev pub no_reach : Reach
no_reach = record { waits = None; parts = [] }
