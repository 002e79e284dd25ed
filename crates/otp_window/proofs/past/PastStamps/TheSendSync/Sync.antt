-- Nor does a reference to one hold what is one thread's.
use denote.Param.Send.{IsSend, IsSync, owning_send, part_keyless, sendable}
use Rattle.otp_window.specs.contracts.past.PastStamps.{the_row, the_type}

pub sync : IsSync the_row
sync = let s : IsSend the_row = owning_send the_type (search sendable, tt) (λ d. tt) (λ k x w. tt) in record { shared = λ d b o κ q. part_keyless the_row s q d b o }
