-- Where a job is started: which process it is, and what time it is. (own)
use Rattle.std.specs.Prelude.{ℕ, Option}
use Rattle.otp_job.specs.declared.process.Ticket.{Ticket}
use Rattle.otp_reason.specs.declared.name.Name.{Name}

pub record PlaceView : Type 0 where
  pub number : ℕ
  pub slot : ℕ
  pub table : ℕ
  pub id : Option Name
  pub reading : ℕ

-- the place of the process with this ticket, in a turn at this reading of the clock
abbrev pub place_of : Ticket → ℕ → PlaceView
place_of ticket reading = record { number = ticket.number; slot = ticket.slot; table = ticket.table; id = ticket.id; reading = reading }
