-- What a refusal is told by: the numbers of the header (own).
use Rattle.std.specs.Prelude.{ℕ}
use Rattle.otp_base.specs.declared.change.fault.ChangeFault.TheVariants as change
use Rattle.otp_driver.specs.declared.driven.fault.ChangeRefusal.{ChangeRefusal}
use Rattle.otp_driver.specs.declared.driven.fault.ChangeRefusal.TheVariants as refusal
use Rattle.otp_driver.specs.declared.driven.fault.DriveFault.{DriveFault}
use Rattle.otp_driver.specs.declared.driven.fault.DriveFault.TheVariants.{OutOfMemory, OrdersWait, Spent, NoSupervisor, IsNested, BadReading}

abbrev pub status_of : DriveFault → ℕ
status_of OutOfMemory = 4
status_of OrdersWait = 5
status_of Spent = 6
status_of BadReading = 7
status_of NoSupervisor = 12
status_of IsNested = 13

-- why a supervisor doesn't go on under another tree file
abbrev pub change_status : ChangeRefusal → ℕ
change_status refusal.OutOfMemory = 4
change_status refusal.OrdersWait = 14
change_status (refusal.Change change.Busy) = 14
change_status (refusal.Change (change.Spec _)) = 11
change_status (refusal.Change change.Turned) = 16
change_status (refusal.Change change.Running) = 15
change_status (refusal.Change change.OutOfMemory) = 4
change_status (refusal.Base _) = 6
change_status refusal.Runs = 15
change_status refusal.Turns = 15
