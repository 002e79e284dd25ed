-- What is left of a fault where nothing is wanted back. (own)
use Rattle.otp_draft.specs.declared.fault.DraftFault.{DraftFault}
use Rattle.otp_draft.specs.declared.fault.DraftFault.TheVariants as draft
use Rattle.otp_close.specs.declared.closing.CloseFault.TheVariants as close
use Rattle.otp_open.specs.declared.opening.SystemFault.{SystemFault}
use Rattle.otp_open.specs.declared.opening.SystemFault.TheVariants as unopened
use Rattle.otp_tree.specs.declared.whole.RunFault.{RunFault}
use Rattle.otp_tree.specs.declared.whole.RunFault.TheVariants as run
use Rattle.otp.specs.declared.fault.Fault.{Fault}
use Rattle.otp.specs.declared.fault.Fault.TheVariants as fault
use Rattle.otp.specs.declared.fault.Unrun.{Unrun}
use Rattle.otp.specs.declared.fault.Unrun.TheVariants as unrun

abbrev pub fault_of : DraftFault → Fault
fault_of draft.OutOfMemory = fault.OutOfMemory
fault_of why = fault.Draft why

abbrev pub open_fault : SystemFault → Fault
open_fault unopened.OutOfMemory = fault.OutOfMemory
open_fault (unopened.NoBody table) = fault.NoBody

module _ {J S : Type 0} where
  abbrev pub run_fault : RunFault J S → Fault
  run_fault (run.Open back) = open_fault back.fault
  run_fault (run.Close (close.OutOfMemory k)) = fault.OutOfMemory
  run_fault (run.Close (close.Missing k)) = fault.Missing
  run_fault (run.Close (close.Misplaced k d)) = fault.Misplaced
  run_fault (run.Close (close.Mismatch m report)) = fault.Mismatch

  abbrev pub unrun_fault : Unrun J S → Fault
  unrun_fault (unrun.Unfinished back) = fault_of back.fault
  unrun_fault (unrun.Hands root) = fault.Hands
  unrun_fault (unrun.Run why) = run_fault why
