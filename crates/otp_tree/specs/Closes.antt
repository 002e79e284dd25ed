-- What comes back of a tree that was not closed, and when a run tells of a mismatch. (own)
use Rattle.std.specs.Prelude.{◌≡◌, ⊤, List}
use Rattle.otp_close.specs.Closes.{IsMismatchOnly, NoneMissing}
use Rattle.otp_hand.specs.Hands.{TreeClientView, HandView, SystemView}
use Rattle.otp_open.specs.Plans.{HaveBodies, IsOpenFault}
use Rattle.otp_open.specs.declared.plan.TablePlan.{TablePlan}
use Rattle.otp_tree.specs.declared.closing.Unclosed.{Unclosed}
use Rattle.otp_tree.specs.declared.whole.RunFault.{RunFault}
use Rattle.otp_tree.specs.declared.whole.RunFault.TheVariants as run

-- the tree, as it was, as far as contracts see it: as many slots and supervisors, and hands and client with all that stands in their
-- views. What lies under a lock is known by its type alone
pub record IsAsItWas {N J S : Type 0} (system : SystemView) (hands : List (HandView J S)) (client : TreeClientView) (k : Unclosed N J S) : Type 0 where
  pub system_is : k.system ≡ system
  pub hands_are : k.hands.items ≡ hands
  pub client_is : k.client ≡ client

module _ {J S : Type 0} where
  -- a mismatch of a tree that was run whole is that of an event of its report
  abbrev pub IsRunMismatchOnly : RunFault J S → Type 0
  IsRunMismatchOnly (run.Open why) = ⊤
  IsRunMismatchOnly (run.Close why) = IsMismatchOnly why

  -- no part of a tree that was run whole is said to be missing
  abbrev pub IsRunNoneMissing : RunFault J S → Type 0
  IsRunNoneMissing (run.Open why) = ⊤
  IsRunNoneMissing (run.Close why) = NoneMissing why

  -- why it was not opened: memory was refused, or a plan of these lacks a body; and the plans come back as they were
  abbrev pub IsRunOpenFault : List (TablePlan J S) → RunFault J S → Type 0
  IsRunOpenFault plans (run.Open back) = IsOpenFault plans back.fault × (back.plans.items ≡ plans)
  IsRunOpenFault plans (run.Close why) = HaveBodies plans
