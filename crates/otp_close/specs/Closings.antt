-- What the report of a closed tree says of the parts that it was closed with. (own)
use Rattle.std.specs.Prelude.{◌≡◌, ℕ, List, Option, All, length, map, sum_by}
use Rattle.otp_close.specs.Closes.{AreApart, HasBegun, HasTables, HasTold, HaveBegun, IsComplete, all_senders}
use Rattle.otp_close.specs.Leavings.{AreAccounted, AreInOrder, HasUnsent, HaveCome, IsLast, IsLastInOrder}
use Rattle.otp_close.specs.Partings.{schedulers_of}
use Rattle.otp_close.specs.Tables.{AreOfTables}
use Rattle.otp_close.specs.Totals.{HasAllEnds, HasAllStarts, HasHeard}
use Rattle.otp_close.specs.declared.report.report.Report.{Report}
use Rattle.otp_hand.specs.Ended.{held_by}
use Rattle.otp_hand.specs.Hands.{HandView, SystemView, TreeClientView}
use Rattle.otp_run.specs.Gathers.{IsLiveTotal, begun_of, ended_of}
use Rattle.otp_run.specs.Rule.{ticket_of}
use Rattle.otp_spec.specs.Supervisor.{Supervisor}

-- the report of a tree that was closed with these parts, where each number has the plan that the tree's name has for it
pub record IsReportFrom {J S : Type 0} (named : ℕ → Option Supervisor) (shared : SystemView) (hands : List (HandView J S)) (client : TreeClientView) (report : Report J S) : Type 0 where
  -- all parts were there
  pub complete : IsComplete shared hands client
  -- it has each supervisor that had a plan when the tree got its name, and others that did something, or got something
  pub count : HasTables named shared.tables (length report.tables.items)
  -- each process that a hand put was found or is left, and what is live is what is left and what hands have out
  pub live : IsLiveTotal (schedulers_of hands) report.live (map ticket_of report.processes.items)
  pub begun : report.begun ≡ sum_by begun_of (schedulers_of hands)
  pub ended : report.ended ≡ sum_by ended_of (schedulers_of hands)
  -- what began is the root's process, and those whose starts were sent: of all starts of all histories those that were not still
  -- to be sent
  pub starts : HasAllStarts report
  -- as many ended as notes of ends are among what the supervisors took and left, were told whoever opened the tree, or were still
  -- to be sent
  pub ends : HasAllEnds report
  pub heard : HasHeard client.waiter report.heard
  pub held : report.held ≡ sum_by held_by hands
  -- each core began as the supervisor of its plan, never opened: with that plan's flags and specifications
  pub plans : HaveBegun named report.tables.items
  pub begins : All HasBegun report.tables.items
  -- each end of another supervisor that its history was told is for the note's reason, and shown
  pub shown : All HasTold report.tables.items
  -- no process number is in the histories of two supervisors
  pub apart : AreApart report.tables.items
  -- the items of each supervisor's history and those left in its inbox are as often as all hands and the client sent them to it;
  -- and so it is with those that the client took of the root's, and the last
  pub left : AreAccounted (all_senders client hands) report.tables.items
  pub last : IsLast shared.tables (all_senders client hands) client.waiter report.last.items
  -- each came with the end that it was sent with, and the ends that a history was told are those that came with what it took
  pub come : HaveCome (all_senders client hands) report.tables.items
  -- each sender's items stand there in the order in which it sent them
  pub order : AreInOrder (all_senders client hands) report.tables.items
  pub last_order : IsLastInOrder shared.tables (all_senders client hands) client.waiter report.last.items
  -- the first orders of each history were sent, in their order, and the words of these posted; the others, so many as the report
  -- says, were still to be sent. One start at most is among them
  pub unsent : All HasUnsent report.tables.items
  -- each report is that of the supervisor with its place's inbox, which kept the rules. What it took and left is what was sent to
  -- it; and for each start that it sent, each event and each time that it found its inbox empty a sender was credited
  pub tables : AreOfTables named (all_senders client hands) report.tables.items
