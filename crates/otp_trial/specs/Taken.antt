-- What became of an action, in words (own).
use Rattle.std.specs.Prelude.{ℕ, List, [], codes}
use Rattle.otp_trial.specs.declared.trial.ActionEnd.{ActionEnd}
use Rattle.otp_trial.specs.declared.trial.ActionEnd.TheVariants as taken

-- why an action did nothing; nothing where it was taken
unfoldable pub taken_text : ActionEnd → List ℕ
taken_text taken.Done = []
taken_text taken.NoProcess = codes "ignored: this child has no process now; say restart ID to start it again"
taken_text taken.EndWaits = codes "ignored: this process has ended already; its supervisor takes that up once no work is open"
taken_text taken.NoChild = codes "ignored: there is no such child; which lists the root's, PATH/ which those below"
taken_text taken.NoSupervisor = codes "ignored: there is no supervisor of this path; write ids from the root's child on"
taken_text taken.NotRunning = codes "ignored: this supervisor has no process now; restart ID starts it, if not temporary"
taken_text taken.TooLate = codes "ignored: that time has gone by; +TIME counts from the line before"
taken_text taken.Ended = codes "ignored: the supervisor has ended; the line of its end says why"
taken_text taken.Unmet = codes "it is not so"
taken_text taken.NoIds = codes "ignored: children of simple_one_for_one have no ids, so no start of one can be planned"
