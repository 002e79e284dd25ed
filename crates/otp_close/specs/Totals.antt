-- What adds up in a report: starts, and ends. (own)
use Rattle.std.specs.Prelude.{◌≡◌, ℕ, ◌+◌, Option, MatchOption, length, sum_by}
use Rattle.otp_inbox.specs.Tokens.{TakerState}
use Rattle.otp_bodies.specs.declared.letter.Message.{Message}
use Rattle.otp_rules.specs.Needs.{numbers_of}
use Rattle.otp_hand.specs.Ended.{ends_among, ends_in}
use Rattle.otp_close.specs.Leavings.{line_of}
use Rattle.otp_close.specs.declared.report.report.Report.{Report}
use Rattle.otp_close.specs.declared.report.report.TableReport.{TableReport}

-- the starts of a supervisor's history, and those of them that were still to be sent
abbrev pub starts_of : TableReport → ℕ
starts_of t = length (numbers_of t.core.history)

abbrev pub unsent_of : TableReport → ℕ
unsent_of t = t.unsent

-- the processes that began are the root's and those whose starts were sent, of all supervisors
abbrev pub HasAllStarts : {J S : Type 0} → Report J S → Type 0
HasAllStarts report = report.begun + sum_by unsent_of report.tables.items ≡ 1 + sum_by starts_of report.tables.items

-- the end notes that a supervisor took, as its history has it, or left in its inbox
abbrev pub ends_of : TableReport → ℕ
ends_of t = ends_in (line_of t)

-- so many end notes were taken by whoever opened the tree
abbrev pub HasHeard : Option (TakerState Message) → ℕ → Type 0
HasHeard waiter heard = MatchOption waiter ⊥ (λ (w : TakerState Message). heard ≡ ends_among w.taken)

-- as many processes ended as end notes are among what all supervisors took and left, and what whoever opened the tree took and
-- left, and those that hands had still to send
abbrev pub HasAllEnds : {J S : Type 0} → Report J S → Type 0
HasAllEnds report = report.ended ≡ sum_by ends_of report.tables.items + ends_in report.last.items + report.heard + report.held
