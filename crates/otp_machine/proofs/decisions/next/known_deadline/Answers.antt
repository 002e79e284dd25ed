use Rattle.std.proofs.Common.{rules, ◌∙◌, sym}
use Rattle.otp_machine.proofs.Deadlines.{known_next}
use Rattle.otp_machine.proofs.decisions.next.known_deadline.Goals as goal

pub returns-then-deadline-soonest : goal.returns-then-deadline-soonest
returns-then-deadline-soonest c =
    known_next c.args.rows.now c.args.place c.in-Some.deadline c.args.soonest (search rules) (λ d. sym (c.deadline_at.ensures d) ∙ c.in-Some.is) (search rules) c.requires
