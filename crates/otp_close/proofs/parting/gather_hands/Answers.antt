use Rattle.std.proofs.Common.{◌+◌, List, ap, map, rules, sym, ◌∙◌, subst}
use Rattle.std.specs.Prelude.{sum_by}
use Rattle.otp_hand.specs.Begun.{starts_credited}
use Rattle.otp_close.specs.Settlings.{senders_in}
use Rattle.otp_close.proofs.Begun.{begun_together, one_root}
use Rattle.otp_close.proofs.Ended.{ended_together}
use Rattle.otp_run.specs.Gathers.{IsAll}
use Rattle.otp_run.specs.Schedulers.{SchedulerState}
use Rattle.otp_close.proofs.parting.gather_hands.Goals as goal

pub returns-in-Err-Missing-clause-missing : goal.returns-in-Err-Missing-clause-missing
returns-in-Err-Missing-clause-missing g c =
    let refused : ¬ (IsAll c.part_all.new.schedulers.items) = search rules in
    subst (λ (l : List SchedulerState). ¬ (IsAll l)) (sym c.part_all.ensures.same) refused

pub returns-in-Ok-gather-clause-all : goal.returns-in-Ok-gather-clause-all
returns-in-Ok-gather-clause-all g c =
    let whole : IsAll c.part_all.new.schedulers.items = search rules in
    subst (λ (l : List SchedulerState). IsAll l) (sym c.part_all.ensures.same) whole

pub returns-in-Ok-gather-clause-starts : goal.returns-in-Ok-gather-clause-starts
returns-in-Ok-gather-clause-starts g c =
    let whole : IsAll c.part_all.new.schedulers.items = search rules in
    (c.in-Ok-gather.ensures {u = tt}).begun
    ∙ begun_together c.part_all.new.schedulers.items c.part_all.new.rests.items c.part_all.ensures.paired c.part_all.ensures.many
    ∙ ap (λ n. n + sum_by starts_credited (map senders_in c.part_all.new.rests.items)) (one_root c.part_all.new.schedulers.items whole)

pub returns-in-Ok-gather-clause-ends : goal.returns-in-Ok-gather-clause-ends
returns-in-Ok-gather-clause-ends g c =
    (c.in-Ok-gather.ensures {u = tt}).ended
    ∙ ended_together c.part_all.new.schedulers.items c.part_all.new.rests.items c.part_all.ensures.paired c.part_all.ensures.many
