use Rattle.otp_needs.specs.Begun.{left}
use Rattle.otp_needs.proofs.Going.{ends_else, ends_then}
use Rattle.otp_needs.proofs.waited.children_have_ended.Goals as goal

pub returns-then-each_has_ended : goal.returns-then-each_has_ended
returns-then-each_has_ended c =
    ends_then c.args.front.now c.args.back.now (left c.args.resumed c.args.waiting.now.items) c.each_has_ended.result c.each_has_ended-then-each_has_ended.result
    c.each_has_ended.ensures c.each_has_ended-then-each_has_ended.ensures c.if-each_has_ended.true

pub returns-else-each_has_ended : goal.returns-else-each_has_ended
returns-else-each_has_ended c =
    ends_else c.args.front.now c.args.back.now (left c.args.resumed c.args.waiting.now.items) c.each_has_ended.result c.each_has_ended.ensures c.if-each_has_ended.false
