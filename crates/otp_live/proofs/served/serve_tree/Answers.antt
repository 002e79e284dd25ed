use Rattle.std.proofs.Common.{length, subst}
use Rattle.std.specs.Prelude.{IfErr, IfOk}
use Rattle.otp_open.specs.Plans.{first_plans}
use Rattle.otp_open.proofs.SparePlaces.{first_planned, none_planned}
use Rattle.otp_tree.proofs.Grown.{numbered_last}
use Rattle.otp_tree.specs.Runs.{IsGrownRun, IsUnrun}
use Rattle.otp_live.proofs.Shortened.{each_numbered}
use Rattle.otp_live.proofs.served.serve_tree.Goals as goal

pub serve_named-requires-clause-plans : goal.serve_named-requires-clause-plans
serve_named-requires-clause-plans g c = λ κs within. first_planned c.args.known c.in-Ok.parts.plans.items

pub serve_named-requires-clause-inboxes : goal.serve_named-requires-clause-inboxes
serve_named-requires-clause-inboxes g c = λ κs within. each_numbered c.in-Ok.parts.inboxes.items c.in-Ok.parts.outer

pub serve_named-requires-clause-free : goal.serve_named-requires-clause-free
serve_named-requires-clause-free g c = λ κs within. none_planned c.args.known c.in-Ok.parts.plans.items

pub serve_named-requires-clause-outer : goal.serve_named-requires-clause-outer
serve_named-requires-clause-outer g c = λ κs within. numbered_last c.in-Ok.parts.inboxes.items c.in-Ok.parts.outer

pub returns-clause-run : goal.returns-clause-run
returns-clause-run g c =
    let opened = c.in-Ok.ensures {u = tt} in
    subst (λ l. IfOk c.serve_named.result (IsGrownRun (first_plans c.args.known l.items) (length c.args.plans.items) l.items)) opened.plans
    (subst (λ n. IfOk c.serve_named.result (IsGrownRun (first_plans c.args.known c.in-Ok.parts.plans.items) n c.in-Ok.parts.plans.items)) opened.tables c.serve_named.ensures.run)

pub returns-clause-unrun : goal.returns-clause-unrun
returns-clause-unrun g c = subst (λ l. IfErr c.serve_named.result (IsUnrun l.items)) (c.in-Ok.ensures {u = tt}).plans c.serve_named.ensures.unrun
