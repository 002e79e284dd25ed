use Rattle.std.proofs.Common.{◌≡◌, ◌≤◌, ◌∙◌, arith, length, subst}
use Rattle.otp.proofs.Begun.{have_begun, no_fewer, none_bare, plans_back}
use Rattle.otp.proofs.running.run_growing.Goals as goal

pub returns-in-Ok-ran-clause-plans : goal.returns-in-Ok-ran-clause-plans
returns-in-Ok-ran-clause-plans g c =
    have_begun c.in-Ok-plans_for.plans.items c.args.tree.root c.in-Ok-ran.report.tables.items (c.in-Ok-plans_for.ensures {u = tt}).plans (c.in-Ok-ran.ensures {u = tt}).run.run.begun

pub returns-in-Ok-ran-clause-some : goal.returns-in-Ok-ran-clause-some
returns-in-Ok-ran-clause-some g c =
    let plans = c.in-Ok-plans_for.plans in
    let len = c.len.ensures in
    let ok = plans.ok.0 in
    let all = c.places_for-places.ensures.all in
    let within : length plans.items ≤ c.places_for-places.result = omega (arith, len, ok, all) in
    let tables = length c.in-Ok-ran.report.tables.items in
    let count = (c.in-Ok-plans_for.ensures {u = tt}).count in
    let least = no_fewer plans.items c.places_for-places.result tables within (c.in-Ok-ran.ensures {u = tt}).run.count in
    omega (arith, count, least)

pub returns-in-Ok-ran-clause-few : goal.returns-in-Ok-ran-clause-few
returns-in-Ok-ran-clause-few g c =
    let plans = c.in-Ok-plans_for.plans in
    let len = c.len.ensures in
    let ok = plans.ok.0 in
    let room = c.places_for-places.ensures.room in
    let count = (c.in-Ok-plans_for.ensures {u = tt}).count in
    let few = (c.in-Ok-ran.ensures {u = tt}).run.count.few in
    omega (arith, len, ok, room, count, few)

pub returns-in-Err-ran-clause-back : goal.returns-in-Err-ran-clause-back
returns-in-Err-ran-clause-back g c =
    let made = c.in-Ok-plans_for.ensures {u = tt} in
    let why = (c.in-Err-ran.ensures {u = tt}).unrun in (
      made.lawful,
      (why.mismatch, (why.missing, (none_bare c.in-Ok-plans_for.plans.items c.in-Err-ran.why made.bodies why.opened, plans_back c.in-Ok-plans_for.plans.items c.args.tree.root c.in-Err-ran.why made.plans why.opened))),
    )
