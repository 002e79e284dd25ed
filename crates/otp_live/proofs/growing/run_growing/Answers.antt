use Rattle.std.proofs.Common.{◌≡◌, arith, length, subst}
use Rattle.otp_close.specs.Closes.{HasTables}
use Rattle.otp_open.proofs.SparePlaces.{padded_bodies, padded_front}
use Rattle.otp_open.specs.Plans.{plans_of}
use Rattle.otp_tree.specs.Runs.{IsGrownRun}
use Rattle.otp_live.proofs.Shortened.{short_mismatch, short_missing, short_opened}
use Rattle.otp_live.proofs.growing.run_growing.Goals as goal

pub returns-in-Ok-run_places-clause-run : goal.returns-in-Ok-run_places-clause-run
returns-in-Ok-run_places-clause-run g c =
    let tree = c.args.tree in
    let all = c.in-Ok.all.items in
    let report = c.in-Ok-run_places.report in
    let padded = (c.in-Ok.ensures {u = tt}).padded in
    let len = c.len-known.ensures in
    let ok = tree.plans.ok.0 in
    let known : c.len-known.result ≡ length tree.plans.items = omega (arith, len, ok) in
    let front = padded_front tree.places c.len-known.result tree.plans.items all known padded in
    let ran = subst (λ l. IsGrownRun (plans_of l) (length all) all report) front (c.in-Ok-run_places.ensures {u = tt}).run in
    record {
      count = subst (λ n. HasTables (plans_of tree.plans.items) n (length report.tables.items)) padded.many ran.count;
      run = record { whole = ran.run.whole; begun = ran.run.begun; bodies = padded_bodies tree.places tree.plans.items all padded ran.run.bodies };
    }

pub returns-in-Err-run_places-clause-unrun : goal.returns-in-Err-run_places-clause-unrun
returns-in-Err-run_places-clause-unrun g c =
    let tree = c.args.tree in
    let known = c.len-known.result in
    let len = c.len-known.ensures in
    let ok = tree.plans.ok.0 in
    let many : known ≡ length tree.plans.items = omega (arith, len, ok) in
    let why = c.in-Err-run_places.why in
    let short = c.without_places.result in
    let cut = c.without_places.ensures in
    let unrun = (c.in-Err-run_places.ensures {u = tt}).unrun in
    record {
      mismatch = short_mismatch known why short cut unrun.mismatch;
      missing = short_missing known why short cut unrun.missing;
      opened = short_opened known tree.places tree.plans.items c.in-Ok.all.items why short many (c.in-Ok.ensures {u = tt}).padded cut unrun.opened;
    }
