use Rattle.std.proofs.Common.{◌≡◌, ap, ◌∙◌, arith, length, take}
use Rattle.otp_open.proofs.SparePlaces.{padded_bodies, padded_fault, padded_front}
use Rattle.otp_tree.proofs.session.with_growing_system.Goals as goal

pub returns-in-Ok-run_padded-clause-bodies : goal.returns-in-Ok-run_padded-clause-bodies
returns-in-Ok-run_padded-clause-bodies g c = padded_bodies c.args.places c.args.plans.items c.in-Ok.all.items (c.in-Ok.ensures {u = tt}).padded (c.in-Ok-run_padded.ensures {u = tt}).bodies

pub returns-in-Err-run_padded-clause-fault : goal.returns-in-Err-run_padded-clause-fault
returns-in-Err-run_padded-clause-fault g c =
    padded_fault c.args.places c.args.plans.items c.in-Ok.all.items c.in-Err-run_padded.back.fault (c.in-Ok.ensures {u = tt}).padded (c.in-Err-run_padded.ensures {u = tt}).fault

pub returns-in-Err-run_padded-clause-back : goal.returns-in-Err-run_padded-clause-back
returns-in-Err-run_padded-clause-back g c =
    let len = c.len-opened.ensures in
    let ok = c.args.plans.ok.0 in
    let many : c.len-opened.result ≡ length c.args.plans.items = omega (arith, len, ok) in
    c.without_spares.ensures ∙ ap (take c.len-opened.result) (c.in-Err-run_padded.ensures {u = tt}).back
    ∙ padded_front c.args.places c.len-opened.result c.args.plans.items c.in-Ok.all.items many (c.in-Ok.ensures {u = tt}).padded
