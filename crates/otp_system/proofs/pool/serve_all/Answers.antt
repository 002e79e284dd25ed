use denote.Param.Send.{sendable}
use Rattle.std.proofs.Common.{ap, sym, ◌∙◌}
use Rattle.otp_hand.specs.Standings.{standing_of}
use Rattle.otp_system.proofs.Alike.{alike}
use Rattle.otp_system.proofs.pool.serve_all.Goals as goal

pub for_each_mut-requires-clause-accepts : goal.for_each_mut-requires-clause-accepts
for_each_mut-requires-clause-accepts g c κs within = λ i p inside is. search sendable depth 30

pub returns : goal.returns
returns g c = alike standing_of c.args.hands.now c.for_each_mut.new.s c.for_each_mut.auto.s (λ k d within.
    let at = (c.for_each_mut.ensures k d within).1 in
    ap standing_of (sym at.left) ∙ at.call ∙ ap standing_of at.argument_is)
