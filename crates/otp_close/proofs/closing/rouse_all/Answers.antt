use Rattle.std.proofs.Common.{ap, ◌∙◌}
use lib.Seq.{map-set_same}
use Rattle.otp_hand.specs.Standings.{standing_of}
use Rattle.otp_close.proofs.closing.rouse_all.Goals as goal

pub loop-place-preserved : goal.loop-place-preserved
loop-place-preserved g c =
    let old = c.index_mut.result.now in
    map-set_same standing_of c.loop-place.hands.items c.loop-place.place c.rouse.new.self old (c.rouse.ensures.standing ∙ ap standing_of c.index_mut.ensures.value) ∙ c.loop-place.invariant
