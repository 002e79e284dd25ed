use Rattle.otp_needs.proofs.order.order.check_order.Goals as goal

pub returns-clause-ok : goal.returns-clause-ok
returns-clause-ok c = (
  c.is_sound.ensures.0 c.if-not-is_sound.false,
  c.are_distinct.ensures.0 c.if-not-are_distinct.false,
  c.finishes.ensures.0 c.if-not-finishes.false,
  c.is_bare.ensures.0 c.if-not-is_bare.false,
  c.is_calm.ensures.0 c.if-not-is_calm.false,
)
