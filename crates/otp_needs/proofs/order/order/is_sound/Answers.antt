use Rattle.otp_needs.proofs.order.order.is_sound.Goals as goal

pub returns : goal.returns
returns c = (
  λ t. (
    c.awaits_few.ensures.0 c.if-not-awaits_few.false,
    c.is_covered.ensures.0 c.if-not-is_covered.false,
    c.is_idle.ensures.0 c.if-not-is_idle.false,
    c.is_running.ensures.0 c.if-not-is_running.false,
    c.starts_nobody.ensures.0 c.if-not-starts_nobody.false,
    c.stops_nobody.ensures.0 t,
  ),
  λ s. c.stops_nobody.ensures.1 s.5,
)
