use Rattle.otp_needs.proofs.order.order.is_stopping.Goals as goal

pub returns-then-stops_running : goal.returns-then-stops_running
returns-then-stops_running c = (
  λ t. (c.stops_running.ensures.0 c.if-stops_running.true, c.begins_nobody.ensures.0 t),
  λ h. c.begins_nobody.ensures.1 h.1,
)
