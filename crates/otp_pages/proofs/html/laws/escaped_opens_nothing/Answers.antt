use Rattle.otp_pages.proofs.Inert.{inert_text}
use Rattle.otp_pages.proofs.html.laws.escaped_opens_nothing.Goals as goal

pub returns : goal.returns
returns c = inert_text
