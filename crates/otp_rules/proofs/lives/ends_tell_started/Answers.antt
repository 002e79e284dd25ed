use Rattle.otp_rules.proofs.Heard.{ends_are_heard_law, ends_tell_started_from_law, ends_tell_started_law}
use Rattle.otp_rules.proofs.lives.ends_tell_started.Goals as goal

pub returns : goal.returns
returns c = record { heard = ends_are_heard_law; started_from_any = ends_tell_started_from_law; started = ends_tell_started_law }
