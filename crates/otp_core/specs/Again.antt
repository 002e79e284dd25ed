-- Which starts are restarts. (supervisor, "Restart Strategy" and restart_child/2)
use Rattle.std.specs.Prelude.{Bool, true, false, Option, Some, None}
use Rattle.otp_rules.specs.declared.work.Sequel.{Sequel}
use Rattle.otp_rules.specs.declared.work.Sequel.TheVariants as sequel

-- the children that this work starts had processes before, since the supervisor opened: it is a restart, or a call asked for one
abbrev pub starts_again : Option Sequel → Bool
starts_again None = false
starts_again (Some sequel.Ready) = false
starts_again (Some sequel.Nothing) = true
starts_again (Some (sequel.Added _)) = false
starts_again (Some (sequel.Restarted _)) = true
starts_again (Some (sequel.Stopped _)) = false
starts_again (Some (sequel.End _)) = false
