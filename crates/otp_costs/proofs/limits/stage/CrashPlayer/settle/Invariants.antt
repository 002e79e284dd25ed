use Rattle.std.proofs.Common.{◌≡◌, ◌<◌, ◌+◌, ℕ}
use Rattle.otp_core.specs.declared.cut.TheConstants.{MAX_EVENTS_IN_ALL}
use Rattle.otp_costs.specs.Scene.{FillsUp, turns}
use Rattle.otp_costs.proofs.limits.stage.CrashPlayer.settle.Given as goal

abbrev pub invariant-loop : goal.invariant-loop
invariant-loop l = ((count : ℕ) × (l.self ≡ turns count l.time l.fn.self)) × (l.self.events ≡ l.fn.self.events + l.counter) × (0 < l.counter → MAX_EVENTS_IN_ALL < l.self.events → FillsUp l.time l.fn.self)
