-- How the orders of a supervisor are taken.
use Rattle.std.specs.Prelude.{◌≡◌, List, Option, Some, None, drop}
use Rattle.otp_driver.specs.Members.{Member}
use Rattle.otp_rules.specs.declared.event.Effect.{Effect}
use Rattle.otp_rules.specs.declared.event.Effect.TheVariants as effect

-- the orders that were not taken
abbrev pub pending : Member → List Effect
pending m = drop m.taken m.effects

-- an order, unless it is an answer
abbrev pub asked : Effect → Option Effect
asked (effect.Reply _) = None
asked order = Some order

-- nothing happened to the supervisor
pub record Stays (old new : Member) : Type 0 where
  pub base : new.base ≡ old.base
  pub given : new.given ≡ old.given
  pub history : new.history ≡ old.history
