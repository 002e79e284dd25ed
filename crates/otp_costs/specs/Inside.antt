-- What players stand for, and what they keep.
use Rattle.std.specs.Prelude.{◌≡◌, ◌≤◌, false, length, map, true}
use Rattle.otp_file.specs.Trees.{Tree}
use Rattle.otp_spec.specs.Supervisor.{Supervisor}
use Rattle.otp_trial.specs.Played.{IsPlanted, fresh}
use Rattle.otp_trial.specs.declared.clock.Clock.TheVariants.{Milliseconds}
use Rattle.otp_costs.specs.Costs.{AreCosts}
use Rattle.otp_costs.specs.declared.limits.known.Known.TheInside as known
use Rattle.otp_costs.specs.declared.limits.player.TreePlayer.TheInside as player
use Rattle.otp_driver.specs.Members.{state_in}
use Rattle.otp_rules.specs.Needs.{last_number}
use Rattle.otp_costs.specs.declared.limits.stage.CrashPlayer.TheInside.{Inside}
use Rattle.otp_costs.specs.Scene.{Scene}

abbrev pub scene_of : Inside → Scene
scene_of a =
    record { state = state_in a.supervisor; last = a.last; orders = a.orders.items; notes = a.notes.items; events = length a.supervisor.history }

pub record IsStage (a : Inside) : Type 0 where
  -- its orders were taken
  pub taken : a.supervisor.taken ≡ length a.supervisor.effects
  -- no process had a number before its events
  pub given : a.supervisor.given ≡ 0
  pub last : a.last ≡ last_number a.supervisor.history
  -- a number is given to an event at the most
  pub numbers : last_number a.supervisor.history ≤ length a.supervisor.history

-- the supervisor of which costs are known
abbrev pub supervisor_in : known.Inside → Supervisor
supervisor_in a = a.supervisor

abbrev pub IsKnown : known.Inside → Type 0
IsKnown a = AreCosts a.supervisor.flags a.supervisor.specs a.costs.items

abbrev pub tree_of : player.Inside → Tree
tree_of a = a.tree.now

-- its trial is one of this tree, unless memory was refused meanwhile
pub record IsTreePlayer (a : player.Inside) : Type 0 where
  pub clock : a.is_whole ≡ true → a.trial.clock ≡ Milliseconds
  pub planted : a.is_whole ≡ true → IsPlanted false a.tree.now (map fresh a.trial.seats)
