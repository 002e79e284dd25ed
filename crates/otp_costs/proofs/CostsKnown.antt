-- Costs that are known of the children of a supervisor.
use Rattle.std.specs.Prelude.{◌≡◌, ◌++◌, Bool, List, [], ◌∷◌, false, if◌then◌else◌, true}
use Rattle.std.proofs.Common.{subst, sym}
use Rattle.otp_reason.specs.declared.name.Name.{Name}
use Rattle.otp_spec.specs.declared.child.ChildSpec.{ChildSpec}
use Rattle.otp_spec.specs.declared.flags.SupFlags.{SupFlags}
use Rattle.otp_costs.specs.Costs.{AreCosts, IsCost}
use Rattle.otp_costs.specs.declared.limits.cost.Cost.{Cost}

costs-push : (flags : SupFlags) (specs : List ChildSpec) (costs : List Cost) (cost : Cost) → AreCosts flags specs costs → IsCost flags specs cost.id cost
    → AreCosts flags specs (costs ++ cost ∷ [])
costs-push flags specs [] cost are is = (is, tt)
costs-push flags specs (x ∷ xs) cost (here, rest) is = (here, costs-push flags specs xs cost rest is)

-- the cost of one child more is known, where memory for it was there
pub cost_put : (flags : SupFlags) (specs : List ChildSpec) (old new : List Cost) (id : Name) (cost : Cost) (there : Bool) → AreCosts flags specs old → IsCost flags specs id cost
    → new ≡ (if there then old ++ cost ∷ [] else old) → AreCosts flags specs new
cost_put flags specs old new id cost true are is put =
    let own : IsCost flags specs cost.id cost = subst (λ (n : Name). IsCost flags specs n cost) (sym is.named) is in
    subst (λ (cs : List Cost). AreCosts flags specs cs) (sym put) (costs-push flags specs old cost are own)
cost_put flags specs old new id cost false are is put = subst (λ (cs : List Cost). AreCosts flags specs cs) (sym put) are
