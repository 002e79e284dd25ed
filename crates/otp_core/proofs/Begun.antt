-- The state that was never opened.
use Rattle.std.proofs.Common.{◌≡◌, ◌≤◌, List, [], Option, None, Some, arith}
use Rattle.std.proofs.lemmas.List.Elements.{All-nil}
use Rattle.std.proofs.lemmas.List.Sorted.{IsNonDecreasingBy-short}
use Rattle.otp_spec.specs.declared.child.ChildSpec.{ChildSpec}
use Rattle.otp_spec.specs.declared.flags.SupFlags.{SupFlags}
use Rattle.otp_rules.specs.declared.work.Sequel.{Sequel}
use Rattle.otp_rules.specs.Evidence.{IsShowing}
use Rattle.otp_rules.specs.Run.{empty_state}

-- it has no restarts, so they are in order
pub empty_shows : (flags : SupFlags) (specs : List ChildSpec) → IsShowing (empty_state flags specs)
empty_shows flags specs = (IsNonDecreasingBy-short (λ x. x) [] (omega arith), All-nil (λ t. t ≤ 0), λ h. let e : ◌≡◌ {A = Option Sequel} None (Some _) = h in cc)
