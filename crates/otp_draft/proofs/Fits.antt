-- What may be added, since nothing stands against it.
use Rattle.std.proofs.Common.{◌≡◌, ◌+◌, ◌<◌, ◌≤◌, Bool, true, false, None, refl, rules}
use Rattle.otp_spec.specs.declared.child.ChildSpec.{ChildSpec}
use Rattle.otp_spec.specs.declared.limits.TheConstants.{MAX_TABLES}
use Rattle.otp_draft.specs.Faults.{kind_fault, nest_fault}
use Rattle.otp_draft.specs.Trees.{Tree, size}
use Rattle.otp_draft.specs.declared.limits.TheConstants.{MAX_DEPTH}

-- where a child is handed a body, the strategy isn't simple_one_for_one; where it is handed none, it is
pub plain_at_none : (is_simple : Bool) → kind_fault is_simple false ≡ None → is_simple ≡ false
plain_at_none true none = cc
plain_at_none false none = refl

pub simple_at_none : (is_simple : Bool) → kind_fault is_simple true ≡ None → is_simple ≡ true
simple_at_none true none = refl
simple_at_none false none = cc

module _ {J S : Type 0} where
  -- a tree that is put below another isn't too deep, nor too large
  pub deep_at_none : (spec : ChildSpec) (sub t : Tree J S) → nest_fault spec sub t ≡ None → sub.depth < MAX_DEPTH
  deep_at_none spec sub t none = search rules

  pub many_at_none : (spec : ChildSpec) (sub t : Tree J S) → nest_fault spec sub t ≡ None → size t + size sub ≤ MAX_TABLES
  many_at_none spec sub t none = search rules
