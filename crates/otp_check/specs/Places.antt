-- The places of children in faults (own).
use Rattle.std.specs.Prelude.{ℕ, Option, Some, None}
use Rattle.otp_file.specs.declared.fault.FaultPlace.TheVariants as place
use Rattle.otp_file.specs.declared.fault.TreeFault.{TreeFault}
use Rattle.otp_file.specs.declared.fault.TreeFault.TheVariants as fault
use Rattle.otp_spec.specs.declared.fault.SpecFault.TheVariants as spec

-- the fault of the child at this place, which was judged alone
unfoldable pub moved_to : TreeFault → ℕ → TreeFault
moved_to (fault.UnknownKey (place.Child alone)) index = fault.UnknownKey (place.Child index)
moved_to (fault.MissingKey alone key) index = fault.MissingKey index key
moved_to (fault.WrongKind (place.ChildKey alone key)) index = fault.WrongKind (place.ChildKey index key)
moved_to (fault.BadSpec alone key) index = fault.BadSpec index key
moved_to (fault.NestedNotInfinity alone) index = fault.NestedNotInfinity index
moved_to (fault.Unlawful (spec.SignificantPermanent alone)) index = fault.Unlawful (spec.SignificantPermanent index)
moved_to (fault.Unlawful (spec.SignificantNever alone)) index = fault.Unlawful (spec.SignificantNever index)
moved_to other index = other

-- the place of the child of whose table this is a fault, whatever its siblings are
unfoldable pub place_of : TreeFault → Option ℕ
place_of (fault.UnknownKey (place.Child index)) = Some index
place_of (fault.WrongKind (place.Child index)) = Some index
place_of (fault.WrongKind (place.ChildKey index key)) = Some index
place_of (fault.MissingKey index key) = Some index
place_of (fault.BadSpec index key) = Some index
place_of (fault.NestedNotInfinity index) = Some index
place_of _ = None
