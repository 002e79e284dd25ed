-- What to do about a fault, in words, and the key on whose line it is told (own).
use Rattle.std.specs.Prelude.{ℕ, Bool, true, false, List, [], codes}
use Rattle.otp_file.specs.declared.fault.ChildKey.TheVariants as key
use Rattle.otp_file.specs.declared.fault.FaultPlace.TheVariants as place
use Rattle.otp_file.specs.declared.fault.TreeFault.{TreeFault}
use Rattle.otp_file.specs.declared.fault.TreeFault.TheVariants as fault
use Rattle.otp_spec.specs.declared.fault.SpecFault.TheVariants as spec

-- a fault of a key or a value that was read, or of a text that is no document: what is said of it is what was read
unfoldable pub is_detailed : TreeFault → Bool
is_detailed fault.NotToml = true
is_detailed (fault.UnknownKey spot) = true
is_detailed (fault.WrongKind spot) = true
is_detailed (fault.BadFlag flag) = true
is_detailed (fault.BadSpec index what) = true
is_detailed _ = false

-- what to do about a fault of a whole table: what a child lacks, or why its values, or all of them, don't go together
unfoldable pub remedy_text : TreeFault → List ℕ
remedy_text (fault.MissingKey index key.Id) = codes "id is missing; write id = \"NAME\""
remedy_text (fault.MissingKey index key.Start) = codes "start is missing; write start = \"NAME\", the module of its start function"
remedy_text (fault.Unlawful (spec.SignificantPermanent index)) = codes "significant and permanent; a significant child is \"transient\" or \"temporary\""
remedy_text (fault.Unlawful (spec.SignificantNever index)) = codes "significant under auto_shutdown = \"never\"; set auto_shutdown, or leave out significant"
remedy_text (fault.Unlawful (spec.DuplicateId index)) = codes "an earlier child has this id; each id stands once"
remedy_text (fault.Unlawful spec.TooManyChildren) = codes "more than 256 children; a supervisor has at most so many: put some into the tree of a child"
remedy_text (fault.Unlawful spec.SimpleNeedsOne) = codes "not one child; simple_one_for_one has exactly one [[child]], which all are made from"
remedy_text (fault.NestedNotInfinity index) = codes "a child that has a tree is waited for; write shutdown = \"infinity\", or leave it out"
remedy_text (fault.WrongKind (place.Child index)) = codes "no table; each child is one, [[child]]"
remedy_text (fault.WrongKind (place.ChildKey index key.Kind)) = codes "a child that has a tree is a supervisor; write type = \"supervisor\", or leave it out"
remedy_text fault.TooDeep = codes "supervisors are nested more than 16 deep; put this one's children into a tree above it"
remedy_text fault.TooManyTables = codes "more than 64 supervisors; put children of some into the tree of another"
remedy_text _ = codes "refused"

-- why one child is not the one of simple_one_for_one
unfoldable pub only_child_text : List ℕ
only_child_text = codes "under simple_one_for_one the one [[child]] has no tree; leave the tree out, or set another strategy"

-- the key of its table on whose line a fault of a whole table is told; of others the table's own line is
unfoldable pub blamed_key : TreeFault → List ℕ
blamed_key (fault.Unlawful (spec.SignificantPermanent index)) = codes "significant"
blamed_key (fault.Unlawful (spec.SignificantNever index)) = codes "significant"
blamed_key (fault.Unlawful (spec.DuplicateId index)) = codes "id"
blamed_key (fault.Unlawful spec.SimpleNeedsOne) = codes "strategy"
blamed_key (fault.NestedNotInfinity index) = codes "shutdown"
blamed_key (fault.WrongKind (place.ChildKey index key.Kind)) = codes "type"
blamed_key _ = []
