-- What the struct of a refused tree file says (own).
use Rattle.std.specs.Prelude.{◌≡◌, ℕ, min}
use Rattle.otp_driver.specs.declared.changing.Unchanged.{Unchanged}
use Rattle.otp_file.specs.Faults.{code_of}
use Rattle.otp_file.specs.declared.fault.FaultPlace.{FaultPlace}
use Rattle.otp_file.specs.declared.fault.FaultPlace.TheVariants as place
use Rattle.otp_file.specs.declared.fault.TableFault.{TableFault}
use Rattle.otp_file.specs.declared.fault.TreeFault.{TreeFault}
use Rattle.otp_file.specs.declared.fault.TreeFault.TheVariants as fault
use Rattle.otp_spec.specs.declared.fault.SpecFault.{SpecFault}
use Rattle.otp_spec.specs.declared.fault.SpecFault.TheVariants as spec_fault
use Rattle.otp_spec.specs.declared.fault.SpecKey.{SpecKey}
use Rattle.otp_spec.specs.declared.fault.SpecKey.TheVariants as spec_key
use Rattle.otp_c.specs.declared.shapes.fault.Spot.{Spot}
use Rattle.otp_c.specs.declared.shapes.structs.CFault.{CFault}
use Rattle.otp_c.specs.Words.{child_key_number, flag_key_number}

-- the place of a fault: its kind, the child's index, and the key
abbrev pub spot : ℕ → ℕ → ℕ → Spot
spot kind index key = record { place = kind; index = min index 1000000; key = key }

abbrev pub spot_of_place : FaultPlace → Spot
spot_of_place place.Table = spot 1 0 0
spot_of_place (place.Flag key) = spot 2 0 (flag_key_number key)
spot_of_place (place.Child index) = spot 3 index 0
spot_of_place (place.ChildKey index key) = spot 4 index (child_key_number key)

abbrev pub key_number : SpecKey → ℕ
key_number spec_key.Id = 1
key_number spec_key.Start = 2
key_number spec_key.Modules = 7

abbrev pub spot_of_spec : SpecFault → Spot
spot_of_spec (spec_fault.BadSpec index key) = spot 4 index (key_number key)
spot_of_spec (spec_fault.DuplicateId index) = spot 4 index 1
spot_of_spec (spec_fault.SignificantPermanent index) = spot 4 index 4
spot_of_spec (spec_fault.SignificantNever index) = spot 4 index 4
spot_of_spec _ = spot 1 0 0

abbrev pub spot_of : TreeFault → Spot
spot_of (fault.UnknownKey at) = spot_of_place at
spot_of (fault.WrongKind at) = spot_of_place at
spot_of (fault.MissingKey index key) = spot 4 index (child_key_number key)
spot_of (fault.BadSpec index key) = spot 4 index (child_key_number key)
spot_of (fault.BadFlag key) = spot 2 0 (flag_key_number key)
spot_of (fault.Unlawful why) = spot_of_spec why
spot_of (fault.NestedNotInfinity index) = spot 4 index 5
spot_of _ = spot 0 0 0

-- the struct says the fault, but for the sentence
pub record ShowsFault (why : TableFault) (out : CFault) : Type 0 where
  pub code : out.code ≡ code_of why.fault
  pub table : out.table ≡ min why.table 1000000
  pub place : out.place ≡ (spot_of why.fault).place
  pub index : out.index ≡ (spot_of why.fault).index
  pub key : out.key ≡ (spot_of why.fault).key

-- the struct says which supervisor of the tree that runs is why it doesn't go on, but for the sentence
pub record ShowsUnchanged (why : Unchanged) (out : CFault) : Type 0 where
  pub code : out.code ≡ 0
  pub table : out.table ≡ min why.supervisor 1000000
  pub place : out.place ≡ 1
  pub index : out.index ≡ 0
  pub key : out.key ≡ 0
