-- Marks of ids, by which most ids are told apart at one look. (own)
use Rattle.std.specs.Prelude.{◌≡◌, ◌<◌, ◌+◌, ◌*◌, ◌%◌, ℕ, Bool, true, false, List, [], ◌∷◌, get_or, length}
use Rattle.otp_reason.specs.declared.name.Name.{Name}
use Rattle.otp_reason.specs.Names.{name_bytes}
use Rattle.otp_spec.specs.declared.child.ChildSpec.{ChildSpec}
use Rattle.otp_spec.specs.declared.marks.TheConstants.{MARKS}

-- the mark with one byte more
abbrev pub mixed : ℕ → ℕ → ℕ
mixed mark byte = (mark * 31 + byte) % MARKS

-- the mark once these bytes follow
abbrev pub mark_from : ℕ → List ℕ → ℕ
mark_from mark [] = mark
mark_from mark (byte ∷ bytes) = mark_from (mixed mark byte) bytes

-- the mark of an id: that of the bytes that it shows
unfoldable pub mark_of : Name → ℕ
mark_of id = mark_from 0 (name_bytes id)

-- the marks of the ids before a place are set
abbrev pub AreSeen : List ChildSpec → ℕ → List Bool → Type 0
AreSeen specs place seen = (k : ℕ) (d : ChildSpec) → k < place → k < length specs → get_or seen (mark_of (get_or specs k d).id) false ≡ true
