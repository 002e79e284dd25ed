-- The fingerprint of an id: FNV-1a of its bytes.
use Rattle.std.specs.Prelude.{ℕ, ◌*◌, ◌%◌, ◌^◌, List, [], ◌∷◌, Option, None, Some, bit_xor}
use Rattle.otp_reason.specs.declared.name.Name.{Name}
use Rattle.otp_reason.specs.Names.{name_bytes}
use Rattle.otp_table.specs.declared.row.Row.{Row}
use Rattle.otp_table.specs.declared.keys.TheConstants.{FNV_PRIME, FNV_START}

-- one byte more
unfoldable pub mixed : ℕ → ℕ → ℕ
mixed print byte = (bit_xor print byte * FNV_PRIME) % 2 ^ 64

-- the fingerprint once these bytes follow
abbrev pub print_of : ℕ → List ℕ → ℕ
print_of print [] = print
print_of print (byte ∷ bytes) = print_of (mixed print byte) bytes

-- the fingerprint of a name: that of the bytes that it shows
unfoldable pub fingerprint : Name → ℕ
fingerprint name = print_of FNV_START (name_bytes name)

abbrev pub print_if : Option Name → Option ℕ
print_if None = None
print_if (Some id) = Some (fingerprint id)

-- the fingerprint of the row's id. A dynamic row has none (supervisor, child_id())
abbrev pub id_key : Row → Option ℕ
id_key row = print_if row.id
