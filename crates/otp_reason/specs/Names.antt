use Rattle.std.specs.Prelude.{ℕ, Bool, ◌&&◌, ◌||◌, ◌==◌, nat_le, List, length, take}
use Rattle.std.specs.List.{list_all}
use Rattle.otp_reason.specs.Padded.{padded_to}
use Rattle.otp_reason.specs.declared.name.Name.{Name}
use Rattle.otp_reason.specs.declared.name.TheConstants.{NAME_SIZE}

-- the bytes that a name shows (own)
abbrev pub name_bytes : Name → List ℕ
name_bytes name = take name.len name.bytes

-- the name that shows these bytes, of which there are at most NAME_SIZE (own)
abbrev pub name_of : List ℕ → Name
name_of bytes = record { bytes = padded_to NAME_SIZE bytes; len = length bytes }

-- a byte of `a-z A-Z 0-9 _ - .` (own)
abbrev pub is_name_byte : ℕ → Bool
is_name_byte byte =
    (nat_le 97 byte && nat_le byte 122) || (nat_le 65 byte && nat_le byte 90) || (nat_le 48 byte && nat_le byte 57)
    || (byte == 95) || (byte == 45) || (byte == 46)

-- the bytes of a lawful name: 1 to NAME_SIZE, each of `a-z A-Z 0-9 _ - .` (own)
abbrev pub is_lawful_name : List ℕ → Bool
is_lawful_name bytes = nat_le 1 (length bytes) && nat_le (length bytes) NAME_SIZE && list_all is_name_byte bytes
