use Rattle.std.specs.Prelude.{ℕ, Bool, ◌&&◌, nat_le, List, length, take}
use Rattle.std.specs.List.{list_all}
use Rattle.otp_reason.specs.Padded.{padded_to}
use Rattle.otp_reason.specs.declared.text.Text.{Text}
use Rattle.otp_reason.specs.declared.text.TheConstants.{TEXT_SIZE}

-- the bytes that a text shows (own)
abbrev pub text_bytes : Text → List ℕ
text_bytes text = take text.len text.bytes

-- the text that shows these bytes, of which there are at most TEXT_SIZE (own)
abbrev pub text_of : List ℕ → Text
text_of bytes = record { bytes = padded_to TEXT_SIZE bytes; len = length bytes }

-- all bytes that a text keeps, those that it doesn't show too (own)
abbrev pub text_block : Text → List ℕ
text_block text = text.bytes

-- the text that keeps these bytes and shows so many of them (own)
abbrev pub text_with : List ℕ → ℕ → Text
text_with bytes len = record { bytes = bytes; len = len }

-- a printable byte that is no space: 0x21 to 0x7E (own)
abbrev pub is_text_byte : ℕ → Bool
is_text_byte byte = nat_le 33 byte && nat_le byte 126

-- the bytes of a text: 1 to TEXT_SIZE, each from 0x21 to 0x7E (own)
abbrev pub is_lawful_text : List ℕ → Bool
is_lawful_text bytes = nat_le 1 (length bytes) && nat_le (length bytes) TEXT_SIZE && list_all is_text_byte bytes
