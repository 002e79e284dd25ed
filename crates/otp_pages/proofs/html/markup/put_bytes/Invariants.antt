use Rattle.std.proofs.Common.{◌≡◌, ◌++◌, drop}
use Rattle.std.specs.List.{flat_map}
use Rattle.otp_pages.specs.Markup.{byte_text}
use Rattle.otp_pages.proofs.html.markup.put_bytes.Given as goal

abbrev pub invariant-loop-byte : goal.invariant-loop-byte
invariant-loop-byte l = l.out.items ++ flat_map (byte_text l.is_utf8) (drop l.byte-index l.text) ≡ l.fn.out.items ++ flat_map (byte_text l.is_utf8) l.fn.text
