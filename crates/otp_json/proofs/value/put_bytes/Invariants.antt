use Rattle.std.proofs.Common.{◌≡◌, ◌++◌, drop}
use Rattle.std.specs.List.{flat_map}
use Rattle.otp_json.specs.Values.{byte_text}
use Rattle.otp_json.proofs.value.put_bytes.Given as goal

abbrev pub invariant-loop-byte : goal.invariant-loop-byte
invariant-loop-byte l = l.out.items ++ flat_map byte_text (drop l.byte-index l.text) ≡ l.fn.out.items ++ flat_map byte_text l.fn.text
