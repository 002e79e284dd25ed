use Rattle.std.proofs.Common.{◌≡◌, drop}
use Rattle.otp_draft.specs.Paths.{prefixes_behind}
use Rattle.otp_draft.proofs.paths.put_paths.Given as goal

abbrev pub invariant-loop-one : goal.invariant-loop-one
invariant-loop-one l = prefixes_behind l.paths.items (drop l.one-index l.nested) ≡ prefixes_behind l.initial.paths.items l.nested
