use Rattle.std.proofs.Common.{◌≡◌, ◌≤◌, drop}
use Rattle.otp_script.specs.Spaced.{end_after_last}
use Rattle.otp_script.proofs.Lines.{so_far}
use Rattle.otp_script.proofs.words.end_after_last.Given as goal

abbrev pub invariant-loop-place : goal.invariant-loop-place
invariant-loop-place l = record {
  inside : l.end ≤ l.place;
  place : end_after_last l.byte l.text ≡ so_far l.end l.place (end_after_last l.byte (drop l.place l.text));
}
