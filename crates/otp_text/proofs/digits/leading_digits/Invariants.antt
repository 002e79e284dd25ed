use Rattle.std.proofs.Common.{◌≡◌, ◌≤◌, ◌-◌, true, length, take}
use Rattle.std.specs.List.{list_all}
use Rattle.std.specs.Str.Parse.{digits_value}
use Rattle.otp_text.specs.declared.digits.TheConstants.{FEW_DIGITS}
use Rattle.otp_text.specs.Words.{is_digit}
use Rattle.otp_text.proofs.digits.leading_digits.Given as goal

-- what the digits so far write
abbrev pub invariant-loop-digit : goal.invariant-loop-digit
invariant-loop-digit l =
    record {
      inside : l.count ≤ length l.line;
      few : l.count ≤ FEW_DIGITS;
      digits : list_all is_digit (take l.count l.line) ≡ true;
      value : l.number ≡ digits_value 10 (take l.count l.line);
    }

abbrev pub decreases-loop-digit : goal.decreases-loop-digit
decreases-loop-digit l = length l.line - l.count
