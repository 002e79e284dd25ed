use Rattle.std.proofs.Common.{◌≡◌, ◌≤◌, ◌-◌, length, map, take}
use Rattle.otp_rules.specs.Counts.{line_of}
use Rattle.otp_machine.proofs.decisions.counts.are_lines.Given as goal

-- the lines so far are those of the rows so far
abbrev pub invariant-loop-place : goal.invariant-loop-place
invariant-loop-place l =
    record {
      same : take l.place l.lines ≡ map line_of (take l.place l.rows);
      lengths : length l.lines ≡ length l.rows;
      within : l.place ≤ length l.rows;
    }

abbrev pub decreases-loop-place : goal.decreases-loop-place
decreases-loop-place l = length l.rows - l.place
