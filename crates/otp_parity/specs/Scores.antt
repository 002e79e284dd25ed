-- How transcripts are counted.
use Rattle.std.specs.Prelude.{ℕ, ◌+◌, ◌-◌, ◌^◌, Bool, true, false, min}
use Rattle.otp_parity.specs.declared.replay.Score.{Score}

-- one more, as far as the number goes
abbrev pub one_more : ℕ → ℕ
one_more n = min (n + 1) (2 ^ 64 - 1)

-- a transcript passed, or failed
abbrev pub counted : Bool → Score → Score
counted true score = record score { passed = one_more score.passed }
counted false score = record score { failed = one_more score.failed }
