-- What readers and writers show, and what a call of one says of its failures (own).
use Rattle.std.specs.Prelude.{◌≡◌, ℕ, ◌+◌, ◌<◌, ◌≤◌, List, ◌++◌, length, Option, Result, OnErr, IfOk, IfErr}
use Rattle.std.specs.Io.KnownBytes.{Appends}
use Rattle.std.specs.IoError.{error_kind}
use Rattle.std.specs.declared.io.Error.{Error}
use Rattle.std.specs.declared.io.ErrorKind.TheVariants.{Interrupted}

-- what a reader shows: the bytes that are left, where they are known, and how often it has failed
pub record Readable : Type 0 where
  pub left : Option (List ℕ)
  pub failures : ℕ

-- what a writer shows: the bytes that were written, where they are known, and how often it has failed
pub record Written : Type 0 where
  pub bytes : Option (List ℕ)
  pub failures : ℕ

-- what both show
pub record Devices : Type 0 where
  pub input : Readable
  pub output : Written

abbrev pub devices : Readable → Written → Devices
devices unread written = record { input = unread; output = written }

-- failures are counted: an error is one, and a call makes no more than one
pub record CountsErrors {T E : Type 0} (before now : ℕ) (result : Result T E) : Type 0 where
  pub kept : before ≤ now
  pub failed : OnErr result (before < now)
  pub once : now ≤ before + 1

-- failures of writes are counted: also one that takes none of the bytes, after which no other is tried
pub record CountsWrites {E : Type 0} (before now : ℕ) (result : Result ℕ E) (bytes : List ℕ) : Type 0 where
  pub kept : before ≤ now
  pub once : now ≤ before + 1
  pub failed : OnErr result (before < now)
  pub nothing : IfOk result (λ taken. taken ≡ 0 → 0 < length bytes → before < now)

-- what one call of a device comes to: it failed where it gives an error, but not where it was only interrupted
pub record CountsCall (before now : ℕ) (result : Result ℕ Error) : Type 0 where
  pub interrupted : IfErr result (λ error. error_kind error ≡ Interrupted → now ≡ before)
  pub failed : IfErr result (λ error. ¬ (error_kind error ≡ Interrupted) → now ≡ before + 1)

-- what one write of a device comes to: of some bytes it failed, too, where it took none of them
pub record CountsWriteCall (before now : ℕ) (result : Result ℕ Error) (bytes : List ℕ) : Type 0 where
  pub errors : CountsCall before now result
  pub some : IfOk result (λ taken. 0 < taken → now ≡ before)
  pub nothing : IfOk result (λ taken. taken ≡ 0 → 0 < length bytes → now ≡ before + 1)
  pub no_bytes : IfOk result (λ taken. length bytes ≡ 0 → now ≡ before)

-- a text is a beginning of another
pub record Begins (front whole : List ℕ) : Type 0 where
  pub rest : List ℕ
  pub same : whole ≡ front ++ rest

-- known bytes grew by a beginning of a text
pub record AppendsPart (before now : Option (List ℕ)) (text : List ℕ) : Type 0 where
  pub front : List ℕ
  pub appended : Appends before now front
  pub begins : Begins front text

-- known bytes grew by the front of what was ready, and the rest is left
pub record Moves (before now : Option (List ℕ)) (ready left : List ℕ) : Type 0 where
  pub text : List ℕ
  pub appended : Appends before now text
  pub whole : ready ≡ text ++ left
