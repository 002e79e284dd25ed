-- What is told in two parts.
use Rattle.std.proofs.Common.{◌≡◌, ℕ, ◌<◌, ◌≤◌, ◌⊎◌, Bool, inl, inr, List, ◌++◌, Option, None, Some, ap, ◌∙◌, append_assoc, arith}
use Rattle.std.specs.Io.KnownBytes.{Appends}
use Rattle.otp_sim.specs.Devices.{Written}
use Rattle.otp_exit.specs.declared.ending.ProgramEnd.{ProgramEnd}
use Rattle.otp_exit.specs.Statuses.{sentence_since}
use Rattle.otp_exit.specs.declared.ending.Unwritten.{Unwritten}
use Rattle.otp_exit.specs.Told.{IsTold, TellsFirst, Tells}

pub appends_more : (a b c : Option (List ℕ)) (x y : List ℕ) → Appends a b x → Appends b c y → Appends a c (x ++ y)
appends_more None b c x y first second = tt
appends_more (Some xs) None c x y first second = absurd first
appends_more (Some xs) (Some ys) None x y first second = absurd second
appends_more (Some xs) (Some ys) (Some zs) x y first second = second ∙ ap (λ bytes. bytes ++ y) first ∙ append_assoc xs x y

pub told_more : (x y : List ℕ) (a b c : Written) → a.failures ≤ b.failures → b.failures ≤ c.failures → IsTold x a b → IsTold y b c → IsTold (x ++ y) a c
told_more x y a b c first_kept second_kept (inl failed) second = inl (omega arith)
told_more x y a b c first_kept second_kept (inr first) (inl failed) = inl (omega arith)
told_more x y a b c first_kept second_kept (inr first) (inr second) = inr (appends_more a.bytes b.bytes c.bytes x y first second)

pub told_last : (drawn : Bool) (why : Unwritten) (ending : ProgramEnd) (a b c : Written) → a.failures ≤ b.failures → b.failures ≤ c.failures
    → TellsFirst drawn ending a b → IsTold (sentence_since why ending) b c → Tells drawn why ending a c
told_last drawn why ending a b c first_kept second_kept first last =
    (first.0, (first.1.0, told_more first.0 (sentence_since why ending) a b c first_kept second_kept first.1.1 last))
