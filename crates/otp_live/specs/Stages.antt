-- What comes of what a caller wants, once the run has ended. (own)
use Rattle.std.specs.Prelude.{◌≡◌, Some, Err, length}
use Rattle.otp_live.specs.declared.calling.caller.AddError.TheVariants as error
use Rattle.otp_live.specs.declared.calling.caller.Answer.TheVariants as answer
use Rattle.otp_live.specs.declared.calling.caller.Came.{Came}
use Rattle.otp_live.specs.declared.calling.caller.Came.TheVariants as came
use Rattle.otp_live.specs.declared.calling.caller.CallStage.{CallStage}
use Rattle.otp_live.specs.declared.calling.caller.CallStage.TheVariants as stage
use Rattle.otp_live.specs.declared.calling.caller.Wanted.{Wanted}
use Rattle.otp_live.specs.declared.calling.caller.Wanted.TheVariants as wanted

module _ {J S : Type 0} where
  -- the body of a call that nobody sent is back, and so are all plans that nobody added
  abbrev pub IsUndone : Wanted J S → Came J S → Type 0
  IsUndone (wanted.Call call) end = end ≡ came.Answer (answer.Over call.body)
  IsUndone (wanted.Tree plans) (came.Added (Err (error.Over (Some back)))) = length back.items ≡ plans
  IsUndone (wanted.Tree plans) _ = ⊥

  -- what is still wanted comes back, and what came can still be taken
  abbrev pub IsEnded : CallStage J S → CallStage J S → Type 0
  IsEnded (stage.Wanted wish) (stage.Last end) = IsUndone wish end
  IsEnded (stage.Wanted wish) _ = ⊥
  IsEnded (stage.Came end) new = new ≡ stage.Last end
  IsEnded (stage.Last end) new = new ≡ stage.Last end
  IsEnded (stage.Sent table number) new = new ≡ stage.Closed
  IsEnded stage.Idle new = new ≡ stage.Closed
  IsEnded stage.Closed new = new ≡ stage.Closed
