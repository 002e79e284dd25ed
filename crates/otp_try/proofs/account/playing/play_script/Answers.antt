use Rattle.otp_try.specs.declared.account.account.Account.{Account}
use Rattle.otp_try.proofs.Runs.{account_is}
use Rattle.otp_try.proofs.account.playing.play_script.Goals as goal

pub returns-in-Ok-play_lines : goal.returns-in-Ok-play_lines
returns-in-Ok-play_lines c =
    let account : Account = record { opening = c.in-Ok.opening; lines = c.play_lines.new.lines; trial = c.play_lines.new.trial; end = c.in-Ok-play_lines.end } in
    account_is c.args.tree.now c.in_ok-trial.ensures.told.0 c.args.clock c.in_ok-trial.trial account c.new-told.result.items c.open.new.out.items c.new-lines.result.items
    c.new-told.ensures.items c.new-lines.ensures.items c.in_ok-trial.ensures.told.1 c.in_ok-trial.ensures.told.2 c.in-Ok.ensures.told c.in-Ok.ensures.stands
    c.in-Ok-play_lines.ensures
