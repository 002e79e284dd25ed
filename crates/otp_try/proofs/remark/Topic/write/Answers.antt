use Rattle.std.proofs.Common.{◌∙◌, ℕ, List, ap, refl}
use Rattle.otp_try.specs.Page.{remark_text}
use Rattle.otp_try.specs.Page.Remark.{Farewell, Fault, Help, Legend, Prompt, Welcome}
use Rattle.otp_trial.specs.Played.{Seated}
use Rattle.otp_try.specs.Prompt.{prompt_text}
use Rattle.otp_try.proofs.Pages.{some_remark, status_remark}
use Rattle.otp_try.proofs.remark.Topic.write.Goals as goal

pub returns-in-Welcome : goal.returns-in-Welcome
unfolding remark_text
returns-in-Welcome c = some_remark c.write_welcome.result c.args.trial.now c.args.out.now.items c.write_welcome.new.out.items _ Welcome refl c.write_welcome.ensures

pub returns-in-Help : goal.returns-in-Help
unfolding remark_text
returns-in-Help c = some_remark c.write_help.result c.args.trial.now c.args.out.now.items c.write_help.new.out.items _ Help refl c.write_help.ensures

pub returns-in-Legend : goal.returns-in-Legend
unfolding remark_text
returns-in-Legend c = some_remark c.write_legend.result c.args.trial.now c.args.out.now.items c.write_legend.new.out.items _ Legend refl c.write_legend.ensures

pub returns-in-Fault : goal.returns-in-Fault
unfolding remark_text
returns-in-Fault c = some_remark c.write_fault.result c.args.trial.now c.args.out.now.items c.write_fault.new.out.items _ (Fault c.in-Fault.fault) refl c.write_fault.ensures

pub returns-in-Prompt : goal.returns-in-Prompt
unfolding remark_text
returns-in-Prompt c =
    some_remark c.write_prompt.result c.args.trial.now c.args.out.now.items c.write_prompt.new.out.items (prompt_text c.seats.result.now c.now.result c.next_time.result c.waits.result)
    (Prompt c.next_time.result c.waits.result)
    (ap (λ (s : List Seated). prompt_text s c.now.result c.next_time.result c.waits.result) c.seats.ensures
    ∙ ap (λ (time : ℕ). prompt_text c.args.trial.now.seats time c.next_time.result c.waits.result) c.now.ensures.value) c.write_prompt.ensures

pub returns-in-Farewell : goal.returns-in-Farewell
unfolding remark_text
returns-in-Farewell c = some_remark c.write_farewell.result c.args.trial.now c.args.out.now.items c.write_farewell.new.out.items _ Farewell refl c.write_farewell.ensures

pub returns-in-Status : goal.returns-in-Status
returns-in-Status c = status_remark c.write_all_standings.result c.args.trial.now c.args.out.now.items c.write_all_standings.new.out.items c.write_all_standings.ensures
