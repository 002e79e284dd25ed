use Rattle.std.proofs.Common.{◌∙◌, ap, ap₂}
use Rattle.std.proofs.lemmas.Result.{IfOk-weaker}
use Rattle.clap.specs.Words.{App, Shape, with_subcommand}
use Rattle.otp_cli.proofs.commands.otp_command.Goals as goal

abbrev top_of : App → Shape
top_of app = app.top

pub returns : goal.returns
returns c =
    let one = c.in_ok-command.ensures ∙ ap₂ with_subcommand c.bare_command.ensures (ap top_of c.in_ok-run.ensures) in
    let two = c.in_ok-command-2.ensures ∙ ap₂ with_subcommand one (ap top_of (c.in-Ok.ensures {u = tt})) in
    let three = c.in_ok-command-3.ensures ∙ ap₂ with_subcommand two (ap top_of (c.in-Ok-check_command.ensures {u = tt})) in
    let four = c.in_ok-command-4.ensures ∙ ap₂ with_subcommand three (ap top_of (c.in-Ok-tree_command.ensures {u = tt})) in
    let five = c.in_ok-command-5.ensures ∙ ap₂ with_subcommand four (ap top_of (c.in-Ok-limits_command.ensures {u = tt})) in
    let six = c.in_ok-command-6.ensures ∙ ap₂ with_subcommand five (ap top_of (c.in-Ok-shutdown_command.ensures {u = tt})) in
    let seven = c.in_ok-command-7.ensures ∙ ap₂ with_subcommand six (ap top_of (c.in-Ok-suggest_command.ensures {u = tt})) in
    let eight = c.in_ok-command-8.ensures ∙ ap₂ with_subcommand seven (ap top_of (c.in-Ok-diff_command.ensures {u = tt})) in
    let nine = c.in_ok-command-9.ensures ∙ ap₂ with_subcommand eight (ap top_of (c.in-Ok-replay_command.ensures {u = tt})) in
    let ten = c.in_ok-command-10.ensures ∙ ap₂ with_subcommand nine (ap top_of (c.in-Ok-import_command.ensures {u = tt})) in
    IfOk-weaker c.with_command-11.result _ _ (λ command added. added ∙ ap₂ with_subcommand ten (ap top_of (c.in-Ok-sim_command.ensures {u = tt}))) c.with_command-11.ensures
