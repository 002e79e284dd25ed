use Rattle.std.proofs.Common.{rules, ◌≡◌, ◌∙◌, ap, List, ℕ, Option, Some, IfOk, map, subst, sym}
use Rattle.clap.specs.Words.{App, Row, Text, app_of, found_of, is_simple, rows_of, subcommand_of}
use Rattle.otp_cli.specs.Asked.{AsksFor}
use Rattle.otp_cli.specs.Commands.{otp_app}
use Rattle.otp_cli.proofs.words.read_words.Goals as goal

pub returns-in-Some-subcommand-clause-asked : goal.returns-in-Some-subcommand-clause-asked
returns-in-Some-subcommand-clause-asked g c =
    let words : List Text = map g.S.AsStr.text c.args.words.now in
    let command_is : app_of c.in_ok-command.command ≡ otp_app = c.in_ok-command.ensures in
    let from = (c.in_ok-matches.ensures.matches (ap is_simple command_is)).1 in
    let all = from ∙ ap (λ (a : App). subcommand_of a words) command_is in
    let found : Some (c.in-Some-subcommand.name.now, rows_of (found_of c.in-Some-subcommand.found.now)) ≡ subcommand_of otp_app words = search rules in
    subst (λ (s : Option (Text × List Row)). IfOk c.read_command.result (AsksFor s)) found c.read_command.ensures.asked
