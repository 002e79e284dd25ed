use Rattle.otp_commands.proofs.lint.found.+put_parts.Given as goal

abbrev pub decreases-put_parts : goal.decreases-put_parts
decreases-put_parts l = l.levels
