use Rattle.otp_import.proofs.supervisor.+put_supervisor.Given as goal

abbrev pub decreases-put_supervisor : goal.decreases-put_supervisor
decreases-put_supervisor l = l.levels
