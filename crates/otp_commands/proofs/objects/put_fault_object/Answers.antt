use Rattle.otp_commands.specs.Findings.{faults_object}
use Rattle.otp_commands.proofs.Joined.{two_joined}
use Rattle.otp_commands.proofs.objects.put_fault_object.Goals as goal

pub returns : goal.returns
unfolding faults_object
returns g c =
    two_joined c.args.out.now.items _ _ _ _ c.in_ok-put_file.ensures c.in_ok-put_list.ensures
