use Rattle.otp_rules.proofs.Cuts.{cuts_agree_law, need_forgets_law, step_forgets_law}
use Rattle.otp_rules.proofs.Short.{cut_anywhere_law, short_cuts_agree_law}
use Rattle.otp_rules.proofs.laws.cuts_agree.Goals as goal

pub returns : goal.returns
returns c = record { anywhere = cut_anywhere_law; short = short_cuts_agree_law; runs = cuts_agree_law; step = step_forgets_law; needs = need_forgets_law }
