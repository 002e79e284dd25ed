use Rattle.std.proofs.Common.{◌∙◌, sym}
use Rattle.otp_table.specs.Marks.{number_key}
use Rattle.otp_table.proofs.Indexed.{key_get}
use Rattle.otp_table.proofs.keys.number_in.Goals as goal

pub returns : goal.returns
returns c = c.number.ensures ∙ sym (key_get number_key c.args.rows.now c.args.place _ c.requires)
