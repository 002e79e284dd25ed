use Rattle.std.proofs.Common.{◌∙◌, sym}
use Rattle.otp_table.specs.Keys.{id_key}
use Rattle.otp_table.proofs.Indexed.{key_get}
use Rattle.otp_table.proofs.keys.id_in.Goals as goal

pub returns : goal.returns
returns c = c.id_key.ensures ∙ sym (key_get id_key c.args.rows.now c.args.place _ c.requires)
