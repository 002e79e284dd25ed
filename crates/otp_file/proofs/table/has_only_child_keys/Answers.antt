use Rattle.std.proofs.Common.{string_bytes}
use Rattle.std.proofs.lemmas.List.Folds.{list_all-map}
use Rattle.std.specs.Map.{keys_of}
use Rattle.otp_file.proofs.Lists.{keys_in-view}
use Rattle.otp_file.specs.Tables.{is_child_key}
use Rattle.otp_file.proofs.table.has_only_child_keys.Goals as goal

pub returns : goal.returns
returns c =
    rw (keys_in-view c.args.table.now.entries, list_all-map is_child_key string_bytes (keys_of c.args.table.now.entries)) c.are_child_keys.ensures
