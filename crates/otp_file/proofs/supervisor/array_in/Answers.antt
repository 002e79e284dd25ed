use Rattle.std.proofs.Common.{◌≡◌, [], Ok, map, ap, sym, ◌∙◌}
use Rattle.std.specs.Result.{result_unwrap_or}
use Rattle.otp_file.proofs.Lists.{children_seen}
use Rattle.otp_file.proofs.supervisor.array_in.Goals as goal
use Rattle.toml.specs.View.{view}

pub returns-in-Some : goal.returns-in-Some
returns-in-Some c =
    rw c.as_slice.ensures.value
    (sym (ap (λ read. result_unwrap_or read [])
    (children_seen (view c.args.value.now) c.in-Some.values.now.items (sym c.as_array.ensures ∙ rw c.in-Some.is))))
