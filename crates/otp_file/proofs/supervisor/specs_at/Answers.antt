use Rattle.std.proofs.Common.{◌≡◌, Ok, map, option_map, ◌∙◌, sym}
use Rattle.otp_file.proofs.Lists.{children_seen}
use Rattle.otp_file.specs.Tree.{children_at}
use Rattle.otp_file.proofs.supervisor.specs_at.Goals as goal
use Rattle.toml.specs.View.{view}

-- the value at `child` is an array of these values
abbrev Seen : goal.After-specs_of → Type 0
Seen c = children_at (option_map (λ v. view v.now) c.args.value) ≡ Ok (map view c.as_slice.result.now)

seen : (c : goal.After-specs_of) → Seen c
seen c =
    rw (c.in-Some.is, c.as_slice.ensures.value)
    (children_seen (view c.in-Some.value.now) c.in-Some-as_array.values.now.items
    (sym c.as_array.ensures ∙ rw c.in-Some-as_array.is))

pub returns-in-Some-as_array-clause-specs : goal.returns-in-Some-as_array-clause-specs
returns-in-Some-as_array-clause-specs c = rw (seen c) c.specs_of.ensures.specs

pub returns-in-Some-as_array-clause-fault : goal.returns-in-Some-as_array-clause-fault
returns-in-Some-as_array-clause-fault c = rw (seen c) c.specs_of.ensures.fault
