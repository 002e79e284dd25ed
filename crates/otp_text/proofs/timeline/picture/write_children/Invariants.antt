use Rattle.std.proofs.Common.{◌≡◌, ◌++◌, drop}
use Rattle.std.specs.List.{flat_map}
use Rattle.otp_text.specs.Picture.{child_line}
use Rattle.otp_text.proofs.timeline.picture.write_children.Given as goal

abbrev pub invariant-loop-id : goal.invariant-loop-id
invariant-loop-id l = l.out.items ++ flat_map (child_line l.look l.path l.moments) (drop l.id-index l.ids) ≡ l.fn.out.items ++ flat_map (child_line l.look l.path l.moments) l.ids
