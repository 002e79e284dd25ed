use Rattle.std.proofs.Common.{◌≡◌, ◌++◌, take}
use Rattle.std.specs.List.{flat_map}
use Rattle.otp_text.specs.Replies.{child_text}
use Rattle.otp_text.proofs.reply.write_children.Given as goal

-- the children so far are written
abbrev pub invariant-loop-child : goal.invariant-loop-child
invariant-loop-child l = l.out.items ≡ l.initial.out.items ++ flat_map child_text (take l.child-index l.children)
