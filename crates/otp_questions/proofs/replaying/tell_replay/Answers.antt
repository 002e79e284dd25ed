use Rattle.std.proofs.Common.{ℕ, List, inl, subst}
use Rattle.std.specs.Io.KnownBytes.{Appends}
use Rattle.otp_questions.proofs.replaying.tell_replay.Goals as goal

pub returns-in-Ok-write_all : goal.returns-in-Ok-write_all
returns-in-Ok-write_all g c =
    let written =
    subst (λ (bytes : List ℕ). Appends (g.W.Output.seen c.args.output.now).bytes (g.W.Output.seen c.write_all.new.output).bytes bytes) c.as_slice.ensures.value
    (c.in-Ok-write_all.ensures {u = tt}).ok
    in
    inl (c.in-Ok.run'.0.items, ((c.in-Ok.ensures {u = tt}).object, written))
