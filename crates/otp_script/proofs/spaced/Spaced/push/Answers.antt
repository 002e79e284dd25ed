use Rattle.std.proofs.Common.{◌≡◌, ◌++◌, ◌∷◌, [], length, rules, take, arith, refl, sym}
use Rattle.std.proofs.lemmas.List.{length-take-le, take_all, take_more_set}
use Rattle.otp_script.specs.declared.spaced.TheConstants.{ROOM}
use Rattle.otp_script.proofs.Lines.{put_less, put_none}
use Rattle.otp_script.proofs.spaced.Spaced.push.Goals as goal

pub returns-then-self-lt-ROOM-clause-words : goal.returns-then-self-lt-ROOM-clause-words
returns-then-self-lt-ROOM-clause-words c =
    let size : length c.args.self.now.bytes ≡ 514 = search rules in
    put_less ROOM c.args.self.now.length c.args.self.now.bytes c.args.byte c.if-self-lt-ROOM.true (omega (arith, size, c.if-self-lt-ROOM.true))

pub returns-else-self-lt-ROOM-clause-words : goal.returns-else-self-lt-ROOM-clause-words
returns-else-self-lt-ROOM-clause-words c =
    let size : length c.args.self.now.bytes ≡ 514 = search rules in
    let some = length-take-le c.args.self.now.length c.args.self.now.bytes (omega (arith, size, c.requires)) in
    put_none ROOM (take c.args.self.now.length c.args.self.now.bytes) (c.args.byte ∷ []) (omega (arith, some, c.if-self-lt-ROOM.false, c.requires))
