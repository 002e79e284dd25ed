use Rattle.std.proofs.Common.{◌≡◌, arith, length, refl, sym, take, true, false}
use Rattle.std.proofs.lemmas.List.{length-take}
use Rattle.otp_script.specs.Spaced.{is_space}
use Rattle.otp_script.specs.declared.spaced.TheConstants.{ROOM}
use Rattle.otp_script.proofs.Lines.{byte_spaced, gap_spaced, none_spaced, put_all, put_two}
use Rattle.otp_script.proofs.spaced.Spaced.add.Goals.{then-is_space-2, else-is_space-2}
use Rattle.otp_script.proofs.spaced.Spaced.add.Goals as goal

pub returns-then-is_space-clause-words : goal.returns-then-is_space-clause-words
returns-then-is_space-clause-words c =
    let put = take c.args.self.now.length c.args.self.now.bytes in
    let ends : is_space c.args.byte ≡ true = rw (sym c.is_space.ensures) c.if-is_space.true in
    rw (none_spaced c.args.before c.args.byte ends) (put_all ROOM put (omega (arith, length-take c.args.self.now.length c.args.self.now.bytes, c.requires)))

pub returns-clause-words : goal.returns-clause-words
returns-clause-words c =
    let put = take c.args.self.now.length c.args.self.now.bytes in
    let word : is_space c.args.byte ≡ false = rw (sym c.is_space.ensures) c.if-is_space.false in
    elim c.if-is_space-2.branch [
      | then-is_space-2 w ↦
          let gap : is_space c.args.before ≡ true = rw (sym c.is_space-2.ensures) w.if-is_space-2.true in
          rw (gap_spaced c.args.before c.args.byte word gap)
          (put_two ROOM put (take w.push.new.self.length w.push.new.self.bytes) (take c.push-2.new.self.length c.push-2.new.self.bytes) 32 c.args.byte w.push.ensures.words (rw (sym w.self-is) c.push-2.ensures.words))
      | else-is_space-2 w ↦
          let within : is_space c.args.before ≡ false = rw (sym c.is_space-2.ensures) w.if-is_space-2.false in
          rw (byte_spaced c.args.before c.args.byte word within, sym w.self-is) c.push-2.ensures.words
    ]
