use Rattle.std.proofs.Common.{◌≡◌, ◌++◌, [], arith, drop, length, refl, sym, take}
use Rattle.std.proofs.lemmas.List.{drop_all, length-take}
use Rattle.otp_script.specs.Spaced.{spaced_behind}
use Rattle.otp_script.specs.declared.spaced.TheConstants.{ROOM}
use Rattle.otp_script.proofs.Lines.{put_all, spaced_further}
use Rattle.otp_script.proofs.spaced.Spaced.of.Goals as goal

pub loop-byte-preserved : goal.loop-byte-preserved
loop-byte-preserved c = record {
  words = spaced_further ROOM (spaced_behind 32 c.args.line.now) (take c.loop-byte.spaced.length c.loop-byte.spaced.bytes) (take c.add.new.self.length c.add.new.self.bytes) c.loop-byte.before c.loop-byte.byte-index c.args.line.now c.loop-byte-test.true c.loop-byte.invariant.words c.add.ensures.words;
  room = c.add.ensures.room;
}

pub returns-clause-words : goal.returns-clause-words
unfolding spaced_behind
returns-clause-words c =
    let put = take c.loop-byte.spaced.length c.loop-byte.spaced.bytes in
    let all : drop c.loop-byte.byte-index c.args.line.now ≡ [] = drop_all c.loop-byte.byte-index c.args.line.now (omega (arith, c.loop-byte-test.false)) in
    rw (c.loop-byte.invariant.words, all) (put_all ROOM put (omega (arith, length-take c.loop-byte.spaced.length c.loop-byte.spaced.bytes, c.loop-byte.invariant.room)))
