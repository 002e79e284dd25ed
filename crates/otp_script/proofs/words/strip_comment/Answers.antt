use Rattle.std.proofs.Common.{◌≡◌, ◌-◌, ◌+◌, ◌&&◌, arith, drop, get_or, refl, sym, true, false}
use Rattle.otp_script.specs.Spaced.{begins_comment, is_space, without_comment}
use Rattle.otp_script.proofs.Lines.{comment_found, comment_further, comment_none}
use Rattle.otp_script.proofs.words.strip_comment.Goals.{else-is_space-via-then-is_space+else-is_comment_next, else-is_space-via-else-is_space}
use Rattle.otp_script.proofs.words.strip_comment.Goals as goal

pub returns-then-is_comment_next : goal.returns-then-is_comment_next
returns-then-is_comment_next c =
    let before = c.loop-place.place - 1 in
    let space : is_space (get_or c.args.line.now before 0) ≡ true = rw (sym c.is_space.ensures) c.if-is_space.true in
    let begins : begins_comment (drop c.loop-place.place c.args.line.now) ≡ true = rw (sym c.from.ensures, sym c.is_comment_next.ensures) c.if-is_comment_next.true in
    comment_found (without_comment c.args.line.now) c.args.line.now before c.loop-place.place (omega (arith, c.loop-place.auto.place)) (omega (arith, c.loop-place-test.true)) (rw (space, begins) refl) c.loop-place.invariant

pub loop-place-preserved : goal.loop-place-preserved
loop-place-preserved c =
    let before = c.loop-place.place - 1 in
    let line = c.args.line.now in
    elim c.else-is_space.branch [
      | else-is_space-via-then-is_space+else-is_comment_next w ↦
          let space : is_space (get_or line before 0) ≡ true = rw (sym c.is_space.ensures) w.if-is_space.true in
          let begins : begins_comment (drop c.loop-place.place line) ≡ false = rw (sym w.from.ensures, sym w.is_comment_next.ensures) w.if-is_comment_next.false in
          comment_further (without_comment line) line before c.loop-place.place (c.loop-place.place + 1 - 1) (omega (arith, c.loop-place.auto.place)) (omega (arith, c.loop-place.auto.place)) (omega (arith, c.loop-place-test.true)) (rw (space, begins) refl) c.loop-place.invariant
      | else-is_space-via-else-is_space w ↦
          let space : is_space (get_or line before 0) ≡ false = rw (sym c.is_space.ensures) w.if-is_space.false in
          comment_further (without_comment line) line before c.loop-place.place (c.loop-place.place + 1 - 1) (omega (arith, c.loop-place.auto.place)) (omega (arith, c.loop-place.auto.place)) (omega (arith, c.loop-place-test.true)) (rw space refl) c.loop-place.invariant
    ]

pub returns : goal.returns
returns c = rw (c.loop-place.invariant, comment_none (c.loop-place.place - 1) c.args.line.now (omega (arith, c.loop-place-test.false))) refl
