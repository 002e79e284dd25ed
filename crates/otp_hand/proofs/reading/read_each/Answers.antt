use Rattle.std.proofs.Common.{◌≡◌, ◌∷◌, ◌++◌, [], ◌∙◌, ◌<◌, ◌+◌, length, arith, ap, subst, rules, take, get_or}
use Rattle.std.proofs.lemmas.Grind.{drop_more_same}
use Rattle.std.proofs.lemmas.List.{drop-set-lt, take_more, take_more_set}
use Rattle.otp_signals.specs.Counts.{IsRead, Reading}
use Rattle.otp_hand.proofs.EachRead.{read_more, same_at}
use Rattle.otp_hand.proofs.reading.read_each.Goals as goal

pub loop-pass-preserved : goal.loop-pass-preserved
loop-pass-preserved c =
    let before = c.loop-pass.invariant in
    let place = c.loop-pass.pass-index in
    let firsts = c.args.passes.now in
    let passes = c.loop-pass.passes in
    let read = c.read.new.self in
    let within : place < length firsts = c.loop-pass-test.true in
    let many = c.loop-pass.auto.passes in
    let inside : place < length passes = omega (arith, within, many) in
    let none : Reading = c.pass-item.result in
    let one : IsRead (get_or firsts place none) read c.read.result =
    subst (λ p. IsRead p read c.read.result) (same_at passes firsts place none inside within before.left) c.read.ensures in
    let longer : length c.push_reserved.new.self.items ≡ length (c.loop-pass.counts.items ++ c.read.result ∷ []) = ap length c.push_reserved.ensures.items in
    record {
      many = search rules;
      room = search rules;
      left = drop-set-lt (place + 1) passes place read (omega arith) ∙ drop_more_same passes firsts place before.left;
      read = rw c.push_reserved.ensures.items (rw (take_more firsts place none within) (rw (take_more_set passes place read inside)
          (read_more c.loop-pass.counts.items (take place firsts) (take place passes) c.read.result _ read before.read one)));
    }
