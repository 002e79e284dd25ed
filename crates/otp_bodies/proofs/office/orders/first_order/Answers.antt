use Rattle.std.proofs.Common.{◌≡◌, sym, ◌∙◌, arith, true, length}
use Rattle.std.specs.Prelude.{ltb}
use Rattle.std.proofs.lemmas.Option.{slice_get_within}
use Rattle.otp_bodies.proofs.Sends.{at_order, at_reply, is_not, is_so, some_at, found_order}
use Rattle.otp_bodies.proofs.office.orders.first_order.Goals as goal

pub returns-then-is_order-clause-first : goal.returns-then-is_order-clause-first
returns-then-is_order-clause-first c = λ x e. sym c.loop-place.invariant ∙ at_order c.args.effects.now c.loop-place.place x e (is_not _ (sym c.if-is_order.true ∙ c.is_order.ensures x e))

pub returns-then-is_order-clause-found : goal.returns-then-is_order-clause-found
returns-then-is_order-clause-found c =
    let xs = c.args.effects.now in let r = c.loop-place.place in
    let at = some_at xs r c.loop-place-test.true in
    let first = at_order xs r at.0 at.1 (is_not _ (sym c.if-is_order.true ∙ c.is_order.ensures at.0 at.1)) in
    let inside : ltb r (length xs) ≡ true = grind (arith, c.loop-place-test.true) in
    found_order xs c.args.from r at.0 c.loop-place.invariant first ∙ sym inside

pub loop-place-preserved : goal.loop-place-preserved
loop-place-preserved c =
    let xs = c.args.effects.now in let r = c.loop-place.place in
    let at = some_at xs r c.loop-place-test.true in
    at_reply xs r at.0 at.1 (is_so _ (sym c.if-is_order.false ∙ c.is_order.ensures at.0 at.1)) ∙ c.loop-place.invariant

pub returns-clause-first : goal.returns-clause-first
returns-clause-first c = λ x e. absurd (let w = slice_get_within c.args.effects.now c.loop-place.place x e in omega arith)

pub returns-then-is_order-clause-order : goal.returns-then-is_order-clause-order
returns-then-is_order-clause-order c = λ x e. is_not _ (sym c.if-is_order.true ∙ c.is_order.ensures x e)

pub returns-clause-order : goal.returns-clause-order
returns-clause-order c = λ x e. absurd (let w = slice_get_within c.args.effects.now c.loop-place.place x e in omega arith)
