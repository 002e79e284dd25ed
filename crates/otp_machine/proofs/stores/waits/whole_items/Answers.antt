use Rattle.std.proofs.Common.{◌≡◌, ◌<◌, ◌++◌, ◌∷◌, [], ℕ, List, ap, arith, cond, count_by, drop, get_or, length, sym, take, ◌∙◌}
use Rattle.otp_rules.specs.declared.call.Call.{Call}
use Rattle.otp_rules.specs.declared.event.Waiting.{Waiting}
use Rattle.otp_machine.specs.WaitsInside.{is_call, whole_item, whole_items}
use Rattle.otp_machine.specs.declared.stores.waits.ShortItem.{ShortItem}
use Rattle.otp_machine.proofs.Queues.{calls_more, whole_more}
use Rattle.otp_machine.proofs.stores.waits.whole_items.Goals as goal

pub loop-place-preserved : goal.loop-place-preserved
loop-place-preserved c =
    let items : List ShortItem = c.args.items.now.items in
    let calls : List Call = c.args.calls.now.items in
    let place : ℕ = c.loop-place.place in
    let item : ShortItem = c.index-item.result.now in
    let at : ShortItem = get_or items place item in
    let is : item ≡ at = c.index-item.ensures in
    let within : place < length items = omega (arith, c) in
    let whole : c.whole_at.result ≡ whole_item at (drop (count_by is_call (take place items)) calls) =
    c.whole_at.ensures ∙ ap (λ (x : ShortItem). whole_item x (drop c.loop-place.asked calls)) is ∙ ap (λ (n : ℕ). whole_item at (drop n calls)) c.loop-place.invariant.asked in
    let one : c.calls_in-asked.result ≡ cond (is_call at) 1 0 = c.calls_in-asked.ensures ∙ ap (λ (x : ShortItem). cond {A = ℕ} (is_call x) 1 0) is in
    record {
      copied =
          c.push_reserved.ensures.items ∙ ap (λ (xs : List Waiting). xs ++ c.whole_at.result ∷ []) c.loop-place.invariant.copied
          ∙ ap (λ (x : Waiting). whole_items (take place items) calls ++ x ∷ []) whole ∙ sym (whole_more items calls place item within);
      asked = omega (arith, c.loop-place.invariant.asked, one, calls_more items place item within);
      within = omega (arith, within);
      len = omega (arith, c);
      room = omega (arith, c);
    }
