use Rattle.std.proofs.Common.{◌≡◌, ◌<◌, ◌∷◌, [], ap, arith, length, length-append, sym, subst, ◌∙◌}
use Rattle.std.proofs.lemmas.List.Sums.{sum_by_push}
use Rattle.otp_run.proofs.Places.{push_at}
use Rattle.otp_hand.specs.Begun.{start_share, starts_credited}
use Rattle.otp_hand.specs.Ended.{end_share, ends_sent}
use Rattle.otp_hand.specs.Seats.{Seated}
use Rattle.otp_hand.specs.Standings.{AreSplit, IsSplitAt}
use Rattle.otp_hand.proofs.Begun.{starts_push}
use Rattle.otp_open.proofs.Splits.{split_more}
use Rattle.otp_open.proofs.hands.split_senders.Goals as goal

pub loop-place-preserved : goal.loop-place-preserved
loop-place-preserved g c =
    let list = c.loop-place.list.items in
    let x = c.in-Some.sender in
    let i = c.loop-place.invariant in
    let items = c.in-Ok.ensures {u = tt} in
    let new = (c.in-Some.ensures {u = tt}).new in
    let inbox = ap (λ s. s.inbox) new in
    let parts = ap (λ s. s.parts) new in
    let number = c.number.ensures in
    let test = c.if-number-place.false in
    let long = i.1 in
    let some = c.requires in
    let seat : x.inbox ≡ length list = omega (arith, inbox, number, test, long) in
    let has : 0 < x.parts = omega (arith, parts, some) in
    let longer = ap length items ∙ length-append list (x ∷ []) in
    let more = ap starts_credited items ∙ starts_push list x in
    let none = ap start_share new in
    let so_far = i.3 in
    let more_ends = ap ends_sent items ∙ sum_by_push end_share list x in
    let none_sent = ap end_share new in
    let sent_so_far = i.5 in
    let off = (c.in-Some.ensures {u = tt}).split in
    let split = subst (λ n. IsSplitAt (length list) n c.loop-place.senders c.split_at.new.self) (sym parts) (subst (λ n. IsSplitAt n c.args.parts c.loop-place.senders c.split_at.new.self) (sym inbox ∙ seat) off) in (
      subst Seated (sym items) (push_at (λ k s. (s.inbox ≡ k) × (0 < s.parts)) list x i.0 (seat, has)),
      omega (arith, longer, long),
      c.split_at.ensures.len ∙ i.2,
      omega (arith, more, none, so_far),
      c.split_at.ensures.starts ∙ i.4,
      omega (arith, more_ends, none_sent, sent_so_far),
      c.split_at.ensures.ends ∙ i.6,
      subst (λ l. AreSplit l c.args.senders.now c.split_at.new.self) (sym items) (split_more list x c.args.senders.now c.loop-place.senders c.split_at.new.self i.7 split),
    )
