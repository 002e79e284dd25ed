use Prim.Native.Nat.{suc}
use Rattle.std.proofs.Common.{◌≡◌, ◌+◌, ◌++◌, ◌<◌, ◌∷◌, ◌∙◌, List, [], ℕ, ap, arith, get_or, length, subst, sym, take}
use Rattle.std.proofs.Math.Seq.{take-suc}
use Rattle.otp_file.specs.Trees.{Tree}
use Rattle.otp_trial.specs.Played.{Seated}
use Rattle.otp_costs.specs.Ranks.{ranked}
use Rattle.otp_costs.specs.Rows.{AreRowsFrom, HaveRows, groups_in, is_worse}
use Rattle.otp_costs.specs.declared.rows.Row.{Row}
use Rattle.otp_costs.proofs.Ranked.{ranked_append}
use Rattle.otp_costs.proofs.TreeRanked.{length_take, supervisor_more}
use Rattle.otp_costs.proofs.rows.find_rows_seen.Goals as goal

pub loop-place-preserved : goal.loop-place-preserved
loop-place-preserved g c =
    let seats : List Seated = c.in_ok-seats.seats.items in
    let place : ℕ = c.loop-place.place in
    let seat : Seated = c.index.result.now in
    let each : List Row = c.loop-place.invariant.0 in
    let own : List Row = c.in_ok-put_seat.ensures.rows.0 in
    let next : place + 1 ≡ suc place = omega arith in
    let is : get_or seats place seat ≡ seat = sym c.index.ensures in
    let inside : place < length seats = omega (arith, c.loop-place-test.true, c.len-place-end.ensures) in
    let more : take (place + 1) seats ≡ take place seats ++ seat ∷ [] =
    ap (λ (n : ℕ). take n seats) next ∙ take-suc seats place seat inside ∙ ap (λ (x : Seated). take place seats ++ x ∷ []) is in
    let same : c.loop-place.player ≡ c.args.tree.now = c.loop-place.invariant.1.1.1 in
    let count : 0 + length (take place seats) ≡ place = length_take place seats inside in
    let here : HaveRows c.args.pick.now c.args.tree.now seats (0 + length (take place seats)) seat (groups_in c.args.grain seats seat) own =
    subst (λ (n : ℕ). HaveRows c.args.pick.now c.args.tree.now seats n seat (groups_in c.args.grain seats seat) own) (sym count)
    (subst (λ (t : Tree). HaveRows c.args.pick.now t seats place seat (groups_in c.args.grain seats seat) own) same
    (subst (λ (all : List Seated). HaveRows c.args.pick.now c.loop-place.player all place seat (groups_in c.args.grain all seat) own) c.as_slice-in-loop-place.ensures.value c.in_ok-put_seat.ensures.rows.1.0)) in (
      each ++ own,
      (
        subst (λ (xs : List Seated). AreRowsFrom c.args.grain c.args.pick.now c.args.tree.now seats 0 xs (each ++ own)) (sym more)
            (supervisor_more c.args.grain c.args.pick.now c.args.tree.now seats 0 (take place seats) seat each own c.loop-place.invariant.1.0 here),
        (
          c.in_ok-put_seat.ensures.rows.1.1 ∙ ap (λ (cs : List Row). ranked is_worse cs own) c.loop-place.invariant.1.1.0 ∙ sym (ranked_append is_worse [] each own),
          c.put_seat.ensures.tree ∙ same,
        ),
      ),
    )
