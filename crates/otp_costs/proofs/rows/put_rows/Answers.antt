use Rattle.std.proofs.Common.{◌≡◌, ◌++◌, ◌∷◌, ◌∙◌, List, [], ap, arith, ℕ, ◌+◌, get_or, subst, sym, take}
use Prim.Native.Nat.{suc}
use Rattle.std.proofs.Math.Seq.{take-suc}
use Rattle.otp_file.specs.Trees.{Tree}
use Rattle.otp_costs.specs.Groups.{is_wanted}
use Rattle.otp_costs.specs.Ranks.{ranked}
use Rattle.otp_costs.specs.Rows.{HasRow, HaveRows, is_worse}
use Rattle.otp_costs.specs.declared.group.Group.{Group}
use Rattle.otp_costs.specs.declared.rows.Row.{Row}
use Rattle.otp_costs.proofs.Ranked.{each_more, ranked_append}
use Rattle.otp_costs.proofs.rows.put_rows.Goals as goal

pub loop-at-preserved : goal.loop-at-preserved
loop-at-preserved c =
    let groups : List Group = c.args.groups.now in
    let at : ℕ = c.loop-at.at in
    let group : Group = c.index-groups-at.result in
    let each : List Row = c.loop-at.invariant.0 in
    let own : List Row = c.in_ok-put_row.ensures.rows.0 in
    let next : at + 1 ≡ suc at = omega arith in
    let is : get_or groups at group ≡ group = sym c.index-groups-at.is in
    let more : take (at + 1) groups ≡ take at groups ++ group ∷ [] =
    ap (λ (n : ℕ). take n groups) next ∙ take-suc groups at group c.loop-at-test.true ∙ ap (λ (x : Group). take at groups ++ x ∷ []) is in
    let Has : Group → List Row → Type 0 = λ g rows. HasRow (is_wanted c.args.pick.now c.args.seat.now.path g.names) c.args.player.now c.args.seats.now c.args.place c.args.seat.now g rows in
    let same : c.loop-at.player ≡ c.args.player.now = c.loop-at.invariant.1.1.1 in
    let here : Has group own =
    subst (λ (t : Tree). HasRow (is_wanted c.args.pick.now c.args.seat.now.path group.names) t c.args.seats.now c.args.place c.args.seat.now group own) same
    c.in_ok-put_row.ensures.rows.1.0 in (
      each ++ own,
      (
        subst (λ (gs : List Group). HaveRows c.args.pick.now c.args.player.now c.args.seats.now c.args.place c.args.seat.now gs (each ++ own)) (sym more)
            (each_more Has (take at groups) group each own c.loop-at.invariant.1.0 here),
        (
          c.in_ok-put_row.ensures.rows.1.1 ∙ ap (λ (rs : List Row). ranked is_worse rs own) c.loop-at.invariant.1.1.0 ∙ sym (ranked_append is_worse c.args.rows.now.items each own),
          c.put_row.ensures.tree ∙ same,
        ),
      ),
    )
