use Rattle.std.proofs.Common.{◌≡◌, ◌+◌, ◌<◌, ◌++◌, ◌∷◌, [], List, map, length, length-append, ◌∙◌, ap, sym, arith, rules}
use Rattle.std.proofs.lemmas.List.{length-map, map-append}
use Rattle.otp_file.specs.Trees.{Table}
use Rattle.otp_spec.specs.declared.limits.TheConstants.{MAX_TABLES}
use Rattle.otp_file.specs.RolesFaults.{first_unknown, table_seen}
use Rattle.otp_jobs.specs.Plans.{joined, plan_of, plans_from, seen, total, tree_sizes}
use Rattle.otp_jobs.proofs.PlanLemmas.{all_known, counted, take_next, total-tree_sizes}
use Rattle.otp_jobs.proofs.plan.plan_all.Goals as goal

pub plan_one-requires-clause-known : goal.plan_one-requires-clause-known
plan_one-requires-clause-known c =
    let before : c.loop-table.tables.items ≡ c.pop.new.self.items ++ c.in-Some.table ∷ [] = c.in-Some.ensures.items in
    let last : Table = table_seen c.in-Some.table in
    let shown : map table_seen c.loop-table.tables.items ≡ map table_seen c.pop.new.self.items ++ last ∷ [] =
    ap (map table_seen) before ∙ map-append table_seen c.pop.new.self.items (c.in-Some.table ∷ []) in
    (all_known (map table_seen c.pop.new.self.items) last (sym (ap first_unknown shown) ∙ c.loop-table.invariant.4)).1

pub plan_one-requires-clause-within : goal.plan_one-requires-clause-within
plan_one-requires-clause-within c =
    let taken : List Table = c.loop-table.invariant.0 in
    let before : c.loop-table.tables.items ≡ c.pop.new.self.items ++ c.in-Some.table ∷ [] = c.in-Some.ensures.items in
    let left : List Table = map table_seen c.pop.new.self.items in
    let last : Table = table_seen c.in-Some.table in
    let shown : map table_seen c.loop-table.tables.items ≡ left ++ last ∷ [] =
    ap (map table_seen) before ∙ map-append table_seen c.pop.new.self.items (c.in-Some.table ∷ []) in
    let all = counted left last taken (map table_seen c.args.tables.items) (sym (ap (λ front. front ++ taken) shown) ∙ c.loop-table.invariant.1) in
    let some : length left ≡ length c.pop.new.self.items = length-map c.pop.new.self.items table_seen in
    let few : length (map table_seen c.args.tables.items) ≡ length c.args.tables.items = length-map c.args.tables.items table_seen in
    let sizes : total c.loop-table.sizes.items ≡ length taken = ap total c.loop-table.invariant.3 ∙ total-tree_sizes taken in
    let number : c.len.result ≡ length c.pop.new.self.items = search rules in
    let within : c.len.result + total c.loop-table.sizes.items < MAX_TABLES = omega (arith, all, some, few, sizes, number, c.requires.few) in
    within

pub loop-table-preserved : goal.loop-table-preserved
loop-table-preserved c =
    let taken : List Table = c.loop-table.invariant.0 in
    let before : c.loop-table.tables.items ≡ c.pop.new.self.items ++ c.in-Some.table ∷ [] = c.in-Some.ensures.items in
    let left : List Table = map table_seen c.pop.new.self.items in
    let last : Table = table_seen c.in-Some.table in
    let shown : map table_seen c.loop-table.tables.items ≡ left ++ last ∷ [] =
    ap (map table_seen) before ∙ map-append table_seen c.pop.new.self.items (c.in-Some.table ∷ []) in
    let put : c.insert.new.self.items ≡ c.in_ok-plan.plan ∷ c.loop-table.plans.items = search rules in
    let plan : seen c.in_ok-plan.plan ≡ plan_of (length c.pop.new.self.items + 1) (tree_sizes taken) last =
    search rules in
    let more : length c.loop-table.tables.items ≡ length c.pop.new.self.items + 1 =
    ap length before ∙ length-append c.pop.new.self.items (c.in-Some.table ∷ []) in (
      last ∷ taken,
      take_next left last taken (map table_seen c.args.tables.items) (sym (ap (λ front. front ++ taken) shown) ∙ c.loop-table.invariant.1),
      ap (map seen) put ∙ ap (λ first. first ∷ map seen c.loop-table.plans.items) plan
          ∙ ap (λ rest. plan_of (length c.pop.new.self.items + 1) (tree_sizes taken) last ∷ rest)
          (c.loop-table.invariant.2 ∙ ap (λ n. plans_from n taken) more),
      c.in_ok-plan.ensures.sizes ∙ ap (joined 1 (length c.in-Some.table.nested.items)) c.loop-table.invariant.3,
      (all_known left last (sym (ap first_unknown shown) ∙ c.loop-table.invariant.4)).0,
      let longer : length c.insert.new.self.items ≡ length (c.in_ok-plan.plan ∷ c.loop-table.plans.items) = ap length put in
          omega (arith, longer, more, c.loop-table.invariant.5),
    )
