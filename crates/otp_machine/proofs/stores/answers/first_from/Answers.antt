use Rattle.std.proofs.Common.{arith, ltb, ltb-false, ltb-true, rules}
use Rattle.std.proofs.lemmas.List.Sorted.{IsPartitionedBy-ltb, IsPartitionPoint-from_clause}
use Rattle.otp_machine.specs.declared.stores.answers.StoredAnswer.{StoredAnswer}
use Rattle.otp_table.proofs.Keyed.{upto}
use Rattle.otp_machine.proofs.stores.answers.first_from.Goals as goal

pub returns-clause-before : goal.returns-clause-before
returns-clause-before c =
    let ordered = IsPartitionedBy-ltb (λ (t : StoredAnswer). t.call) c.args.told.now c.args.call (upto (λ (t : StoredAnswer). t.call) c.args.told.now c.requires) in
    let point = IsPartitionPoint-from_clause (λ t. ltb t.call c.args.call) _ _ c.partition_point.ensures.partitioned ordered (λ a r q k. search rules) in
    λ k d h. ltb-true _ _ (point.0 k d (omega arith) h)

pub returns-clause-after : goal.returns-clause-after
returns-clause-after c =
    let ordered = IsPartitionedBy-ltb (λ (t : StoredAnswer). t.call) c.args.told.now c.args.call (upto (λ (t : StoredAnswer). t.call) c.args.told.now c.requires) in
    let point = IsPartitionPoint-from_clause (λ t. ltb t.call c.args.call) _ _ c.partition_point.ensures.partitioned ordered (λ a r q k. search rules) in
    λ k d h w. ltb-false _ _ (point.1 k d h w)
