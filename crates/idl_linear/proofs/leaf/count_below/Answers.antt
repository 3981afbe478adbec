use Rattle.std.proofs.Common.{rules, arith, ltb, ltb-true, ltb-false}
use Rattle.std.proofs.lemmas.List.Sorted.{IsPartitionPoint-from_clause, IsPartitionedBy-ltb}
use Rattle.idl_linear.specs.declared.summand.Summand.{Summand}
use Rattle.idl_linear.proofs.Parts.{non_decreasing, up_to-points, from-points}
use Rattle.idl_linear.proofs.leaf.count_below.Goals as goal

pub returns-clause-below : goal.returns-clause-below
returns-clause-below c =
    let parted = IsPartitionedBy-ltb (λ (s : Summand). s.point) _ c.args.point (non_decreasing 0 c.args.items.now c.requires) in
    let point = IsPartitionPoint-from_clause (λ (s : Summand). ltb s.point c.args.point) _ _ c.partition_point.ensures.partitioned parted (λ a r q k. search rules) in
    up_to-points c.args.point c.partition_point.result c.args.items.now (λ j d lt le. ltb-true _ _ (point.0 j d (omega arith) lt))

pub returns-clause-from : goal.returns-clause-from
returns-clause-from c =
    let parted = IsPartitionedBy-ltb (λ (s : Summand). s.point) _ c.args.point (non_decreasing 0 c.args.items.now c.requires) in
    let point = IsPartitionPoint-from_clause (λ (s : Summand). ltb s.point c.args.point) _ _ c.partition_point.ensures.partitioned parted (λ a r q k. search rules) in
    from-points c.args.point c.partition_point.result c.args.items.now (λ j d le lt. ltb-false _ _ (point.1 j d le lt))
