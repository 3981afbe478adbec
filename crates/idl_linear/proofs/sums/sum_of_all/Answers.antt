use Rattle.idl_linear.proofs.Totals.{total_of_all}
use Rattle.idl_linear.proofs.Finishing.{same_ok, same_limited, same_refused}
use Rattle.idl_linear.proofs.sums.sum_of_all.Goals as goal

pub returns-clause-ok : goal.returns-clause-ok
returns-clause-ok c =
    same_ok c.finish.result _ _ (total_of_all _ _ _ c.new-sum.ensures c.in_ok-add_all.ensures) c.finish.ensures.ok

pub returns-clause-limited : goal.returns-clause-limited
returns-clause-limited c =
    same_limited c.finish.result _ _ (total_of_all _ _ _ c.new-sum.ensures c.in_ok-add_all.ensures) c.finish.ensures.limited

pub returns-clause-refused : goal.returns-clause-refused
returns-clause-refused c =
    same_refused c.finish.result _ _ (total_of_all _ _ _ c.new-sum.ensures c.in_ok-add_all.ensures) c.finish.ensures.refused
