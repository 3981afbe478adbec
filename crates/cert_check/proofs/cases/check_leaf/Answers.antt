use Rattle.cert_check.proofs.Reading.{leaf_passes, leaf_no_cycle}
use Rattle.cert_check.proofs.cases.check_leaf.Goals as goal

pub returns-then-not-is_negative-clause-flaw : goal.returns-then-not-is_negative-clause-flaw
returns-then-not-is_negative-clause-flaw c = leaf_no_cycle _ _ _ _ c.are_assumed.ensures c.is_negative.ensures c.if-not-are_assumed.false c.if-not-is_negative.true

pub returns-clause-ok : goal.returns-clause-ok
returns-clause-ok c = leaf_passes _ _ _ _ c.are_assumed.ensures c.is_negative.ensures c.if-not-are_assumed.false c.if-not-is_negative.false
