use Rattle.std.proofs.Common.{refl}
use Rattle.idl_apply.specs.Comparing.{at_most, below, at_least, above}
use Rattle.idl_apply.specs.declared.comparing.Relation.TheVariants.{AtMost, Less, AtLeast, Greater}
use Rattle.idl_apply.proofs.ComparisonNodes.{related_one, related_both, related_either}
use Rattle.idl_apply.proofs.comparing.relate.Goals as goal

pub returns-in-AtMost-clause-makes : goal.returns-in-AtMost-clause-makes
returns-in-AtMost-clause-makes c = related_one c.args.nodes.now c.place.new.self c.args.relation c.args.difference _ _ c.place.ensures.makes AtMost (at_most c.args.difference) c.in-AtMost.is c.at_most.ensures refl

pub returns-in-Less-clause-makes : goal.returns-in-Less-clause-makes
returns-in-Less-clause-makes c = related_one c.args.nodes.now c.place-in-Less.new.self c.args.relation c.args.difference _ _ c.place-in-Less.ensures.makes Less (below c.args.difference) c.in-Less.is c.below.ensures refl

pub returns-in-AtLeast-clause-makes : goal.returns-in-AtLeast-clause-makes
returns-in-AtLeast-clause-makes c = related_one c.args.nodes.now c.place-in-AtLeast.new.self c.args.relation c.args.difference _ _ c.place-in-AtLeast.ensures.makes AtLeast (at_least c.args.difference) c.in-AtLeast.is c.at_least.ensures refl

pub returns-in-Greater-clause-makes : goal.returns-in-Greater-clause-makes
returns-in-Greater-clause-makes c = related_one c.args.nodes.now c.place-in-Greater.new.self c.args.relation c.args.difference _ _ c.place-in-Greater.ensures.makes Greater (above c.args.difference) c.in-Greater.is c.above.ensures refl

pub returns-in-Equal-clause-makes : goal.returns-in-Equal-clause-makes
returns-in-Equal-clause-makes c =
    related_both c.args.nodes.now c.both.new.nodes c.args.relation c.args.difference c.at_most-in-Equal.result c.at_least-in-Equal.result c.both.result c.in-Equal.is c.at_most-in-Equal.ensures c.at_least-in-Equal.ensures c.both.ensures.makes

pub returns-in-Distinct-clause-makes : goal.returns-in-Distinct-clause-makes
returns-in-Distinct-clause-makes c =
    related_either c.args.nodes.now c.either.new.nodes c.args.relation c.args.difference c.below-in-Distinct.result c.above-in-Distinct.result c.either.result c.in-Distinct.is c.below-in-Distinct.ensures c.above-in-Distinct.ensures c.either.ensures.makes
