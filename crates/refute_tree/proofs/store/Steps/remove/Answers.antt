use Rattle.std.proofs.Common.{length, arith, ap}
use Rattle.refute_tree.proofs.Extended.{lists_length, places_ordered, place_within, cut_whole, cut_steps}
use Rattle.refute_tree.proofs.store.Steps.remove.Goals as goal

pub place_of-from-requires-clause-step : goal.place_of-from-requires-clause-step
place_of-from-requires-clause-step c = omega (arith, c.requires.order, c.requires.within, lists_length c.self.inside.lists c.args.self.now c.self.view_is, ap length c.slices.ensures.kinds)

pub place_of-until-requires-clause-step : goal.place_of-until-requires-clause-step
place_of-until-requires-clause-step c = omega (arith, c.requires.within, lists_length c.self.inside.lists c.args.self.now c.self.view_is, ap length c.slices-2.ensures.kinds)

pub cut_out-requires-clause-order : goal.cut_out-requires-clause-order
cut_out-requires-clause-order c = places_ordered c.args.self.now c.self.inside.lists c.self.inside.lists c.slices.result c.slices-2.result c.args.low c.args.high c.place_of-from.result c.place_of-until.result c.self.invariant c.self.view_is c.requires.order c.requires.within c.slices.ensures c.slices-2.ensures c.place_of-from.ensures c.place_of-until.ensures

pub cut_out-requires-clause-within : goal.cut_out-requires-clause-within
cut_out-requires-clause-within c = place_within c.args.self.now c.self.inside.lists c.self.inside.lists c.slices.result c.slices-2.result c.args.low c.args.high c.place_of-from.result c.place_of-until.result c.self.invariant c.self.view_is c.requires.order c.requires.within c.slices.ensures c.slices-2.ensures c.place_of-from.ensures c.place_of-until.ensures

pub invariant_of-self : goal.invariant_of-self
invariant_of-self c = cut_whole c.args.self.now c.self.inside.lists _ c.slices.result c.slices-2.result c.args.low c.args.high c.place_of-from.result c.place_of-until.result c.self.invariant c.self.view_is c.requires.order c.requires.within c.slices.ensures c.slices-2.ensures c.place_of-from.ensures c.place_of-until.ensures c.cut_out.ensures

pub returns : goal.returns
returns c = cut_steps c.args.self.now c.self.inside.lists _ c.slices.result c.slices-2.result c.args.low c.args.high c.place_of-from.result c.place_of-until.result c.self.invariant c.self.view_is c.requires.order c.requires.within c.slices.ensures c.slices-2.ensures c.place_of-from.ensures c.place_of-until.ensures c.cut_out.ensures
