use Rattle.std.proofs.Common.{subst, List}
use Rattle.idl_cases.specs.Guarded.{CaseValue}
use Rattle.idl_cases.specs.code.Bounded.{AreLinear}
use Rattle.idl_cases.specs.code.CaseTrees.{tree_in}
use Rattle.idl_cases.proofs.CaseBounds.{linear_each}
use Rattle.idl_cases.proofs.choices.Tree.form.Goals as goal

pub returns-in-Branched-clause-linear : goal.returns-in-Branched-clause-linear
returns-in-Branched-clause-linear c = subst (λ (cs : List CaseValue). AreLinear cs) c.self.view_is (linear_each c.self.inside.bounds (tree_in c.self.inside.part) c.self.invariant.limits c.self.invariant.each)

pub returns-in-Sum-clause-linear : goal.returns-in-Sum-clause-linear
returns-in-Sum-clause-linear c = subst (λ (cs : List CaseValue). AreLinear cs) c.self.view_is (linear_each c.self.inside.bounds (tree_in c.self.inside.part) c.self.invariant.limits c.self.invariant.each)

pub returns-in-Listed-clause-linear : goal.returns-in-Listed-clause-linear
returns-in-Listed-clause-linear c = subst (λ (cs : List CaseValue). AreLinear cs) c.self.view_is (linear_each c.self.inside.bounds (tree_in c.self.inside.part) c.self.invariant.limits c.self.invariant.each)
