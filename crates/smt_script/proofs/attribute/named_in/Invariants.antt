use Rattle.smt_sexpr.specs.Tree.{Items}
use Rattle.smt_sexpr.specs.Table.{MeansEach}
use Rattle.smt_script.specs.Attributes.{named_in}
use Rattle.smt_script.proofs.Annotations.{IsLeft}
use Rattle.smt_script.proofs.attribute.named_in.Given as goal

abbrev pub invariant-loop-id : goal.invariant-loop-id
invariant-loop-id l = (xs : Items) → MeansEach l.sexprs l.attributes xs → IsLeft l.sexprs l.attributes l.id-index l.so_far (named_in xs)
