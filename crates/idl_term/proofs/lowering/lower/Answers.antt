use Rattle.std.proofs.Common.{ap, sym, subst, ◌∙◌, Err}
use Rattle.smt_sexpr.specs.Tree.{Sexpr}
use Rattle.idl_term.specs.Lowered.{lowered}
use Rattle.idl_apply.specs.code.Shapes.{Lowers}
use Rattle.idl_term.proofs.FrameSteps.{refused_anyway}
use Rattle.idl_term.proofs.TreesOfIds.{tree_is, tree_means}
use Rattle.idl_term.proofs.lowering.lower.Goals as goal

pub lower_term-requires-clause-tree : goal.lower_term-requires-clause-tree
lower_term-requires-clause-tree c = tree_means c.args.sexprs.now c.args.id c.requires.meaning.0 c.requires.meaning.1

pub returns-in-Ok-clause-lowers : goal.returns-in-Ok-clause-lowers
returns-in-Ok-clause-lowers c = λ t m. ap (lowered c.args.scope.now c.args.nodes.now) (sym (tree_is c.args.sexprs.now c.args.id t m)) ∙ c.in-Ok.ensures.makes

pub returns-in-Err-clause-lowers : goal.returns-in-Err-clause-lowers
returns-in-Err-clause-lowers c = λ t m.
    refused_anyway (lowered c.args.scope.now c.args.nodes.now t) c.lower_term.new.nodes c.cut.new.self c.in-Err.error
    (subst (λ (x : Sexpr). Lowers c.lower_term.new.nodes (lowered c.args.scope.now c.args.nodes.now x) (Err c.in-Err.error)) (tree_is c.args.sexprs.now c.args.id t m) c.in-Err.ensures.makes)
