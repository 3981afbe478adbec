use Rattle.std.proofs.Common.{sym, subst, ap}
use Rattle.smt_sexpr.specs.Tree.{Items}
use Rattle.smt_sexpr.specs.Table.{MeansEach}
use Rattle.smt_script.specs.Commands.{terms_in, command_of}
use Rattle.smt_script.specs.code.Shapes.{CommandIs}
use Rattle.smt_script.specs.declared.command.Request.{Request}
use Rattle.smt_script.proofs.asked.asked_terms.Goals as goal

pub items_of-requires : goal.items_of-requires
items_of-requires c =
    let x = c.requires.0 in
    let h = subst (λ (r : Request). CommandIs c.args.sexprs.now r (command_of x)) c.in-Ok-Values.field-0-is (c.in-Ok-Values.ensures x c.requires.1) in
    (h.0, h.1)

pub returns-in-Ok-Values : goal.returns-in-Ok-Values
returns-in-Ok-Values c = λ x means.
    let h = subst (λ (r : Request). CommandIs c.args.sexprs.now r (command_of x)) c.in-Ok-Values.field-0-is (c.in-Ok-Values.ensures x means) in
    subst (λ (ts : Items). MeansEach c.args.sexprs.now c.items_of.result.now ts) (sym (ap terms_in h.2)) (c.items_of.ensures h.0 h.1)
