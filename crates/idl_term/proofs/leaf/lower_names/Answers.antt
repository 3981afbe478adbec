use Rattle.idl_term.proofs.NameSteps.{first_refused, second_refused}
use Rattle.idl_scope.specs.code.LocalNames.{scope_in}
use Rattle.idl_term.proofs.leaf.lower_names.Goals as goal

pub returns-in_err-first_term-clause-makes : goal.returns-in_err-first_term-clause-makes
returns-in_err-first_term-clause-makes c =
    let scope = scope_in c.args.locals.now in
    first_refused scope c.args.nodes.now c.lower_symbol.new.nodes c.args.first.now c.args.second.now c.from_residual.result c.in_err-first_term.field-0.0 c.from_residual.ensures
    (c.in_err-first_term.ensures.makes scope c.find-first_found.ensures.is)

pub returns-in_err-second_term-clause-makes : goal.returns-in_err-second_term-clause-makes
returns-in_err-second_term-clause-makes c =
    let scope = scope_in c.args.locals.now in
    second_refused scope c.args.nodes.now c.lower_symbol.new.nodes c.lower_symbol-2.new.nodes c.args.first.now c.args.second.now _ c.from_residual-in_err-second_term.result c.in_err-second_term.field-0.0 c.from_residual-in_err-second_term.ensures
    (c.in_ok-first_term.ensures.makes scope c.find-first_found.ensures.is) (c.in_err-second_term.ensures.makes scope c.find-second_found.ensures.is)

pub returns-clause-makes : goal.returns-clause-makes
returns-clause-makes c =
    let scope = scope_in c.args.locals.now in
    (c.lower_symbol.new.nodes, c.in_ok-first_term.ensures.makes scope c.find-first_found.ensures.is, c.in_ok-second_term.ensures.makes scope c.find-second_found.ensures.is)
