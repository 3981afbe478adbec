use Rattle.std.proofs.Common.{subst}
use Rattle.idl_value.specs.CaseValues.{IsTermIn}
use Rattle.idl_term.specs.Scopes.{shown_term}
use Rattle.idl_scope.specs.declared.lowered.Lowered.{Lowered}
use Rattle.idl_value.proofs.Evaluating.{cases_valued, table_valued}
use Rattle.smt_script.proofs.value.term_value.Goals as goal

pub eval_on-requires-clause-table : goal.eval_on-requires-clause-table
eval_on-requires-clause-table c = table_valued c.requires.term.0 c.args.values.now c.requires.term.1 c.args.nodes.now c.requires.term.2

pub eval_int_on-requires-clause-table : goal.eval_int_on-requires-clause-table
eval_int_on-requires-clause-table c = table_valued c.requires.term.0 c.args.values.now c.requires.term.1 c.args.nodes.now c.requires.term.2

pub eval_int_on-requires-clause-cases : goal.eval_int_on-requires-clause-cases
eval_int_on-requires-clause-cases c =
    let term = subst (λ (t : Lowered). IsTermIn c.requires.term.0 c.args.nodes.now (shown_term t)) c.in-Number.is c.requires.term.3 in
    cases_valued c.requires.term.0 c.args.values.now c.requires.term.1 c.args.nodes.now c.in-Number.cases term
