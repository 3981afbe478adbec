use Rattle.std.proofs.Common.{subst, List}
use Rattle.std.specs.Prelude.{Ok, Err}
use Rattle.std.proofs.lemmas.Result.{err_from_is_err_and}
use Rattle.idl_cases.specs.Guarded.{CaseValue}
use Rattle.idl_apply.specs.code.Applying.{SumsTerms}
use Rattle.idl_apply.proofs.Arguments.{seen}
use Rattle.idl_apply.proofs.FewTerms.{plain_made, plain_refused, plain_seen}
use Rattle.idl_apply.proofs.few_terms.sum_plain.Goals as goal

pub returns-in_err-sum : goal.returns-in_err-sum
returns-in_err-sum c =
    let q = err_from_is_err_and c.from_residual.result c.from_residual.ensures.1 in
    let refused = plain_refused c.args.sign (seen c.args.terms.now) c.in_err-sum.field-0.0 c.in_err-sum.ensures in
    rw (q.1, q.2) (subst (λ (ts : List (List CaseValue)). SumsTerms c.args.sign ts (Err c.in_err-sum.field-0.0)) (plain_seen c.args.terms.now) refused)

pub returns : goal.returns
returns c =
    let made = plain_made c.args.sign (seen c.args.terms.now) c.in_ok-sum.sum c.plain.result c.plain.ensures c.in_ok-sum.ensures in
    subst (λ (ts : List (List CaseValue)). SumsTerms c.args.sign ts (Ok c.plain.result)) (plain_seen c.args.terms.now) made
