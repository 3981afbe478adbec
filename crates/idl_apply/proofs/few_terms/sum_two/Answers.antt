use Rattle.std.proofs.Common.{subst, sym, map, List, Bor}
use Rattle.idl_linear.specs.Linear.{LinearValue}
use Rattle.idl_cases.specs.Guarded.{plain}
use Rattle.idl_apply.specs.code.Applying.{SumsTerms}
use Rattle.idl_apply.proofs.FewTerms.{two_plain}
use Rattle.idl_apply.proofs.few_terms.sum_two.Goals as goal

pub returns-in-Some-Some : goal.returns-in-Some-Some
returns-in-Some-Some c =
    let both = subst (λ (bs : List (Bor LinearValue)). SumsTerms c.args.sign (map (λ (b : Bor LinearValue). plain b.now) bs) c.sum_plain.result) c.as_slice.ensures c.sum_plain.ensures in
    two_plain c.args.sign c.args.first.now c.args.second.now c.in-Some-Some.a.now c.in-Some-Some.b.now c.sum_plain.result (sym c.in-Some-Some.ensures) (sym c.in-Some-Some.ensures') both
