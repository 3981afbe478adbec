use Rattle.std.proofs.Common.{sym, ap, subst, ◌∙◌}
use Rattle.std.specs.Prelude.{Result}
use Rattle.idl_apply.specs.Applied.{Made}
use Rattle.idl_scope.specs.code.Kept.{FoundIs}
use Rattle.idl_apply.specs.code.Shapes.{Lowers}
use Rattle.idl_apply.specs.declared.error.TermRefusal.{TermRefusal}
use Rattle.idl_scope.specs.declared.scope.FoundName.{FoundName}
use Rattle.idl_scope.specs.declared.scope.FoundName.TheVariants.{Declared}
use Rattle.idl_term.proofs.Leaves.{found_bool}
use Rattle.idl_term.proofs.leaf.lower_found.Goals as goal

pub returns-in-Bool-clause-makes : goal.returns-in-Bool-clause-makes
returns-in-Bool-clause-makes c = λ f h.
    let declared = subst (λ (m : FoundName). FoundIs f m) (c.in-Declared.is ∙ ap (Declared c.in-Declared.place) c.in-Bool.is) h in
    subst (λ (r : Result Made TermRefusal). Lowers c.place.new.self r c.as_formula.result) (sym (found_bool c.args.nodes.now f c.in-Declared.place declared)) (c.as_formula.ensures c.place.new.self _ c.place.ensures.makes)
