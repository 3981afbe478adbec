use Rattle.std.proofs.Common.{sym, ap, subst, ◌∙◌}
use Rattle.std.specs.Prelude.{Result}
use Rattle.smt_lex.specs.declared.token.TokenKind.{TokenKind}
use Rattle.idl_apply.specs.Applied.{Made}
use Rattle.idl_term.specs.Lowered.{lowered_leaf}
use Rattle.idl_apply.specs.code.Shapes.{Lowers}
use Rattle.idl_apply.specs.declared.error.TermRefusal.{TermRefusal}
use Rattle.idl_term.proofs.Leaves.{numeral_leaf}
use Rattle.idl_term.proofs.leaf.lower_token.Goals as goal

pub returns-in-Numeral : goal.returns-in-Numeral
returns-in-Numeral c = λ scope nodes.
    subst (λ (r : Result Made TermRefusal). Lowers nodes r c.lower_numeral.result)
    (sym (ap (λ (k : TokenKind). lowered_leaf scope nodes k c.args.text.now) c.in-Numeral.is ∙ numeral_leaf scope nodes c.args.text.now)) (c.lower_numeral.ensures nodes)
