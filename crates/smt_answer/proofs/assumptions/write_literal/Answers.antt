use Rattle.std.proofs.Common.{◌≡◌, ◌++◌, ◌∙◌, ap, sym, true, List, ℕ}
use Rattle.std.proofs.lemmas.Result.{on_ok_weaker}
use Rattle.smt_lex.specs.declared.token.TokenKind.TheVariants.{Symbol}
use Rattle.smt_sexpr.specs.Printing.{written}
use Rattle.smt_answer.proofs.Literals.{negated_text, put_together}
use Rattle.smt_answer.proofs.assumptions.write_literal.Goals as goal

pub returns-clause-ok : goal.returns-clause-ok
returns-clause-ok c =
    let l = c.args.literal.now in
    let test = c.if-not-literal.false in
    let negated : l.is_negated ≡ true = cc in
    on_ok_weaker c.push_str-2.result
    (λ e. put_together c.args.out.now.items c.push_str.new.self.items c.write_symbol-2.new.out.items _ (written Symbol l.name.now) c.in_ok-push_str.ensures.ok c.in_ok-write_symbol.ensures.ok e
    ∙ ap (λ (t : List ℕ). c.args.out.now.items ++ t) (sym (negated_text l.name.now l.is_negated negated)))
    c.push_str-2.ensures.ok
