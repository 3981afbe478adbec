use Rattle.std.proofs.Common.{ap, sym, ◌∙◌, List}
use Rattle.idl_cases.specs.Guarded.{CaseValue}
use Rattle.idl_cases.specs.code.CaseSums.{signed_cases}
use Rattle.idl_cases.proofs.CaseLaws.{signed_other}
use Rattle.idl_cases.proofs.choices.Choices.copy.Goals as goal

pub returns : goal.returns
returns c =
    sym (signed_other c.self.inside.is_negated c.args.is_negated c.in_ok-tree.tree.value)
    ∙ ap (λ (cs : List CaseValue). signed_cases c.args.is_negated (signed_cases c.self.inside.is_negated cs)) c.in_ok-tree.ensures
    ∙ ap (signed_cases c.args.is_negated) c.self.view_is
