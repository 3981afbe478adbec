use Rattle.std.proofs.Common.{sym, ap, ◌∙◌, List, ℕ, Option}
use Rattle.smt_lex.specs.Numbers.{value_of}
use Rattle.smt_script.specs.Commands.{with_count, level_command}
use Rattle.smt_script.proofs.Arguments.{count_is}
use Rattle.smt_sexpr.proofs.Shapes.{one_of}
use Rattle.smt_script.proofs.command.levels.Goals as goal

pub numeral-requires : goal.numeral-requires
numeral-requires c =
    let p = one_of c.args.sexprs.now c.args.arguments.now c.requires.0 c.requires.1 c.in-len1.len_at_least c.in-len1.len_below in
    (p.first, p.first_means)

pub returns-in-Some : goal.returns-in-Some
returns-in-Some c = λ make xs means.
    let p = one_of c.args.sexprs.now c.args.arguments.now xs means c.in-len1.len_at_least c.in-len1.len_below in
    let value = value_of c.in-Some.digits.now in (
      value,
      count_is c.numeral_value.result value c.numeral_value.ensures.some c.numeral_value.ensures.none,
      ap (level_command make) p.is ∙ ap (λ (digits : Option (List ℕ)). with_count digits make) (sym (c.in-Some.ensures.value p.first p.first_means)),
    )
