use Rattle.std.proofs.Common.{refl, sym, ap, ◌∙◌, List, ℕ, Option}
use Rattle.smt_sexpr.specs.Tree.{none}
use Rattle.smt_script.specs.Commands.{declaring, with_name, constant_command}
use Rattle.smt_sexpr.proofs.Shapes.{two_of}
use Rattle.smt_script.proofs.command.constant_command.Goals as goal

pub symbol-requires : goal.symbol-requires
symbol-requires c =
    let p = two_of c.args.sexprs.now c.args.arguments.now c.requires.0 c.requires.1 c.in-len2.len_at_least c.in-len2.len_below in
    (p.first, p.first_means)

pub returns-in-Some : goal.returns-in-Some
returns-in-Some c = λ xs means.
    let p = two_of c.args.sexprs.now c.args.arguments.now xs means c.in-len2.len_at_least c.in-len2.len_below in (
      none,
      p.second,
      record { has_parameters = refl; sort_means = p.second_means },
      ap constant_command p.is ∙ ap (λ (text : Option (List ℕ)). with_name text (λ name. declaring name none p.second)) (sym (c.in-Some.ensures p.first p.first_means)),
    )
