use Rattle.std.proofs.Common.{sym, ap, ◌∙◌, List, ℕ, Option, Some}
use Rattle.smt_script.specs.Commands.{setting_option, with_keyword, option_command}
use Rattle.smt_sexpr.proofs.Shapes.{one_of, two_of}
use Rattle.smt_script.proofs.command.option_command.Goals as goal

pub keyword-requires : goal.keyword-requires
keyword-requires c =
    let p = one_of c.args.sexprs.now c.args.arguments.now c.requires.0 c.requires.1 c.in-len1.len_at_least c.in-len1.len_below in
    (p.first, p.first_means)

pub keyword-requires-in-len2 : goal.keyword-requires-in-len2
keyword-requires-in-len2 c =
    let p = two_of c.args.sexprs.now c.args.arguments.now c.requires.0 c.requires.1 c.in-len2.len_at_least c.in-len2.len_below in
    (p.first, p.first_means)

pub returns-in-Some-keyword : goal.returns-in-Some-keyword
returns-in-Some-keyword c = λ xs means.
    let p = two_of c.args.sexprs.now c.args.arguments.now xs means c.in-len2.len_at_least c.in-len2.len_below in
    (Some p.second, p.second_means, ap option_command p.is ∙ ap (λ (k : Option (List ℕ)). with_keyword k (λ keyword. setting_option keyword (Some p.second))) (sym (c.in-Some-keyword.ensures p.first p.first_means)))
