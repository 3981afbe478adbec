use Rattle.std.proofs.Common.{ap, subst, sym, ◌∙◌, ◌≡◌, true, Ok, Bool}
use Rattle.std.specs.Prelude.{if◌then◌else◌}
use Rattle.smt_sexpr.specs.Tree.{Sexpr, none, more}
use Rattle.smt_sexpr.specs.Table.{Means}
use Rattle.smt_sexpr.proofs.Shapes.{one_of, listed}
use Rattle.smt_script.specs.Commands.{assuming_command, assuming, are_literals, ill_formed}
use Rattle.smt_script.proofs.command.assuming_command.Goals as goal

pub items-requires : goal.items-requires
items-requires c =
    let p = one_of c.args.sexprs.now c.args.arguments.now c.requires.0 c.requires.1 c.in-len1.len_at_least c.in-len1.len_below in
    (p.first, p.first_means)

pub are_literals-requires : goal.are_literals-requires
are_literals-requires c =
    let t = c.args.sexprs.now in
    let p = one_of t c.args.arguments.now c.requires.0 c.requires.1 c.in-len1.len_at_least c.in-len1.len_below in
    let l = listed t p.first c.in-Some.items.now (c.in-Some.ensures p.first p.first_means) in
    (l.items, l.means)

pub returns-in-Some : goal.returns-in-Some
returns-in-Some c = λ xs means.
    let t = c.args.sexprs.now in
    let p = one_of t c.args.arguments.now xs means c.in-len1.len_at_least c.in-len1.len_below in
    let l = listed t p.first c.in-Some.items.now (c.in-Some.ensures p.first p.first_means) in
    let all : are_literals l.items ≡ true = sym (c.if-are_literals.ensures l.items l.means) in (
      l.items,
      subst (Means t _) l.is p.first_means,
      all,
      ap assuming_command (p.is ∙ ap (λ (x : Sexpr). more x none) l.is) ∙ ap (λ (b : Bool). if b then Ok (assuming l.items) else ill_formed) all,
    )
