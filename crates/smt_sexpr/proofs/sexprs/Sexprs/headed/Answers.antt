use Rattle.std.proofs.Common.{◌≡◌, ◌∙◌, sym, ap, ℕ, List, Some}
use Rattle.std.specs.Prelude.{option_map}
use Rattle.smt_sexpr.specs.Tree.{list, symbol_of}
use Rattle.smt_sexpr.specs.Shapes.{headed_of}
use Rattle.smt_sexpr.proofs.Shapes.{listed, begun}
use Rattle.smt_sexpr.proofs.sexprs.Sexprs.headed.Goals as goal

pub symbol-requires : goal.symbol-requires
symbol-requires c =
    let x = c.requires in
    let ids = c.in-Some-len1-up.field-0.now in
    let l = listed c.args.self.now x.0 ids (c.in-Some-len1-up.ensures x.0 x.1) in
    let p = begun c.args.self.now ids l.items l.means c.in-Some-len1-up.len_at_least in
    (p.first, p.first_means)

pub returns-in_ok-symbol-in-Some-len1-up : goal.returns-in_ok-symbol-in-Some-len1-up
returns-in_ok-symbol-in-Some-len1-up c = λ x means.
    let ids = c.in-Some-len1-up.field-0.now in
    let l = listed c.args.self.now x ids (c.in-Some-len1-up.ensures x means) in
    let p = begun c.args.self.now ids l.items l.means c.in-Some-len1-up.len_at_least in
    let name : symbol_of p.first ≡ Some c.in_ok-symbol-in-Some-len1-up.field-0.now = sym (c.in_ok-symbol-in-Some-len1-up.ensures p.first p.first_means) in
    (p.others, ap headed_of (l.is ∙ ap list p.is) ∙ ap (option_map (λ (text : List ℕ). (text, p.others))) name, p.means)
