use Rattle.std.proofs.Common.{◌≡◌, ◌∙◌, sym, ap, arith, true, Some, pos, neg_ℤ, ◌-ℤ◌, to_z, of_z}
use Rattle.std.specs.Int.{w128}
use Rattle.std.specs.Prelude.{codes}
use Rattle.std.proofs.lemmas.Int.{ints}
use Rattle.smt_sexpr.specs.Tree.{list}
use Rattle.cert_read.specs.Parts.{number_within}
use Rattle.smt_sexpr.specs.Shapes.{is_symbol}
use Rattle.cert_read.proofs.NegativeNumbers.{negative_number}
use Rattle.smt_sexpr.proofs.Shapes.{listed, two_of}
use Rattle.cert_read.proofs.number.number_within.Goals as goal

pub is_symbol-requires : goal.is_symbol-requires
is_symbol-requires c =
    let x = c.requires.meaning in
    let ids = c.in-Some-len2.field-0.now in
    let l = listed c.args.table.now x.0 ids (c.in-Some-len2.ensures x.0 x.1) in
    let p = two_of c.args.table.now ids l.items l.means c.in-Some-len2.len_at_least c.in-Some-len2.len_below in
    (p.first, p.first_means)

pub magnitude-requires-in-Some-len2-clause-meaning : goal.magnitude-requires-in-Some-len2-clause-meaning
magnitude-requires-in-Some-len2-clause-meaning c =
    let x = c.requires.meaning in
    let ids = c.in-Some-len2.field-0.now in
    let l = listed c.args.table.now x.0 ids (c.in-Some-len2.ensures x.0 x.1) in
    let p = two_of c.args.table.now ids l.items l.means c.in-Some-len2.len_at_least c.in-Some-len2.len_below in
    (p.second, p.second_means)

pub returns-else-value-eq0-clause-value : goal.returns-else-value-eq0-clause-value
returns-else-value-eq0-clause-value c = λ x means.
    let ids = c.in-Some-len2.field-0.now in
    let l = listed c.args.table.now x ids (c.in-Some-len2.ensures x means) in
    let p = two_of c.args.table.now ids l.items l.means c.in-Some-len2.len_at_least c.in-Some-len2.len_below in
    let minus : is_symbol (codes "-") p.first ≡ true = sym (c.is_symbol.ensures p.first p.first_means) ∙ c.if-is_symbol.true in
    let n = c.in_ok-value-in-Some-len2.value in
    let within = c.in_ok-value-in-Some-len2.ensures.within in
    let number : to_z w128 (of_z w128 (pos 0 -ℤ to_z w128 n)) ≡ neg_ℤ (pos n) = omega (arith, ints, within, c.requires.most) in
    ap Some number ∙ sym (ap (number_within c.args.most) (l.is ∙ ap list p.is) ∙ negative_number c.args.most p.first p.second n minus (c.in_ok-value-in-Some-len2.ensures.value p.second p.second_means) c.if-value-eq0.false)
