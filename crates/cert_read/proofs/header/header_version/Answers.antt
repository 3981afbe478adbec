use Rattle.std.proofs.Common.{◌∙◌, sym, ap}
use Rattle.smt_sexpr.specs.Tree.{list}
use Rattle.smt_sexpr.proofs.Shapes.{listed, two_of}
use Rattle.cert_read.proofs.HeaderAndEnd.{header_of, header_named}
use Rattle.cert_read.proofs.header.header_version.Goals as goal

pub is_symbol-requires : goal.is_symbol-requires
is_symbol-requires c =
    let x = c.requires in
    let ids = c.in-Some-len2.field-0.now in
    let l = listed c.args.table.now x.0 ids (c.in-Some-len2.ensures x.0 x.1) in
    let p = two_of c.args.table.now ids l.items l.means c.in-Some-len2.len_at_least c.in-Some-len2.len_below in
    (p.first, p.first_means)

pub version_of-requires : goal.version_of-requires
version_of-requires c =
    let x = c.requires in
    let ids = c.in-Some-len2.field-0.now in
    let l = listed c.args.table.now x.0 ids (c.in-Some-len2.ensures x.0 x.1) in
    let p = two_of c.args.table.now ids l.items l.means c.in-Some-len2.len_at_least c.in-Some-len2.len_below in
    (p.second, p.second_means)

pub returns-in-Some-len2 : goal.returns-in-Some-len2
returns-in-Some-len2 c = λ x means.
    let ids = c.in-Some-len2.field-0.now in
    let l = listed c.args.table.now x ids (c.in-Some-len2.ensures x means) in
    let p = two_of c.args.table.now ids l.items l.means c.in-Some-len2.len_at_least c.in-Some-len2.len_below in
    header_of x p.first p.second c.version_of.result (l.is ∙ ap list p.is) (sym (c.is_symbol.ensures p.first p.first_means) ∙ c.if-is_symbol.true) (c.version_of.ensures p.second p.second_means)

pub returns-in_default-2 : goal.returns-in_default-2
returns-in_default-2 c = λ x means.
    let ids = c.in-Some-len2.field-0.now in
    let l = listed c.args.table.now x ids (c.in-Some-len2.ensures x means) in
    let p = two_of c.args.table.now ids l.items l.means c.in-Some-len2.len_at_least c.in-Some-len2.len_below in
    header_named x p.first p.second (l.is ∙ ap list p.is) (sym (c.is_symbol.ensures p.first p.first_means) ∙ c.if-is_symbol.false)
