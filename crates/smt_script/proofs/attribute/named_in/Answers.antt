use Rattle.std.proofs.Common.{refl, arith}
use Rattle.std.proofs.lemmas.Result.{err_from_is_err_and}
use Rattle.std.proofs.lemmas.List.{drop_all}
use Rattle.smt_script.specs.Attributes.{named_in}
use Rattle.smt_sexpr.proofs.Shapes.{next_of}
use Rattle.smt_script.proofs.Annotations.{left_first, left_more, left_refused, name_left, no_name_left}
use Rattle.smt_script.proofs.attribute.named_in.Goals as goal

pub loop-id-init : goal.loop-id-init
loop-id-init c = λ xs means. left_first c.args.sexprs.now c.args.attributes.now _ xs refl refl means

pub with-requires : goal.with-requires
with-requires c =
    let h = c.loop-id.invariant c.requires.0 c.requires.1 in
    let n = next_of c.args.sexprs.now c.args.attributes.now c.loop-id.id-index h.rest (omega arith) h.means in
    (n.first, n.first_means)

pub returns-in_err-so_far : goal.returns-in_err-so_far
returns-in_err-so_far c = λ xs means.
    let q = err_from_is_err_and c.from_residual.result c.from_residual.ensures.1 in
    rw (q.1, q.2)
    (left_refused c.args.sexprs.now c.args.attributes.now c.loop-id.id-index c.loop-id.so_far (named_in xs) (c.loop-id.invariant xs means) c.in_err-so_far.field-0.0 (omega arith) c.in_err-so_far.ensures)

pub loop-id-preserved : goal.loop-id-preserved
loop-id-preserved c = λ xs means.
    left_more c.args.sexprs.now c.args.attributes.now c.loop-id.id-index c.loop-id.so_far (named_in xs) (c.loop-id.invariant xs means) c.in_ok-so_far.so_far (omega arith) c.in_ok-so_far.ensures

pub returns-in-Name : goal.returns-in-Name
returns-in-Name c = λ xs means.
    name_left c.args.sexprs.now c.args.attributes.now c.loop-id.id-index c.loop-id.so_far (named_in xs) (c.loop-id.invariant xs means) (drop_all c.loop-id.id-index c.args.attributes.now (omega arith)) c.in-Name.is

pub returns-in_default : goal.returns-in_default
returns-in_default c = λ xs means.
    no_name_left c.args.sexprs.now c.args.attributes.now c.loop-id.id-index c.loop-id.so_far (named_in xs) (c.loop-id.invariant xs means) (drop_all c.loop-id.id-index c.args.attributes.now (omega arith)) c.in_default.not-Name
