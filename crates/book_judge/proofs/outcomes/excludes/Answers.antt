use Rattle.std.specs.Arc.{arc_value}
use Rattle.refute_tree.specs.declared.lemma.Lemma.{Lemma as Stated}
use Rattle.book_judge.proofs.Judged.{shut_by, shut_at}
use Rattle.book_judge.proofs.outcomes.excludes.Goals as goal

pub returns : goal.returns
returns c = (
  λ t. shut_by (λ a. arc_value {X = Stated} a) c.args.known.now c.args.j c.index-known-j.result c.deref.result.now c.as_slice.result.now c.args.cube.now c.if-j-known.false c.index-known-j.is c.deref.ensures c.as_slice.ensures (c.is_denied.ensures.0 t),
  λ s. c.is_denied.ensures.1 (shut_at (λ a. arc_value {X = Stated} a) c.args.known.now c.args.j c.index-known-j.result c.deref.result.now c.as_slice.result.now c.args.cube.now c.if-j-known.false c.index-known-j.is c.deref.ensures c.as_slice.ensures s),
)
