use Rattle.std.proofs.lemmas.List.Elements.{All-push}
use Rattle.stn_core.specs.Literal.{IsOver}
use Rattle.search_tests.proofs.slices.clause_of.Goals as goal
use Rattle.search_tests.proofs.slices.clause_of.Goals.{then-is_small+in_ok-push, else-is_small}

pub loop-l-preserved : goal.loop-l-preserved
loop-l-preserved c = elim c.if-is_small.branch [
  | then-is_small+in_ok-push w ↦ rw w.kept-is (record {
    over = rw w.in_ok-push.ensures.items (All-push (IsOver c.args.points) _ _ c.loop-l.invariant.over (c.is_small.ensures w.if-is_small.true));
  })
  | else-is_small w ↦ rw w.kept-is (record { over = c.loop-l.invariant.over })
]
