use Rattle.std.proofs.Common.{arith, inr, refl}
use Rattle.std.proofs.lemmas.Option.{slice_get_within}
use Rattle.cover_tree.proofs.Branching.{branches}
use Rattle.book_core.proofs.closing.write_node.Goals as goal

pub overflow_add-first : goal.overflow_add-first
overflow_add-first c =
    let b = branches c.args.cover.now c.requires.cover c.args.k c.in-Split.literal c.in-Split.first c.in-Split.ensures.at in
    omega (arith, b.there, c.in-Split.ensures.small)

pub clause-requires : goal.clause-requires
clause-requires c = let x = c.requires.shut c.args.k c.in-Shut.j c.in-Shut.ensures.at in slice_get_within _ _ _ x.1

pub returns-in_ok-write_leaf-in-Shut : goal.returns-in_ok-write_leaf-in-Shut
returns-in_ok-write_leaf-in-Shut c = inr (record {
  lemma = c.in-Shut.j;
  clause = c.clause.result.now;
  at = c.in-Shut.ensures.at;
  stated = c.clause.ensures;
  written = c.in_ok-write_leaf-in-Shut.ensures;
  waits = refl;
})
