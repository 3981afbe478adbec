use Rattle.std.proofs.Common.{arith, ltb-true, length, refl, sym}
use Rattle.std.proofs.lemmas.Option.{slice_get_read}
use Rattle.branch_search.proofs.Learned.{one_more_in, excluded_by, excluded_at}
use Rattle.branch_search.proofs.conflict.excludes.Goals as goal

pub loop-q-preserved : goal.loop-q-preserved
loop-q-preserved c = record {
  each = one_more_in c.args.cube.now c.as_slice-clause.result.now c.loop-q.q c.in-Some-denial_in._place c.in-Some-denial_in.ensures.within c.in-Some-denial_in.ensures.is c.loop-q.invariant.each;
}

pub returns-clause-sound : goal.returns-clause-sound
returns-clause-sound c said =
    excluded_by c.args.cube.now c.as_slice-clause.result.now c.args.own.now c.in-Some.lemma.now c.args.j (slice_get_read c.args.own.now (length c.args.own.now) c.args.j c.in-Some.lemma.now refl (ltb-true _ _ (sym c.in-Some.ensures.lookup.0)) c.in-Some.ensures.lookup.1) c.as_slice-clause.ensures
    (λ i lt. c.loop-q.invariant.each i (omega (arith, lt, c.loop-q-test.false)))

pub returns-in_default-denial_in-clause-all : goal.returns-in_default-denial_in-clause-all
returns-in_default-denial_in-clause-all c ex =
    let there = slice_get_read c.args.own.now (length c.args.own.now) c.args.j c.in-Some.lemma.now refl (ltb-true _ _ (sym c.in-Some.ensures.lookup.0)) c.in-Some.ensures.lookup.1 in
    let at = excluded_at c.args.cube.now c.as_slice-clause.result.now c.args.own.now c.in-Some.lemma.now c.args.j c.loop-q.q there c.as_slice-clause.ensures (omega (arith, c.loop-q-test.true)) ex in
    absurd (c.in_default-denial_in.ensures.none at.0 at.1 at.2)
