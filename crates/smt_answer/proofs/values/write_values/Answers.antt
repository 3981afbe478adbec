use Rattle.std.proofs.Common.{arith, ◌≡◌, take}
use Rattle.std.specs.Vec.{vec_len}
use Rattle.smt_answer.proofs.Fronts.{front_behind, front_kept}
use Rattle.smt_answer.proofs.Pairs.{means_at, no_pairs, pairs_written}
use Rattle.smt_answer.proofs.values.write_values.Goals as goal

pub write_pair-requires : goal.write_pair-requires
write_pair-requires c = means_at c.args.sexprs.now c.args.terms.now c.requires.meaning.0 0 c.requires.meaning.1 (omega arith)

pub returns-in_err-write_pair-clause-front : goal.returns-in_err-write_pair-clause-front
returns-in_err-write_pair-clause-front c = front_behind _ _ _ _ _ _ (omega arith) (omega arith) c.in_ok-push_str.ensures.ok c.in_err-write_pair.ensures.front

pub returns-in_err-write_pairs_behind-clause-front : goal.returns-in_err-write_pairs_behind-clause-front
returns-in_err-write_pairs_behind-clause-front c =
    let kept : take (vec_len c.args.out.now) c.write_pair.new.out.items ≡ c.args.out.now.items = front_behind _ _ _ _ _ _ (omega arith) (omega arith) c.in_ok-push_str.ensures.ok c.in_ok-write_pair.ensures.front in
    front_kept _ _ _ _ _ (omega arith) (omega arith) kept c.in_err-write_pairs_behind.ensures.front

pub returns-clause-front : goal.returns-clause-front
returns-clause-front c =
    let kept : take (vec_len c.args.out.now) c.write_pair.new.out.items ≡ c.args.out.now.items = front_behind _ _ _ _ _ _ (omega arith) (omega arith) c.in_ok-push_str.ensures.ok c.in_ok-write_pair.ensures.front in
    front_kept _ _ _ _ _ (omega arith) (omega arith) kept c.in_ok-write_pairs_behind.ensures.front

pub returns-then-terms-eq0-clause-ok : goal.returns-then-terms-eq0-clause-ok
returns-then-terms-eq0-clause-ok c = λ value_of ts means answers. no_pairs c.args.sexprs.now value_of c.args.terms.now ts c.args.answers.now _ _ _ (omega arith) means c.in_ok-push_str.ensures.ok c.in_ok-push_str-2.ensures.ok

pub returns-clause-ok : goal.returns-clause-ok
returns-clause-ok c = λ value_of ts means answers.
    pairs_written c.args.sexprs.now value_of c.args.terms.now ts c.args.answers.now _ _ _ _ (omega arith) means answers c.in_ok-push_str.ensures.ok c.in_ok-write_pair.ensures.ok (c.in_ok-write_pairs_behind.ensures.ok value_of)
