use Rattle.std.proofs.Common.{arith, ◌≡◌, take}
use Rattle.std.specs.Vec.{vec_len}
use Rattle.smt_answer.proofs.Fronts.{front_behind, front_kept}
use Rattle.smt_answer.proofs.Pairs.{means_at, written_more, written_all}
use Rattle.smt_answer.proofs.values.write_pairs_behind.Goals as goal

pub write_pair-requires : goal.write_pair-requires
write_pair-requires c = means_at c.args.sexprs.now c.args.terms.now c.requires.meaning.0 c.loop-i.i c.requires.meaning.1 (omega arith)

pub returns-in_err-write_pair-clause-front : goal.returns-in_err-write_pair-clause-front
returns-in_err-write_pair-clause-front c =
    let kept : take (vec_len c.loop-i.out) c.write_pair.new.out.items ≡ c.loop-i.out.items = front_behind _ _ _ _ _ _ (omega arith) (omega arith) c.in_ok-push_str.ensures.ok c.in_err-write_pair.ensures.front in
    front_kept _ _ _ _ _ (omega arith) (omega arith) c.loop-i.invariant.front kept

pub loop-i-preserved : goal.loop-i-preserved
loop-i-preserved c =
    let kept : take (vec_len c.loop-i.out) c.write_pair.new.out.items ≡ c.loop-i.out.items = front_behind _ _ _ _ _ _ (omega arith) (omega arith) c.in_ok-push_str.ensures.ok c.in_ok-write_pair.ensures.front in
    record {
      written = written_more c.args.sexprs.now c.args.terms.now c.args.answers.now c.args.out.now.items c.loop-i.out.items c.push_str.new.self.items c.write_pair.new.out.items c.loop-i.i c.loop-i.invariant.written (omega arith) (omega arith) c.in_ok-push_str.ensures.ok c.in_ok-write_pair.ensures.ok;
      front = front_kept _ _ _ _ _ (omega arith) (omega arith) c.loop-i.invariant.front kept;
    }

pub returns-clause-ok : goal.returns-clause-ok
returns-clause-ok c =
    written_all c.args.sexprs.now c.args.terms.now c.args.answers.now c.args.out.now.items c.loop-i.out.items c.push_str-2.new.self.items c.loop-i.i c.loop-i.invariant.written (omega arith) c.in_ok-push_str-2.ensures.ok
