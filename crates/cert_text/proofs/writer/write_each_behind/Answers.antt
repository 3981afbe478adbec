use Rattle.std.proofs.Common.{◌≡◌, ◌<◌, length, arith}
use Rattle.std.specs.Vec.{vec_len}
use Rattle.refute_tree.specs.code.Views.{literals_of}
use Rattle.cert_text.proofs.EachLiteral.{each_more}
use Rattle.cert_text.proofs.KeptFronts.{front_kept}
use Rattle.cert_text.proofs.writer.write_each_behind.Goals as goal

pub returns-in_err-write_next-clause-front : goal.returns-in_err-write_next-clause-front
returns-in_err-write_next-clause-front c =
    let start : vec_len c.args.out.now ≡ length c.args.out.now.items = omega arith in
    let item : vec_len c.loop-place.out ≡ length c.loop-place.out.items = omega arith in
    front_kept _ _ _ _ _ start item c.loop-place.invariant.front c.in_err-write_next.ensures.front

pub loop-place-preserved : goal.loop-place-preserved
loop-place-preserved c =
    let start : vec_len c.args.out.now ≡ length c.args.out.now.items = omega arith in
    let item : vec_len c.loop-place.out ≡ length c.loop-place.out.items = omega arith in
    let within : c.loop-place.place < length (literals_of c.args.cycle) = omega (arith, c.len-place-end.ensures, c.loop-place-test.true) in
    record {
      written = each_more (literals_of c.args.cycle) c.loop-place.place c.at.result _ _ _ within c.at.ensures c.in_ok-write_next.ensures.ok c.loop-place.invariant.written;
      front = front_kept _ _ _ _ _ start item c.loop-place.invariant.front c.in_ok-write_next.ensures.front;
    }
