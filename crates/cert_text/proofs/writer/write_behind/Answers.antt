use Rattle.std.proofs.Common.{◌≡◌, length, arith}
use Rattle.std.specs.Vec.{vec_len}
use Rattle.cert_text.proofs.KeptFronts.{front_kept}
use Rattle.cert_text.proofs.writer.write_behind.Goals as goal

pub returns-in_err-write_next-clause-front : goal.returns-in_err-write_next-clause-front
returns-in_err-write_next-clause-front g c =
    let start : vec_len c.args.out.now ≡ length c.args.out.now.items = omega arith in
    let item : vec_len c.loop-item.out ≡ length c.loop-item.out.items = omega arith in
    front_kept _ _ _ _ _ start item c.loop-item.invariant.front c.in_err-write_next.ensures.front
