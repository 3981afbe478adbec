use Rattle.std.proofs.Common.{◌≡◌, length, arith}
use Rattle.std.specs.Vec.{vec_len}
use Rattle.cert_text.proofs.KeptFronts.{front_behind}
use Rattle.cert_text.proofs.writer.LemmaPart.write.Goals as goal

pub returns-clause-front : goal.returns-clause-front
returns-clause-front c =
    let start : vec_len c.args.out.now ≡ length c.args.out.now.items = omega arith in
    let opened : vec_len c.push_str.new.self ≡ length c.push_str.new.self.items = omega arith in
    let clause : vec_len c.write_clause.new.out ≡ length c.write_clause.new.out.items = omega arith in
    front_behind _ _ _ _ _ _ start opened c.in_ok-push_str.ensures.ok (front_behind _ _ _ _ _ _ opened clause c.in_ok-write_clause.ensures.ok c.write_steps.ensures.front)
