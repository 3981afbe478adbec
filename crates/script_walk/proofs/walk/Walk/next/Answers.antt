use Rattle.std.proofs.Common.{refl}
use Rattle.script_walk.specs.declared.walk.Walk.{Walk}
use Rattle.script_walk.proofs.Carrying.{end_event}
use Rattle.script_walk.proofs.walk.Walk.next.Goals as goal

pub returns-in-End : goal.returns-in-End
returns-in-End c =
    let w : Walk = record c.args.self.now { lexer = c.read_next.new.lexer; sexprs = c.read_next.new.sexprs } in
    record {
      is = λ s stands. end_event c.args.self.now w s c.read_next.new.sexprs c.read_next.new.lexer.place c.in_ok-id.field-0 c.in-End.is c.in_ok-id.ensures.next refl refl;
      ready = λ more. absurd more;
      counted = λ more. absurd more;
      forward = λ more. absurd more;
      bytes = c.in_ok-id.ensures.lexer_bytes;
    }
