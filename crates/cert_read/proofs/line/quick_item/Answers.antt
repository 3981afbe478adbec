use Rattle.std.proofs.Common.{ap, arith}
use Rattle.std.proofs.lemmas.List.{take_rest}
use Rattle.smt_lex.specs.code.Lexing.{Lexing}
use Rattle.cert_read.proofs.QuickTexts.{quick_found}
use Rattle.cert_read.proofs.line.quick_item.Goals as goal

pub returns-in-Some-clause-some : goal.returns-in-Some-clause-some
returns-in-Some-clause-some g c =
    let read = rw c.in-Some.is at c.in_ok-part.ensures in
    quick_found c.reads_back.ensures (g.T.Part.meant c.args.version) c.args.lexer.now.bytes _ c.args.lexer.now.place c.skip.new.self.place c.in-Some.part c.in-Some.rest.now
    (omega (arith, c.place.ensures.within, c.place.ensures.place)) (rw (c.place.ensures.place, c.bytes.ensures) (take_rest c.args.lexer.now.bytes c.args.lexer.now.place)) (ap (λ (l : Lexing). l.place) c.skip.ensures) read
