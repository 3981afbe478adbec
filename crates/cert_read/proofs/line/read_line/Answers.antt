use Rattle.std.proofs.Common.{◌∙◌, refl, sym, ap, Ok, Some}
use Rattle.cert_read.proofs.OpenedLines.{ill_formed, line_is, line_forward, line_refused, token_refused, error_refused}
use Rattle.cert_read.proofs.line.read_line.Goals as goal

pub returns-in-Ok-None-clause-refused : goal.returns-in-Ok-None-clause-refused
returns-in-Ok-None-clause-refused c =
    (c.next.new.self.place, rw (c.in-Ok-None.is ∙ ap Ok c.in-Ok-None.field-0-is) at c.next.ensures.reads c.requires.fresh)

pub returns-in-Err-clause-refused : goal.returns-in-Err-clause-refused
returns-in-Err-clause-refused c =
    error_refused c.args.version c.args.lexer.now.bytes c.args.lexer.now.place c.next.new.self.place c.args.count c.in-Err.field-0 (rw c.in-Err.is at c.next.ensures.reads c.requires.fresh)

pub returns-in_default : goal.returns-in_default
returns-in_default c =
    let is = c.in-Ok-Some.is ∙ ap Ok c.in-Ok-Some.field-0-is ∙ ap (λ k. Ok (Some k)) (sym c.in-Ok-Some.token-is) in
    let reads = rw is at c.next.ensures.reads c.requires.fresh in
    record {
      line = tt;
      refused = token_refused c.args.version c.args.lexer.now.bytes c.args.lexer.now.place c.next.new.self.place c.args.count c.in-Ok-Some.token reads c.in_default.not-Left;
      fresh = tt;
      forward = tt;
      within = tt;
      lexer_bytes = c.next.ensures.bytes;
      table_bytes = refl;
    }

pub returns-in-Ok-clause-line : goal.returns-in-Ok-clause-line
returns-in-Ok-clause-line c =
    let is = c.in-Ok-Some.is ∙ ap Ok c.in-Ok-Some.field-0-is ∙ ap (λ k. Ok (Some k)) (sym c.in-Ok-Some.token-is) in
    let reads = rw is at c.next.ensures.reads c.requires.fresh in
    line_is c.args.lexer.now.bytes c.args.lexer.now.place c.next.new.self.place c.in-Ok-Some.token reads c.in-Left.is c.args.version c.in-Ok.line c.read_opened.new.lexer.place (rw c.next.ensures.bytes at c.in-Ok.ensures.ok)

pub returns-in-Ok-clause-forward : goal.returns-in-Ok-clause-forward
returns-in-Ok-clause-forward c =
    let is = c.in-Ok-Some.is ∙ ap Ok c.in-Ok-Some.field-0-is ∙ ap (λ k. Ok (Some k)) (sym c.in-Ok-Some.token-is) in
    let reads = rw is at c.next.ensures.reads c.requires.fresh in
    line_forward c.args.lexer.now.bytes c.args.lexer.now.place c.next.new.self.place c.in-Ok-Some.token reads c.in-Left.is c.args.version c.in-Ok.line c.read_opened.new.lexer.place (rw c.next.ensures.bytes at c.in-Ok.ensures.ok)

pub returns-in-Err-IllFormed-clause-refused : goal.returns-in-Err-IllFormed-clause-refused
returns-in-Err-IllFormed-clause-refused c =
    let is = c.in-Ok-Some.is ∙ ap Ok c.in-Ok-Some.field-0-is ∙ ap (λ k. Ok (Some k)) (sym c.in-Ok-Some.token-is) in
    let reads = rw is at c.next.ensures.reads c.requires.fresh in
    line_refused c.args.lexer.now.bytes c.args.lexer.now.place c.next.new.self.place c.in-Ok-Some.token reads c.in-Left.is c.args.version c.args.count (ill_formed _ c.in-Err-IllFormed.field-0 c.in-Err-IllFormed.field-0-is (rw c.next.ensures.bytes at c.in-Err-IllFormed.ensures.err))
