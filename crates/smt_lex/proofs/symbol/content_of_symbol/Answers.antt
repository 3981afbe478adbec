use Rattle.smt_lex.proofs.SymbolContents.{content_cases, content_of_plain, content_of_barred}
use Rattle.smt_lex.proofs.symbol.content_of_symbol.Goals as goal

pub returns : goal.returns
returns c = record { cases = content_cases; plain = content_of_plain; barred = content_of_barred }
