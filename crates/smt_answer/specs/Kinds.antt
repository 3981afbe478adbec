-- Why a command is refused, of all that may refuse it: it can't be read, or it was read and is refused.
use Rattle.smt_lex.specs.declared.token.LexErrorKind.{LexErrorKind}
use Rattle.smt_lex.specs.declared.token.LexErrorKind.TheVariants as lex
use Rattle.smt_sexpr.specs.declared.error.SexprRefusal.{SexprRefusal}
use Rattle.smt_sexpr.specs.declared.error.SexprRefusal.TheVariants as sexpr
use Rattle.smt_script.specs.declared.error.Refusal.{Refusal}
use Rattle.smt_answer.specs.declared.kind.Kind.{Kind}
use Rattle.smt_answer.specs.declared.kind.Kind.TheVariants.{BadByte, UnclosedString, UnclosedQuotedSymbol, LeadingZero, UnclosedList, StrayClose, Command}

abbrev pub lexical_kind : LexErrorKind → Kind
lexical_kind lex.BadByte = BadByte
lexical_kind lex.UnclosedText = UnclosedString
lexical_kind lex.UnclosedSymbol = UnclosedQuotedSymbol
lexical_kind lex.LeadingZero = LeadingZero

-- why an s-expression can't be read
abbrev pub kind_of_unreadable : SexprRefusal → Kind
kind_of_unreadable (sexpr.Lex error) = lexical_kind error.kind
kind_of_unreadable (sexpr.UnclosedList place) = UnclosedList
kind_of_unreadable (sexpr.StrayClose place) = StrayClose

-- why a command that was read is refused
abbrev pub kind_of : Refusal → Kind
kind_of why = Command why
