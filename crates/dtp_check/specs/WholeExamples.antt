-- Worked examples: scripts behind which a certificate can be appended, or can't.
use Rattle.std.specs.Prelude.{ℕ, List, codes}
use Rattle.smt_lex.specs.declared.token.TokenKind.TheVariants.{Symbol}
use Rattle.smt_sexpr.specs.Tree.{Sexpr, leaf, list, none, more}

-- (exit)
abbrev pub exit_sexpr : Sexpr
exit_sexpr = list (more (leaf Symbol (codes "exit")) none)

abbrev pub ends_at_exit : List ℕ
ends_at_exit = codes "(exit)"

abbrev pub ends_with_line : List ℕ
ends_with_line = codes "(exit) ; done\n"

-- what is appended would stand in the comment
abbrev pub ends_in_comment : List ℕ
ends_in_comment = codes "(exit) ; done"
