-- The commands and states of the worked examples.
use Rattle.std.specs.Prelude.{ℕ, List, [], ◌∷◌, codes, ℤ, pos, Some, None, Result, Ok}
use Rattle.smt_lex.specs.Symbols.{symbol_content}
use Rattle.smt_lex.specs.declared.token.TokenKind.TheVariants.{Keyword}
use Rattle.smt_sexpr.specs.Tree.{Sexpr, leaf, none, more}
use Rattle.smt_sexpr.specs.Shapes.{symbol, list_of, form}
use Rattle.idl_node.specs.Nodes.{atom}
use Rattle.idl_node.specs.declared.sort.Sort.TheVariants as sort
use Rattle.idl_term.specs.Contexts.{Context, start_context}
use Rattle.idl_term.specs.Examples.{p, literal}
use Rattle.idl_term.specs.Scopes.{formula}
use Rattle.smt_script.specs.States.{State, Step, start_state}
use Rattle.smt_script.specs.declared.error.Refusal.{Refusal}
use Rattle.smt_script.specs.declared.state.Effect.TheVariants.{Ask}
use Rattle.smt_script.specs.declared.state.Mode.TheVariants as mode
use Rattle.smt_script.specs.declared.state.Question.TheVariants.{Minimize}

abbrev pub keyword : List ℕ → Sexpr
keyword text = leaf Keyword text

-- the symbol with these bytes, bars and all
abbrev pub written : List ℕ → Sexpr
written raw = symbol (symbol_content raw)

abbrev pub no_parameters : Sexpr
no_parameters = list_of []

-- (declare-const name sort)
abbrev pub declares : Sexpr → List ℕ → Sexpr
declares name sort_name = form (codes "declare-const") (name ∷ symbol sort_name ∷ [])

-- (assert (! p ..))
abbrev pub asserts_p : List Sexpr → Sexpr
asserts_p attributes = form (codes "assert") (form (codes "!") (p ∷ attributes) ∷ [])

-- (minimize ..)
abbrev pub minimizes : List Sexpr → Sexpr
minimizes terms = form (codes "minimize") terms

-- :named name
abbrev pub named : List ℕ → List Sexpr
named name = keyword (codes ":named") ∷ symbol name ∷ []

abbrev pub in_context : Context → State
in_context c = record start_state { context = c }

-- (declare-const x Int)
abbrev pub with_x : State
with_x = in_context (record start_context { declared = record { name = codes "x"; sort = sort.Int } ∷ [] })

abbrev pub context_p : Context
context_p = record start_context { declared = record { name = codes "p"; sort = sort.Bool } ∷ [] }

-- (declare-const p Bool)
abbrev pub with_p : State
with_p = in_context context_p

-- and (assert (! p :named n))
abbrev pub context_n : Context
context_n = record context_p {
  defined = record { name = codes "n"; term = p; stands = formula 0 } ∷ [];
  assertions = p ∷ [];
  nodes = atom (literal 1 0 (pos 0)) ∷ [];
  roots = 0 ∷ [];
}

abbrev pub with_n : State
with_n = record (in_context context_n) { labels = Some (codes "n") ∷ [] }

-- (declare-const p Bool) and (push 2)
abbrev pub with_levels : State
with_levels = record with_p { below = context_p ∷ context_p ∷ [] }

-- and (assert (! p :named n)) on top
abbrev pub with_n_on_top : State
with_n_on_top = record with_n { below = context_p ∷ context_p ∷ [] }

-- the question of x - y + k in the state behind (declare-const x Int)
abbrev pub minimizing : ℕ → ℕ → ℤ → Result Step Refusal
minimizing x y k = Ok (record { state = with_x; effect = Ask (Minimize (record { x = x; y = y; k = k })) })

-- (check-sat-assuming (..))
abbrev pub assumes : List Sexpr → Sexpr
assumes literals = form (codes "check-sat-assuming") (list_of literals ∷ [])

-- (declare-const p Bool) and (assert p)
abbrev pub context_asked : Context
context_asked = record context_p {
  assertions = p ∷ [];
  nodes = atom (literal 1 0 (pos 0)) ∷ [];
  roots = 0 ∷ [];
}

-- (declare-const p Bool) and (check-sat-assuming (p)), and behind its `unsat`
abbrev pub assuming_p : State
assuming_p = record (in_context context_asked) {
  labels = None ∷ [];
  assumed = Some (record { literals = more p none; active = context_p; asked = context_asked });
}

abbrev pub answered_p : State
answered_p = record with_p {
  mode = mode.Unsat;
  assumed = Some (record { literals = more p none; active = context_p; asked = context_asked });
}
