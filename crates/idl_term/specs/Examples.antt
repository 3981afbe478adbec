-- The s-expressions, schedules and scopes of the worked examples.
use Rattle.std.specs.Prelude.{ℕ, List, [], ◌∷◌, codes, ℤ, pos, negsuc, true}
use Rattle.smt_lex.specs.declared.token.TokenKind.TheVariants.{Numeral}
use Rattle.smt_sexpr.specs.Shapes.{symbol, list_of, form}
use Rattle.smt_sexpr.specs.Tree.{Sexpr, leaf}
use Rattle.stn_core.specs.declared.literal.Literal.{Literal}
use Rattle.idl_node.specs.declared.sort.Sort.TheVariants as sort
use Rattle.idl_linear.specs.Linear.{LinearValue, sum_of, number_alone, point_alone}
use Rattle.idl_node.specs.Nodes.{NodeValue, atom}
use Rattle.idl_cases.specs.Guarded.{CaseValue}
use Rattle.idl_scope.specs.Scopes.{Scope}
use Rattle.idl_term.specs.Values.{Named, whole, truth}

abbrev pub numeral : List ℕ → Sexpr
numeral digits = leaf Numeral digits

abbrev pub x : Sexpr
x = symbol (codes "x")

abbrev pub y : Sexpr
y = symbol (codes "y")

abbrev pub p : Sexpr
p = symbol (codes "p")

abbrev pub q : Sexpr
q = symbol (codes "q")

abbrev pub one : Sexpr
one = numeral (codes "1")

abbrev pub two : Sexpr
two = numeral (codes "2")

-- (ite p x y)
abbrev pub choice : Sexpr
choice = form (codes "ite") (p ∷ x ∷ y ∷ [])

-- declared by nobody
abbrev pub z : Sexpr
z = symbol (codes "z")

-- (v t)
abbrev pub binding : Sexpr → Sexpr → Sexpr
binding v t = list_of (v ∷ t ∷ [])

-- (let (b ..) body)
abbrev pub let_of : List Sexpr → Sexpr → Sexpr
let_of bindings body = form (codes "let") (list_of bindings ∷ body ∷ [])

-- x is 4, y is 7 and p is true
abbrev pub names : List Named
names = record { name = codes "x"; value = whole (pos 4) } ∷ record { name = codes "y"; value = whole (pos 7) } ∷ record { name = codes "p"; value = truth true } ∷ []

-- the time points of x, y, p and q are 1, 2, 3 and 4
abbrev pub scope : Scope
scope = record { declared = record { name = codes "x"; sort = sort.Int } ∷ record { name = codes "y"; sort = sort.Int } ∷ record { name = codes "p"; sort = sort.Bool } ∷ record { name = codes "q"; sort = sort.Bool } ∷ []; bound = [] }

abbrev pub literal : ℕ → ℕ → ℤ → Literal
literal from to bound = record { x = from; y = to; c = bound }

-- p is true, or not, and so with q
abbrev pub p_atom : NodeValue
p_atom = atom (literal 3 0 (pos 0))

abbrev pub no_p_atom : NodeValue
no_p_atom = atom (literal 0 3 (negsuc 0))

abbrev pub q_atom : NodeValue
q_atom = atom (literal 4 0 (pos 0))

abbrev pub no_q_atom : NodeValue
no_q_atom = atom (literal 0 4 (negsuc 0))

abbrev pub case : List ℕ → LinearValue → CaseValue
case guards linear = record { guards = guards; linear = linear }

-- a name's time point and a number
abbrev pub with_number : ℕ → ℕ → LinearValue
with_number point number = sum_of (point_alone point ∷ number_alone (pos number) ∷ [])
