-- Worked examples: what s-expressions stand for.
use Rattle.std.specs.Prelude.{[], ◌∷◌, codes}
use Rattle.smt_lex.specs.declared.token.TokenKind.TheVariants.{Numeral}
use Rattle.smt_sexpr.specs.Tree.{Sexpr, leaf}
use Rattle.smt_sexpr.specs.Shapes.{symbol, list_of, form}

abbrev zero : Sexpr
zero = leaf Numeral (codes "0")

abbrev one : Sexpr
one = leaf Numeral (codes "1")

abbrev two : Sexpr
two = leaf Numeral (codes "2")

-- (- 1)
abbrev below_zero : Sexpr
below_zero = form (codes "-") (one ∷ [])

-- (unsat (lemma () (input 0) (input 1) (cycle (1 2 (- 1)) (2 1 (- 1)))))
abbrev pub two_orders_sexpr : Sexpr
two_orders_sexpr = form (codes "unsat") (form (codes "lemma") (
    list_of []
    ∷ form (codes "input") (zero ∷ [])
    ∷ form (codes "input") (one ∷ [])
    ∷ form (codes "cycle") (list_of (one ∷ two ∷ below_zero ∷ []) ∷ list_of (two ∷ one ∷ below_zero ∷ []) ∷ [])
    ∷ []) ∷ [])

-- (- 0)
abbrev pub minus_zero : Sexpr
minus_zero = form (codes "-") (zero ∷ [])

-- 2^32 as a numeral
abbrev pub beyond_points : Sexpr
beyond_points = leaf Numeral (codes "4294967296")

-- 2^61 + 1 as a numeral
abbrev pub beyond_limit : Sexpr
beyond_limit = leaf Numeral (codes "2305843009213693953")

-- 2^90 as a numeral
abbrev pub greatest_value : Sexpr
greatest_value = leaf Numeral (codes "1237940039285380274899124224")

-- 2^90 + 1
abbrev pub beyond_values : Sexpr
beyond_values = leaf Numeral (codes "1237940039285380274899124225")

-- (clash 0)
abbrev pub clash_sexpr : Sexpr
clash_sexpr = form (codes "clash") (zero ∷ [])

-- (clash 0 1)
abbrev pub clash_of_two : Sexpr
clash_of_two = form (codes "clash") (zero ∷ one ∷ [])

-- (keep 2 0)
abbrev pub keep_sexpr : Sexpr
keep_sexpr = form (codes "keep") (two ∷ zero ∷ [])

-- (keep 2)
abbrev pub keep_of_one : Sexpr
keep_of_one = form (codes "keep") (two ∷ [])

-- (unsat (keep 2 0))
abbrev pub kept_entry_sexpr : Sexpr
kept_entry_sexpr = form (codes "unsat") (keep_sexpr ∷ [])

-- (best (- 1) (0 true))
abbrev pub best_sexpr : Sexpr
best_sexpr = form (codes "best") (below_zero ∷ list_of (zero ∷ symbol (codes "true") ∷ []) ∷ [])

-- (best (- 1))
abbrev pub best_without_values : Sexpr
best_without_values = form (codes "best") (below_zero ∷ [])

-- (unbounded (0 0 (- 1)) (1))
abbrev pub unbounded_sexpr : Sexpr
unbounded_sexpr = form (codes "unbounded") (list_of (zero ∷ zero ∷ below_zero ∷ []) ∷ list_of (one ∷ []) ∷ [])

-- (unbounded (0) (1 1))
abbrev pub point_twice : Sexpr
point_twice = form (codes "unbounded") (list_of (zero ∷ []) ∷ list_of (one ∷ one ∷ []) ∷ [])

-- (unbounded () (0 4294967295 4294967296))
abbrev pub points_beyond : Sexpr
points_beyond = form (codes "unbounded") (list_of [] ∷ list_of (zero ∷ leaf Numeral (codes "4294967295") ∷ beyond_points ∷ []) ∷ [])

-- (end 1)
abbrev pub end_with_more : Sexpr
end_with_more = form (codes "end") (one ∷ [])
