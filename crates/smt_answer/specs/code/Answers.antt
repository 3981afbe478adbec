-- The values of terms, the names of a core, and assumptions, as the code hands them on.
use Rattle.std.specs.Prelude.{◌≡◌, ℕ, List, [], ◌∷◌, ◌++◌, Bool, true, false, Option, Some, None, slice_index_or}
use Rattle.std.specs.Borrow.{Bor}
use Rattle.smt_sexpr.specs.Tree.{Sexpr, Items, none, more}
use Rattle.smt_sexpr.specs.Printing.{text_of, text_behind}
use Rattle.idl_term.specs.Values.{Value}
use Rattle.smt_script.specs.code.Shapes.{shown_literal}
use Rattle.smt_script.specs.code.TermValues.{value_shown}
use Rattle.smt_script.specs.declared.assumption.AssumedLiteral.{AssumedLiteral}
use Rattle.smt_script.specs.declared.value.TermValue.{TermValue}
use Rattle.smt_answer.specs.Texts.{names_behind, names_text}

-- one for each term, in order
abbrev pub AreAnswers : (Sexpr → Value) → Items → List TermValue → Type 0
AreAnswers value_of none [] = Unit {0}
AreAnswers value_of (more t ts) (v ∷ answers) = (value_of t ≡ value_shown v) × AreAnswers value_of ts answers
AreAnswers value_of _ _ = ⊥

-- the names that are to come, of which the first may be the line's first
abbrev pub names_to_come : Bool → List (List ℕ) → List ℕ
names_to_come true names = names_text names
names_to_come false names = names_behind names

-- whether the assertion of this number is marked
abbrev pub is_marked : List Bool → ℕ → Bool
is_marked marks number = slice_index_or marks number false

-- items that are to come, of which the first may be the list's first
abbrev pub items_text : Items → List ℕ
items_text none = 41 ∷ []
items_text (more x xs) = text_of x ++ text_behind xs

abbrev pub items_to_come : Bool → Items → List ℕ
items_to_come true xs = items_text xs
items_to_come false xs = text_behind xs

-- in front of others, where there is one
abbrev pub with_found : Option Sexpr → Items → Items
with_found (Some x) xs = more x xs
with_found None xs = xs

abbrev pub found_literal : Option (Bor AssumedLiteral) → Option Sexpr
found_literal (Some l) = Some (shown_literal l.now)
found_literal None = None
