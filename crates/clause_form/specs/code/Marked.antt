-- Of the code and not of the meaning: the clauses of a node with its marks, and what the fresh points of a form say.
use Rattle.std.specs.Prelude.{◌≡◌, ℕ, List, ◌++◌, length}
use Rattle.stn_core.specs.declared.literal.Literal.{Literal}
use Rattle.idl_node.specs.Nodes.{NodeValue, shown}
use Rattle.clause_form.specs.declared.form.Form.{Form}
use Rattle.clause_form.specs.declared.form.Marks.{Marks}
use Rattle.clause_form.specs.code.Marking.{IsNumbering}
use Rattle.clause_form.specs.Polarity.{node_at}
use Rattle.clause_form.specs.ClauseForm.{fresh_point, asserted_clauses, denied_clauses, inner_clauses, when}

abbrev pub marked_clauses : Marks → ℕ → List NodeValue → List ℕ → ℕ → List (List Literal)
marked_clauses marks points nodes inner k =
    when marks.asserted (asserted_clauses points nodes inner k (node_at nodes k))
    ++ (when marks.denied (denied_clauses points nodes inner k (node_at nodes k))
    ++ when marks.inner (inner_clauses points nodes inner (fresh_point points inner k) (node_at nodes k)))

abbrev pub table_of : Form → List NodeValue
table_of form = shown form.nodes.now

-- it holds of all numbers of points and all inner nodes that the form's fresh points stand for
abbrev pub ForNumbers : Form → (ℕ → List ℕ → Type 0) → Type 0
ForNumbers form P =
    (points : ℕ) (inner : List ℕ) → IsNumbering points inner (length form.nodes.now) form.fresh.now → P points inner

-- these are appended
abbrev pub Appends : {A : Type 0} → Form → List A → List A → (ℕ → List ℕ → List A) → Type 0
Appends form before after added = ForNumbers form (λ points inner. after ≡ before ++ added points inner)
