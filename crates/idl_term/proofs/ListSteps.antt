-- A list is opened by its head.
use Rattle.std.proofs.Common.{◌≡◌, ℕ, ◌+◌, List, [], ◌∷◌, refl, sym, ap, subst, ◌∙◌, arith}
use Rattle.std.specs.Prelude.{Result, Err}
use Rattle.smt_lex.specs.declared.token.TokenKind.{TokenKind}
use Rattle.smt_sexpr.specs.Table.{Table}
use Rattle.smt_sexpr.specs.Tree.{Sexpr, Items, leaf, list, more}
use Rattle.idl_node.specs.Nodes.{NodeValue}
use Rattle.idl_term.specs.Lowered.{Head, operator, binder, refused, head_of, lowered, lowered_list, lowered_leaf}
use Rattle.idl_scope.specs.Scopes.{Scope}
use Rattle.idl_term.specs.code.Trees.{tree_of, trees_of, size_of, sizes_of}
use Rattle.idl_term.specs.code.Walks.{Walk, scope_at, outcome_behind, outcome_from, weight, Steps, let_made, application_made}
use Rattle.idl_apply.specs.Applied.{Made}
use Rattle.idl_apply.specs.declared.error.TermError.{TermError}
use Rattle.idl_apply.specs.declared.error.TermError.TheVariants.{Refused}
use Rattle.idl_apply.specs.declared.error.TermRefusal.{TermRefusal}
use Rattle.idl_apply.specs.declared.error.TermRefusal.TheVariants.{IllFormedTerm}
use Rattle.idl_apply.specs.declared.operator.Operator.{Operator}
use Rattle.idl_term.proofs.MachineSteps.{steps_from}

pub nothing_refused : (w : Walk) (nodes : List NodeValue) (items : List ℕ) → items ≡ [] → outcome_behind w (lowered_list (scope_at w) nodes (trees_of w.table items)) ≡ Err IllFormedTerm
unfolding lowered_list
nothing_refused w nodes items e = rw e refl

-- what is made where the head is known
abbrev pub headed : Scope → List NodeValue → Items → Head → Result Made TermRefusal
headed scope nodes arguments (operator o) = application_made o scope nodes arguments
headed scope nodes arguments binder = let_made scope nodes arguments
headed scope nodes arguments (refused why) = Err why

pub by_head : (scope : Scope) (nodes : List NodeValue) (x : Sexpr) (arguments : Items) → lowered_list scope nodes (more x arguments) ≡ headed scope nodes arguments (head_of scope x)
unfolding lowered_list
by_head scope nodes x arguments = refl

made_by : (scope : Scope) (nodes : List NodeValue) (t : Table) (items : List ℕ) (head : ℕ) (others : List ℕ) (h : Head) → items ≡ head ∷ others → head_of scope (tree_of t head) ≡ h → lowered_list scope nodes (trees_of t items) ≡ headed scope nodes (trees_of t others) h
made_by scope nodes t items head others h e is = ap (λ (is : List ℕ). lowered_list scope nodes (trees_of t is)) e ∙ by_head scope nodes (tree_of t head) (trees_of t others) ∙ ap (headed scope nodes (trees_of t others)) is

pub head_refused : (w : Walk) (nodes : List NodeValue) (items : List ℕ) (head : ℕ) (others : List ℕ) (why : TermRefusal) → items ≡ head ∷ others → head_of (scope_at w) (tree_of w.table head) ≡ refused why → outcome_behind w (lowered_list (scope_at w) nodes (trees_of w.table items)) ≡ Err why
head_refused w nodes items head others why e h = ap (outcome_behind w) (made_by (scope_at w) nodes w.table items head others (refused why) e h)

pub opened_by_operator : (w new : Walk) (nodes : List NodeValue) (items : List ℕ) (head : ℕ) (others : List ℕ) (o : Operator) (r : Result (Unit {0}) TermError) → items ≡ head ∷ others → head_of (scope_at w) (tree_of w.table head) ≡ operator o
    → Steps (outcome_behind w (application_made o (scope_at w) nodes (trees_of w.table others))) (weight w.table w.frames + (3 + sizes_of (trees_of w.table others))) w new nodes r
    → Steps (outcome_behind w (lowered_list (scope_at w) nodes (trees_of w.table items))) (weight w.table w.frames + (3 + sizes_of (trees_of w.table items))) w new nodes r
opened_by_operator w new nodes items head others o r e h s =
    let size : sizes_of (trees_of w.table items) ≡ size_of (tree_of w.table head) + (1 + sizes_of (trees_of w.table others)) = ap (λ (is : List ℕ). sizes_of (trees_of w.table is)) e in
    steps_from _ _ _ _ w w new nodes r (ap (outcome_behind w) (sym (made_by (scope_at w) nodes w.table items head others (operator o) e h))) (omega (arith, size)) refl refl s

pub opened_by_let : (w new : Walk) (nodes : List NodeValue) (items : List ℕ) (head : ℕ) (others : List ℕ) (r : Result (Unit {0}) TermError) → items ≡ head ∷ others → head_of (scope_at w) (tree_of w.table head) ≡ binder
    → Steps (outcome_behind w (let_made (scope_at w) nodes (trees_of w.table others))) (weight w.table w.frames + (3 + sizes_of (trees_of w.table others))) w new nodes r
    → Steps (outcome_behind w (lowered_list (scope_at w) nodes (trees_of w.table items))) (weight w.table w.frames + (3 + sizes_of (trees_of w.table items))) w new nodes r
opened_by_let w new nodes items head others r e h s =
    let size : sizes_of (trees_of w.table items) ≡ size_of (tree_of w.table head) + (1 + sizes_of (trees_of w.table others)) = ap (λ (is : List ℕ). sizes_of (trees_of w.table is)) e in
    steps_from _ _ _ _ w w new nodes r (ap (outcome_behind w) (sym (made_by (scope_at w) nodes w.table items head others binder e h))) (omega (arith, size)) refl refl s

-- ---- a term of an id

pub lowered_of_leaf : (scope : Scope) (nodes : List NodeValue) (x : Sexpr) (kind : TokenKind) (text : List ℕ) → x ≡ leaf kind text → lowered scope nodes x ≡ lowered_leaf scope nodes kind text
unfolding lowered
lowered_of_leaf scope nodes x kind text e = rw e refl

pub lowered_of_list : (scope : Scope) (nodes : List NodeValue) (x : Sexpr) (items : Items) → x ≡ list items → lowered scope nodes x ≡ lowered_list scope nodes items
unfolding lowered
lowered_of_list scope nodes x items e = rw e refl

pub entered_leaf : (w new : Walk) (before nodes : List NodeValue) (id : ℕ) (kind : TokenKind) (text : List ℕ) (r : Result (Unit {0}) TermError) → tree_of w.table id ≡ leaf kind text
    → Steps (outcome_behind w (lowered_leaf (scope_at w) before kind text)) (weight w.table w.frames + 1) w new nodes r → Steps (outcome_from w before id) (weight w.table w.frames + size_of (tree_of w.table id)) w new nodes r
entered_leaf w new before nodes id kind text r e s =
    let size : size_of (tree_of w.table id) ≡ 1 = ap size_of e in
    steps_from _ _ _ _ w w new nodes r (ap (outcome_behind w) (sym (lowered_of_leaf (scope_at w) before (tree_of w.table id) kind text e))) (omega (arith, size)) refl refl s

pub entered_list : (w new : Walk) (nodes : List NodeValue) (id : ℕ) (items : List ℕ) (r : Result (Unit {0}) TermError) → tree_of w.table id ≡ list (trees_of w.table items)
    → Steps (outcome_behind w (lowered_list (scope_at w) nodes (trees_of w.table items))) (weight w.table w.frames + (3 + sizes_of (trees_of w.table items))) w new nodes r → Steps (outcome_from w nodes id) (weight w.table w.frames + size_of (tree_of w.table id)) w new nodes r
entered_list w new nodes id items r e s =
    let size : size_of (tree_of w.table id) ≡ 3 + sizes_of (trees_of w.table items) = ap size_of e in
    steps_from _ _ _ _ w w new nodes r (ap (outcome_behind w) (sym (lowered_of_list (scope_at w) nodes (tree_of w.table id) (trees_of w.table items) e))) (omega (arith, size)) refl refl s

pub steps_ill_formed : (before : Result Made TermRefusal) (limit : ℕ) (old new : Walk) (nodes : List NodeValue) (e : TermError) → e ≡ Refused IllFormedTerm → before ≡ Err IllFormedTerm → Steps before limit old new nodes (Err e)
steps_ill_formed before limit old new nodes e is h = subst (λ (x : TermError). Steps before limit old new nodes (Err x)) (sym is) h
