-- What lists begin with, and what bindings are.
use Rattle.std.proofs.Common.{◌≡◌, ℕ, List, Option, Some, None, Bool, true, false, refl, sym, ap, ◌∙◌}
use Rattle.std.specs.Prelude.{if◌then◌else◌, not}
use Rattle.smt_lex.specs.declared.token.TokenKind.{TokenKind}
use Rattle.smt_sexpr.specs.Tree.{Sexpr, Items, leaf, list, symbol_of}
use Rattle.idl_term.specs.Lowered.{refused, head_of, head_by, symbol_head, list_head, is_binding, may_be_bound, variable_in, name_in}
use Rattle.idl_apply.specs.Operators.{is_reserved}
use Rattle.idl_scope.specs.Scopes.{Scope}
use Rattle.idl_apply.specs.declared.error.TermRefusal.TheVariants.{IllFormedTerm}

pub head_symbol : (scope : Scope) (x : Sexpr) (name : List ℕ) → Some name ≡ symbol_of x → head_of scope x ≡ symbol_head scope name
unfolding head_of
head_symbol scope (leaf kind text) name e = ap (head_by scope) (sym e)
head_symbol scope (list items) name e = absurd cc

pub head_list : (scope : Scope) (x : Sexpr) (items : Items) → x ≡ list items → head_of scope x ≡ list_head items
unfolding head_of
head_list scope x items e = rw e refl

pub head_other : (scope : Scope) (x : Sexpr) (kind : TokenKind) (text : List ℕ) → x ≡ leaf kind text → None ≡ symbol_of x → head_of scope x ≡ refused IllFormedTerm
unfolding head_of
head_other scope x kind text e none_there = rw e (ap (head_by scope) (ap symbol_of (sym e) ∙ sym none_there))

-- ---- bindings

-- the variable, where there is one
abbrev pub variable_by : Sexpr → Option (List ℕ)
variable_by x = if is_binding x then Some (variable_in x) else None

abbrev pub allowed : Option (List ℕ) → Option (List ℕ)
allowed None = None
allowed (Some name) = if is_reserved name then None else Some name

by_test : (name : List ℕ) (b : Bool) → (if not b then Some name else None) ≡ (if b then None else Some name)
by_test name true = refl
by_test name false = refl

by_symbol : (o : Option (List ℕ)) → (if may_be_bound o then Some (name_in o) else None) ≡ allowed o
by_symbol None = refl
by_symbol (Some name) = by_test name (is_reserved name)
