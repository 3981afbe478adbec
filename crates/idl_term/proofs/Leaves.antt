-- What leaves are made into, by what was tested of them.
use Rattle.std.proofs.Common.{refl, ap, ◌∙◌, ◌≡◌, ◌+◌, ℕ, List, true, false, pos}
use Rattle.std.specs.Prelude.{codes, Err}
use Rattle.std.specs.Str.{bytes_eq}
use Rattle.smt_lex.specs.declared.token.TokenKind.TheVariants.{Symbol, Numeral}
use Rattle.smt_lex.specs.Numbers.{value_of}
use Rattle.idl_node.specs.declared.sort.Sort.{Sort}
use Rattle.idl_node.specs.declared.sort.Sort.TheVariants as sort
use Rattle.idl_node.specs.Making.{constant, falsehood}
use Rattle.idl_node.specs.Nodes.{NodeValue, atom, placed}
use Rattle.idl_apply.specs.Applied.{as_formula}
use Rattle.idl_term.specs.Lowered.{lowered_name, lowered_found, lowered_leaf, lowered_numeral}
use Rattle.idl_apply.specs.Operators.{is_reserved}
use Rattle.idl_scope.specs.Scopes.{Scope, Found, declared_at, stands_for, unknown, found}
use Rattle.idl_scope.specs.code.Kept.{FoundIs}
use Rattle.idl_scope.specs.declared.scope.FoundName.TheVariants as name
use Rattle.idl_apply.specs.declared.error.TermRefusal.TheVariants.{IllFormedTerm}

-- a declared Bool name
pub found_bool : (nodes : List NodeValue) (f : Found) (k : ℕ) → FoundIs f (name.Declared k sort.Bool) → lowered_found nodes f ≡ as_formula (placed nodes (atom (record { x = k + 1; y = 0; c = pos 0 })))
found_bool nodes (declared_at p s) k h = ap (λ (t : Sort). lowered_name nodes p t) h.1 ∙ ap (λ (q : ℕ). lowered_name nodes q sort.Bool) h.0
found_bool nodes (stands_for t) k h = absurd h
found_bool nodes unknown k h = absurd h

pub numeral_leaf : (scope : Scope) (nodes : List NodeValue) (text : List ℕ) → lowered_leaf scope nodes Numeral text ≡ lowered_numeral nodes (value_of text)
unfolding lowered_leaf
numeral_leaf scope nodes text = refl

module _ (scope : Scope) (nodes : List NodeValue) (text : List ℕ) where
  pub true_leaf : bytes_eq text (codes "true") ≡ true → lowered_leaf scope nodes Symbol text ≡ as_formula (constant nodes)
  unfolding lowered_leaf
  true_leaf h = rw h refl

  module _ (no_true : bytes_eq text (codes "true") ≡ false) where
    pub false_leaf : bytes_eq text (codes "false") ≡ true → lowered_leaf scope nodes Symbol text ≡ as_formula (falsehood nodes)
    unfolding lowered_leaf
    false_leaf h = rw (no_true, h) refl

    pub reserved_leaf : bytes_eq text (codes "false") ≡ false → is_reserved text ≡ true → lowered_leaf scope nodes Symbol text ≡ Err IllFormedTerm
    unfolding lowered_leaf
    reserved_leaf g h = rw (no_true, g, h) refl

    pub found_leaf : bytes_eq text (codes "false") ≡ false → is_reserved text ≡ false → lowered_leaf scope nodes Symbol text ≡ lowered_found nodes (found scope text)
    unfolding lowered_leaf
    found_leaf g h = rw (no_true, g, h) refl
