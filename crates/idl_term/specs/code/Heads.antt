-- What the code finds a list to begin with, and a `let` to be made of. These are words of the code, and no part of the
-- meaning.
use Rattle.std.specs.Prelude.{◌≡◌, ℕ, List, true, false, Option, Some, None}
use Rattle.smt_sexpr.specs.Table.{Table}
use Rattle.smt_sexpr.specs.Tree.{list, none, more}
use Rattle.idl_term.specs.Lowered.{Head as Meaning, operator, binder, refused, is_let}
use Rattle.idl_term.specs.code.Trees.{tree_of, trees_of, IsTree, AreTrees}
use Rattle.idl_term.specs.declared.binding.LetParts.{LetParts}
use Rattle.idl_term.specs.declared.head.Head.{Head}
use Rattle.idl_term.specs.declared.head.Head.TheVariants.{Operator, Let, Refused}

abbrev pub head_meaning : Head → Meaning
head_meaning (Operator o) = operator o
head_meaning Let = binder
head_meaning (Refused why) = refused why

-- the items behind `let` are these bindings and this body
pub record AreParts (t : Table) (items ids : List ℕ) (body : ℕ) : Type 0 where
  pub is : is_let (trees_of t items) ≡ true
  pub shape : trees_of t items ≡ more (list (trees_of t ids)) (more (tree_of t body) none)
  pub bindings : AreTrees t ids
  pub tree : IsTree t body

abbrev pub LetIs : Table → List ℕ → Option LetParts → Type 0
LetIs t items (Some parts) = AreParts t items parts.bindings.now parts.body
LetIs t items None = is_let (trees_of t items) ≡ false
