-- The s-expression that an id stands for is the one that is looked up.
use Rattle.std.proofs.Common.{◌≡◌, ℕ, zero, suc, ◌<◌, ◌≤◌, List, [], ◌∷◌, length, take, drop, get_or, Option, Some, None, refl, sym, ap, subst, ◌∙◌, arith}
use Rattle.std.specs.Prelude.{slice_range, option_map}
use Rattle.smt_lex.specs.declared.token.TokenKind.{TokenKind}
use Rattle.smt_lex.specs.declared.token.Token.{Token}
use Rattle.smt_sexpr.specs.Tree.{Sexpr, Items, leaf, list, none, more, leaf_text, leaf_of, IsLeaf}
use Rattle.smt_sexpr.specs.Table.{Table, Means, MeansEach, HasMeaning, AreBelow, Shows, ItemsAre}
use Rattle.idl_term.specs.code.Trees.{items_by, tree_within, tree_of, trees_of, IsTree, AreTrees}
use Rattle.idl_term.specs.Lowered.{count_of}

shown : (bytes : List ℕ) (token : Token) (kind : TokenKind) (text : List ℕ) → Shows bytes token kind text → leaf token.kind (leaf_text token.kind (slice_range bytes token.start token.end)) ≡ leaf kind text
shown bytes token kind text s = rw (s.same_kind) (ap (leaf kind) s.same_text)

more_same : (x y : Sexpr) (xs ys : Items) → x ≡ y → xs ≡ ys → more x xs ≡ more y ys
more_same x y xs ys p q = cc

mutual
  unfolding tree_within

  found_within : (x : Sexpr) (n : ℕ) (t : Table) (id : ℕ) → Means t id x → id < n → tree_within n t id ≡ x
  found_within x zero t id m lt = absurd (omega arith)
  found_within (leaf kind text) (suc n) t id (token, at, shows) lt = rw at (shown t.bytes token kind text shows)
  found_within (list xs) (suc n) t id (first, count, at, le, below, m) lt = rw at (ap list (each_within xs n t id (take count (drop first t.items)) m below (omega arith)))

  each_within : (xs : Items) (n : ℕ) (t : Table) (bound : ℕ) (ids : List ℕ) → MeansEach t ids xs → AreBelow bound ids → bound ≤ n → items_by (λ i. tree_within n t i) ids ≡ xs
  each_within none n t bound [] m below le = refl
  each_within (more x xs) n t bound [] m below le = absurd m
  each_within none n t bound (id ∷ ids) m below le = absurd m
  each_within (more x xs) n t bound (id ∷ ids) m below le =
      let lt : id < bound = below.0 in
      more_same (tree_within n t id) x (items_by (λ i. tree_within n t i) ids) xs (found_within x n t id m.0 (omega arith)) (each_within xs n t bound ids m.1 below.1 le)

pub tree_is : (t : Table) (id : ℕ) (x : Sexpr) → Means t id x → tree_of t id ≡ x
unfolding tree_of
tree_is t id x m = found_within x (suc id) t id m (omega arith)

pub tree_means : (t : Table) (id : ℕ) (x : Sexpr) → Means t id x → IsTree t id
tree_means t id x m = subst (λ (y : Sexpr). Means t id y) (sym (tree_is t id x m)) m

pub has_meaning : (t : Table) (id : ℕ) → IsTree t id → HasMeaning t id
has_meaning t id h = (tree_of t id, h)

pub trees_are : (t : Table) (ids : List ℕ) (xs : Items) → MeansEach t ids xs → trees_of t ids ≡ xs
trees_are t [] none m = refl
trees_are t [] (more x xs) m = absurd m
trees_are t (id ∷ ids) none m = absurd m
trees_are t (id ∷ ids) (more x xs) m = more_same (tree_of t id) x (trees_of t ids) xs (tree_is t id x m.0) (trees_are t ids xs m.1)

pub trees_mean : (t : Table) (ids : List ℕ) (xs : Items) → MeansEach t ids xs → AreTrees t ids
trees_mean t [] none m = tt
trees_mean t [] (more x xs) m = absurd m
trees_mean t (id ∷ ids) none m = absurd m
trees_mean t (id ∷ ids) (more x xs) m = (tree_means t id x m.0, trees_mean t ids xs m.1)

-- ---- what calls of the table give

-- a list, and its items
pub record IsListOf (t : Table) (id : ℕ) (ids : List ℕ) : Type 0 where
  pub is : tree_of t id ≡ list (trees_of t ids)
  pub trees : AreTrees t ids

list_by : (t : Table) (id : ℕ) (ids : List ℕ) (x : Sexpr) → tree_of t id ≡ x → ItemsAre t x (Some ids) → IsListOf t id ids
list_by t id ids (leaf kind text) e m = absurd m
list_by t id ids (list xs) e m = record { is = e ∙ ap list (sym (trees_are t ids xs m)); trees = trees_mean t ids xs m }

-- items gave these
pub list_from : {B : Type 0} (now : B → List ℕ) (t : Table) (id : ℕ) (o : Option B) (s : B) → IsTree t id → ((x : Sexpr) → Means t id x → ItemsAre t x (option_map now o)) → o ≡ Some s → IsListOf t id (now s)
list_from now t id o s h f e = list_by t id (now s) (tree_of t id) refl (subst (λ o. ItemsAre t (tree_of t id) (option_map now o)) e (f (tree_of t id) h))

no_list_by : (t : Table) (x : Sexpr) → ItemsAre t x None → (kind : TokenKind) × (text : List ℕ) × (x ≡ leaf kind text)
no_list_by t (leaf kind text) m = (kind, text, refl)
no_list_by t (list xs) m = absurd m

-- items gave nothing
pub leaf_from : {B : Type 0} (now : B → List ℕ) (t : Table) (id : ℕ) (o : Option B) → IsTree t id → ((x : Sexpr) → Means t id x → ItemsAre t x (option_map now o)) → o ≡ None → (kind : TokenKind) × (text : List ℕ) × (tree_of t id ≡ leaf kind text)
leaf_from now t id o h f e = no_list_by t (tree_of t id) (subst (λ o. ItemsAre t (tree_of t id) (option_map now o)) e (f (tree_of t id) h))

abbrev made_of : Option (TokenKind × List ℕ) → Sexpr
made_of (Some p) = leaf p.0 p.1
made_of None = list none

leaf_by : (x : Sexpr) (kind : TokenKind) (text : List ℕ) → leaf_of x ≡ Some (kind, text) → x ≡ leaf kind text
leaf_by (leaf k s) kind text e = ap made_of e
leaf_by (list xs) kind text e = absurd (cc)

pub fits_leaf : (t : Table) (id : ℕ) (kind : TokenKind) (text : List ℕ) → Means t id (leaf kind text) → IsLeaf kind text
fits_leaf t id kind text (token, at, shows) = shows.fits

pub record IsLeafOf (t : Table) (id : ℕ) (kind : TokenKind) (text : List ℕ) : Type 0 where
  pub is : tree_of t id ≡ leaf kind text
  pub fits : IsLeaf kind text

pub is_leaf : (t : Table) (id : ℕ) (kind : TokenKind) (text : List ℕ) → IsTree t id → leaf_of (tree_of t id) ≡ Some (kind, text) → IsLeafOf t id kind text
is_leaf t id kind text h e =
    let is : tree_of t id ≡ leaf kind text = leaf_by (tree_of t id) kind text e in
    record { is = is; fits = fits_leaf t id kind text (subst (λ (y : Sexpr). Means t id y) is h) }

pub counted : (t : Table) (ids : List ℕ) → count_of (trees_of t ids) ≡ length ids
counted t [] = refl
counted t (id ∷ ids) = ap suc (counted t ids)

pub tree_at : (t : Table) (ids : List ℕ) (k : ℕ) → AreTrees t ids → k < length ids → IsTree t (get_or ids k 0)
tree_at t [] k h lt = absurd (omega arith)
tree_at t (id ∷ ids) zero h lt = h.0
tree_at t (id ∷ ids) (suc k) h lt = tree_at t ids k h.1 (omega arith)

pub two_trees : (t : Table) (ids : List ℕ) → length ids ≡ 2 → trees_of t ids ≡ more (tree_of t (get_or ids 0 0)) (more (tree_of t (get_or ids 1 0)) none)
two_trees t [] e = absurd (omega (arith, e))
two_trees t (a ∷ []) e = absurd (omega (arith, e))
two_trees t (a ∷ b ∷ []) e = refl
two_trees t (a ∷ b ∷ c ∷ ids) e = absurd (omega (arith, e))

pub three_trees : (t : Table) (ids : List ℕ) → length ids ≡ 3 → trees_of t ids ≡ more (tree_of t (get_or ids 0 0)) (more (tree_of t (get_or ids 1 0)) (more (tree_of t (get_or ids 2 0)) none))
three_trees t [] e = absurd (omega (arith, e))
three_trees t (a ∷ []) e = absurd (omega (arith, e))
three_trees t (a ∷ b ∷ []) e = absurd (omega (arith, e))
three_trees t (a ∷ b ∷ c ∷ []) e = refl
three_trees t (a ∷ b ∷ c ∷ d ∷ ids) e = absurd (omega (arith, e))
